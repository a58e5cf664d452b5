-- "The count is the number of draw lists that reach a list of n coefficients inside the distribution." "Here 0^0 = 1."
use Rattle.std.specs.Prelude.{ℕ, zero, suc, ◌+◌, ◌*◌, ◌-◌, ◌/◌, ◌^◌, min, max, cond, ◌||◌, List, [], ◌∷◌, eqb, get_or, ℤ, pos, negsuc, nat_abs, ◌+ℤ◌}
use Rattle.distr.specs.declared.secret_key_distr.SecretKeyDistr.{SecretKeyDistr}
use Rattle.distr.specs.declared.secret_key_distr.SecretKeyDistr.TheVariants.{UniformBinary, Binary, SparseTernary, UniformTernary, Ternary, FixedHammingWeightBinary, BlockBinary, FixedHammingWeightTernary, FixedCompositionTernary, Gaussian}
use Rattle.distr.specs.declared.error_distribution.ErrorDistribution.TheVariants.{CenteredBinomial, Gaussian as ErrorGaussian}
use Rattle.distr.specs.Packed.{minus_one}
use Rattle.distr.specs.Thresholds.{threshold, nonzero_end}
use Rattle.distr.specs.Gaussian.{support}
use Rattle.counts.specs.Inside.{tally}
use Rattle.distr.specs.Distribution.{Distr, secret, error}

-- "Multiplied over coefficients."
unfoldable pub product_of : (ℤ → ℕ) → List ℤ → ℕ
product_of f [] = 1
product_of f (c ∷ cs) = f c * product_of f cs

-- 1 × 2 × … × m.
unfoldable pub factorial : ℕ → ℕ
factorial zero = 1
factorial (suc m) = suc m * factorial m

-- C(m, k).
unfoldable pub binomial : ℕ → ℕ → ℕ
binomial m zero = 1
binomial zero (suc k) = 0
binomial (suc m) (suc k) = binomial m k + binomial m (suc k)

-- "t^ones × (2^64−t)^zeros; all ones by 1 list if t = 2^64."
abbrev pub binary_formula : ℕ → List ℤ → ℕ
binary_formula t cs = cond (eqb t (2 ^ 64)) 1 (t ^ tally (pos 1) cs * (2 ^ 64 - t) ^ tally (pos 0) cs)

-- "N^minus × (E−N)^ones × (2^64−E)^zeros"; "give a constant without reading, count 1".
abbrev pub ternary_formula : ℕ → ℕ → List ℤ → ℕ
ternary_formula N P cs =
    let E = nonzero_end N P in
    cond (eqb N (2 ^ 64) || eqb E 0 || eqb P (2 ^ 64)) 1
    (N ^ tally minus_one cs * (E - N) ^ tally (pos 1) cs * (2 ^ 64 - E) ^ tally (pos 0) cs)

-- "Product of the factorials of the two inserted weights": the commonest value, whose weight is the largest, is not inserted.
abbrev pub composition_formula : ℕ → ℕ → ℕ → ℕ
composition_formula minus ones zeros =
    let most = max zeros (max minus ones) in
    cond (eqb most zeros) (factorial minus * factorial ones)
    (cond (eqb most minus) (factorial zeros * factorial ones)
    (factorial zeros * factorial minus))

-- "Value v counts C(2eta, eta+v) × 2^(64−2eta)."
abbrev pub binomial_ways : ℕ → ℤ → ℕ
binomial_ways eta v = binomial (2 * eta) (nat_abs (pos eta +ℤ v)) * 2 ^ (64 - 2 * eta)

-- The end of magnitude m's interval of words: the next bound; "the last interval includes 2^64−1".
abbrev pub interval_end : ℕ → List ℕ → ℕ → ℕ
interval_end M bounds m = cond (eqb m M) (2 ^ 64) (get_or bounds (suc m) 0)

-- "+m counts odd words of its interval, −m even ones, 0 all." Below b stand b/2 odd numbers and (b+1)/2 even ones.
abbrev pub cumulative_ways : ℕ → List ℕ → ℤ → ℕ
cumulative_ways M bounds (pos zero) = interval_end M bounds 0 - get_or bounds 0 0
cumulative_ways M bounds (pos (suc m)) = interval_end M bounds (suc m) / 2 - get_or bounds (suc m) 0 / 2
cumulative_ways M bounds (negsuc m) = (interval_end M bounds (suc m) + 1) / 2 - (get_or bounds (suc m) 0 + 1) / 2

-- n is the length, `bounds` the cumulative table, cs the coefficient list. Uniform binary and blocks have count 1; the others: "count 2^zeros";
-- "count 3^(5⌈n/5⌉−n)"; "count min(h, n−h)!"; "count h!. With h = n only signs are read, count 1." A layered Gaussian makes no request, so its
-- entry is never used.
unfoldable pub secret_formula : SecretKeyDistr → ℕ → List ℕ → List ℤ → ℕ
secret_formula UniformBinary n bounds cs = 1
secret_formula (Binary p) n bounds cs = binary_formula (threshold p) cs
secret_formula SparseTernary n bounds cs = 2 ^ tally (pos 0) cs
secret_formula UniformTernary n bounds cs = 3 ^ (5 * ((n + 4) / 5) - n)
secret_formula (Ternary minus plus) n bounds cs = ternary_formula (threshold minus) (threshold plus) cs
secret_formula (FixedHammingWeightBinary h) n bounds cs = factorial (min h (n - h))
secret_formula (BlockBinary size occupancy) n bounds cs = 1
secret_formula (FixedHammingWeightTernary h) n bounds cs = cond (eqb h n) 1 (factorial h)
secret_formula (FixedCompositionTernary minus ones) n bounds cs = composition_formula minus ones (n - (minus + ones))
secret_formula (Gaussian deviation) n bounds cs = product_of (cumulative_ways (support deviation) bounds) cs

-- The formula of a distribution.
unfoldable pub formula : Distr → ℕ → List ℕ → List ℤ → ℕ
formula (secret d) n bounds cs = secret_formula d n bounds cs
formula (error (ErrorGaussian deviation)) n bounds cs = product_of (cumulative_ways (support deviation) bounds) cs
formula (error (CenteredBinomial eta)) n bounds cs = product_of (binomial_ways eta) cs

-- 02 [3]: "A polynomial with centered coefficients v is reached by the product of C(2eta, eta+v) byte strings."
abbrev pub polynomial_formula : ℕ → List ℤ → ℕ
polynomial_formula eta vs = product_of (λ v. binomial (2 * eta) (nat_abs (pos eta +ℤ v))) vs

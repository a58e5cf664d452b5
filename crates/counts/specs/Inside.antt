-- "Inside a distribution are lists of n coefficients": the distribution's own condition on a whole list.
use Rattle.std.specs.Prelude.{ℕ, zero, suc, ◌+◌, ◌/◌, ◌^◌, Bool, true, false, cond, ◌&&◌, List, [], ◌∷◌, leb, eqb, length, take, drop, ℤ, pos, negsuc, nat_abs}
use Rattle.distr.specs.declared.secret_key_distr.SecretKeyDistr.{SecretKeyDistr}
use Rattle.distr.specs.declared.secret_key_distr.SecretKeyDistr.TheVariants.{UniformBinary, Binary, SparseTernary, UniformTernary, Ternary, FixedHammingWeightBinary, BlockBinary, FixedHammingWeightTernary, FixedCompositionTernary, Gaussian}
use Rattle.distr.specs.declared.secret_key_distr.BlockOccupancy.{BlockOccupancy}
use Rattle.distr.specs.declared.secret_key_distr.BlockOccupancy.TheVariants.{AtMostOne, ExactlyOne}
use Rattle.distr.specs.declared.error_distribution.ErrorDistribution.TheVariants.{CenteredBinomial, Gaussian as ErrorGaussian}
use Rattle.distr.specs.Constants.{cbd_coefficients}
use Rattle.distr.specs.Packed.{minus_one}
use Rattle.distr.specs.Thresholds.{threshold, nonzero_end}
use Rattle.distr.specs.Gaussian.{support}
use Rattle.distr.specs.Distribution.{Distr, secret, error}

-- Two integers are equal.
abbrev pub same : ℤ → ℤ → Bool
same (pos a) (pos b) = eqb a b
same (pos a) (negsuc b) = false
same (negsuc a) (pos b) = false
same (negsuc a) (negsuc b) = eqb a b

-- How often a value stands in a list.
unfoldable pub tally : ℤ → List ℤ → ℕ
tally v [] = 0
tally v (c ∷ cs) = cond (same v c) 1 0 + tally v cs

-- Each coefficient passes.
unfoldable pub every : (ℤ → Bool) → List ℤ → Bool
every ok [] = true
every ok (c ∷ cs) = ok c && every ok cs

-- 0 or 1.
abbrev pub is_bit : ℤ → Bool
is_bit (pos a) = leb a 1
is_bit (negsuc a) = false

-- −m..m.
abbrev pub within : ℕ → ℤ → Bool
within m c = leb (nat_abs c) m

-- n coefficients, each of which passes.
abbrev pub list_of : ℕ → (ℤ → Bool) → List ℤ → Bool
list_of n ok cs = eqb (length cs) n && every ok cs

-- The list begins with k blocks of one size, one after the other, each of which passes.
unfoldable pub every_block : ℕ → (List ℤ → Bool) → ℕ → List ℤ → Bool
every_block size ok zero cs = true
every_block size ok (suc k) cs = ok (take size cs) && every_block size ok k (drop size cs)

-- "With exactly one 1, or at most one, in each block": the other coefficients are 0, being 0 or 1.
abbrev pub block_ok : BlockOccupancy → List ℤ → Bool
block_ok AtMostOne cs = leb (tally (pos 1) cs) 1
block_ok ExactlyOne cs = eqb (tally (pos 1) cs) 1

-- "The constant alone where `Binary` or `Ternary` gives it without reading."
abbrev pub inside_binary : ℕ → ℕ → List ℤ → Bool
inside_binary t n cs = list_of n (cond (eqb t (2 ^ 64)) (same (pos 1)) is_bit) cs

-- "N = 2^64, E = 0, P = 2^64 are tried in this order and give a constant without reading": −1, 0, 1.
abbrev pub inside_ternary : ℕ → ℕ → ℕ → List ℤ → Bool
inside_ternary N P n cs =
    list_of n
    (cond (eqb N (2 ^ 64)) (same minus_one)
    (cond (eqb (nonzero_end N P) 0) (same (pos 0))
    (cond (eqb P (2 ^ 64)) (same (pos 1)) (within 1))))
    cs

-- "Each 0 or 1 in the binary cases, −1..1 in the ternary ones and the composition, −eta..eta or −M..M in the others; with the fixed weights exactly
-- (a ternary weight is h that are not 0)." A layered Gaussian makes no request, so its entry is never used.
unfoldable pub inside_secret : SecretKeyDistr → ℕ → List ℤ → Bool
inside_secret UniformBinary n cs = list_of n is_bit cs
inside_secret (Binary p) n cs = inside_binary (threshold p) n cs
inside_secret SparseTernary n cs = list_of n (within 1) cs
inside_secret UniformTernary n cs = list_of n (within 1) cs
inside_secret (Ternary minus plus) n cs = inside_ternary (threshold minus) (threshold plus) n cs
inside_secret (FixedHammingWeightBinary h) n cs = list_of n is_bit cs && eqb (tally (pos 1) cs) h
inside_secret (BlockBinary size occupancy) n cs = list_of n is_bit cs && every_block size (block_ok occupancy) (n / size) cs
inside_secret (FixedHammingWeightTernary h) n cs = list_of n (within 1) cs && eqb (tally (pos 0) cs + h) n
inside_secret (FixedCompositionTernary minus ones) n cs =
    list_of n (within 1) cs && eqb (tally minus_one cs) minus && eqb (tally (pos 1) cs) ones
inside_secret (Gaussian deviation) n cs = list_of n (within (support deviation)) cs

-- The list of n coefficients is inside the distribution.
unfoldable pub inside : Distr → ℕ → List ℤ → Bool
inside (secret d) n cs = inside_secret d n cs
inside (error (ErrorGaussian deviation)) n cs = list_of n (within (support deviation)) cs
inside (error (CenteredBinomial eta)) n cs = list_of n (within eta) cs

-- 02 [3]: the 256 "centered coefficients" of a polynomial, each −eta..eta.
abbrev pub inside_polynomial : ℕ → List ℤ → Bool
inside_polynomial eta vs = list_of cbd_coefficients (within eta) vs

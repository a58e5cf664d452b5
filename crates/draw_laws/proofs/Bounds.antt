-- No coefficient of a Gaussian or of a centered binomial is above the largest magnitude of its distribution.
use mathlib.Core.Path.{◌≡◌}
use mathlib.Core.Bool.{Bool, true, false, not, cond, ◌&&◌, ◌||◌}
use mathlib.Core.List.{List}
use Prim.Native.Nat.{ℕ, zero, suc, ◌+◌, ◌-◌, ◌%◌, ◌<◌, ◌≤◌, zero-le}
use native.Mathlib.Nat.{le_refl, le_step}
use native.Mathlib.Omega.{arith}
use lib.Dec.{T, leb, eqb}
use lib.ListN.{length, get_or}
use lib.IntN.{ℤ, pos, nat_abs}
use lib.Ieee.{Float}
use Rattle.distr.specs.Words.{Read, got, coin}
use Rattle.distr.specs.Rule.{read_by}
use Rattle.distr.specs.CenteredBinomial.{first_sum, second_sum, binomial_value, centered_binomial}
use Rattle.distr.specs.Constants.{cumulative_limit}
use Rattle.distr.specs.Gaussian.{rising, cumulative_table, magnitude, with_sign, cumulative_value, cumulative}
use Rattle.distr.specs.Layered.{Layers, layer_count, height_list, curve_list, layer_tables, judge, Tried, kept, rejected, try, or_else, tries, layered_one, layered}
use Rattle.distr.specs.Distribution.{Tables, gaussian_read}
use Rattle.distr.specs.Making.{refuse}
use Rattle.distr.specs.Numbers.{layer_number, gaussian_table}
use Rattle.distr.proofs.FirstWrong.{layer-good}
use Rattle.distr.proofs.Reading.{and_left, and_right}
use Rattle.distr.proofs.BitSums.{total_at_most, difference_at_most}
use Rattle.distr.proofs.Rising.{rises, Rising, is-rising}
use Rattle.draw_laws.proofs.Every.{Every, every_at, every_map}
use Rattle.draw_laws.proofs.Readings.{Reads, value, nothing, value_read, reads_any, reads_all, reads_bind, reads-rule, reads-many, reads-choose}

-- no magnitude is above `most`
abbrev pub Within : ℕ → List ℤ → Type 0
Within most cs = (i : ℕ) → i < length cs → nat_abs (get_or cs i (pos 0)) ≤ most

within_read : (most : ℕ) {read : Read (List ℤ)} → Reads (Every (λ c. nat_abs c ≤ most)) read
    → (cs : List ℤ) (rest : List ℕ) → read ≡ got cs rest → Within most cs
within_read most r cs rest e = every_at (pos 0) (value_read r e)

-- a magnitude with its sign
signed_at_most : (positive : Bool) (m : ℕ) {most : ℕ} → m ≤ most → nat_abs (with_sign positive m) ≤ most
signed_at_most true m h = h
signed_at_most false zero h = h
signed_at_most false (suc m) h = h

-- ---- by a cumulative table

magnitude_at_most : (bounds : List ℕ) (M w : ℕ) → magnitude bounds M w ≤ M
unfolding magnitude
magnitude_at_most bounds zero w = zero-le
magnitude_at_most bounds (suc M) w = go (leb (get_or bounds (suc M) 0) w) (magnitude_at_most bounds M w)
  where
    go : (b : Bool) → magnitude bounds M w ≤ M → cond b (suc M) (magnitude bounds M w) ≤ suc M
    go true h = le_refl (suc M)
    go false h = le_step h

pub cumulative-within : (M : ℕ) (bounds : List ℕ) (n : ℕ) (ws : List ℕ) (cs : List ℤ) (rest : List ℕ)
    → read_by (cumulative M bounds n) ws ≡ got cs rest → Within M cs
cumulative-within M bounds n ws =
    within_read M (reads-rule (cumulative M bounds n)
    (every_map (cumulative_value M bounds) (λ w. signed_at_most (eqb (w % 2) 1) (magnitude bounds M w) (magnitude_at_most bounds M w))) ws)

-- ---- by the bits of a word

pub binomial-within : (eta n : ℕ) (ws : List ℕ) (cs : List ℤ) (rest : List ℕ) → read_by (centered_binomial eta n) ws ≡ got cs rest → Within eta cs
binomial-within eta n ws =
    within_read eta (reads-rule (centered_binomial eta n)
    (every_map (binomial_value eta) (λ w. difference_at_most (first_sum eta w) (second_sum eta w) (total_at_most 64 0 eta w) (total_at_most 64 eta eta w))) ws)

-- ---- by layers

rising-endpoints : (M : ℕ) (t : Layers) → T (layer_tables M t) → Rising (layer_count t + 1) M t.endpoints
rising-endpoints M t h =
    is-rising (layer_count t + 1) M t.endpoints (and_right count rises_to_M
    (and_left (count && rises_to_M) heights (and_left (count && rises_to_M && heights) (curve_list M t.curve) h)))
  where
    count : Bool
    count = eqb (layer_count t) 128 || eqb (layer_count t) 256 || eqb (layer_count t) 512

    rises_to_M : Bool
    rises_to_M = rising (layer_count t + 1) M t.endpoints

    heights : Bool
    heights = height_list (layer_count t) t.heights

-- the coefficient of a try, if it is kept
data Kept (P : ℤ → Type 0) : Tried → Type 0 where
  of_kept : {v : ℤ} → P v → Kept P (kept v)
  of_rejected : Kept P rejected

reads_kept : {P : ℤ → Type 0} {read : Read Tried} (again : List ℕ → Read ℤ) → Reads (Kept P) read → ((rest : List ℕ) → Reads P (again rest))
    → Reads P (or_else read again)
unfolding or_else
reads_kept again (value (of_kept p)) h = value p
reads_kept again (value {rest} of_rejected) h = h rest
reads_kept again nothing h = nothing

kept_if : {P : ℤ → Type 0} (passed : Bool) (v : ℤ) → P v → Kept P (cond passed (kept v) rejected)
kept_if true v p = of_kept p
kept_if false v p = of_rejected

module _ (deviation : Float) (M : ℕ) (t : Layers) (good : T (layer_tables M t)) where
  -- an endpoint is never above the last one
  endpoint_at_most : (layer : ℕ) → layer < layer_count t → get_or t.endpoints (layer + 1) 0 ≤ M
  endpoint_at_most layer h =
      let r = rising-endpoints M t good in
      rw r.final at (rises t.endpoints r.never_falls_lem (layer + 1) (layer_count t + 1 - 1) (omega arith) (omega arith))

  try_at_most : (ws : List ℕ) → Reads (Kept (λ c. nat_abs c ≤ M)) (try deviation t ws)
  unfolding try
  try_at_most ws =
      reads_bind _ (reads-choose (layer_count t) ws) (λ layer ws₁ below.
      reads_bind _ (reads_all (coin ws₁)) (λ positive ws₂ any.
      reads_bind _ (reads-choose (suc (get_or t.endpoints (layer + 1) 0)) ws₂) (λ m ws₃ few.
      reads_any (λ passed. cond passed (kept (with_sign positive m)) rejected)
      (λ passed. kept_if passed (with_sign positive m) (signed_at_most positive m (omega (arith, endpoint_at_most layer below))))
      (judge deviation t (layer + 1) m ws₃))))

  tries_at_most : (most : ℕ) (ws : List ℕ) → Reads (λ c. nat_abs c ≤ M) (tries most deviation t ws)
  unfolding tries
  tries_at_most zero ws = nothing
  tries_at_most (suc most) ws = reads_kept (λ rest. tries most deviation t rest) (try_at_most ws) (tries_at_most most)

  pub layered-within : (n : ℕ) (ws : List ℕ) (cs : List ℤ) (rest : List ℕ) → layered deviation t n ws ≡ got cs rest → Within M cs
  layered-within n ws = within_read M (reads-many (layered_one deviation t) (λ us. tries_at_most (length us) us) n ws)

-- ---- by either table

pub gaussian_within : (deviation : Float) (M : ℕ) (tables : Tables) → gaussian_table M tables ≡ 0
    → (n : ℕ) (ws : List ℕ) (cs : List ℤ) (rest : List ℕ) → gaussian_read deviation M tables n ws ≡ got cs rest → Within M cs
gaussian_within deviation M tables good n ws cs rest = go (leb M cumulative_limit) good
  where
    go : (b : Bool) → cond b (refuse (not (cumulative_table M tables.bounds)) 12) (layer_number M tables.layers) ≡ 0
        → cond b (read_by (cumulative M tables.bounds n) ws) (layered deviation tables.layers n ws) ≡ got cs rest → Within M cs
    go true e r = cumulative-within M tables.bounds n ws cs rest r
    go false e r = layered-within deviation M tables.layers (layer-good M tables.layers e) n ws cs rest r

-- What the test of the layer tables says of them.
use mathlib.Core.Path.{◌≡◌}
use mathlib.Core.Bool.{◌&&◌, ◌||◌}
use mathlib.Core.List.{List, [], ◌∷◌}
use Prim.Native.Nat.{ℕ, zero, suc, ◌+◌, ◌-◌, ◌^◌, ◌<◌, ◌≤◌}
use native.Mathlib.Nat.{not-suc-le-zero}
use native.Mathlib.Omega.{arith}
use lib.Dec.{T, eqb, eqb→eq}
use lib.ListN.{length, get_or}
use lib.Ieee.{Float, lt, eq}
use lib.Ieee.Scale.{finite}
use Rattle.distr.specs.Constants.{literal}
use Rattle.distr.specs.Gaussian.{rising}
use Rattle.distr.specs.Layered.{Layers, layer_count, layer_tables, height_list, curve_list, all_finite, falls, all_in_unit}
use Rattle.ziggurat.specs.Tables.{layer_sizes}
use Rattle.ziggurat.specs.Sampling.{OnLayer}
use Rattle.distr.proofs.Reading.{and_left}
use Rattle.distr.proofs.Rising.{Rising, is-rising, rises}
use Rattle.distr.proofs.FirstWrong.{four}

-- no layers are none of the three numbers
some : (R : ℕ) → T (eqb R 128 || eqb R 256 || eqb R 512) → 0 < R
some zero t = absurd t
some (suc R) t = omega arith

head_finite : (ys : List Float) (d : Float) → 0 < length ys → T (all_finite ys) → T (finite (get_or ys 0 d))
unfolding all_finite
head_finite [] d h t = absurd (not-suc-le-zero h)
head_finite (y ∷ ys) d h t = and_left (finite y) (all_finite ys) t

module _ (M : ℕ) (t : Layers) (ok : T (layer_tables M t)) where
  abbrev R : ℕ
  R = layer_count t

  parts : T (eqb R 128 || eqb R 256 || eqb R 512) × T (rising (R + 1) M t.endpoints) × T (height_list R t.heights) × T (curve_list M t.curve)
  parts = four (eqb R 128 || eqb R 256 || eqb R 512) (rising (R + 1) M t.endpoints) (height_list R t.heights) (curve_list M t.curve) ok

  ends : Rising (R + 1) M t.endpoints
  ends = is-rising (R + 1) M t.endpoints parts.1

  -- the tests of the heights but the last
  tops : T (eqb (length t.heights) (R + 1)) × T (all_finite t.heights) × T (falls t.heights)
      × T (lt (literal 999 1000) (get_or t.heights 0 (literal 0 1)))
  tops =
      let n = eqb (length t.heights) (R + 1) in
      let high = lt (literal 999 1000) (get_or t.heights 0 (literal 0 1)) in
      four n (all_finite t.heights) (falls t.heights) high
      (and_left (n && all_finite t.heights && falls t.heights && high) (eq (get_or t.heights R (literal 1 1)) (literal 0 1)) parts.2)

  pub some-layers : 1 < length t.endpoints
  some-layers = omega (arith, some R parts.0)

  pub heights_count : length t.heights ≡ length t.endpoints
  heights_count = omega (arith, some-layers, eqb→eq (length t.heights) (R + 1) tops.0)

  pub curve_count : length t.curve ≡ M + 1
  curve_count = eqb→eq (length t.curve) (M + 1) (and_left (eqb (length t.curve) (M + 1)) (all_in_unit t.curve) parts.3)

  last : get_or t.endpoints R 0 ≡ M
  last =
      let same : R + 1 - 1 ≡ R = omega arith in
      rw same at ends.final

  pub endpoint_rises : (i : ℕ) → 0 < i → i < length t.endpoints → get_or t.endpoints (i - 1) 0 ≤ get_or t.endpoints i 0
  endpoint_rises i some h = rises t.endpoints ends.never_falls_lem (i - 1) i (omega arith) h

  pub endpoint-within : (i : ℕ) → i < length t.endpoints → get_or t.endpoints i 0 ≤ M
  endpoint-within i h = rw last at (rises t.endpoints ends.never_falls_lem i R (omega arith) (omega (arith, some-layers)))

  -- the first height
  pub first-finite : T (finite (get_or t.heights 0 (literal 0 1)))
  first-finite = head_finite t.heights (literal 0 1) (omega (arith, heights_count, some-layers)) tops.1

  pub first-high : T (lt (literal 999 1000) (get_or t.heights 0 (literal 0 1)))
  first-high = tops.3

  pub sizes : T (layer_sizes t.endpoints)
  sizes = parts.0

  -- a magnitude on a layer: the endpoint of the layer above is as small, and the curve has its value
  module _ (i m : ℕ) (on : OnLayer t.endpoints i m) where
    pub inner-small : get_or t.endpoints (i - 1) 0 < 2 ^ 32
    inner-small = omega (arith, endpoint_rises i on.some on.there, on.small)

    pub magnitude-there : m < length t.curve
    magnitude-there = omega (arith, on.below, endpoint-within i on.there, curve_count)

    pub height-there : i < length t.heights
    height-there = rw heights_count on.there

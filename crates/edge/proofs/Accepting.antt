-- The acceptance test over one layer is that over the tables.
use mathlib.Core.Path.{◌≡◌, refl, ap}
use mathlib.Core.Bool.{Bool, true, false, cond}
use Prim.Native.Nat.{ℕ, ◌-◌}
use lib.Dec.{eqb}
use lib.Ieee.{Float, binary64, mul, sub, add, div, le, eq}
use Rattle.distr.specs.Constants.{literal}
use Rattle.distr.specs.Layered.{Layers, x, y, pdf, float, difference, slope, line, under, accepts, Left, Right, Middle}
use Rattle.edge.specs.Edge.{layer_at, slope_of, line_of, accepts_on}

module _ (t : Layers) (i : ℕ) where
  -- the chord falls from its start to the layer's height
  same-slope : slope_of (layer_at t i) ≡ slope t i
  unfolding slope_of
  same-slope =
      let width = sub binary64 (x t i) (x t (i - 1)) in
      ap (λ (fall : Float). cond (eq width (literal 0 1)) (literal 0 1) (div binary64 fall width))
      (by-layer (eqb i 1))
    where
      by-layer : (first : Bool) → sub binary64 (y t i) (cond first (literal 1 1) (y t (i - 1)))
          ≡ cond first (sub binary64 (y t i) (literal 1 1)) (sub binary64 (y t i) (y t (i - 1)))
      by-layer true = refl
      by-layer false = refl

  same_line : (at : Float) → line_of (layer_at t i) at ≡ line t i at
  unfolding line_of
  same_line at = rw same-slope

  pub same-accepts : (deviation : Float) (m u : ℕ) → accepts_on deviation (layer_at t i) (float m) (pdf t m) (float u) ≡ accepts deviation t i m u
  unfolding accepts_on
  same-accepts deviation m u =
      rw (same_line (float m), same_line (sub binary64 (float m) (literal 1 1)))
      (by-region (le (add binary64 (x t i) (literal 1 1)) deviation) (le deviation (x t (i - 1))) (mul binary64 (difference t i) (float u)))
    where
      by-region : (left right : Bool) (height : Float)
          → cond left (under Left t i m height) (cond right (under Right t i m height) (under Middle t i m height))
          ≡ under (cond left Left (cond right Right Middle)) t i m height
      by-region true right height = refl
      by-region false true height = refl
      by-region false false height = refl

-- One layer taken out of the tables, and the acceptance test over it.
use Rattle.std.specs.Prelude.{ℕ, ◌-◌, Bool, not, cond, ◌||◌, eqb, Float}
use Rattle.std.specs.Float.{binary64}
use Rattle.std.specs.Float.Ieee.{mul, sub, add, div, neg, lt, le, eq}
use Rattle.distr.specs.Constants.{literal}
use Rattle.distr.specs.Layered.{Layers, x, y, scaled}
use Rattle.edge.specs.declared.Layer.{Layer}

-- Layer i of the tables. The first layer's chord starts at 1.0.
abbrev pub layer_at : Layers → ℕ → Layer
layer_at t i = record {
  left = x t (i - 1);
  right = x t i;
  above = y t (i - 1);
  below = y t i;
  top = cond (eqb i 1) (literal 1 1) (y t (i - 1));
}

-- The slope of its chord, and the chord's height at a point.
unfoldable pub slope_of : Layer → Float
slope_of l =
    let width = sub binary64 l.right l.left in
    cond (eq width (literal 0 1)) (literal 0 1) (div binary64 (sub binary64 l.below l.top) width)

unfoldable pub line_of : Layer → Float → Float
line_of l at = cond (eq l.right l.left) (neg (literal 1 1)) (mul binary64 (slope_of l) (sub binary64 at l.right))

-- The three arms of `sample`, by the side of the deviation. The magnitude m, the curve's value there and the drawn word, each as f64.
unfoldable pub accepts_on : Float → Layer → Float → Float → Float → Bool
accepts_on deviation l m pdf word =
    let height = mul binary64 (sub binary64 l.above l.below) word in
    let room = scaled (sub binary64 pdf l.below) in
    cond (le (add binary64 l.right (literal 1 1)) deviation) (le height (scaled (line_of l m)) || le height room)
    (cond (le deviation l.left) (not (le (scaled (line_of l (sub binary64 m (literal 1 1)))) height || lt room height))
    (le height room))

-- Document 02 [6], "Which layer list is bad": what document 01 asks of each of the three lists, entry by entry, and the first entry that is wrong.
use Rattle.std.specs.Prelude.{ℕ, zero, suc, ◌+◌, ◌-◌, Bool, true, not, cond, ◌&&◌, ◌||◌, List, leb, eqb, length, get_or, Float}
use Rattle.std.specs.Float.Ieee.{lt, eq}
use Rattle.std.specs.Float.Ieee.Scale.{finite}
use Rattle.distr.specs.Constants.{literal}
use Rattle.distr.specs.Layered.{Layers, layer_count, in_unit}

-- What is asked of a list: of each entry, of the first, of an entry and the one after it, and of the last.
pub record Asked (A : Type 0) : Type 0 where
  pub each : A → Bool
  pub first : A → Bool
  pub next : A → A → Bool
  pub last : A → Bool

-- "Endpoints (u64, never falling, first 0, last M)."
abbrev pub endpoints_asked : ℕ → Asked ℕ
endpoints_asked M = record { each = λ x. true; first = λ x. eqb x 0; next = λ x x'. leb x x'; last = λ x. eqb x M }

-- "Heights (finite, falling at each step, first above 0.999, last 0)."
abbrev pub heights_asked : Asked Float
heights_asked = record { each = finite; first = λ y. lt (literal 999 1000) y; next = λ y y'. lt y' y; last = λ y. eq y (literal 0 1) }

-- "Curve values in 0..1."
abbrev pub curve_asked : Asked Float
curve_asked = record { each = in_unit; first = λ p. true; next = λ p p'. true; last = λ p. true }

-- Whether the entry at i is right; of two out of order "the later of a pair" is wrong. `none` stands for an entry that is not there.
abbrev pub right : {A : Type 0} → Asked A → A → List A → ℕ → Bool
right asked none xs i =
    let x = get_or xs i none in
    asked.each x && cond (eqb i 0) (asked.first x) (asked.next (get_or xs (i - 1) none) x)
    && (not (eqb (i + 1) (length xs)) || asked.last x)

-- The first of `more` indices from i on that is not right; the one after them where all are.
unfoldable pub first_not : (ℕ → Bool) → ℕ → ℕ → ℕ
first_not right i zero = i
first_not right i (suc more) = cond (right i) (first_not right (suc i) more) i

-- "The first index that is wrong" of a list; its length where none is.
abbrev pub first_wrong : {A : Type 0} → Asked A → A → List A → ℕ
first_wrong asked none xs = first_not (right asked none xs) 0 (length xs)

abbrev pub wrong_endpoint : ℕ → Layers → ℕ
wrong_endpoint M t = first_wrong (endpoints_asked M) 0 t.endpoints

abbrev pub wrong_height : Layers → ℕ
wrong_height t = first_wrong heights_asked (literal 0 1) t.heights

abbrev pub wrong_value : Layers → ℕ
wrong_value t = first_wrong curve_asked (literal 0 1) t.curve

-- "From now on 13 covers only a wrong R or a wrong list length": "R is 128, 256 or 512", "R+1 endpoints", "R+1 heights", "M+1 curve values".
abbrev pub right_sizes : ℕ → Layers → Bool
right_sizes M t =
    let R = layer_count t in
    (eqb R 128 || eqb R 256 || eqb R 512) && eqb (length t.heights) (R + 1) && eqb (length t.curve) (M + 1)

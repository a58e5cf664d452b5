-- The layered Gaussian, M in 256..4095: its lent tables, and a try judged by the f64 arithmetic of `sample` and of the preparation in `new`.
use Rattle.std.specs.Prelude.{ℕ, zero, suc, ◌+◌, ◌-◌, ◌^◌, Bool, true, not, cond, ◌&&◌, ◌||◌, List, [], ◌∷◌, ltb, eqb, length, get_or, ℤ, pos, Float}
use Rattle.std.specs.Float.{binary64}
use Rattle.std.specs.Float.Ieee.{mul, sub, add, div, neg, lt, le, eq, of_int}
use Rattle.std.specs.Float.Ieee.Scale.{finite}
use Rattle.distr.specs.Words.{Read, got, short, map_read, bind_read, word, choose, coin, chance, many}
use Rattle.distr.specs.Skipped.{passed_over, passed_after, passed_many}
use Rattle.distr.specs.Thresholds.{threshold}
use Rattle.distr.specs.Constants.{literal}
use Rattle.distr.specs.Gaussian.{rising, with_sign}

-- "Lent: R+1 endpoints …, R+1 heights …, M+1 curve values".
pub record Layers : Type 0 where
  pub endpoints : List ℕ
  pub heights : List Float
  pub curve : List Float

-- "R is 128, 256 or 512": the number of endpoints less one.
abbrev pub layer_count : Layers → ℕ
layer_count t = length t.endpoints - 1

-- Each element is below the one before it.
unfoldable pub falls : List Float → Bool
falls [] = true
falls (a ∷ []) = true
falls (a ∷ b ∷ xs) = lt b a && falls (b ∷ xs)

unfoldable pub all_finite : List Float → Bool
all_finite [] = true
all_finite (x ∷ xs) = finite x && all_finite xs

-- "In 0..1", both ends in.
abbrev pub in_unit : Float → Bool
in_unit x = le (literal 0 1) x && le x (literal 1 1)

unfoldable pub all_in_unit : List Float → Bool
all_in_unit [] = true
all_in_unit (x ∷ xs) = in_unit x && all_in_unit xs

-- "R+1 heights (finite, falling at each step, first above 0.999, last 0)."
abbrev pub height_list : ℕ → List Float → Bool
height_list R ys =
    eqb (length ys) (R + 1) && all_finite ys && falls ys && lt (literal 999 1000) (get_or ys 0 (literal 0 1)) && eq (get_or ys R (literal 1 1)) (literal 0 1)

-- "M+1 curve values in 0..1."
abbrev pub curve_list : ℕ → List Float → Bool
curve_list M ps = eqb (length ps) (M + 1) && all_in_unit ps

abbrev pub layer_tables : ℕ → Layers → Bool
layer_tables M t =
    let R = layer_count t in
    (eqb R 128 || eqb R 256 || eqb R 512) && rising (R + 1) M t.endpoints && height_list R t.heights && curve_list M t.curve

-- A number as an f64, and the three tables as `sample` reads them: x, y and `pdf`, "read from the curve".
abbrev pub float : ℕ → Float
float k = of_int binary64 (pos k)

abbrev pub x : Layers → ℕ → Float
x t i = float (get_or t.endpoints i 0)

abbrev pub y : Layers → ℕ → Float
y t i = get_or t.heights i (literal 0 1)

abbrev pub pdf : Layers → ℕ → Float
pdf t m = get_or t.curve m (literal 0 1)

-- `y_difference`: the height above a layer less its own.
abbrev pub difference : Layers → ℕ → Float
difference t i = sub binary64 (y t (i - 1)) (y t i)

-- `slope`: the first layer's chord starts at 1.0; a collapsed interval has slope 0.0.
abbrev pub slope : Layers → ℕ → Float
slope t i =
    let width = sub binary64 (x t i) (x t (i - 1)) in
    let fall = cond (eqb i 1) (sub binary64 (y t i) (literal 1 1)) (sub binary64 (y t i) (y t (i - 1))) in
    cond (eq width (literal 0 1)) (literal 0 1) (div binary64 fall width)

-- `line`: the chord's height at a point; a collapsed interval has −1.0.
abbrev pub line : Layers → ℕ → Float → Float
line t i at =
    cond (eq (x t i) (x t (i - 1))) (neg (literal 1 1)) (mul binary64 (slope t i) (sub binary64 at (x t i)))

-- `strategies`: which side of the deviation a layer lies on.
pub data FallRegion : Type 0 where
  Left Right Middle : FallRegion

abbrev pub region : Float → Layers → ℕ → FallRegion
region deviation t i =
    cond (le (add binary64 (x t i) (literal 1 1)) deviation) Left (cond (le deviation (x t (i - 1))) Right Middle)

-- 2^32 times a height, as f64.
abbrev pub scaled : Float → Float
scaled h = mul binary64 (literal (2 ^ 32) 1) h

-- How far the curve at m stands above the layer, scaled: `2^32 * (pdf(m) - y[i])`.
abbrev pub room : Layers → ℕ → ℕ → Float
room t i m = scaled (sub binary64 (pdf t m) (y t i))

-- The three arms of `sample`, by region: whether a height drawn on layer i at magnitude m is kept.
abbrev pub under : FallRegion → Layers → ℕ → ℕ → Float → Bool
under Left t i m height = le height (scaled (line t i (float m))) || le height (room t i m)
under Right t i m height =
    not (le (scaled (line t i (sub binary64 (float m) (literal 1 1)))) height || lt (room t i m) height)
under Middle t i m height = le height (room t i m)

-- The drawn word u scaled to the layer's height, and judged.
abbrev pub accepts : Float → Layers → ℕ → ℕ → ℕ → Bool
accepts deviation t i m u = under (region deviation t i) t i m (mul binary64 (difference t i) (float u))

-- "Magnitude 0 passes by the threshold of 0.5 / first height."
abbrev pub zero_threshold : Layers → ℕ
zero_threshold t = threshold (div binary64 (literal 1 2) (y t 0))

-- Whether a proposed magnitude on layer i passes: inside the layer above without reading, 0 by its threshold, else by a word.
abbrev pub judge : Float → Layers → ℕ → ℕ → List ℕ → Read Bool
judge deviation t i m ws =
    cond (le (float m) (x t (i - 1)) && ltb 0 m) (got true ws)
    (cond (eqb m 0) (chance (zero_threshold t) ws)
    (map_read (λ u. accepts deviation t i m u) (word ws)))

-- What a try gives: a coefficient, or nothing, and then another try follows.
pub data Tried : Type 0 where
  kept : ℤ → Tried
  rejected : Tried

-- "A try chooses the layer among R, plus 1, then a coin (yes is positive), then a magnitude among endpoint + 1."
unfoldable pub try : Float → Layers → List ℕ → Read Tried
try deviation t ws =
    bind_read (choose (layer_count t) ws) (λ layer ws₁.
    bind_read (coin ws₁) (λ positive ws₂.
    bind_read (choose (suc (get_or t.endpoints (layer + 1) 0)) ws₂) (λ m ws₃.
    map_read (λ passed. cond passed (kept (with_sign positive m)) rejected) (judge deviation t (layer + 1) m ws₃))))

-- The coefficient of a try that is kept, or what follows from the words left.
unfoldable pub or_else : Read Tried → (List ℕ → Read ℤ) → Read ℤ
or_else short again = short
or_else (got (kept v) rest) again = got v rest
or_else (got rejected rest) again = again rest

-- Tries until one is kept, at most so many.
unfoldable pub tries : ℕ → Float → Layers → List ℕ → Read ℤ
tries zero deviation t ws = short
tries (suc most) deviation t ws = or_else (try deviation t ws) (λ rest. tries most deviation t rest)

-- A coefficient. A try reads a word or lacks one, so as many tries as there are words left are as many as there can be: no larger bound
-- gives another answer (`tries-enough` in ziggurat/proofs/Trying).
abbrev pub layered_one : Float → Layers → List ℕ → Read ℤ
layered_one deviation t ws = tries (length ws) deviation t ws

abbrev pub layered : Float → Layers → ℕ → List ℕ → Read (List ℤ)
layered deviation t n ws = many (layered_one deviation t) n ws

-- 02 [1], "a word that a choice inside such a try passes over": the layer's choice and the magnitude's. The coin's word and those of the judging are
-- used, not skipped.
unfoldable pub passed_try : Layers → List ℕ → ℕ
passed_try t ws =
    passed_over (layer_count t) ws + passed_after (choose (layer_count t) ws) (λ layer ws₁.
    passed_after (coin ws₁) (λ positive ws₂. passed_over (suc (get_or t.endpoints (layer + 1) 0)) ws₂))

-- What the tries after a rejected one pass over; no try follows one that is kept or lacks a word.
unfoldable pub passed_else : Read Tried → (List ℕ → ℕ) → ℕ
passed_else short again = 0
passed_else (got (kept v) rest) again = 0
passed_else (got rejected rest) again = again rest

-- What the tries of `tries` pass over: "rejected tries of the layered Gaussian are not skipped words".
unfoldable pub passed_tries : ℕ → Float → Layers → List ℕ → ℕ
passed_tries zero deviation t ws = 0
passed_tries (suc most) deviation t ws = passed_try t ws + passed_else (try deviation t ws) (λ rest. passed_tries most deviation t rest)

-- What a coefficient passes over, and n of them.
abbrev pub passed_one : Float → Layers → List ℕ → ℕ
passed_one deviation t ws = passed_tries (length ws) deviation t ws

abbrev pub passed_layered : Float → Layers → ℕ → List ℕ → ℕ
passed_layered deviation t n ws = passed_many (layered_one deviation t) (passed_one deviation t) n ws

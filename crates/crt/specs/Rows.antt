-- The rows of a CRT draw, made from the last row, where the coefficients stand as native residues: −m is 2 half − m, of numbers whose top bit
-- is `half`. The definitions are for any width, and stand under their own names for 64 bits.
use Rattle.std.specs.Prelude.{ℕ, ◌+◌, ◌-◌, ◌*◌, ◌^◌, cond, List, [], ◌∷◌, ◌++◌, map, length, drop, replicate, ◌==◌, nat_lt}
use Rattle.distr.specs.Constants.{out_of_words}
use Rattle.distr.specs.Draw.{Outcome}

-- a + b, wrapping.
abbrev pub wrapping_at : ℕ → ℕ → ℕ → ℕ
wrapping_at half a b = cond (nat_lt (a + b) (2 * half)) (a + b) (a + b - 2 * half)

-- The residue for a modulus of a native one: the modulus is added, wrapping, to what stands for a negative coefficient.
unfoldable pub from_native_at : ℕ → ℕ → ℕ → ℕ
from_native_at half modulus w = cond (nat_lt w half) w (wrapping_at half w modulus)

-- One row after the other.
unfoldable pub native_rows_at : ℕ → List ℕ → List ℕ → List ℕ
native_rows_at half [] ws = []
native_rows_at half (modulus ∷ moduli) ws = map (from_native_at half modulus) ws ++ native_rows_at half moduli ws

-- The last elements, as many as coefficients.
abbrev pub last_row : List ℕ → ℕ → List ℕ
last_row out coefficient_count = drop (length out - coefficient_count) out

-- A row for each modulus, made from the last one; an output of another shape is left as it was.
unfoldable pub spread_at : ℕ → List ℕ → ℕ → List ℕ → List ℕ
spread_at half out coefficient_count moduli =
    cond (length out == coefficient_count * length moduli) (native_rows_at half moduli (last_row out coefficient_count)) out

-- A CRT draw whose last row was drawn with this number, place and index: number 0 spreads the rows, "23 keeps the place and writes zeros over the output",
-- and another leaves the output as it was.
abbrev pub finished_at : ℕ → List ℕ → ℕ → List ℕ → ℕ → ℕ → ℕ → Outcome ℕ
finished_at half out coefficient_count moduli number place index =
    record {
      number = number;
      place = place;
      index = index;
      output =
          cond (number == 0) (spread_at half out coefficient_count moduli)
          (cond (number == out_of_words) (replicate (length out) 0) out);
    }

-- At 64 bits.
abbrev pub from_native : ℕ → ℕ → ℕ
from_native modulus w = from_native_at (2 ^ 63) modulus w

abbrev pub spread : List ℕ → ℕ → List ℕ → List ℕ
spread out coefficient_count moduli = spread_at (2 ^ 63) out coefficient_count moduli

abbrev pub finished : List ℕ → ℕ → List ℕ → ℕ → ℕ → ℕ → Outcome ℕ
finished out coefficient_count moduli number place index = finished_at (2 ^ 63) out coefficient_count moduli number place index

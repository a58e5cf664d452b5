-- A line: what is left of it from a number on, and how long it can be.
use mathlib.Core.Path.{◌≡◌, refl, ap}
use mathlib.Core.Bool.{Bool, true, false, cond}
use mathlib.Core.List.{List, [], ◌∷◌, ◌++◌}
use Prim.Native.Nat.{ℕ, suc, ◌+◌, ◌*◌, ◌^◌, ◌<◌, ◌≤◌, ◌-◌}
use native.Mathlib.Numerals.{add-one}
use native.Mathlib.Omega.{arith}
use borrow.Author.Tests.{lt-ltb}
use lib.Dec.{ltb}
use lib.ListN.{length, get_or, drop, length-append, length-map, drop_of_length-le, get_or-map}
use lib.Seq.{drop-cons}
use lib.IntN.{ℤ, pos, negsuc, nat_abs}
use Rattle.decimal.specs.Decimal.{decimal}
use Rattle.decimal.proofs.Digits.{decimal-few}
use Rattle.sheet.specs.Text.{only_if, signed_text, item_text, line_from, line}
use Rattle.little_endian.specs.Patterns.{is_minus, value_of, values_of}

ltb-zero-suc : (i : ℕ) → ltb 0 (suc i) ≡ true
ltb-zero-suc i = lt-ltb 0 (suc i) (omega arith)

-- what is left from the value at i on
abbrev pub rest : List ℤ → ℕ → List ℕ
rest values i = line_from (ltb 0 i) (drop i values)

module _ (signed : Bool) (us : List ℕ) (i : ℕ) where
  pub rest_more : i < length us
      → rest (values_of signed us) i ≡ item_text (ltb 0 i) (value_of signed (get_or us i 0)) ++ rest (values_of signed us) (i + 1)
  unfolding line_from
  rest_more h =
      rw (add-one i, drop-cons (values_of signed us) i (value_of signed 0) (rw length-map h), ltb-zero-suc i, get_or-map (value_of signed) us i 0)

  pub item_room : (end room : ℕ) → i < length us → end + length (rest (values_of signed us) i) ≤ room
      → end + length (item_text (ltb 0 i) (value_of signed (get_or us i 0))) ≤ room
  item_room end room h k =
      omega (arith, ap length (rest_more h), length-append (item_text (ltb 0 i) (value_of signed (get_or us i 0))) (rest (values_of signed us) (i + 1)))

  pub rest_none : length us ≤ i → rest (values_of signed us) i ≡ 10 ∷ []
  unfolding line_from
  rest_none h = rw (drop_of_length-le (values_of signed us) {i = i} (rw length-map h))

-- a value's text: a minus sign where its bits are those of a negative number, and its magnitude
pub value-text : (signed : Bool) (bits : ℕ)
    → signed_text (value_of signed bits) ≡ only_if (is_minus signed bits) 45 ++ decimal (nat_abs (value_of signed bits))
unfolding signed_text value_of
value-text signed bits = by_sign (is_minus signed bits)
  where
    by_sign : (b : Bool) → let v = cond b (negsuc (2 ^ 64 - 1 - bits)) (pos bits) in signed_text v ≡ only_if b 45 ++ decimal (nat_abs v)
    by_sign true = refl
    by_sign false = refl

pub item_length : (later signed : Bool) (bits : ℕ)
    → length (item_text later (value_of signed bits))
    ≡ length (only_if later 32) + (length (only_if (is_minus signed bits) 45) + length (decimal (nat_abs (value_of signed bits))))
item_length later signed bits = rw value-text (simp length-append)

-- a sign and 20 digits at most, and a space before them
byte_few : (wanted : Bool) (byte : ℕ) → length (only_if wanted byte) ≤ 1
byte_few true byte = omega arith
byte_few false byte = omega arith

size_few : (signed : Bool) (bits : ℕ) → bits < 2 ^ 64 → nat_abs (value_of signed bits) ≤ 2 ^ 64
unfolding value_of
size_few signed bits h = by_sign (is_minus signed bits)
  where
    by_sign : (b : Bool) → nat_abs (cond b (negsuc (2 ^ 64 - 1 - bits)) (pos bits)) ≤ 2 ^ 64
    by_sign true = omega arith
    by_sign false = omega (arith, h)

line-few : (later signed : Bool) (us : List ℕ) → ((i : ℕ) → get_or us i 0 < 2 ^ 64)
    → length (line_from later (values_of signed us)) ≤ 22 * length us + 1
unfolding line_from
line-few later signed [] fits = omega arith
line-few later signed (u ∷ us) fits =
    omega (
      arith,
      length-append (item_text later (value_of signed u)) (line_from true (values_of signed us)),
      item_length later signed u,
      byte_few later 32,
      byte_few (is_minus signed u) 45,
      decimal-few 19 (nat_abs (value_of signed u)) (omega (arith, size_few signed u (fits 0))),
      line-few true signed us (λ i. fits (suc i)),
    )

pub line-length : (signed : Bool) (us : List ℕ) → ((i : ℕ) → get_or us i 0 < 2 ^ 64) → length (line (values_of signed us)) ≤ 22 * length us + 1
line-length signed us fits = line-few false signed us fits

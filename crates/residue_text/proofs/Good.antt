-- What a good input promises, for the reader: a modulus of 1 to 2^53, and residues below it, so that a report over them is not refused.
use mathlib.Core.Path.{◌≡◌, refl}
use mathlib.Core.Bool.{Bool, true, false, cond}
use mathlib.Core.List.{List, [], ◌∷◌}
use Prim.Native.Nat.{ℕ, zero, suc, ◌+◌, ◌-◌, ◌^◌, ◌<◌, ◌≤◌, zero-le}
use native.Mathlib.Omega.{arith}
use borrow.Author.Tests.{leb-true, eqb-false}
use lib.Dec.{leb, eqb, ltb}
use lib.ListN.{length, get_or, get_or-append, drop}
use Rattle.distr.specs.Constants.{report_modulus_limit}
use Rattle.distr.proofs.Reading.{both_true}
use Rattle.residue_text.specs.Tokens.{first_line, after_line, tokens}
use Rattle.decimal.specs.Decimal.{front}
use Rattle.residue_text.specs.Numbers.{all_digits, is_number, value_of, numbers_of, numbers_in, left_over}
use Rattle.residue_text.specs.Input.{good, bad, Reading, reading, modulus_of, read_rest, read_input}

-- the modulus is in range, and each residue that was read is below it
pub record InRange (r : Reading) : Type 0 where
  pub least : 1 ≤ r.input.modulus
  pub most : r.input.modulus ≤ report_modulus_limit
  pub below : (i : ℕ) → i < r.input.residue_count → get_or r.residues i 0 < r.input.modulus

-- no number that is read exceeds `most`
numbers-most : (room most : ℕ) (ts : List (List ℕ)) (i : ℕ) → get_or (numbers_of room most ts) i 0 ≤ most
unfolding numbers_of
numbers-most zero most ts i = zero-le
numbers-most (suc room) most [] i = zero-le
numbers-most (suc room) most (t ∷ ts) i = go (is_number most t) refl i (numbers-most room most ts)
  where
    go : (b : Bool) → is_number most t ≡ b → (j : ℕ) → ((k : ℕ) → get_or (numbers_of room most ts) k 0 ≤ most)
        → get_or (cond b (value_of t ∷ numbers_of room most ts) []) j 0 ≤ most
    go true e zero h = leb-true (value_of t) most (both_true (all_digits t) (leb (value_of t) most) e).1
    go true e (suc j) h = h j
    go false e j h = zero-le

-- what is promised of a reading where it is good
IfGood : Reading → Type 0
IfGood r = r.input.bad_part ≡ 0 → InRange r

-- nothing where a number is bad, so what is promised of the other case
unless_bad : (b : Bool) (part position : ℕ) (limits residues : List ℕ) (r : Reading) → IfGood r
    → IfGood (cond b (reading (bad (suc part) position) limits residues) r)
unfolding IfGood
unless_bad true part position limits residues r h e = absurd (omega arith)
unless_bad false part position limits residues r h e = h e

module _ (q : ℕ) (least : 1 ≤ q) (most : q ≤ report_modulus_limit) where
  residues-good : (b : Bool) (position k : ℕ) (limits rs residues : List ℕ) → ((i : ℕ) → get_or rs i 0 ≤ q - 1)
      → IfGood (reading (cond b (bad 3 position) (good q k (length rs))) limits (front rs residues))
  unfolding IfGood
  residues-good true position k limits rs residues h e = absurd (omega arith)
  residues-good false position k limits rs residues h e = record {
    least = least;
    most = most;
    below = λ i l. rw (get_or-append rs (drop (length rs) residues) 0 i l) (omega (arith, h i));
  }

  rest-good : (text limits residues : List ℕ) → IfGood (read_rest q text limits residues)
  unfolding read_rest
  rest-good text limits residues =
      let ls = numbers_in (2 ^ 64 - 1) (first_line text) limits in
      let rs = numbers_in (q - 1) (after_line text) residues in
      unless_bad (left_over ls (first_line text)) 1 (2 + length ls) (front ls limits) residues _
      (residues-good (left_over rs (after_line text)) (2 + length ls + length rs) (length ls) (front ls limits) rs residues
      (numbers-most (length residues) (q - 1) (tokens (after_line text))))

modulus_most_lem : (line : List ℕ) → modulus_of line ≤ report_modulus_limit
unfolding modulus_of
modulus_most_lem line = numbers-most 1 report_modulus_limit (tokens line) 0

-- past the first test the modulus is not 0
unless_zero : (q : ℕ) (b : Bool) → eqb q 0 ≡ b → (limits residues : List ℕ) (r : Reading) → (1 ≤ q → IfGood r)
    → IfGood (cond b (reading (bad 1 1) limits residues) r)
unfolding IfGood
unless_zero q true e limits residues r h z = absurd (omega arith)
unless_zero q false e limits residues r h z = h (omega (arith, eqb-false q 0 e)) z

pub good_in_range : (text limits residues : List ℕ) → (read_input text limits residues).input.bad_part ≡ 0
    → InRange (read_input text limits residues)
unfolding read_input IfGood
good_in_range text limits residues =
    let q = modulus_of (first_line text) in
    unless_zero q (eqb q 0) refl limits residues _
    (λ least.
    unless_bad (ltb 1 (length (tokens (first_line text)))) 0 2 limits residues _
    (rest-good q least (modulus_most_lem (first_line text)) (after_line text) limits residues))

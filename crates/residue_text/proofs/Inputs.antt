-- The parts of an input put together: the first line, the limits, the residues.
use mathlib.Core.Path.{◌≡◌, refl, sym, ap, ◌∙◌}
use mathlib.Core.Bool.{Bool, true, false, cond}
use mathlib.Core.List.{List, [], ◌∷◌}
use Prim.Native.Nat.{ℕ, ◌+◌, ◌-◌, ◌^◌, ◌≤◌}
use native.Mathlib.Omega.{arith}
use borrow.Author.Tests.{ne_eqb}
use lib.Dec.{ltb}
use lib.ListN.{length, get_or}
use Rattle.distr.specs.Constants.{report_modulus_limit}
use Rattle.residue_text.specs.Tokens.{first_line, after_line, tokens}
use Rattle.decimal.specs.Decimal.{front}
use Rattle.residue_text.specs.Numbers.{is_number, value_of, numbers_of, left_over}
use Rattle.residue_text.specs.Input.{good, bad, Reading, reading, modulus_of, read_rest, read_input}
use Rattle.residue_text.specs.declared.Input.{Input}
use Rattle.residue_text.specs.declared.numbers.Numbers.{Numbers}
use Rattle.residue_text.proofs.Filling.{Took}

-- ---- the first line

-- what stands first in a room of one that held 0
pub front-first : (ns : List ℕ) → get_or (front ns (0 ∷ [])) 0 0 ≡ get_or ns 0 0
front-first [] = refl
front-first (n ∷ ns) = refl

one_number : (most : ℕ) (ts : List (List ℕ)) → (get_or (numbers_of 1 most ts) 0 0 ≡ 0 → ⊥) → length (numbers_of 1 most ts) ≡ 1
unfolding numbers_of
one_number most [] h = absurd (h refl)
one_number most (t ∷ ts) h = go (is_number most t) h
  where
    go : (b : Bool) → (get_or (cond b (value_of t ∷ []) []) 0 0 ≡ 0 → ⊥) → length (cond b (value_of t ∷ []) []) ≡ 1
    go true l = refl
    go false l = absurd (l refl)

-- after a modulus that is not 0 a token is left over where the line has a second
more_tokens : (line : List ℕ) → (modulus_of line ≡ 0 → ⊥) → left_over (numbers_of 1 report_modulus_limit (tokens line)) line ≡ ltb 1 (length (tokens line))
unfolding modulus_of
more_tokens line h = rw (one_number report_modulus_limit (tokens line) h)

-- ---- what is promised of an input and of the two rooms
abbrev Handed : Input → List ℕ → List ℕ → Reading → Type 0
Handed r limits residues read =
    (reading r limits residues ≡ read) × ((r.limit_count ≤ length limits) × (r.residue_count ≤ length residues))

-- a bad number counts nothing
pub bad_handed : (r : Input) {part position : ℕ} (limits residues : List ℕ) {read : Reading} → r ≡ bad part position
    → reading (bad part position) limits residues ≡ read
    → Handed r limits residues read
bad_handed r limits residues e h = rw e (h, (omega arith, omega arith))

-- the parts of an answer
abbrev counted : Numbers → ℕ
counted n = n.count

abbrev over : Numbers → Bool
over n = n.more

module _ (text limits residues line : List ℕ) (first : line ≡ first_line text) where
  -- ---- the text after the first line: its limits, and then its residues
  module _ (q : ℕ) (ls : Numbers) (limits' : List ℕ) (took : Took (2 ^ 64 - 1) line limits ls limits') where
    pub rest-limits : ls.more ≡ true → reading (bad 2 (2 + ls.count)) limits' residues ≡ read_rest q text limits residues
    unfolding read_rest
    rest-limits m = rw (← first, sym (ap over took.0) ∙ m, ap counted took.0, took.1.0)

    pub rest-residues : (after : List ℕ) → after ≡ after_line text → (rs : Numbers) (residues' : List ℕ) → Took (q - 1) after residues rs residues'
        → ls.more ≡ false
        → (b : Bool)
        → rs.more ≡ b
        → reading (cond b (bad 3 (2 + ls.count + rs.count)) (good q ls.count rs.count)) limits' residues' ≡ read_rest q text limits residues
    unfolding read_rest
    rest-residues after rest rs residues' again whole b m = rw (
      ← rest,
      ← first,
      sym (ap over took.0) ∙ whole,
      sym (ap over again.0) ∙ m,
      ap counted took.0,
      ap counted again.0,
      took.1.0,
      again.1.0,
    )

  -- ---- the whole text: its first line, and the text after it
  module _ (q : ℕ) (more : Bool) (is : q ≡ modulus_of line) (left : more ≡ left_over (numbers_of 1 report_modulus_limit (tokens line)) line) where
    pub input_none : q ≡ 0 → reading (bad 1 1) limits residues ≡ read_input text limits residues
    unfolding read_input
    input_none z = rw (← first, ← is, z)

    pub input-some : (q ≡ 0 → ⊥) → (b : Bool) → more ≡ b
        → cond b (reading (bad 1 2) limits residues) (read_rest q (after_line text) limits residues) ≡ read_input text limits residues
    unfolding read_input
    input-some z b m =
        let second : ltb 1 (length (tokens line)) ≡ b = sym (more_tokens line (λ e. z (is ∙ e))) ∙ sym left ∙ m in
        rw (← first, ← is, ne_eqb q 0 z, second)

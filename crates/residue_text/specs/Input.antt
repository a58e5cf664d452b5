-- The input of a report: the modulus alone on the first line, the limits on the second, and the residues on all lines after it.
use Rattle.std.specs.Prelude.{ℕ, ◌+◌, ◌-◌, ◌^◌, cond, List, eqb, ltb, length, get_or}
use Rattle.distr.specs.Constants.{report_modulus_limit}
use Rattle.residue_text.specs.Tokens.{tokens, first_line, after_line}
use Rattle.decimal.specs.Decimal.{front}
use Rattle.residue_text.specs.Numbers.{numbers_of, numbers_in, left_over}
use Rattle.residue_text.specs.declared.Input.{Input}

-- A good text: its modulus, and how many limits and residues were read.
abbrev pub good : ℕ → ℕ → ℕ → Input
good modulus limits residues = record {
  bad_part = 0;
  position = 0;
  modulus = modulus;
  limit_count = limits;
  residue_count = residues;
}

-- A text with a bad number, on the first line (1), on the second (2) or after it (3), and which number of the input it is, counted from 1.
abbrev pub bad : ℕ → ℕ → Input
bad part position = record {
  bad_part = part;
  position = position;
  modulus = 0;
  limit_count = 0;
  residue_count = 0;
}

-- What a reading hands back, and what stands after it in the room for limits and in that for residues.
pub record Reading : Type 0 where
  pub input : Input
  pub limits : List ℕ
  pub residues : List ℕ

-- The three, given one by one.
abbrev pub reading : Input → List ℕ → List ℕ → Reading
reading input limits residues = record { input = input; limits = limits; residues = residues }

-- The modulus: the first number of a line, where it is at most 2^53; else 0.
unfoldable pub modulus_of : List ℕ → ℕ
modulus_of line = get_or (numbers_of 1 report_modulus_limit (tokens line)) 0 0

-- The text after the first line, for a modulus q: limits below 2^64, as many as there is room for, and then residues below q, likewise.
unfoldable pub read_rest : ℕ → List ℕ → List ℕ → List ℕ → Reading
read_rest q text limits residues =
    let ls = numbers_in (2 ^ 64 - 1) (first_line text) limits in
    let rs = numbers_in (q - 1) (after_line text) residues in
    cond (left_over ls (first_line text)) (reading (bad 2 (2 + length ls)) (front ls limits) residues)
    (reading (cond (left_over rs (after_line text)) (bad 3 (2 + length ls + length rs)) (good q (length ls) (length rs))) (front ls limits)
    (front rs residues))

-- The whole text. Its first line is bad where no modulus of 1 to 2^53 begins it, and where another token follows the modulus.
unfoldable pub read_input : List ℕ → List ℕ → List ℕ → Reading
read_input text limits residues =
    let q = modulus_of (first_line text) in
    cond (eqb q 0) (reading (bad 1 1) limits residues)
    (cond (ltb 1 (length (tokens (first_line text)))) (reading (bad 1 2) limits residues)
    (read_rest q (after_line text) limits residues))

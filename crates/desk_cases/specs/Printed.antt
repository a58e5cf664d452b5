-- What is printed of an answer: number, place, skipped words, skipped bytes, and the output in hexadecimal.
use Rattle.std.specs.Prelude.{ℕ, List}
use Rattle.desk.specs.Desk.{DeskAnswer}
use Rattle.desk_cases.specs.Hexadecimal.{shown}

pub record Printed : Type 0 where
  pub number : ℕ
  pub place : ℕ
  pub words : ℕ
  pub bytes : ℕ
  pub field : List ℕ

-- The same from its five parts.
abbrev pub printed : ℕ → ℕ → ℕ → ℕ → List ℕ → Printed
printed number place words bytes field = record { number = number; place = place; words = words; bytes = bytes; field = field }

-- Of the desk's answer: every byte of its output, in hexadecimal.
abbrev pub printed_of : DeskAnswer → Printed
printed_of a = printed a.number a.place a.skipped.words a.skipped.bytes (shown a.output)

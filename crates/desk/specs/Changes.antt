-- What a call of the desk may change, as 01 has it of every call: "All but 23 change neither place nor output; 23 keeps the place and writes zeros over the output."
use Rattle.std.specs.Prelude.{ℕ, ◌≡◌, List, length, replicate}
use Rattle.distr.specs.Constants.{out_of_words}
use Rattle.distr.specs.Skipped.{nothing}
use Rattle.desk.specs.Desk.{DeskAnswer, desk_draw}

-- Of an answer, with the place and the output's bytes as they were before the call.
pub record Changes (place : ℕ) (output : List ℕ) (answer : DeskAnswer) : Type 0 where
  -- a call that does not succeed keeps the place and reports nothing skipped
  pub refused : (answer.number ≡ 0 → ⊥) → (answer.place ≡ place) × (answer.skipped ≡ nothing)
  -- 23 leaves a zero in every byte
  pub short : answer.number ≡ out_of_words → answer.output ≡ replicate (length output) 0
  -- and every other refusal leaves every byte
  pub unchanged : (answer.number ≡ 0 → ⊥) → (answer.number ≡ out_of_words → ⊥) → answer.output ≡ output

-- Every call, whatever it is lent.
abbrev pub EveryCall : Type 0
EveryCall =
    (kind a b modulus : ℕ) (words : List ℕ) (place : ℕ) (output : List ℕ) → Changes place output (desk_draw kind a b modulus words place output)

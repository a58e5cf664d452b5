-- The table draw and the division draw agree: both promise the draw of the same distribution.
use Prim.Native.Nat.{ℕ}
use mathlib.Core.Path.{◌≡◌, refl, sym, ap, ap₂, ◌∙◌}
use mathlib.Core.List.{List}
use lib.ListN.{drop}
use Rattle.distr.specs.declared.answer.Answer.{Answer}
use Rattle.distr.specs.declared.secret_key_distr.SecretKeyDistr.TheVariants.{UniformTernary}
use Rattle.distr.specs.Skipped.{Skipped}
use Rattle.distr.specs.Answers.{sums, reported}
use Rattle.distr.specs.Distribution.{secret, skips_of}
use Rattle.distr.specs.Draw.{Outcome, outcome, no_tables}
use Rattle.trits_agreement.specs.Agreement.{Promises, Same, Agreement}

-- an answer is its number, its place and its sums
made_of : {A : Type 0} → Outcome A → Skipped → Answer
made_of o s = record { number = o.number; place = o.place; index = o.index; skipped_words = s.words; skipped_bytes = s.bytes }

same : {A : Type 0} (drawn : Outcome A) (words : List ℕ) (place n : ℕ) (table division : Answer) (table_after division_after : List A)
    → Promises drawn words place n table table_after → Promises drawn words place n division division_after → Same table table_after division division_after
unfolding made_of
same {A} drawn words place n table division table_after division_after t d =
    let both : outcome table table_after ≡ outcome division division_after = t.0 ∙ sym d.0 in
    let number : table.number ≡ division.number = ap (λ (o : Outcome A). o.number) both in
    let sum : sums table ≡ sums division = t.1 ∙ ap (λ (k : ℕ). reported k (skips_of (secret UniformTernary) n no_tables (drop place words))) number ∙ sym d.1 in
    record { answer = ap₂ made_of both sum; output = ap (λ (o : Outcome A). o.output) both }

pub agreement : Agreement
agreement = record {
  signed = λ words place out table division table_after division_after. same _ words place _ table division table_after division_after;
  residues = λ modulus words place out table division table_after division_after. same _ words place _ table division table_after division_after;
  table_signed_calls = (λ κs before. refl, λ κs before answer after. refl);
  division_signed_calls = (λ κs before. refl, λ κs before answer after. refl);
  table_residue_calls = (λ κs before. refl, λ κs before answer after. refl);
  division_residue_calls = (λ κs before. refl, λ κs before answer after. refl);
}

-- The answer of a draw by insertion, by where the insertion stopped: the words from the place on were lent to it. Of the words taken some were used, and
-- the choices passed over the others.
use mathlib.Core.Path.{◌≡◌, sym, ap, ◌∙◌}
use mathlib.Core.List.{List, [], map}
use Prim.Native.Nat.{ℕ, suc, ◌+◌, ◌-◌, ◌/◌, ◌≤◌}
use native.Mathlib.Omega.{arith}
use lib.ListN.{length, drop, replicate, length-drop, length-replicate}
use lib.IntN.{ℤ, pos}
use Rattle.std.specs.Prelude.{Some, None}
use Rattle.distr.specs.Words.{Read, map_read, choose_each}
use Rattle.distr.specs.Rule.{Rule, read_by}
use Rattle.distr.specs.Constants.{out_of_words}
use Rattle.distr.specs.declared.answer.Answer.{Answer}
use Rattle.distr.specs.Answers.{refusal, success_after, sums, reported}
use Rattle.distr.specs.Skipped.{Skipped, skipped_words, passed_each}
use Rattle.distr.specs.Insertion.{count_up, passed_signed, signed_insertion}
use Rattle.distr.specs.Packed.{digits, sign_value}
use Rattle.distr.specs.Draw.{outcome, settled}
use Rattle.distr.proofs.Drawing.{settled-got, settled-short}
use Rattle.distr.proofs.Reading.{map-got}
use Rattle.distr.proofs.Skipping.{each_counts, reports_refused, reports_words}
use Rattle.distr.proofs.Writing.{map-replicate}
use Rattle.words.proofs.Places.{lent_from, lent-all, lent-place}
use Rattle.fixed_weights.specs.declared.plans.Plan.{Plan}
use Rattle.fixed_weights.specs.Plans.{planned, plan_rule}
use Rattle.fixed_weights.specs.Inserting.{stopped}
use Rattle.fixed_weights.proofs.Counting.{length_count, insert_signs_count}
use Rattle.fixed_weights.proofs.PlanRules.{plan_values, length-plan_values}
use Rattle.fixed_weights.proofs.SignTurns.{signs_insert}

-- where it stopped, and what it read from the words lent
module _ {A : Type 0} (hold : List ℤ → List A) (words : List ℕ) (place : ℕ) (rule : Rule) (n : ℕ) where
  abbrev Read_by_rule : Read (List A) → Type 0
  Read_by_rule r = r ≡ map_read hold (read_by rule (lent_from words place))

  from_place : {r : Read (List A)} → Read_by_rule r → map_read hold (read_by rule (drop place words)) ≡ r
  from_place e = ap (λ (ws : List ℕ). map_read hold (read_by rule ws)) (sym (lent-all words place)) ∙ sym e

  pub settled_some : (next : ℕ) (out : List A) {answer : Answer} {s : Skipped} → place ≤ length words → next ≤ length (lent_from words place)
      → Read_by_rule (stopped (Some next) out (lent_from words place)) → answer ≡ success_after (place + next) s
      → outcome answer out ≡ settled hold (length words) place n (read_by rule (drop place words))
  unfolding stopped
  settled_some next out there within e a =
      rw a
      (settled-got hold (length words) place n out (read_by rule (drop place words)) (drop next (lent_from words place)) (lent-place words place next there within)
      (from_place e))

  pub settled_none : (val : ℤ → A) (z : A) (xs out : List A) {answer : Answer} → ((cs : List ℤ) → hold cs ≡ map val cs) → val (pos 0) ≡ z
      → Read_by_rule (stopped None xs (lent_from words place)) → length xs ≡ n → out ≡ replicate (length xs) z
      → answer ≡ refusal out_of_words place → outcome answer out ≡ settled hold (length words) place n (read_by rule (drop place words))
  unfolding stopped
  settled_none val z xs out each zeros e size cleared a =
      let held : hold (replicate n (pos 0)) ≡ replicate n z = each (replicate n (pos 0)) ∙ map-replicate val n (pos 0) ∙ ap (replicate n) zeros in
      rw a (settled-short hold (length words) place n out (read_by rule (drop place words)) (from_place e) (rw (cleared, size, held)))

-- a draw that lacks a word reports zeros
pub short_reports : (s : Skipped) {place : ℕ} {answer : Answer} → answer ≡ refusal out_of_words place → sums answer ≡ reported answer.number s
short_reports s = reports_refused s (λ z. omega arith)

-- one word was used for each value that a plan inserts
abbrev plan_choices : Plan → ℕ → List ℕ
plan_choices p n = count_up (suc (n - length (plan_values p))) (length (plan_values p))

module _ {A : Type 0} (hold : List ℤ → List A) (words : List ℕ) (place : ℕ) (p : Plan) (n next : ℕ) (out : List A)
    (within : next ≤ length (lent_from words place))
    (e : stopped (Some next) out (lent_from words place) ≡ map_read hold (read_by (plan_rule p n) (lent_from words place))) where
  plan_count : next ≡ planned p + passed_each (plan_choices p n) (drop place words)
  unfolding stopped
  plan_count =
      let ws : List ℕ = lent_from words place in
      let read = map-got hold (read_by (plan_rule p n) ws) out (drop next ws) (sym e) in
      let drawn = map-got (plan_rule p n).decode (choose_each (plan_choices p n) ws) read.0 (drop next ws) read.1 in
      omega (
        arith,
        each_counts (plan_choices p n) ws drawn.0 (drop next ws) drawn.1,
        length_count (suc (n - length (plan_values p))) (length (plan_values p)),
        length-plan_values p,
        length-drop next ws,
        within,
        ap (passed_each (plan_choices p n)) (lent-all words place),
      )

  pub plan_used : p.firsts + p.seconds ≤ next
  plan_used = omega (arith, plan_count)

  pub plan_reports : {answer : Answer} → answer ≡ success_after (place + next) (skipped_words (next - (p.firsts + p.seconds)))
      → sums answer ≡ reported answer.number ((plan_rule p n).skips (drop place words))
  plan_reports a = reports_words a (omega (arith, plan_count))

-- one word was used for each sign's choice, and one for each 32 signs
module _ {A : Type 0} (hold : List ℤ → List A) (val : ℤ → A) (each : (cs : List ℤ) → hold cs ≡ map val cs) (words : List ℕ) (place weight n next : ℕ)
    (out : List A) (within : next ≤ length (lent_from words place))
    (e : stopped (Some next) out (lent_from words place) ≡ map_read hold (read_by (signed_insertion weight n) (lent_from words place))) where
  signs_count : next ≡ weight + (weight + 31) / 32 + passed_signed (count_up (suc (n - weight)) weight) [] (drop place words)
  unfolding stopped digits
  signs_count =
      let ws : List ℕ = lent_from words place in
      let zeros : List A = replicate (n - weight) (val (pos 0)) in
      let all = insert_signs_count (λ b. val (sign_value b)) weight 0 0 zeros out ws (drop next ws) (sym (signs_insert hold val ws n weight each) ∙ sym e) in
      omega (
        arith,
        rw (length-replicate) at all,
        length-drop next ws,
        within,
        ap (passed_signed (count_up (suc (n - weight)) weight) []) (lent-all words place),
      )

  pub signs_used : weight + (weight + 31) / 32 ≤ next
  signs_used = omega (arith, signs_count)

  pub signs_reports : {answer : Answer} → answer ≡ success_after (place + next) (skipped_words (next - (weight + (weight + 31) / 32)))
      → sums answer ≡ reported answer.number ((signed_insertion weight n).skips (drop place words))
  signs_reports a = reports_words a (omega (arith, signs_count))

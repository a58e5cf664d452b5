-- A draw by the plan of a sampler, over any element type: coefficients are held one by one, by f.
use mathlib.Core.Path.{◌≡◌, refl, sym, ap, ◌∙◌}
use mathlib.Core.Bool.{Bool, true, false, cond}
use mathlib.Core.List.{List, map}
use Prim.Native.Nat.{ℕ, ◌+◌, ◌*◌, ◌^◌, ◌<◌, ◌≤◌}
use native.Mathlib.Omega.{arith}
use lib.Dec.{ltb, eqb, lit<}
use lib.ListN.{length, get_or, drop, replicate}
use lib.IntN.{ℤ, pos}
use mir.Val.{bool_byte}
use borrow.Author.Tests.{lt-ltb, le-ltb}
use Rattle.distr.specs.declared.answer.Answer.{Answer}
use Rattle.distr.specs.declared.refusal.Refusal.{Refusal}
use Rattle.distr.specs.Words.{got}
use Rattle.distr.specs.Skipped.{nothing}
use Rattle.distr.specs.Answers.{success, refusal}
use Rattle.distr.specs.Refusals.{number}
use Rattle.distr.specs.Draw.{outcome, rule_draw}
use Rattle.distr.specs.Packed.{minus_one}
use Rattle.distr.specs.Thresholds.{ternary_value}
use Rattle.numbers.specs.Answering.{wide_read, wide_rule, answer_of}
use Rattle.numbers.proofs.WideDraws.{draw_read, refuses_draw, ends-constant, ends-enough}
use Rattle.ternary.specs.Sampler.{value_of, sampler_rule, plan_of, reads, plan_value}
use Rattle.ternary.specs.declared.ternary.Plan.{Plan}
use Rattle.ternary.specs.declared.ternary.Plan.TheVariants as plan
use Rattle.ternary.specs.declared.ternary.WordPlan.{WordPlan}
use Rattle.ternary.specs.declared.ternary.TernaryValue.{TernaryValue}
use Rattle.ternary.specs.declared.ternary.TernaryEnds.{TernaryEnds}
use Rattle.ternary.specs.declared.ternary.TernaryEnds.TheVariants.{Constant, Nonzero, General}

-- the value of a word by a sampler that reads it
abbrev sampler_value : TernaryEnds → ℕ → ℤ
sampler_value (Constant v) w = value_of v
sampler_value (Nonzero N) w = ternary_value N (2 ^ 64) w
sampler_value (General N E) w = ternary_value N E w

-- the value of a plan that reads nothing
abbrev constant_of : Plan → ℤ
constant_of (plan.Constant v) = value_of v
constant_of (plan.Read q) = pos 0

-- the plan has the sampler's rule
sampler_plan : (s : TernaryEnds) {p : Plan} (n : ℕ) → p ≡ plan_of s → sampler_rule s n ≡ wide_rule (reads p) (constant_of p) (sampler_value s) n
unfolding sampler_rule plan_of
sampler_plan (Constant v) n e = rw e
sampler_plan (Nonzero N) n e = rw e
sampler_plan (General N E) n e = rw e

-- it skips nothing
pub sampler_skips : (s : TernaryEnds) (n : ℕ) (ws : List ℕ) → (sampler_rule s n).skips ws ≡ nothing
unfolding sampler_rule
sampler_skips (Constant v) n ws = refl
sampler_skips (Nonzero N) n ws = refl
sampler_skips (General N E) n ws = refl

-- the plan has the sampler's values
plan_value_lem : (s : TernaryEnds) (w : ℕ) {q : WordPlan} → w < 2 ^ 64 → plan.Read q ≡ plan_of s → plan_value q w ≡ sampler_value s w
unfolding plan_of plan_value
plan_value_lem (Constant v) w h e = cc
plan_value_lem (Nonzero N) w {q} h e =
    let same : q ≡ record { above = 1; first_end = N; second_end = 0 } = cc in
    rw (same, lt-ltb w (2 ^ 64) h, le-ltb w 0 (omega arith))
plan_value_lem (General N E) w {q} h e =
    let same : q ≡ record { above = 0; first_end = N; second_end = E } = cc in
    rw same (go (ltb w E))
  where
    go : (b : Bool) → cond (ltb w N) minus_one (pos (0 + bool_byte b)) ≡ cond (ltb w N) minus_one (cond b (pos 1) (pos 0))
    go true = refl
    go false = refl

-- what it gives for a word below the first end and for another
module _ (p : WordPlan) (w : ℕ) where
  pub value-below : w < p.first_end → minus_one ≡ plan_value p w
  unfolding plan_value
  value-below h = rw (lt-ltb w p.first_end h)

  pub value-above : p.first_end ≤ w → pos (p.above + bool_byte (ltb w p.second_end)) ≡ plan_value p w
  unfolding plan_value
  value-above h = rw (le-ltb w p.first_end h)

-- where the draw ends or what refuses it, the answer a, and what the output holds then
module _ {A : Type 0} {hold : List ℤ → List A} {f : ℤ → A} (each : (cs : List ℤ) → hold cs ≡ map f cs) {z : A} (zero-held : f (pos 0) ≡ z) (words : List ℕ)
    (place : ℕ) (out : List A) (s : TernaryEnds) {p : Plan} (e : p ≡ plan_of s) {b : Bool} (t : b ≡ reads p) where
  abbrev n : ℕ
  n = length out

  abbrev told : Answer
  told = answer_of 0 b (length words) place n

  kind : sampler_rule s n ≡ wide_rule b (constant_of p) (sampler_value s) n
  kind = rw t (sampler_plan s n e)

  pub plan_enough : {q : WordPlan} {after : ℕ} → success after ≡ told → p ≡ plan.Read q → place + 2 * n ≤ length words
  plan_enough d r =
      ends-enough hold f each zero-held 0 (lit< tt) words place out (constant_of p) (sampler_value s) _ _ kind d (rw (t, r))

  module _ {final : List A} {a : Answer} where
    pub plan_refused : (why : Refusal) → refusal (number why) place ≡ told → a ≡ refusal (number why) place
        → final ≡ cond (eqb (number why) 23) (replicate n z) out → outcome a final ≡ rule_draw hold 0 (sampler_rule s n) words place out
    plan_refused why = refuses_draw hold f each zero-held 0 (lit< tt) words place out (constant_of p) (sampler_value s) _ _ kind why

    pub plan_constant : {v : TernaryValue} {after : ℕ} → success after ≡ told → a ≡ success after → p ≡ plan.Constant v
        → final ≡ replicate n (f (value_of v)) → outcome a final ≡ rule_draw hold 0 (sampler_rule s n) words place out
    plan_constant d is r h =
        ends-constant hold f each zero-held 0 (lit< tt) words place out (constant_of p) (sampler_value s) _ _ kind d is (rw (t, r)) (rw r h)

    -- by the loop over the plan's values
    pub plan_read : {q : WordPlan} {after : ℕ} → success after ≡ told → a ≡ success after → p ≡ plan.Read q → ((i : ℕ) → get_or words i 0 < 2 ^ 32)
        → wide_read (λ w. f (plan_value q w)) n (drop place words) ≡ got final (drop (place + 2 * n) words)
        → outcome a final ≡ rule_draw hold 0 (sampler_rule s n) words place out
    plan_read {q} {after} d is r bounded =
        draw_read hold f each 0 (lit< tt) words place out (constant_of p) (sampler_value s) _ _ kind a (is ∙ d) final (rw is refl) (rw (t, r)) bounded
        (λ w. f (plan_value q w)) (λ w h. ap f (plan_value_lem s w h (sym r ∙ e)))

-- A request by its kind: what the kind selects draws as the request asks, and reports what the distribution of the kind skips.
use Prim.Native.Nat.{ℕ}
use native.Mathlib.Omega.{arith}
use mathlib.Core.Path.{◌≡◌, ap, ◌∙◌}
use mathlib.Core.Bool.{Bool, true, false, cond}
use mathlib.Core.List.{List}
use Rattle.distr.specs.declared.answer.Answer.{Answer}
use Rattle.distr.specs.Constants.{invalid_sheet}
use Rattle.distr.specs.Skipped.{Skipped, nothing}
use Rattle.distr.specs.Answers.{reported}
use Rattle.distr.specs.Distribution.{Distr}
use Rattle.distr.specs.Draw.{Outcome, at_once}
use Rattle.distr.proofs.Skipping.{reports_same}
use Rattle.prepared_draws.proofs.Calls.{Answered}
use Rattle.any_sampler.specs.declared.AnyDistr.{AnyDistr}
use Rattle.any_sampler.specs.declared.AnyDistr.TheVariants.{Unknown}
use Rattle.any_sampler.specs.Either.{any_of, any_at_once, any_skips}
use Rattle.any_sampler.proofs.Drawing.{drawn_of, skipped_of}
use Rattle.sheet_request.specs.Request.{known_kind, kind_distr, known, selected}

-- A draw of what a kind selects is the draw of its distribution, or 14, which reports nothing.
pub asked_draw : {A : Type 0} {r : Answer} {after : List A} (draw : Distr → Outcome A) (skips : Distr → Skipped) (place : ℕ) (out : List A)
    (kind a b : ℕ) {found : AnyDistr} → found ≡ selected kind a b → Answered r after (any_at_once found place out draw) (any_skips found skips)
    → Answered r after (known kind place out (at_once (kind_distr kind a b) place out (draw (kind_distr kind a b)))) (skips (kind_distr kind a b))
unfolding any_at_once any_skips
asked_draw {A} {r} {after} draw skips place out kind a b e said = go (known_kind kind) (kind_distr kind a b) (rw e at said)
  where
    go : (b : Bool) (d : Distr) → Answered r after (any_at_once (cond b (any_of d) Unknown) place out draw) (any_skips (cond b (any_of d) Unknown) skips)
        → Answered r after (cond b (at_once d place out (draw d)) (record { number = invalid_sheet; place = place; index = 0; output = out })) (skips d)
    go true d said = (said.0 ∙ drawn_of draw place out d, said.1 ∙ ap (reported r.number) (skipped_of skips d))
    go false d said =
        (said.0, reports_same r nothing (skips d) (λ z. absurd (omega (arith, ap (λ (o : Outcome A). o.number) said.0))) said.1)

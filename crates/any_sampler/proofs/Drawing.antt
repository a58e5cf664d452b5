-- What is prepared of a distribution of either kind draws as the distribution does at once, and reports what that skips.
use Prim.Native.Nat.{ℕ, ◌^◌, ◌<◌}
use native.Mathlib.Omega.{arith}
use mathlib.Core.Path.{◌≡◌, refl}
use mathlib.Core.Bool.{true}
use mathlib.Core.List.{List}
use lib.ListN.{length, drop}
use lib.IntN.{ℤ}
use Rattle.std.specs.Prelude.{Result, Ok, Err}
use Rattle.distr.specs.declared.answer.Answer.{Answer}
use Rattle.distr.specs.declared.refusal.Refusal.{Refusal}
use Rattle.distr.specs.Constants.{invalid_sheet}
use Rattle.distr.specs.Refusals.{Makes as Prepares}
use Rattle.distr.specs.Making.{making_number}
use Rattle.distr.specs.Skipped.{Skipped, nothing}
use Rattle.distr.specs.Distribution.{Distr, secret, error, Tables, skips_of}
use Rattle.distr.specs.Draw.{Outcome, at_once, signed_draw, encoded_draw, crt_draw, crt_skips}
use Rattle.methods.specs.declared.SamplingMethod.{SamplingMethod}
use Rattle.methods.specs.declared.SamplingMethod.TheVariants.{Empty}
use Rattle.method_draws.specs.Drawing.{prepared_method, method_draw, method_skips}
use Rattle.prepared_draws.specs.Drawing.{prepared_draw, prepared_draw_by, prepared_skips, encoded_by, crt_by, crt_skips_by}
use Rattle.prepared_draws.proofs.Calls.{Answered, answered_as, once_signed, once_encoded, once_crt}
use Rattle.any_sampler.specs.declared.AnyDistr.{AnyDistr}
use Rattle.any_sampler.specs.declared.AnyDistr.TheVariants as Asked
use Rattle.any_sampler.specs.Either.{any_of, any_number, any_method, any_at_once, any_skips}

-- Where there is no distribution, 14 is answered.
unknown_draw : {A : Type 0} (place : ℕ) (out : List A) (draw : SamplingMethod → Outcome A) (p : Result SamplingMethod Refusal)
    → Prepares invalid_sheet Empty p → prepared_draw p place out draw ≡ record { number = invalid_sheet; place = place; index = 0; output = out }
unfolding prepared_draw_by
unknown_draw place out draw (Ok m) e = absurd (omega (arith, e.0))
unknown_draw place out draw (Err why) e = rw e.0

module _ (tables : Tables) (words : List ℕ) (place : ℕ) (p : Result SamplingMethod Refusal) where
  -- each kind draws and reports as it does at once; where there is no distribution, nothing is reported
  pub by_either : {A : Type 0} {r : Answer} {after : List A} (x : AnyDistr) → Prepares (any_number x) (any_method x) p → (out : List A)
      (draw : SamplingMethod → Outcome A)
      (drawn : Distr → Outcome A) (skips : SamplingMethod → Skipped) (counted : Distr → Skipped)
      → ((d : Distr) → Prepares (making_number d) (prepared_method d) p
      → Answered r after (prepared_draw p place out draw) (prepared_skips p skips) → Answered r after (at_once d place out (drawn d)) (counted d))
      → Answered r after (prepared_draw p place out draw) (prepared_skips p skips) → Answered r after (any_at_once x place out drawn) (any_skips x counted)
  unfolding any_number any_method any_at_once any_skips
  by_either (Asked.Secret d) e out draw drawn skips counted once = once (secret d) e
  by_either (Asked.Error d) e out draw drawn skips counted once = once (error d) e
  by_either Asked.Unknown e out draw drawn skips counted once =
      answered_as place out draw p _ skips nothing (unknown_draw place out draw p e) (λ m is. absurd (omega (arith, (rw is at e).0)))

  pub any_signed : (x : AnyDistr) → Prepares (any_number x) (any_method x) p → (out : List ℤ) {r : Answer} {after : List ℤ}
      → Answered r after (prepared_draw p place out (λ m. method_draw (λ cs. cs) m tables words place out))
      (prepared_skips p (λ m. method_skips m tables (length out) (drop place words)))
      → Answered r after (any_at_once x place out (λ (d : Distr). signed_draw true d tables words place out))
      (any_skips x (λ (d : Distr). skips_of d (length out) tables (drop place words)))
  any_signed x e out =
      by_either x e out (λ m. method_draw (λ cs. cs) m tables words place out) (λ d. signed_draw true d tables words place out)
      (λ m. method_skips m tables (length out) (drop place words)) (λ d. skips_of d (length out) tables (drop place words))
      (λ d f. once_signed d tables words place p f out)

  pub any_encoded : (x : AnyDistr) → Prepares (any_number x) (any_method x) p → (q : ℕ) (out : List ℕ) → length out < 2 ^ 64 → {r : Answer} {after : List ℕ}
      → Answered r after (prepared_draw p place out (λ m. encoded_by m tables q words place out))
      (prepared_skips p (λ m. method_skips m tables (length out) (drop place words)))
      → Answered r after (any_at_once x place out (λ (d : Distr). encoded_draw true d tables q words place out))
      (any_skips x (λ (d : Distr). skips_of d (length out) tables (drop place words)))
  any_encoded x e q out few =
      by_either x e out (λ m. encoded_by m tables q words place out) (λ d. encoded_draw true d tables q words place out)
      (λ m. method_skips m tables (length out) (drop place words)) (λ d. skips_of d (length out) tables (drop place words))
      (λ d f. once_encoded d tables words place p f q out few)

  pub any_crt : (x : AnyDistr) → Prepares (any_number x) (any_method x) p → (count : ℕ) (moduli : List ℕ) (out : List ℕ) {r : Answer} {after : List ℕ}
      → Answered r after (prepared_draw p place out (λ m. crt_by m tables count moduli words place out))
      (prepared_skips p (λ m. crt_skips_by m tables count (length out) (drop place words)))
      → Answered r after (any_at_once x place out (λ (d : Distr). crt_draw true d tables count moduli words place out))
      (any_skips x (λ (d : Distr). crt_skips d count tables (length out) (drop place words)))
  any_crt x e count moduli out =
      by_either x e out (λ m. crt_by m tables count moduli words place out) (λ d. crt_draw true d tables count moduli words place out)
      (λ m. crt_skips_by m tables count (length out) (drop place words)) (λ d. crt_skips d count tables (length out) (drop place words))
      (λ d f. once_crt d tables words place p f count moduli out)

-- A distribution of the definitions draws as they say.
pub drawn_of : {A : Type 0} (draw : Distr → Outcome A) (place : ℕ) (out : List A) (d : Distr)
    → any_at_once (any_of d) place out draw ≡ at_once d place out (draw d)
unfolding any_at_once
drawn_of draw place out (secret d) = refl
drawn_of draw place out (error d) = refl

-- And it skips what they say.
pub skipped_of : (skips : Distr → Skipped) (d : Distr) → any_skips (any_of d) skips ≡ skips d
unfolding any_skips
skipped_of skips (secret d) = refl
skipped_of skips (error d) = refl

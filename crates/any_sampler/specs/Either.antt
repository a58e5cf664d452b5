-- Making and drawing by a distribution of either kind, or what is answered where there is none.
use Rattle.std.specs.Prelude.{ℕ, List}
use Rattle.distr.specs.Constants.{invalid_sheet}
use Rattle.distr.specs.Skipped.{Skipped, nothing}
use Rattle.distr.specs.Distribution.{Distr, secret, error}
use Rattle.distr.specs.Making.{making_number}
use Rattle.distr.specs.Draw.{Outcome, at_once}
use Rattle.methods.specs.declared.SamplingMethod.{SamplingMethod}
use Rattle.methods.specs.declared.SamplingMethod.TheVariants.{Empty}
use Rattle.method_draws.specs.Drawing.{prepared_method}
use Rattle.any_sampler.specs.declared.AnyDistr.{AnyDistr}
use Rattle.any_sampler.specs.declared.AnyDistr.TheVariants as Asked

-- A distribution of the definitions.
abbrev pub any_of : Distr → AnyDistr
any_of (secret d) = Asked.Secret d
any_of (error d) = Asked.Error d

-- The number of making, 14 where there is no distribution; and the method that is prepared where that is 0.
unfoldable pub any_number : AnyDistr → ℕ
any_number (Asked.Secret d) = making_number (secret d)
any_number (Asked.Error d) = making_number (error d)
any_number Asked.Unknown = invalid_sheet

unfoldable pub any_method : AnyDistr → SamplingMethod
any_method (Asked.Secret d) = prepared_method (secret d)
any_method (Asked.Error d) = prepared_method (error d)
any_method Asked.Unknown = Empty

-- A draw at once: 14, or the draw of the distribution with the number of making before those of the draw.
unfoldable pub any_at_once : {A : Type 0} → AnyDistr → ℕ → List A → (Distr → Outcome A) → Outcome A
any_at_once (Asked.Secret d) place out draw = at_once (secret d) place out (draw (secret d))
any_at_once (Asked.Error d) place out draw = at_once (error d) place out (draw (error d))
any_at_once Asked.Unknown place out draw = record { number = invalid_sheet; place = place; index = 0; output = out }

-- 02 [1]: what a draw of the distribution skips; nothing where there is none.
unfoldable pub any_skips : AnyDistr → (Distr → Skipped) → Skipped
any_skips (Asked.Secret d) skips = skips (secret d)
any_skips (Asked.Error d) skips = skips (error d)
any_skips Asked.Unknown skips = nothing

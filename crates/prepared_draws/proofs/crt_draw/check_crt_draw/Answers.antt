use Rattle.std.proofs.Common.{sym, ◌∙◌}
use Rattle.prepared_draws.proofs.Answers.{tried_method, tried_layout}
use Rattle.prepared_draws.proofs.crt_draw.check_crt_draw.Goals as goal

pub returns-then-not-is_served : goal.returns-then-not-is_served
returns-then-not-is_served c = tried_method _ _ _ _ _ _ (sym c.is_served.ensures ∙ c.if-not-is_served.true)

pub returns : goal.returns
returns c =
    tried_layout _ _ _ _ _ _ (sym c.is_served.ensures ∙ c.if-not-is_served.false) _ _ c.maximum_magnitude-largest.ensures c.check_crt.ensures

use Rattle.std.proofs.Common.{sym, ◌∙◌}
use Rattle.stats.proofs.Centering.{size_low, size-high, none_above, some-above}
use Rattle.stats.proofs.sums.size_of.Goals as goal

pub returns-then-above_half-eq0 : goal.returns-then-above_half-eq0
returns-then-above_half-eq0 c =
    let a = c.args in
    sym (size_low a.modulus a.residue (none_above a.modulus a.residue (sym c.above_half.ensures ∙ c.if-above_half-eq0.true)))

pub returns : goal.returns
returns c =
    let a = c.args in
    let above = some-above a.modulus a.residue (λ e. c.if-above_half-eq0.false (c.above_half.ensures ∙ e)) in
    sym (size-high a.modulus a.residue above c.requires.1)

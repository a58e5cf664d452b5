use Rattle.std.proofs.Common.{◌≡◌, ◌-◌, cond, eqb, get_or}
use borrow.Author.Tests.{eq-eqb, ne_eqb}
use lib.Ieee.{nan, round, of_bits}
use Rattle.distr.specs.Constants.{literal}
use Rattle.ziggurat.proofs.Passing.{layer_read}
use Rattle.ziggurat.proofs.layer.layer_at.Goals as goal
use Rattle.ziggurat.proofs.layer.layer_at.Goals.{then-i-eq1, else-i-eq1}

pub returns : goal.returns
unfolding round of_bits
returns c =
    let chord : c.if-i-eq1.top ≡ cond (eqb c.args.i 1) (literal 1 1) (get_or c.args.tables.heights.now (c.args.i - 1) nan) =
    elim c.if-i-eq1.branch [
      | then-i-eq1 w ↦ rw (eq-eqb c.args.i 1 w.if-i-eq1.true) w.top-is
      | else-i-eq1 w ↦ rw (ne_eqb c.args.i 1 w.if-i-eq1.false) w.top-is
    ] in
    search (layer_read, chord)

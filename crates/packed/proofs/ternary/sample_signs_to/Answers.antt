use Rattle.std.proofs.Common.{sym}
use Rattle.distr.specs.Packed.{sign_value}
use Rattle.packed.proofs.Pairing.{two_agree}
use Rattle.packed.proofs.ternary.sample_signs_to.Goals as goal

pub returns-clause-output_after : goal.returns-clause-output_after
returns-clause-output_after g c =
    let e = c.args.encoding in
    let held = g.met.T.Output.natural_held e in
    rw c.sign_words-words_needed.ensures at
    (c.draw.ensures.draws_by_table.draws (g.T.Output.held e) (g.T.Output.held_one e) sign_value (g.met.T.Output.held_each e) (sym (held 0))
    (two_agree _ c.bits-pairs.ensures _ (cc) (cc (held 1))))

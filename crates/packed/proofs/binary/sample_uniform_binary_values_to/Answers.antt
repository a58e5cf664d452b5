use Rattle.std.proofs.Common.{pos, sym}
use Rattle.packed.proofs.Pairing.{two_agree}
use Rattle.packed.proofs.binary.sample_uniform_binary_values_to.Goals as goal

pub returns-clause-output_after : goal.returns-clause-output_after
returns-clause-output_after g c =
    let e = c.args.encoding in
    let held = g.met.T.Output.natural_held e in
    rw c.binary_words-words_needed.ensures at
    (c.draw.ensures.draws_by_table.draws (g.T.Output.held e) (g.T.Output.held_one e) pos (g.met.T.Output.held_each e) (sym (held 0))
    (two_agree _ c.bits-pairs.ensures _ (cc (held 0)) (cc (held 1))))

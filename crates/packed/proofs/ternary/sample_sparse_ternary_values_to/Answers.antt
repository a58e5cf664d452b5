use Rattle.std.proofs.Common.{sym, arith}
use Rattle.distr.specs.Packed.{sparse_value}
use Rattle.packed.proofs.Pairing.{four_paired, four_agree}
use Rattle.packed.proofs.ternary.sample_sparse_ternary_values_to.Goals as goal

pub draw-requires : goal.draw-requires
draw-requires g c = (four_paired _ c.groups-pairs.ensures, omega arith)

pub returns-clause-output_after : goal.returns-clause-output_after
returns-clause-output_after g c =
    let e = c.args.encoding in
    let held = g.met.T.Output.natural_held e in
    rw c.sparse_words-words_needed.ensures at
    (c.draw.ensures.draws_by_table.draws (g.T.Output.held e) (g.T.Output.held_one e) sparse_value (g.met.T.Output.held_each e) (sym (held 0))
    (four_agree _ c.groups-pairs.ensures _ (cc (held 0)) (cc (held 0)) (cc (held 1)) (cc)))

use Rattle.std.proofs.Common.{refl, arith}
use Rattle.distr.proofs.Refusals.{refuses}
use Rattle.numbers.proofs.Refusing.{number_passed, rule-refused}
use Rattle.packed.proofs.Pairing.{three_paired, three_agree}
use Rattle.packed.proofs.Deciding.{trits_none, trits_lacking, trits_filled}
use Rattle.packed.proofs.ternary.draw_uniform_ternary.Goals as goal

pub returns-in-Err-clause-output_after : goal.returns-in-Err-clause-output_after
returns-in-Err-clause-output_after g c =
    rw c.refused.ensures (rule-refused _ _ _ _ _ c.in-Err.ensures _ (refuses _))

pub returns-then-n-eq0-clause-output_after : goal.returns-then-n-eq0-clause-output_after
returns-then-n-eq0-clause-output_after g c =
    let e = c.args.encoding in
    let held = g.T.Output in
    rw c.succeeded.ensures
    (trits_none (held.held e) (held.held_one e) (g.met.T.Output.held_each e) c.args.words.now c.args.place c.args.output.now c.in_default.ensures refl
    c.if-n-eq0.true)

pub invariant_of-tables : goal.invariant_of-tables
invariant_of-tables g c = record { tables = record { paired = three_paired _ c.trits-pairs.ensures; kept = c.trit_table-groups.ensures.value } }

pub fill_trits-requires : goal.fill_trits-requires
fill_trits-requires g c = (number_passed _ _ _ _ c.in_default.ensures refl).0

pub returns-in_default-fill_trits-clause-output_after : goal.returns-in_default-fill_trits-clause-output_after
returns-in_default-fill_trits-clause-output_after g c =
    let e = c.args.encoding in
    let held = g.T.Output in
    rw c.refused-in_default-fill_trits.ensures
    (trits_lacking (held.held e) (held.held_one e) (g.met.T.Output.held_each e) c.args.words.now c.args.place c.args.output.now c.in_default.ensures refl
    _ {out' = c.clear.new.output} c.in_default-fill_trits.ensures.place_in_bounds.1 (rw (g.met.T.Output.natural_held e 0, ← c.fill_trits.auto.output) c.clear.ensures))

pub overflow_add-n : goal.overflow_add-n
overflow_add-n g c = let passed = number_passed _ _ _ _ c.in_default.ensures refl in omega arith

pub returns-clause-output_after : goal.returns-clause-output_after
returns-clause-output_after g c =
    let e = c.args.encoding in
    let held = g.T.Output in
    let laws = g.met.T.Output in
    rw c.succeeded_after.ensures
    (trits_filled (held.held e) (held.held_one e) (laws.held_each e) c.args.words.now c.args.place c.args.output.now c.in_default.ensures refl _
    {out' = c.fill_trits.new.output} {at = c.in-Some.ended.place}
    (three_agree _ c.trits-pairs.ensures _ (cc) (cc (laws.natural_held e 0)) (cc (laws.natural_held e 1)))
    c.in-Some.ensures.place_in_bounds.0 c.in-Some.ensures.place_in_bounds.1)

use Rattle.std.proofs.Common.{not, rules, tests}
use lib.Ieee.{of_bits, round}
use Rattle.std.proofs.lemmas.Iterator.{YieldsList-from_slice}
use Rattle.std.proofs.lemmas.Iterator.Search.{position_from_yields_List}
use Rattle.distr.specs.Layered.{in_unit}
use Rattle.layer_tables.proofs.Searching.{first_value}
use Rattle.layer_tables.proofs.first_wrong.first_wrong_value.Goals as goal

pub returns : goal.returns
unfolding of_bits round
returns c =
    let at = position_from_yields_List (λ p. not (in_unit p)) _ _ c.position.result c.position.ensures.ran (YieldsList-from_slice c.args.curve.now cc) (λ x b q k. search (rules, tests)) in
    rw (first_value c.args.curve.now) at at

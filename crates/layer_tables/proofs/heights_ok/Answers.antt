use Rattle.std.proofs.Common.{◌+◌, length, arith}
use borrow.Author.Tests.{eq-eqb}
use lib.Ieee.{nan, round, of_bits}
use Rattle.distr.specs.Constants.{literal}
use Rattle.distr.proofs.FirstWrong.{get_d_there}
use Rattle.layer_tables.proofs.heights_ok.Goals as goal

pub returns : goal.returns
unfolding round of_bits
returns c =
    let hs = c.args.heights.now in
    rw (
      c.all_finite.ensures,
      c.falls.ensures,
      eq-eqb (length hs) (c.args.layers + 1) (omega arith),
      get_d_there hs 0 (literal 0 1) nan (omega arith),
      get_d_there hs c.args.layers (literal 1 1) nan (omega arith),
    )

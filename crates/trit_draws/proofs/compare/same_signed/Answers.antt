-- `==` of slices of signed values decides whether they are the same list.
use Rattle.std.proofs.lemmas.Bool.Decides.{Decides-int_eq}
use Rattle.std.proofs.lemmas.Slice.Eq.{slice_eq-Decides}
use Rattle.trit_draws.proofs.compare.same_signed.Goals as goal

pub returns : goal.returns
returns c = slice_eq-Decides Decides-int_eq c.args.one.now c.args.other.now c.eq.result c.eq.ensures

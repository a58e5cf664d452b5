use Rattle.stats.proofs.Carrying.{scaled-is}
use Rattle.stats.proofs.wide.scaled.Goals as goal

pub returns : goal.returns
returns c = scaled-is c.args.x c.args.factor c.args.rest c.requires

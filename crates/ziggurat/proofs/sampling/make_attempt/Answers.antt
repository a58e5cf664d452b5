use Rattle.std.proofs.Common.{arith}
use Rattle.ziggurat.specs.Sampling.{unjudged}
use Rattle.ziggurat.proofs.sampling.make_attempt.Goals as goal

pub returns-then-words-next : goal.returns-then-words-next
returns-then-words-next c =
    let proposes = c.in_ok-trial.ensures in
    unjudged _ proposes (cc) (omega (arith, proposes.sound.2))

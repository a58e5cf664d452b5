use Rattle.std.proofs.Common.{◌≡◌, true, false, ◌&&◌, refl}
use lib.Ieee.{Float, nan, inf, fin, div, of_bits, neg, lt}
use lib.Ieee.Scale.{finite}
use Rattle.probability.proofs.is_finite.Goals as goal

-- just the numbers lie between the two infinities
between : (x : Float) → (lt x (inf false) && lt (inf true) x) ≡ finite x
unfolding lt
between nan = refl
between (inf true) = refl
between (inf false) = refl
between (fin s m e) = refl

pub returns : goal.returns
unfolding div of_bits neg
returns c = between c.args.x

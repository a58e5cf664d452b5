-- The first i coefficients are written.
use Rattle.std.proofs.Common.{◌≡◌, length}
use Rattle.distr.specs.SamplePolyCbd.{coefficient_of}
use Rattle.distr.proofs.Tabulating.{tabulated}
use Rattle.poly_cbd.proofs.fill.Given as goal

abbrev pub invariant-loop-i : goal.invariant-loop-i
invariant-loop-i l = (length l.output ≡ 256) × (l.output ≡ tabulated (coefficient_of l.eta l.bytes) 256 l.i l.fn.output)

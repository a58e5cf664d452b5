-- The first coefficients are residues, the others as they were.
use Rattle.std.proofs.Common.{◌≡◌, map, pos, ℤ}
use Rattle.distr.specs.Encoding.{encode}
use Rattle.distr.proofs.Writing.{written}
use Rattle.sheet_request.proofs.residues.encode_all.Given as goal

abbrev pub invariant-loop-element : goal.invariant-loop-element
invariant-loop-element l = l.output ≡ written (map (λ (c : ℤ). pos (encode l.modulus c)) l.fn.output) l.element-index l.fn.output

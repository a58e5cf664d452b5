-- The rows of the moduli so far are made, and the next one starts at `at`.
use Rattle.std.proofs.Common.{◌≡◌, ◌*◌, ◌^◌, length}
use Rattle.crt.proofs.Spreading.{Spread}
use Rattle.crt.proofs.spread_rows.Given as goal

abbrev pub invariant-loop-modulus : goal.invariant-loop-modulus
invariant-loop-modulus l =
    (length l.output ≡ l.n) × (l.at ≡ l.modulus-index * l.coefficient_count)
    × (shape : length l.fn.output ≡ l.coefficient_count * length l.moduli)
    × Spread (2 ^ 63) l.fn.output l.coefficient_count l.moduli shape l.modulus-index l.output

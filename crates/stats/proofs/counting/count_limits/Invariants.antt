-- The counts of the first i limits are written.
use Rattle.std.proofs.Common.{◌≡◌, length}
use Rattle.stats.specs.Centered.{centered_all, how_many_within}
use Rattle.stats.proofs.Within.{Listed}
use Rattle.stats.proofs.counting.count_limits.Given as goal

abbrev pub invariant-loop-i : goal.invariant-loop-i
invariant-loop-i l =
    (length l.counts ≡ length l.limits) × (same : length l.fn.counts ≡ length l.limits)
    × Listed (λ limit. how_many_within limit (centered_all l.modulus l.residues)) l.limits l.fn.counts same l.i l.counts

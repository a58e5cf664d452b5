-- `coefficient` takes the two sums apart and gives their difference modulo q.
use lib.Pow.{pow_pos}
use native.Mathlib.Omega.{arith}
use Rattle.poly_cbd.proofs.Bits.{small, mask_fits, Apart, apart, modulo-pos, modulo-neg}
use Rattle.poly_cbd.proofs.coefficient.coefficient.Goals as goal
use Rattle.poly_cbd.proofs.coefficient.coefficient.Goals.{After-both_sums-sums}

-- the sums, taken apart
taken_apart : (c : After-both_sums-sums) → Apart c.args.eta c.args.bytes.now c.args.i c.both_sums-sums.result
taken_apart c = apart _ _ _ _ _ c.requires.0.0 c.bits_at.ensures c.both_sums-sums.ensures

pub both_sums-sums-requires : goal.both_sums-sums-requires
both_sums-sums-requires c = (small _ c.requires.0.0).1

pub overflow_shl-x : goal.overflow_shl-x
overflow_shl-x c = omega (arith, small _ c.requires.0.0)

pub overflow_sub-x : goal.overflow_sub-x
overflow_sub-x c = omega (arith, pow_pos c.args.eta, mask_fits _ (small _ c.requires.0.0).1)

pub overflow_cast-x : goal.overflow_cast-x
overflow_cast-x c = let s = taken_apart (goal.at.overflow_cast-x c).After-both_sums-sums in omega (arith, s.x, s.x-small)

pub overflow_shr-y : goal.overflow_shr-y
overflow_shr-y c = omega (arith, small _ c.requires.0.0)

pub overflow_cast-y : goal.overflow_cast-y
overflow_cast-y c = let s = taken_apart (goal.at.overflow_cast-y c).After-both_sums-sums in omega (arith, s.y, s.y-small)

pub overflow_add-result : goal.overflow_add-result
overflow_add-result c = let s = taken_apart (goal.at.overflow_add-result c).After-both_sums-sums in omega (arith, s.x, s.x-small)

pub overflow_sub-result : goal.overflow_sub-result
overflow_sub-result c = let s = taken_apart (goal.at.overflow_sub-result c).After-both_sums-sums in omega (arith, s.y, s.y-small)

pub returns-then-x-y : goal.returns-then-x-y
returns-then-x-y c =
    let s = taken_apart (goal.at.returns-then-x-y c).After-both_sums-sums in
    rw (s.x, s.y) (modulo-neg 3329 _ _ (rw (s.x, s.y) at c.if-x-y.true) (omega (arith, s.y-small)))

pub returns-else-x-y : goal.returns-else-x-y
returns-else-x-y c =
    let s = taken_apart (goal.at.returns-else-x-y c).After-both_sums-sums in
    rw (s.x, s.y) (modulo-pos 3329 _ _ (rw (s.x, s.y) at c.if-x-y.false) (omega (arith, s.x-small)))

-- The sampler of two thresholds, and that it draws by the rule of the two thresholds.
use mathlib.Core.Path.{◌≡◌, refl, sym, ap}
use mathlib.Core.Bool.{Bool, true, false, not, cond, ◌&&◌, and-eq-true_iff, true≢false}
use Prim.Native.Nat.{ℕ, ◌+◌, ◌-◌, ◌^◌, ◌<◌, ◌≤◌}
use native.Mathlib.Omega.{arith}
use lib.Dec.{eqb}
use lib.IntN.{pos}
use borrow.Author.Tests.{eqb-true, eqb-false, eq-eqb, ne_eqb, not-true}
use Rattle.distr.specs.declared.threshold.Threshold.{Threshold}
use Rattle.distr.specs.Rule.{constant, wide_words}
use Rattle.distr.specs.Packed.{minus_one}
use Rattle.distr.specs.Thresholds.{nonzero_end, ternary_value, ternary}
use Rattle.ternary.specs.declared.ternary.TernaryValue.TheVariants.{MinusOne, Zero, One}
use Rattle.ternary.specs.declared.ternary.TernaryEnds.TheVariants.{Constant, Nonzero, General}
use Rattle.words.specs.Reading.{threshold_value}
use Rattle.ternary.specs.Sampler.{sampler_of, sampler_rule}

-- the end of the nonzero words is 0
abbrev nothing : Threshold → Threshold → Bool
nothing n p = not p.full && eqb n.below 0 && eqb p.below 0

nothing-true : (n p : Threshold) → nothing n p ≡ true → (p.full ≡ false) × (n.below ≡ 0) × (p.below ≡ 0)
nothing-true n p e =
    let both = (and-eq-true_iff (not p.full && eqb n.below 0) (eqb p.below 0)).0 e in
    let first = (and-eq-true_iff (not p.full) (eqb n.below 0)).0 both.0 in
    (not-true p.full first.0, eqb-true n.below 0 first.1, eqb-true p.below 0 both.1)

nothing_false : (n p : Threshold) → p.full ≡ false → nothing n p ≡ false → 0 < n.below + p.below
nothing_false n p f e = go (eqb n.below 0) (eqb p.below 0) refl refl (rw f at e)
  where
    go : (a b : Bool) → eqb n.below 0 ≡ a → eqb p.below 0 ≡ b → (a && b) ≡ false → 0 < n.below + p.below
    go true true s t q = absurd (true≢false q)
    go true false s t q = omega (arith, eqb-false p.below 0 t)
    go false b s t q = omega (arith, eqb-false n.below 0 s)

-- where the threshold of -1 is not full: the sampler in each case of the other
module _ (n p : Threshold) (part : n.full ≡ false) where
  pub made-zero : nothing n p ≡ true → Constant Zero ≡ sampler_of (threshold_value n) (threshold_value p)
  unfolding sampler_of
  made-zero e = let h = nothing-true n p e in rw (part, h.0, h.1, h.2)

  pub made_one : n.below < 2 ^ 64 → p.full ≡ true → Constant One ≡ sampler_of (threshold_value n) (threshold_value p)
  unfolding sampler_of
  made_one h f = rw (part, f, ne_eqb n.below (2 ^ 64) (λ e. omega arith), ne_eqb (nonzero_end n.below (2 ^ 64)) 0 (λ e. omega arith))

  pub made_nonzero : n.below < 2 ^ 64 → p.below < 2 ^ 64 → p.full ≡ false → 2 ^ 64 - 1 - n.below < p.below
      → Nonzero n.below ≡ sampler_of (threshold_value n) (threshold_value p)
  unfolding sampler_of
  made_nonzero h k f l =
      rw (
        part,
        f,
        ne_eqb n.below (2 ^ 64) (λ e. omega arith),
        ne_eqb (nonzero_end n.below p.below) 0 (λ e. omega arith),
        ne_eqb p.below (2 ^ 64) (λ e. omega arith),
        eq-eqb (nonzero_end n.below p.below) (2 ^ 64) (omega arith),
      )

  pub made_general : n.below < 2 ^ 64 → p.full ≡ false → nothing n p ≡ false → p.below ≤ 2 ^ 64 - 1 - n.below
      → General n.below (n.below + p.below) ≡ sampler_of (threshold_value n) (threshold_value p)
  unfolding sampler_of
  made_general h f e l =
      let some : 0 < n.below + p.below = nothing_false n p f e in
      let end : nonzero_end n.below p.below ≡ n.below + p.below = omega arith in
      rw (
        part,
        f,
        ne_eqb n.below (2 ^ 64) (λ e. omega arith),
        ne_eqb (nonzero_end n.below p.below) 0 (λ e. omega arith),
        ne_eqb p.below (2 ^ 64) (λ e. omega arith),
        ne_eqb (nonzero_end n.below p.below) (2 ^ 64) (λ e. omega arith),
      )
      (ap (General n.below) (sym end))

-- the sampler of two thresholds draws by their rule
pub sampler_rule_lem : (N P n : ℕ) → sampler_rule (sampler_of N P) n ≡ ternary N P n
unfolding sampler_of sampler_rule
sampler_rule_lem N P n = go (eqb N (2 ^ 64)) (eqb E 0) (eqb P (2 ^ 64)) (eqb E (2 ^ 64)) refl
  where
    E : ℕ
    E = nonzero_end N P

    values : (end : ℕ) → end ≡ E → wide_words n (ternary_value N end) ≡ wide_words n (ternary_value N E)
    values end e = ap (λ (k : ℕ). wide_words n (ternary_value N k)) e

    go : (a b c d : Bool) → eqb E (2 ^ 64) ≡ d
        → sampler_rule (cond a (Constant MinusOne) (cond b (Constant Zero) (cond c (Constant One) (cond d (Nonzero N) (General N E))))) n
        ≡ cond a (constant minus_one n) (cond b (constant (pos 0) n) (cond c (constant (pos 1) n) (wide_words n (ternary_value N E))))
    go true b c d q = refl
    go false true c d q = refl
    go false false true d q = refl
    go false false false true q = values (2 ^ 64) (sym (eqb-true E (2 ^ 64) q))
    go false false false false q = values E refl

-- `Binary` and `Ternary`: probabilities as thresholds of 64-bit words.
use Rattle.std.specs.Prelude.{ℕ, ◌+◌, ◌*◌, ◌/◌, ◌^◌, min, cond, ltb, eqb, ℤ, pos, Float}
use Rattle.std.specs.Float.Ieee.Positive.{num, den}
use Rattle.distr.specs.Rule.{Rule, constant, wide_words}
use Rattle.distr.specs.Packed.{minus_one}

-- "A probability p has the threshold ⌊p × 2^64⌋", of the exact value of the f64, the fraction num / den. That fraction knows no sign and
-- no NaN: a negative or a missing number is refused by 1 (a probability) or 2 (a deviation) before it is asked for.
abbrev pub threshold : Float → ℕ
threshold p = num p * 2 ^ 64 / den p

-- "Yes is a 64-bit word below it."
abbrev pub binary_value : ℕ → ℕ → ℤ
binary_value t w = cond (ltb w t) (pos 1) (pos 0)

-- "`Binary`, threshold t"; "threshold 2^64 says yes without reading".
abbrev pub binary : ℕ → ℕ → Rule
binary t n = cond (eqb t (2 ^ 64)) (constant (pos 1) n) (wide_words n (binary_value t))

-- "N and P are the thresholds, E = min(N+P, 2^64)."
abbrev pub nonzero_end : ℕ → ℕ → ℕ
nonzero_end N P = min (N + P) (2 ^ 64)

-- "A 64-bit word below N is −1, below E is 1, else 0."
abbrev pub ternary_value : ℕ → ℕ → ℕ → ℤ
ternary_value N E w = cond (ltb w N) minus_one (cond (ltb w E) (pos 1) (pos 0))

-- "N = 2^64, E = 0, P = 2^64 are tried in this order and give a constant without reading."
abbrev pub ternary : ℕ → ℕ → ℕ → Rule
ternary N P n =
    cond (eqb N (2 ^ 64)) (constant minus_one n)
    (cond (eqb (nonzero_end N P) 0) (constant (pos 0) n)
    (cond (eqb P (2 ^ 64)) (constant (pos 1) n)
    (wide_words n (ternary_value N (nonzero_end N P)))))

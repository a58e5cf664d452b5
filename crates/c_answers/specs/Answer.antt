-- When an answer is the stored one.
use Rattle.std.specs.Prelude.{ℕ, zero, suc, Bool, true, false, cond, ◌&&◌, List, [], ◌∷◌, length, ◌==◌, nat_eq, slice_index}

-- What each element of an output holds before the call. No coefficient is so large.
abbrev pub held : ℕ
held = 9999

-- Whether g holds of every number below n.
unfoldable pub all_below : ℕ → (ℕ → Bool) → Bool
all_below zero g = true
all_below (suc n) g = all_below n g && g n

-- What element i of the output must be: for number 0 the stored coefficient, after a refusal what it held.
unfoldable pub expected : List ℕ → ℕ → ℕ → ℕ
expected coefficients number i = cond (number == 0) (slice_index coefficients i) held

-- Whether what is stored, a number and then coefficients, is this answer: the same number, after it as many coefficients as the output has elements
-- or, where the number is not 0, none, and every element of the output as it must be.
unfoldable pub agreeing : List ℕ → ℕ → List ℕ → Bool
agreeing [] number output = false
agreeing (n ∷ coefficients) number output =
    (n == number && length coefficients == cond (number == 0) (length output) 0)
    && all_below (length output) (λ i. nat_eq (slice_index output i) (expected coefficients number i))

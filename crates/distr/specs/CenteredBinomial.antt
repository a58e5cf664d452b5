-- The centered binomial, from FIPS 203, Algorithm 8 (SamplePolyCBD), with eta 1..32 and the bits of a 64-bit word, lowest first.
use Rattle.std.specs.Prelude.{ℕ, ◌+◌, List, [], ◌∷◌, take, drop, ℤ, pos, ◌-ℤ◌}
use Rattle.distr.specs.Rule.{Rule, wide_words}
use Rattle.distr.specs.Packed.{digits}

unfoldable pub total : List ℕ → ℕ
total [] = 0
total (x ∷ xs) = x + total xs

-- b, the bit array of the word.
abbrev pub bits : ℕ → List ℕ
bits w = digits 2 64 w

-- "Ones of the low eta bits": the standard's x, the sum of its bits 0 to eta − 1.
abbrev pub first_sum : ℕ → ℕ → ℕ
first_sum eta w = total (take eta (bits w))

-- "Ones of the next eta bits": the standard's y, the sum of its bits eta to 2 eta − 1.
abbrev pub second_sum : ℕ → ℕ → ℕ
second_sum eta w = total (take eta (drop eta (bits w)))

-- The first sum "minus" the second, kept as a signed number.
abbrev pub binomial_value : ℕ → ℕ → ℤ
binomial_value eta w = pos (first_sum eta w) -ℤ pos (second_sum eta w)

abbrev pub centered_binomial : ℕ → ℕ → Rule
centered_binomial eta n = wide_words n (binomial_value eta)

-- What the inner functions of the byte form compute: the bits of one coefficient, and its two sums in one number.
use Rattle.std.specs.Prelude.{ℕ, ◌+◌, ◌*◌, ◌/◌, ◌%◌, ◌^◌, ◌<◌, ◌≡◌, ◌⊎◌, List}
use Rattle.distr.specs.SamplePolyCbd.{bit_of, sum_to}

-- What is left once 27 and 28 do not refuse: eta is 2 or 3, and there are 64 × eta bytes.
abbrev pub GoodBytes : ℕ → ℕ → Type 0
GoodBytes eta byte_length = ((eta ≡ 2) ⊎ (eta ≡ 3)) × (byte_length ≡ 64 * eta)

-- The bits of coefficient i, the lowest first: bit j of the number is b[2*i*eta + j].
abbrev pub HoldsBits : ℕ → List ℕ → ℕ → ℕ → Type 0
HoldsBits eta B i bits = (j : ℕ) → j < 2 * eta → bits / 2 ^ j % 2 ≡ bit_of B (2 * i * eta + j)

-- The sum of the first eta bits, and 2^eta times that of the next.
abbrev pub both_sums : ℕ → ℕ → ℕ
both_sums eta bits = sum_to eta (λ j. bits / 2 ^ j % 2) + sum_to eta (λ j. bits / 2 ^ (eta + j) % 2) * 2 ^ eta

-- Numbers in halves: a product with a part of 2^64, and how large the high half is.
use Rattle.std.proofs.Common.{◌≡◌, ℕ, ◌+◌, ◌*◌, ◌/◌, ◌%◌, ◌^◌, ◌<◌, sym, ap, ◌∙◌, le-add_right, lt_of_le_of_lt, mul_assoc, mul_comm, add-mul, lt_of_mul-lt-mul_right, div-add-mod'}
use Rattle.stats.specs.Exact.{joined}

-- x × factor, where factor × rest is 2^64
module _ (x factor rest : ℕ) (whole : factor * rest ≡ 2 ^ 64) where
  pub scaled-is : joined (x / rest) (x % rest * factor) ≡ x * factor
  scaled-is =
      ap (λ (n : ℕ). x / rest * n + x % rest * factor) (sym whole ∙ mul_comm factor rest)
      ∙ ap (λ (n : ℕ). n + x % rest * factor) (sym (mul_assoc (x / rest) rest factor))
      ∙ sym (add-mul (x / rest * rest) (x % rest) factor)
      ∙ ap (λ (n : ℕ). n * factor) (div-add-mod' x rest)

-- a number below n × 2^64 has a high half below n
pub high-few : (h l n : ℕ) → joined h l < n * 2 ^ 64 → h < n
high-few h l n k = lt_of_mul-lt-mul_right (2 ^ 64) (lt_of_le_of_lt (le-add_right (h * 2 ^ 64) l) k)

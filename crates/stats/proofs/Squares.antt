-- Squares by the two parts of a magnitude, 2^26 × upper + lower.
use Rattle.std.proofs.Common.{◌≡◌, ℕ, ◌+◌, ◌*◌, ◌/◌, ◌%◌, ◌^◌, List, [], ◌∷◌, sym, refl, ap, ◌∙◌, mul_comm, add-mul, div-add-mod', mul-add, mul_right_comm, arith}
use native.Mathlib.Nat.{mul-mul-mul_comm}
use Rattle.stats.specs.Sums.{total, size_of, residue_sums, block_sums, squares_from}

-- (u × k + l)²
square_sum : (u k l : ℕ) → (u * k + l) * (u * k + l) ≡ u * u * (k * k) + (u * l * k + u * l * k) + l * l
square_sum u k l =
    add-mul (u * k) l (u * k + l)
    ∙ ap (λ z. z + l * (u * k + l)) (mul-add (u * k) (u * k) l ∙ ap (λ z. z + u * k * l) (mul-mul-mul_comm u k u k))
    ∙ ap (λ z. u * u * (k * k) + u * k * l + z) (mul-add l (u * k) l ∙ ap (λ z. z + l * l) (mul_comm l (u * k)))
    ∙ rw (mul_right_comm u k l) (omega arith)

-- the square of any number
pub square_parts : (m : ℕ) → m * m ≡ m / 2 ^ 26 * (m / 2 ^ 26) * 2 ^ 52 + m / 2 ^ 26 * (m % 2 ^ 26) * 2 ^ 27 + m % 2 ^ 26 * (m % 2 ^ 26)
square_parts m =
    let parts : m ≡ m / 2 ^ 26 * 2 ^ 26 + m % 2 ^ 26 = sym (div-add-mod' m (2 ^ 26)) in
    ap (λ (n : ℕ). n * n) parts ∙ square_sum (m / 2 ^ 26) (2 ^ 26) (m % 2 ^ 26) ∙ omega arith

-- the sum of the squares out of the sums of products
pub squares_from_lem : (modulus : ℕ) (rs : List ℕ) → total (λ r. size_of modulus r * size_of modulus r) rs ≡ squares_from (block_sums modulus rs)
unfolding total residue_sums block_sums
squares_from_lem modulus [] = refl
squares_from_lem modulus (r ∷ rs) = omega (arith, square_parts (size_of modulus r), squares_from_lem modulus rs)

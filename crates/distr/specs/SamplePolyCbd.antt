-- 02 [3]: "Algorithm 8, SamplePolyCBD, for eta 2 and 3: 64 × eta bytes give 256 coefficients modulo 3329, bits taken lowest first within each byte."
-- From FIPS 203, section 4.2.2, in its order and by its indices: B is the byte array, b its bits, f the polynomial.
use Rattle.std.specs.Prelude.{ℕ, zero, suc, ◌+◌, ◌*◌, ◌-◌, ◌/◌, ◌%◌, ◌^◌, not, cond, ◌||◌, List, [], ◌∷◌, ◌++◌, eqb, length, get_or, ℤ, pos, negsuc, ◌-ℤ◌}
use Rattle.distr.specs.Constants.{invalid_cbd_eta, invalid_cbd_length, cbd_modulus, cbd_coefficients}
use Rattle.distr.specs.Making.{refuse}
use Rattle.distr.specs.Numbers.{first_of}

-- b: "bit 8*i + j of b is bit j of byte i". So bit k is bit k % 8 of byte k / 8, the lowest being bit 0.
abbrev pub bit_of : List ℕ → ℕ → ℕ
bit_of B k = get_or B (k / 8) 0 / 2 ^ (k % 8) % 2

-- The sum of g j for j from 0 to n − 1.
unfoldable pub sum_to : ℕ → (ℕ → ℕ) → ℕ
sum_to zero g = 0
sum_to (suc n) g = sum_to n g + g n

-- "x is the sum of b[2*i*eta + j] for j from 0 to eta-1."
abbrev pub first_bits : ℕ → List ℕ → ℕ → ℕ
first_bits eta B i = sum_to eta (λ j. bit_of B (2 * i * eta + j))

-- "y is the sum of b[2*i*eta + eta + j] for j from 0 to eta-1."
abbrev pub second_bits : ℕ → List ℕ → ℕ → ℕ
second_bits eta B i = sum_to eta (λ j. bit_of B (2 * i * eta + eta + j))

-- An integer modulo q: the number from 0 to q − 1 that differs from it by a multiple of q.
abbrev pub modulo : ℕ → ℤ → ℕ
modulo q (pos m) = m % q
modulo q (negsuc m) = q - suc (m % q)

-- "f[i] is x - y modulo q."
abbrev pub coefficient_of : ℕ → List ℕ → ℕ → ℕ
coefficient_of eta B i = modulo cbd_modulus (pos (first_bits eta B i) -ℤ pos (second_bits eta B i))

-- The list of g 0, g 1, … to g (n − 1).
unfoldable pub tabulate : {A : Type 0} → ℕ → (ℕ → A) → List A
tabulate zero g = []
tabulate (suc n) g = tabulate n g ++ (g n ∷ [])

-- f: "for i from 0 to 255, in this order".
unfoldable pub polynomial_of : ℕ → List ℕ → List ℕ
polynomial_of eta B = tabulate cbd_coefficients (coefficient_of eta B)

-- "It refuses with 27 an eta other than 2 and 3."
abbrev pub cbd_eta_number : ℕ → ℕ
cbd_eta_number eta = refuse (not (eqb eta 2 || eqb eta 3)) invalid_cbd_eta

-- "Then with 28 a byte length other than 64 × eta or an output length other than 256."
abbrev pub cbd_length_number : ℕ → ℕ → ℕ → ℕ
cbd_length_number eta byte_length output_length = refuse (not (eqb byte_length (64 * eta)) || not (eqb output_length cbd_coefficients)) invalid_cbd_length

unfoldable pub cbd_number : ℕ → ℕ → ℕ → ℕ
cbd_number eta byte_length output_length = first_of (cbd_eta_number eta ∷ cbd_length_number eta byte_length output_length ∷ [])

-- The number of a call, and what its output holds then: the polynomial, or after a refusal what it held ("nothing is written then").
unfoldable pub sample_poly_cbd : ℕ → List ℕ → List ℕ → ℕ × List ℕ
sample_poly_cbd eta B out =
    let number = cbd_number eta (length B) (length out) in
    (number, cond (eqb number 0) (polynomial_of eta B) out)

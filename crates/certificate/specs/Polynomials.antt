-- 02 [3], counted: which byte strings reach a polynomial, and how many they are. The record `Certificate` claims it for eta 2 and 3.
use Rattle.std.specs.Prelude.{ℕ, ◌*◌, ◌≡◌, List, map, T, length, ℤ}
use Rattle.distr.specs.Constants.{cbd_coefficients, cbd_modulus}
use Rattle.distr.specs.Encoding.{encode}
use Rattle.distr.specs.SamplePolyCbd.{sample_poly_cbd}
use Rattle.counts.specs.DrawLists.{Exactly, byte_string}
use Rattle.counts.specs.Inside.{inside_polynomial}
use Rattle.counts.specs.Formula.{polynomial_formula}

-- What a call of `sample_poly_cbd` does: its number, and what its output holds then. The contract says this (CallPromises: `CbdCall`).
abbrev pub MeetsCbd : ℕ → List ℕ → List ℕ → ℕ → List ℕ → Type 0
MeetsCbd eta B out number written = (number, written) ≡ sample_poly_cbd eta B out

-- A byte string B reaches the polynomial f: it has 64 × eta bytes, and every call on it, into any output of 256 coefficients, answers 0 and writes f.
pub record ReachesPolynomial (eta : ℕ) (f B : List ℕ) : Type 0 where
  pub is_string : T (byte_string (64 * eta) B)
  pub every_call : (out : List ℕ) (number : ℕ) (written : List ℕ)
      → length out ≡ cbd_coefficients → MeetsCbd eta B out number written → (number ≡ 0) × (written ≡ f)

-- The claim for one eta.
pub record PolynomialsCounted (eta : ℕ) : Type 0 where
  -- "A polynomial with centered coefficients v is reached by the product of C(2eta, eta+v) byte strings."
  pub exactly : (vs : List ℤ) → T (inside_polynomial eta vs)
      → Exactly (List ℕ) (polynomial_formula eta vs) (ReachesPolynomial eta (map (encode cbd_modulus) vs))
  -- And a list that is no such polynomial is reached by none.
  pub none_else : (f : List ℕ) → ((vs : List ℤ) → T (inside_polynomial eta vs) → f ≡ map (encode cbd_modulus) vs → ⊥)
      → Exactly (List ℕ) 0 (ReachesPolynomial eta f)

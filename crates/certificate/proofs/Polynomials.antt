-- The count of byte strings, for the calls that keep the contract.
use Prim.Native.Nat.{ℕ, ◌*◌, ◌<◌}
use mathlib.Core.Path.{◌≡◌, sym, ap, ◌∙◌}
use mathlib.Core.Logic.{◌⊎◌, inl, inr, ⊎_elim}
use mathlib.Core.List.{List, map}
use native.Mathlib.Omega.{arith}
use borrow.Author.Tests.{eq-eqb, ne_eqb}
use lib.Dec.{T}
use lib.ListN.{length, replicate, length-replicate}
use Rattle.distr.specs.Constants.{cbd_coefficients, cbd_modulus}
use Rattle.distr.specs.Encoding.{encode}
use Rattle.distr.specs.Numbers.{first_of}
use Rattle.distr.specs.SamplePolyCbd.{cbd_number, polynomial_of, sample_poly_cbd}
use Rattle.counts.specs.DrawLists.{byte_string}
use Rattle.counts.proofs.Exact.{exactly_as, exactly_none}
use Rattle.counts.proofs.Packed.{box_length}
use Rattle.counts.proofs.Polynomials.{polynomials-exactly, polynomials-inside}
use Rattle.certificate.specs.Polynomials.{ReachesPolynomial, PolynomialsCounted}

-- a call that is not refused
drawn : (eta : ℕ) (B out : List ℕ) → (eta ≡ 2) ⊎ (eta ≡ 3) → length B ≡ 64 * eta → length out ≡ cbd_coefficients
    → sample_poly_cbd eta B out ≡ (0, polynomial_of eta B)
unfolding sample_poly_cbd cbd_number first_of
drawn eta B out (inl two) size room =
    rw (eq-eqb eta 2 two, eq-eqb (length B) (64 * eta) size, eq-eqb (length out) cbd_coefficients room)
drawn eta B out (inr three) size room =
    rw (ne_eqb eta 2 (λ two. absurd (omega arith)), eq-eqb eta 3 three, eq-eqb (length B) (64 * eta) size, eq-eqb (length out) cbd_coefficients room)

module _ (eta : ℕ) (good : (eta ≡ 2) ⊎ (eta ≡ 3)) where
  few : 2 * eta < cbd_modulus
  few = ⊎_elim (λ e. omega arith) (λ e. omega arith) good

  string_length : (B : List ℕ) → T (byte_string (64 * eta) B) → length B ≡ 64 * eta
  string_length B t = box_length (replicate (64 * eta) 256) B t ∙ length-replicate (64 * eta) 256

  -- a byte string reaches its polynomial
  reaches : (f B : List ℕ) → T (byte_string (64 * eta) B) × (polynomial_of eta B ≡ f) → ReachesPolynomial eta f B
  reaches f B p = record {
    is_string = p.0;
    every_call = λ out number written room meets.
        let done : ◌≡◌ {A = ℕ × List ℕ} (number, written) (0, polynomial_of eta B) = meets ∙ drawn eta B out good (string_length B p.0) room in
        (ap (λ o. o.0) done, ap (λ o. o.1) done ∙ p.1);
  }

  -- and no other
  reached : (f B : List ℕ) → ReachesPolynomial eta f B → T (byte_string (64 * eta) B) × (polynomial_of eta B ≡ f)
  reached f B r =
      let out : List ℕ = replicate cbd_coefficients 0 in
      let room : length out ≡ cbd_coefficients = length-replicate {0} {A = ℕ} cbd_coefficients 0 in
      let call = r.every_call out 0 (polynomial_of eta B) room (sym (drawn eta B out good (string_length B r.is_string) room)) in
      (r.is_string, call.1)

  pub polynomials-counted : PolynomialsCounted eta
  polynomials-counted = record {
    exactly = λ vs inside.
        let f = map (encode cbd_modulus) vs in
        exactly_as (polynomials-exactly eta few vs inside) (reaches f) (reached f);
    none_else = λ f other. exactly_none (ReachesPolynomial eta f) (λ B r.
        let inside = polynomials-inside eta few B r.is_string in
        other inside.0 inside.1 (sym (reached f B r).1 ∙ inside.2));
  }

-- The numbers of the moduli, one modulus after the other: what the first i leave is what decides.
use Rattle.std.proofs.Common.{◌≡◌, ℕ, zero, suc, ◌+◌, ◌<◌, ◌≤◌, eqb, leb, List, [], ◌∷◌, length, get_or, drop, ◌∙◌, le_of_suc-le-suc, not-suc-le-zero, add-one, drop_of_length-le, drop-cons, eq-eqb, ne_eqb, le-leb, leb-false}
use borrow.Author.Tests.{lt-leb}
use Rattle.distr.specs.Making.{refuse}
use Rattle.distr.specs.Numbers.{first_of, modulus_number, moduli_numbers}
use Rattle.distr.proofs.Drawing.{first-passed, not-refused}

module _ (most : ℕ) (moduli : List ℕ) where
  -- the first i moduli are passed
  pub record Passed (i : ℕ) : Type 0 where
    pub decides : first_of (moduli_numbers most moduli) ≡ first_of (moduli_numbers most (drop i moduli))

  -- 10
  pub passed-zero : {i : ℕ} → Passed i → i < length moduli → get_or moduli i 0 ≡ 0 → first_of (moduli_numbers most moduli) ≡ 10
  unfolding first_of moduli_numbers
  passed-zero {i} p h e = p.decides ∙ rw (drop-cons moduli i 0 h, eq-eqb (get_or moduli i 0) 0 e)

  -- 9
  pub passed-small : {i : ℕ} → Passed i → i < length moduli → (get_or moduli i 0 ≡ 0 → ⊥) → get_or moduli i 0 ≤ most → first_of (moduli_numbers most moduli) ≡ 9
  unfolding first_of moduli_numbers
  passed-small {i} p h e k =
      p.decides ∙ rw (drop-cons moduli i 0 h, ne_eqb (get_or moduli i 0) 0 e, le-leb (get_or moduli i 0) most k)

  pub passed_more : {i : ℕ} → Passed i → i < length moduli → (get_or moduli i 0 ≡ 0 → ⊥) → most < get_or moduli i 0 → Passed (i + 1)
  unfolding first_of moduli_numbers
  passed_more {i} p h e k =
      record {
        decides =
            p.decides ∙ rw (drop-cons moduli i 0 h, ne_eqb (get_or moduli i 0) 0 e, lt-leb (get_or moduli i 0) most k, add-one i);
      }

  pub passed-all : {i : ℕ} → Passed i → length moduli ≤ i → first_of (moduli_numbers most moduli) ≡ 0
  unfolding first_of moduli_numbers
  passed-all {i} p h = p.decides ∙ rw (drop_of_length-le moduli {i = i} h)

-- moduli that no number refuses are above the largest magnitude
above-first : (most modulus : ℕ) (moduli : List ℕ) → first_of (moduli_numbers most (modulus ∷ moduli)) ≡ 0
    → (most < modulus) × (first_of (moduli_numbers most moduli) ≡ 0)
unfolding moduli_numbers
above-first most modulus moduli e =
    let later = first-passed (modulus_number most modulus) (moduli_numbers most moduli) (first-passed (refuse (eqb modulus 0) 10) _ e).1 in
    (leb-false modulus most (not-refused (leb modulus most) 8 later.0), later.1)

pub moduli-above : (most : ℕ) (moduli : List ℕ) → first_of (moduli_numbers most moduli) ≡ 0 → (j : ℕ) → j < length moduli → most < get_or moduli j 0
moduli-above most [] e j h = absurd (not-suc-le-zero h)
moduli-above most (modulus ∷ moduli) e zero h = (above-first most modulus moduli e).0
moduli-above most (modulus ∷ moduli) e (suc j) h = moduli-above most moduli (above-first most modulus moduli e).1 j (le_of_suc-le-suc h)

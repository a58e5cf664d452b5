-- Residues that are all below the modulus: each of them, and those of a part.
use Rattle.std.proofs.Common.{◌≡◌, ℕ, zero, suc, ◌+◌, ◌<◌, Bool, true, false, ◌&&◌, ltb, List, [], ◌∷◌, ◌++◌, length, get_or, take, drop, sym, refl, ap, ◌∙◌, le_of_suc-le-suc, add-one, arith, take-append-drop, take-suc, ltb-true, lt-ltb}
use mathlib.Core.Bool.{and-true}
use Rattle.distr.proofs.Reading.{both_true}
use Rattle.stats.specs.Centered.{all_below}

module _ (modulus : ℕ) where
  pub below-first : (r : ℕ) (rs : List ℕ) → all_below modulus (r ∷ rs) ≡ true → r < modulus
  unfolding all_below
  below-first r rs e = ltb-true r modulus (both_true (ltb r modulus) (all_below modulus rs) e).0

  pub below_rest : (r : ℕ) (rs : List ℕ) → all_below modulus (r ∷ rs) ≡ true → all_below modulus rs ≡ true
  unfolding all_below
  below_rest r rs e = (both_true (ltb r modulus) (all_below modulus rs) e).1

  pub below_append : (xs ys : List ℕ) → all_below modulus (xs ++ ys) ≡ (all_below modulus xs && all_below modulus ys)
  unfolding all_below
  below_append [] ys = refl
  below_append (x ∷ xs) ys = rw (below_append xs ys) (grouped (ltb x modulus) (all_below modulus xs) (all_below modulus ys))
    where
      grouped : (a b c : Bool) → (a && (b && c)) ≡ (a && b && c)
      grouped true b c = refl
      grouped false b c = refl

  -- the two parts of a list
  pub below_parts : (i : ℕ) (rs : List ℕ) → all_below modulus rs ≡ true
      → (all_below modulus (take i rs) ≡ true) × (all_below modulus (drop i rs) ≡ true)
  below_parts i rs e =
      both_true (all_below modulus (take i rs)) (all_below modulus (drop i rs))
      (sym (below_append (take i rs) (drop i rs)) ∙ ap (all_below modulus) (take-append-drop i rs) ∙ e)

  pub below_at : (rs : List ℕ) (i : ℕ) → all_below modulus rs ≡ true → i < length rs → get_or rs i 0 < modulus
  below_at [] i e h = absurd (omega arith)
  below_at (r ∷ rs) zero e h = below-first r rs e
  below_at (r ∷ rs) (suc i) e h = below_at rs i (below_rest r rs e) (le_of_suc-le-suc h)

  -- and where each is, all are
  pub all-below : (rs : List ℕ) → ((i : ℕ) → i < length rs → get_or rs i 0 < modulus) → all_below modulus rs ≡ true
  unfolding all_below
  all-below [] each = refl
  all-below (r ∷ rs) each = rw (lt-ltb r modulus (each 0 (omega arith))) (all-below rs (λ i h. each (suc i) (omega arith)))

  -- one residue more is judged
  pub below_more : (rs : List ℕ) (i : ℕ) → i < length rs
      → (all_below modulus (take i rs) && ltb (get_or rs i 0) modulus) ≡ all_below modulus (take (i + 1) rs)
  unfolding all_below
  below_more rs i h =
      rw (add-one i, take-suc rs i 0 h, below_append (take i rs) (get_or rs i 0 ∷ []), and-true (ltb (get_or rs i 0) modulus))

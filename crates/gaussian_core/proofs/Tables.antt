-- The test of a table bound by bound is its definition.
use Rattle.std.proofs.Common.{◌≡◌, ℕ, zero, suc, ◌+◌, ◌-◌, ◌<◌, Bool, false, ◌&&◌, eqb, leb, List, [], ◌∷◌, length, get_or, take, sym, ap, ◌∙◌, not-suc-le-zero, add-one, arith, take_all, eq-eqb, ne_eqb}
use mathlib.Core.Bool.{and-true, and-false, and_assoc}
use Rattle.distr.specs.Gaussian.{never_falls, rising}
use Rattle.distr.proofs.Rising.{never_falls-one, never_falls_more}

-- another length, or none at all
pub rising-other : (count last : ℕ) (xs : List ℕ) → (length xs ≡ count → ⊥) → rising count last xs ≡ false
rising-other count last xs h = rw (ne_eqb (length xs) count h)

pub rising_none : (count last : ℕ) (xs : List ℕ) → length xs ≡ 0 → rising count last xs ≡ false
rising_none count last [] h = rw (and-false (eqb 0 count))
rising_none count last (x ∷ xs) h = absurd (omega arith)

-- what is judged of the ends, with the first i bounds
abbrev pub judged_to : ℕ → List ℕ → ℕ → Bool
judged_to last xs i = eqb (get_or xs 0 0) 0 && eqb (get_or xs (length xs - 1) 0) last && never_falls (take i xs)

pub judged_first : (last : ℕ) (xs : List ℕ) → (eqb (get_or xs 0 0) 0 && eqb (get_or xs (length xs - 1) 0) last) ≡ judged_to last xs 1
judged_first last xs = rw (never_falls-one xs, and-true (eqb (get_or xs 0 0) 0 && eqb (get_or xs (length xs - 1) 0) last))

pub judged_more : (last : ℕ) (xs : List ℕ) (i : ℕ) → 0 < i → i < length xs
    → (judged_to last xs i && leb (get_or xs (i - 1) 0) (get_or xs i 0)) ≡ judged_to last xs (i + 1)
judged_more last xs zero h k = absurd (not-suc-le-zero h)
judged_more last xs (suc i) h k =
    let ends = eqb (get_or xs 0 0) 0 && eqb (get_or xs (length xs - 1) 0) last in
    let before : suc i - 1 ≡ i = omega arith in
    ap (λ (j : ℕ). ends && never_falls (take (suc i) xs) && leb (get_or xs j 0) (get_or xs (suc i) 0)) before
    ∙ and_assoc ends (never_falls (take (suc i) xs)) (leb (get_or xs i 0) (get_or xs (suc i) 0))
    ∙ ap (λ (t : Bool). ends && t) (never_falls_more xs i k)
    ∙ ap (λ (j : ℕ). ends && never_falls (take j xs)) (sym (add-one (suc i)))

pub judged_all : (count last : ℕ) (xs : List ℕ) (i : ℕ) → length xs ≡ count → 0 < count → i ≡ length xs → judged_to last xs i ≡ rising count last xs
judged_all count last [] i e h p = absurd (omega arith)
judged_all count last (x ∷ xs) i e h p =
    rw (eq-eqb (length (x ∷ xs)) count e, ← e, p, take_all (length (x ∷ xs)) (x ∷ xs) (omega arith))

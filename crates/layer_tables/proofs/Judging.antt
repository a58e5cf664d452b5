-- A test of a whole list as a loop makes it: `ok` and the test of what is left stand for the test of the whole.
use mathlib.Core.Path.{◌≡◌, sym, ap, ◌∙◌}
use mathlib.Core.Bool.{Bool, true, ◌&&◌, and_assoc, and-true}
use mathlib.Core.List.{List, [], ◌∷◌}
use Prim.Native.Nat.{ℕ, suc, ◌+◌, ◌-◌, ◌<◌, ◌≤◌}
use native.Mathlib.Numerals.{add-one}
use native.Mathlib.Omega.{arith}
use lib.ListN.{length, get_or, drop, drop_of_length-le, length-drop}
use lib.Seq.{drop-cons}

-- what a test of neighbours has come to: what is left begins one element back
abbrev pub Paired : {A : Type 0} → (List A → Bool) → Bool → ℕ → List A → Type 0
Paired all ok i xs = (0 < i) × (ok && all (drop (i - 1) xs) ≡ all xs)

module _ {A : Type 0} (all : List A → Bool) (none : all [] ≡ true) where
  -- the test of each element
  pub each_more : (test : A → Bool) → ((x : A) (xs : List A) → all (x ∷ xs) ≡ test x && all xs)
      → (ok : Bool) (i : ℕ) (xs : List A) (d : A) → i < length xs → ok && all (drop i xs) ≡ all xs
      → ok && test (get_or xs i d) && all (drop (i + 1) xs) ≡ all xs
  each_more test step ok i xs d h inv =
      and_assoc ok (test (get_or xs i d)) (all (drop (i + 1) xs))
      ∙ ap (λ (b : Bool). ok && b) (rw (add-one i) (sym (step (get_or xs i d) (drop (suc i) xs))) ∙ ap all (sym (drop-cons xs i d h)))
      ∙ inv

  pub each_all : (ok : Bool) (i : ℕ) (xs : List A) → length xs ≤ i → ok && all (drop i xs) ≡ all xs → ok ≡ all xs
  each_all ok i xs h inv = sym (and-true ok) ∙ ap (λ (b : Bool). ok && b) (sym (ap all (drop_of_length-le xs h) ∙ none)) ∙ inv

  -- the test of each element and the one before it
  pub pair_more : (test : A → A → Bool) → ((x y : A) (xs : List A) → all (x ∷ y ∷ xs) ≡ test x y && all (y ∷ xs))
      → (ok : Bool) (i : ℕ) (xs : List A) (d : A) → i < length xs → Paired all ok i xs → Paired all (ok && test (get_or xs (i - 1) d) (get_or xs i d)) (i + 1) xs
  pair_more test step ok i xs d h inv = (
    omega arith,
    and_assoc ok (test a b) (all (drop (i + 1 - 1) xs))
        ∙ ap (λ (t : Bool). ok && t) (ap (λ (k : ℕ). test a b && all (drop k xs)) same ∙ sym first) ∙ inv.1,
  )
    where
      a : A
      a = get_or xs (i - 1) d

      b : A
      b = get_or xs i d

      same : i + 1 - 1 ≡ i
      same = omega arith

      next : suc (i - 1) ≡ i
      next = omega (arith, inv.0)

      first : all (drop (i - 1) xs) ≡ test a b && all (drop i xs)
      first =
          ap all (drop-cons xs (i - 1) d (omega arith) ∙ ap (λ (k : ℕ). a ∷ drop k xs) next ∙ ap (λ (l : List A). a ∷ l) (drop-cons xs i d h))
          ∙ step a b (drop (suc i) xs) ∙ ap (λ (l : List A). test a b && all l) (sym (drop-cons xs i d h))

  pub pair_all : ((x : A) → all (x ∷ []) ≡ true) → (ok : Bool) (i : ℕ) (xs : List A) → length xs ≤ i → Paired all ok i xs → ok ≡ all xs
  pair_all one ok i xs h inv =
      sym (and-true ok) ∙ ap (λ (b : Bool). ok && b) (sym (short (drop (i - 1) xs) (omega (arith, length-drop (i - 1) xs)))) ∙ inv.1
    where
      short : (ys : List A) → length ys ≤ 1 → all ys ≡ true
      short [] k = none
      short (y ∷ []) k = one y
      short (y ∷ z ∷ ys) k = absurd (omega arith)

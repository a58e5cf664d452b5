-- Lists that never fall, and the magnitude of a word by such a table: the largest index whose bound is at most the word.
use mathlib.Core.Path.{◌≡◌, refl, sym, ap, subst, ◌∙◌}
use mathlib.Core.Logic.{⊎_elim}
use mathlib.Core.Bool.{Bool, true, false, cond, ◌&&◌, and-true, and_assoc}
use mathlib.Core.List.{List, [], ◌∷◌}
use Prim.Native.Nat.{ℕ, zero, suc, ◌-◌, ◌<◌, ◌≤◌, zero-le}
use native.Mathlib.Nat.{le_refl, le_trans, le_step, le_of_suc-le-suc, not-suc-le-zero, eq-or-lt_of_le}
use native.Mathlib.Omega.{arith}
use borrow.Author.Tests.{leb-true, leb-false}
use lib.Dec.{T, leb, eqb, leb→le, eqb→eq}
use lib.ListN.{length, get_or, take}
use lib.Ieee.Fits.{and_l, and_r}
use Rattle.distr.specs.Gaussian.{never_falls, rising, magnitude}

head_le : (a : ℕ) (xs : List ℕ) → T (never_falls (a ∷ xs)) → 0 < length xs → a ≤ get_or xs 0 0
unfolding never_falls
head_le a [] t h = absurd (not-suc-le-zero h)
head_le a (b ∷ xs) t h = leb→le a b (and_l (leb a b) (never_falls (b ∷ xs)) t)

tail_never_falls : (a : ℕ) (xs : List ℕ) → T (never_falls (a ∷ xs)) → T (never_falls xs)
unfolding never_falls
tail_never_falls a [] t = tt
tail_never_falls a (b ∷ xs) t = and_r (leb a b) (never_falls (b ∷ xs)) t

-- a list that never falls has no element below one before it
pub rises : (xs : List ℕ) → T (never_falls xs) → (i j : ℕ) → i ≤ j → j < length xs → get_or xs i 0 ≤ get_or xs j 0
rises [] t i j h k = absurd (not-suc-le-zero k)
rises (a ∷ xs) t zero zero h k = le_refl a
rises (a ∷ xs) t zero (suc j) h k =
    le_trans (head_le a xs t (omega arith)) (rises xs (tail_never_falls a xs t) zero j zero-le (le_of_suc-le-suc k))
rises (a ∷ xs) t (suc i) zero h k = absurd (not-suc-le-zero h)
rises (a ∷ xs) t (suc i) (suc j) h k = rises xs (tail_never_falls a xs t) i j (le_of_suc-le-suc h) (le_of_suc-le-suc k)

-- the first elements judged one by one
pub never_falls-one : (xs : List ℕ) → never_falls (take 1 xs) ≡ true
unfolding never_falls
never_falls-one [] = refl
never_falls-one (a ∷ xs) = refl

pub never_falls_more : (xs : List ℕ) (i : ℕ) → suc i < length xs
    → (never_falls (take (suc i) xs) && leb (get_or xs i 0) (get_or xs (suc i) 0)) ≡ never_falls (take (suc (suc i)) xs)
unfolding never_falls
never_falls_more [] i h = absurd (not-suc-le-zero h)
never_falls_more (a ∷ []) i h = absurd (not-suc-le-zero (le_of_suc-le-suc h))
never_falls_more (a ∷ b ∷ xs) zero h = sym (and-true (leb a b))
never_falls_more (a ∷ b ∷ xs) (suc i) h =
    and_assoc (leb a b) (never_falls (take (suc i) (b ∷ xs))) (leb (get_or (b ∷ xs) i 0) (get_or xs i 0))
    ∙ ap (λ (t : Bool). leb a b && t) (never_falls_more (b ∷ xs) i (le_of_suc-le-suc h))

-- what the test of a table says
pub record Rising (count last : ℕ) (xs : List ℕ) : Type 0 where
  pub long : length xs ≡ count
  pub first : get_or xs 0 0 ≡ 0
  pub final : get_or xs (count - 1) 0 ≡ last
  pub never_falls_lem : T (never_falls xs)

pub is-rising : (count last : ℕ) (xs : List ℕ) → T (rising count last xs) → Rising count last xs
is-rising count last xs t = record {
  long = eqb→eq (length xs) count (and_l long first (and_l (long && first) final three));
  first = start xs (eqb→eq (get_or xs 0 1) 0 (and_r long first (and_l (long && first) final three)));
  final = eqb→eq (get_or xs (count - 1) 0) last (and_r (long && first) final three);
  never_falls_lem = and_r (long && first && final) (never_falls xs) t;
}
  where
    long : Bool
    long = eqb (length xs) count

    first : Bool
    first = eqb (get_or xs 0 1) 0

    final : Bool
    final = eqb (get_or xs (count - 1) 0) last

    three : T (long && first && final)
    three = and_l (long && first && final) (never_falls xs) t

    start : (ys : List ℕ) → get_or ys 0 1 ≡ 0 → get_or ys 0 0 ≡ 0
    start [] e = refl
    start (y ∷ ys) e = e

-- m is the largest index up to k whose bound is at most w
pub record Largest (bounds : List ℕ) (k w m : ℕ) : Type 0 where
  pub top : m ≤ k
  pub reached : get_or bounds m 0 ≤ w
  pub above : (j : ℕ) → m < j → j ≤ k → w < get_or bounds j 0

pub largest : (bounds : List ℕ) (k w : ℕ) → get_or bounds 0 0 ≤ w → Largest bounds k w (magnitude bounds k w)
unfolding magnitude
largest bounds zero w h = record { top = le_refl 0; reached = h; above = λ j l u. absurd (omega arith) }
largest bounds (suc k) w h = go (leb (get_or bounds (suc k) 0) w) refl (largest bounds k w h)
  where
    go : (t : Bool) → leb (get_or bounds (suc k) 0) w ≡ t → Largest bounds k w (magnitude bounds k w)
        → Largest bounds (suc k) w (cond t (suc k) (magnitude bounds k w))
    go true e x = record { top = le_refl (suc k); reached = leb-true (get_or bounds (suc k) 0) w e; above = λ j l u. absurd (omega arith) }
    go false e x = record {
      top = le_step x.top;
      reached = x.reached;
      above = λ j l u.
          ⊎_elim (λ p. subst (λ (i : ℕ). w < get_or bounds i 0) (sym p) (leb-false (get_or bounds (suc k) 0) w e)) (λ p. x.above j l (le_of_suc-le-suc p))
          (eq-or-lt_of_le u);
    }

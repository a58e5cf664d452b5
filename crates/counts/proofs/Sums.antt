-- Sums of numbers, and sums over the draw lists of a box. All counting is algebra of these.
use mathlib.Core.Path.{◌≡◌, refl, sym, ap, ap₂, ◌∙◌}
use mathlib.Core.Logic.{◌⊎◌, inl, inr}
use mathlib.Core.Bool.{Bool, true, false, cond, ◌&&◌, and_assoc}
use mathlib.Core.List.{List, [], ◌∷◌, ◌++◌}
use Prim.Native.Nat.{ℕ, zero, suc, ◌+◌, ◌-◌, ◌*◌, ◌<◌, ◌≤◌, min}
use native.Mathlib.Nat.{add-zero, add-suc, add_assoc, zero-mul, one-mul, suc-mul, mul-zero, mul-add, add-mul, sub-zero, suc-sub-suc}
use native.Mathlib.Nat.{not-suc-le-zero, le_of_suc-le-suc, le_of_eq, eq-or-lt_of_le, suc-ne-zero, suc_inj}
use native.Mathlib.Omega.{arith}
use borrow.Author.Tests.{eq-eqb, ne_eqb, lt-ltb, leb-true, leb-false, ltb-true, ltb-false}
use lib.Dec.{T, leb, ltb, eqb, eqb→eq}
use lib.ListN.{length}
use lib.Ieee.Fits.{and_l, and_r}
use lib.IntN.{ℤ, pos, negsuc}
use Rattle.counts.specs.DrawLists.{in_box}
use Rattle.counts.specs.Inside.{same}

-- 1 where a test holds, else 0
abbrev pub bit : Bool → ℕ
bit true = 1
bit false = 0

-- f 0 + f 1 + … + f (r − 1)
unfoldable pub sum : ℕ → (ℕ → ℕ) → ℕ
sum zero f = 0
sum (suc r) f = sum r f + f r

-- f summed over the draw lists of a box
unfoldable pub cnt : List ℕ → (List ℕ → ℕ) → ℕ
cnt [] f = f []
cnt (r ∷ rs) f = sum r (λ d. cnt rs (λ ds. f (d ∷ ds)))

-- two coefficient lists are equal
unfoldable pub same_list : List ℤ → List ℤ → Bool
same_list [] [] = true
same_list [] (y ∷ ys) = false
same_list (x ∷ xs) [] = false
same_list (x ∷ xs) (y ∷ ys) = same x y && same_list xs ys

-- ---- sums

pub sum_ext : (r : ℕ) (f g : ℕ → ℕ) → ((d : ℕ) → d < r → f d ≡ g d) → sum r f ≡ sum r g
unfolding sum
sum_ext zero f g h = refl
sum_ext (suc r) f g h = ap₂ ◌+◌ (sum_ext r f g (λ d k. h d (omega arith))) (h r (omega arith))

pub sum-zero : (r : ℕ) → sum r (λ d. 0) ≡ 0
unfolding sum
sum-zero zero = refl
sum-zero (suc r) = omega (arith, sum-zero r)

pub sum_const : (r c : ℕ) → sum r (λ d. c) ≡ r * c
unfolding sum
sum_const zero c = sym (zero-mul c)
sum_const (suc r) c = ap (λ (x : ℕ). x + c) (sum_const r c) ∙ sym (suc-mul r c)

pub sum-add : (r : ℕ) (f g : ℕ → ℕ) → sum r (λ d. f d + g d) ≡ sum r f + sum r g
unfolding sum
sum-add zero f g = refl
sum-add (suc r) f g = omega (arith, sum-add r f g)

pub sum-mul_left : (r c : ℕ) (f : ℕ → ℕ) → sum r (λ d. c * f d) ≡ c * sum r f
unfolding sum
sum-mul_left zero c f = sym (mul-zero c)
sum-mul_left (suc r) c f = ap (λ (x : ℕ). x + c * f r) (sum-mul_left r c f) ∙ sym (mul-add c (sum r f) (f r))

pub sum-mul-right : (r c : ℕ) (f : ℕ → ℕ) → sum r (λ d. f d * c) ≡ sum r f * c
unfolding sum
sum-mul-right zero c f = sym (zero-mul c)
sum-mul-right (suc r) c f = ap (λ (x : ℕ). x + f r * c) (sum-mul-right r c f) ∙ sym (add-mul (sum r f) (f r) c)

-- the first a terms, and the b after them
pub sum_append : (a b : ℕ) (f : ℕ → ℕ) → sum (a + b) f ≡ sum a f + sum b (λ d. f (a + d))
unfolding sum
sum_append a zero f = ap (λ (x : ℕ). sum x f) (add-zero a) ∙ sym (add-zero (sum a f))
sum_append a (suc b) f =
    ap (λ (x : ℕ). sum x f) (add-suc a b) ∙ ap (λ (x : ℕ). x + f (a + b)) (sum_append a b f)
    ∙ add_assoc (sum a f) (sum b (λ d. f (a + d))) (f (a + b))

pub sum_swap : (a b : ℕ) (f : ℕ → ℕ → ℕ) → sum a (λ i. sum b (λ j. f i j)) ≡ sum b (λ j. sum a (λ i. f i j))
unfolding sum
sum_swap zero b f = sym (sum-zero b)
sum_swap (suc a) b f =
    ap (λ (x : ℕ). x + sum b (f a)) (sum_swap a b f) ∙ sym (sum-add b (λ j. sum a (λ i. f i j)) (f a))

-- a sum over a * b numbers as one over the two digits of each
pub sum-product : (a b : ℕ) (f : ℕ → ℕ) → sum (a * b) f ≡ sum a (λ i. sum b (λ j. f (i * b + j)))
unfolding sum
sum-product zero b f = ap (λ (x : ℕ). sum x f) (zero-mul b)
sum-product (suc a) b f =
    ap (λ (x : ℕ). sum x f) (suc-mul a b) ∙ sum_append (a * b) b f ∙ ap (λ (x : ℕ). x + sum b (λ j. f (a * b + j))) (sum-product a b f)

-- the first term apart
pub sum_first : (r : ℕ) (f : ℕ → ℕ) → sum (suc r) f ≡ f 0 + sum r (λ d. f (suc d))
unfolding sum
sum_first zero f = omega arith
sum_first (suc r) f = ap (λ (x : ℕ). x + f (suc r)) (sum_first r f) ∙ add_assoc (f 0) (sum r (λ d. f (suc d))) (f (suc r))

pub sum_reverse : (r : ℕ) (f : ℕ → ℕ) → sum r f ≡ sum r (λ d. f (r - suc d))
unfolding sum
sum_reverse zero f = refl
sum_reverse (suc r) f =
    omega (
      arith,
      sum_reverse r f,
      sum_first r (λ d. f (suc r - suc d)),
      ap f (suc-sub-suc r 0 ∙ sub-zero r),
      sum_ext r (λ d. f (suc r - suc (suc d))) (λ d. f (r - suc d)) (λ d k. ap f (suc-sub-suc r (suc d))),
    )

-- the terms of a test for k
unequal_term : (d k x : ℕ) → (d ≡ k → ⊥) → bit (eqb d k) * x ≡ 0
unequal_term d k x n = ap (λ (b : Bool). bit b * x) (ne_eqb d k n) ∙ zero-mul x

equal_term : (d k x : ℕ) → d ≡ k → bit (eqb d k) * x ≡ x
equal_term d k x e = ap (λ (b : Bool). bit b * x) (eq-eqb d k e) ∙ one-mul x

-- a k outside has none
pub sum_none : (r k : ℕ) (f : ℕ → ℕ) → r ≤ k → sum r (λ d. bit (eqb d k) * f d) ≡ 0
sum_none r k f h =
    sum_ext r (λ d. bit (eqb d k) * f d) (λ d. 0) (λ d l. unequal_term d k (f d) (omega arith)) ∙ sum-zero r

-- the one term at k
pub sum_single : (r k : ℕ) (f : ℕ → ℕ) → k < r → sum r (λ d. bit (eqb d k) * f d) ≡ f k
unfolding sum
sum_single zero k f h = absurd (not-suc-le-zero h)
sum_single (suc r) k f h = go (λ l. sum_single r k f l) (eq-or-lt_of_le (le_of_suc-le-suc h))
  where
    go : (k < r → sum r (λ d. bit (eqb d k) * f d) ≡ f k) → (k ≡ r) ⊎ (k < r) → sum r (λ d. bit (eqb d k) * f d) + bit (eqb r k) * f r ≡ f k
    go rest (inl e) = omega (arith, sum_none r k f (le_of_eq (sym e)), equal_term r k (f r) (sym e), ap f e)
    go rest (inr l) = omega (arith, rest l, unequal_term r k (f r) (omega arith))

-- with no condition on s and t
between : (r s t : ℕ) → sum r (λ d. bit (leb s d && ltb d t)) ≡ min r t - s
unfolding sum
between zero s t = omega arith
between (suc r) s t = ap (λ (x : ℕ). x + bit (leb s r && ltb r t)) (between r s t) ∙ go (leb s r) (ltb r t) refl refl
  where
    go : (a b : Bool) → leb s r ≡ a → ltb r t ≡ b → min r t - s + bit (a && b) ≡ min (suc r) t - s
    go true true p q = omega (arith, leb-true s r p, ltb-true r t q)
    go true false p q = omega (arith, ltb-false r t q)
    go false true p q = omega (arith, leb-false s r p)
    go false false p q = omega (arith, leb-false s r p)

-- how many numbers below r are from s up to t
pub sum-between : (r s t : ℕ) → s ≤ t → t ≤ r → sum r (λ d. bit (leb s d && ltb d t)) ≡ t - s
sum-between r s t h k = between r s t ∙ omega arith

-- ---- sums over a box

-- a draw in front of a draw list
pub in_box_cons : (d r : ℕ) (ds rs : List ℕ) → d < r → T (in_box rs ds) → T (in_box (r ∷ rs) (d ∷ ds))
unfolding in_box
in_box_cons d r ds rs h t = rw (lt-ltb d r h) t

pub cnt_ext : (rs : List ℕ) (f g : List ℕ → ℕ) → ((ds : List ℕ) → T (in_box rs ds) → f ds ≡ g ds) → cnt rs f ≡ cnt rs g
unfolding cnt in_box
cnt_ext [] f g h = h [] tt
cnt_ext (r ∷ rs) f g h =
    sum_ext r (λ d. cnt rs (λ ds. f (d ∷ ds))) (λ d. cnt rs (λ ds. g (d ∷ ds)))
    (λ d k. cnt_ext rs (λ ds. f (d ∷ ds)) (λ ds. g (d ∷ ds)) (λ ds t. h (d ∷ ds) (in_box_cons d r ds rs k t)))

pub cnt-zero : (rs : List ℕ) → cnt rs (λ ds. 0) ≡ 0
unfolding cnt
cnt-zero [] = refl
cnt-zero (r ∷ rs) = sum_ext r (λ d. cnt rs (λ ds. 0)) (λ d. 0) (λ d k. cnt-zero rs) ∙ sum-zero r

pub cnt-mul_left : (rs : List ℕ) (c : ℕ) (f : List ℕ → ℕ) → cnt rs (λ ds. c * f ds) ≡ c * cnt rs f
unfolding cnt
cnt-mul_left [] c f = refl
cnt-mul_left (r ∷ rs) c f =
    sum_ext r (λ d. cnt rs (λ ds. c * f (d ∷ ds))) (λ d. c * cnt rs (λ ds. f (d ∷ ds))) (λ d k. cnt-mul_left rs c (λ ds. f (d ∷ ds)))
    ∙ sum-mul_left r c (λ d. cnt rs (λ ds. f (d ∷ ds)))

pub cnt_append : (rs ss : List ℕ) (f : List ℕ → ℕ) → cnt (rs ++ ss) f ≡ cnt rs (λ ds. cnt ss (λ es. f (ds ++ es)))
unfolding cnt
cnt_append [] ss f = refl
cnt_append (r ∷ rs) ss f =
    sum_ext r (λ d. cnt (rs ++ ss) (λ es. f (d ∷ es))) (λ d. cnt rs (λ ds. cnt ss (λ es. f (d ∷ (ds ++ es)))))
    (λ d k. cnt_append rs ss (λ es. f (d ∷ es)))

-- ---- tests as numbers

pub and_swap : (a b c : Bool) → (a && (b && c)) ≡ (b && (a && c))
and_swap true b c = refl
and_swap false true c = refl
and_swap false false c = refl

-- two tests that follow from one another
pub tests_agree : (a b : Bool) → (T a → T b) → (T b → T a) → a ≡ b
tests_agree true true f g = refl
tests_agree true false f g = absurd (f tt)
tests_agree false true f g = absurd (g tt)
tests_agree false false f g = refl

pub bit-cond : (b : Bool) → bit b ≡ cond b 1 0
bit-cond true = refl
bit-cond false = refl

pub bit_and : (a b : Bool) → bit (a && b) ≡ bit a * bit b
bit_and true b = sym (one-mul (bit b))
bit_and false b = sym (zero-mul (bit b))

pub same-eq : (x y : ℤ) → T (same x y) → x ≡ y
same-eq (pos a) (pos b) t = ap pos (eqb→eq a b t)
same-eq (pos a) (negsuc b) t = absurd t
same-eq (negsuc a) (pos b) t = absurd t
same-eq (negsuc a) (negsuc b) t = ap negsuc (eqb→eq a b t)

pub same_refl : (x : ℤ) → same x x ≡ true
same_refl (pos a) = eq-eqb a a refl
same_refl (negsuc a) = eq-eqb a a refl

pub same_list_eq : (xs ys : List ℤ) → T (same_list xs ys) → xs ≡ ys
unfolding same_list
same_list_eq [] [] t = refl
same_list_eq [] (y ∷ ys) t = absurd t
same_list_eq (x ∷ xs) [] t = absurd t
same_list_eq (x ∷ xs) (y ∷ ys) t =
    ap₂ ◌∷◌ (same-eq x y (and_l (same x y) (same_list xs ys) t)) (same_list_eq xs ys (and_r (same x y) (same_list xs ys) t))

pub same_list_refl : (xs : List ℤ) → same_list xs xs ≡ true
unfolding same_list
same_list_refl [] = refl
same_list_refl (x ∷ xs) = rw (same_refl x) (same_list_refl xs)

pub same_list_append : (xs xs' ys ys' : List ℤ) → length xs ≡ length ys
    → same_list (xs ++ xs') (ys ++ ys') ≡ (same_list xs ys && same_list xs' ys')
unfolding same_list
same_list_append [] xs' [] ys' h = refl
same_list_append [] xs' (y ∷ ys) ys' h = absurd (suc-ne-zero (length ys) (sym h))
same_list_append (x ∷ xs) xs' [] ys' h = absurd (suc-ne-zero (length xs) h)
same_list_append (x ∷ xs) xs' (y ∷ ys) ys' h =
    rw (same_list_append xs xs' ys ys' (suc_inj h)) (sym (and_assoc (same x y) (same_list xs ys) (same_list xs' ys')))

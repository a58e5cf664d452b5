-- Inserting a value at a chosen place is undone by the place: how often a last insertion ends in a given list.
use mathlib.Core.Path.{◌≡◌, refl, sym, ap, fun_ext, ◌∙◌}
use mathlib.Core.Bool.{Bool, true, false, ◌&&◌}
use mathlib.Core.List.{List, [], ◌∷◌, ◌++◌}
use Prim.Native.Nat.{ℕ, zero, suc, ◌+◌, ◌*◌, ◌<◌, ◌≤◌}
use native.Mathlib.Nat.{not-suc-le-zero, le_of_suc-le-suc, suc-ne-zero, suc_inj, mul-zero, add-mul}
use native.Mathlib.Omega.{arith}
use borrow.Author.Tests.{eqb-true, eqb-false}
use lib.Dec.{eqb}
use lib.ListN.{length, get_or, take, set, length-append, length-take, length-set}
use lib.IntN.{ℤ, pos}
use Rattle.counts.specs.Inside.{same}
use Rattle.distr.specs.Insertion.{inserted}
use Rattle.counts.proofs.Sums.{bit, sum, sum_ext, sum-zero, sum-add, sum-mul_left, sum_swap, sum_first, bit_and, and_swap, same_list, same_list_eq}

-- the first n of n + 1 coefficients, the last of them back at the place s
abbrev pub undo : ℕ → List ℤ → ℕ → List ℤ
undo n cs s = set (take n cs) s (get_or cs n (pos 0))

-- how many coefficients pass a test
unfoldable pub tally_by : (ℤ → Bool) → List ℤ → ℕ
tally_by p [] = 0
tally_by p (c ∷ cs) = bit (p c) + tally_by p cs

-- places that hold a coefficient of the class p, each counted by f of the list before it was inserted there
unfoldable pub last_into : (ℤ → Bool) → (List ℤ → ℕ) → List ℤ → ℕ
last_into p f [] = 0
last_into p f (c ∷ cs) = sum (suc (length cs)) (λ s. bit (p (get_or (c ∷ cs) s (pos 0))) * f (undo (length cs) (c ∷ cs) s))

-- a value at the end is compared with the last coefficient
same_snoc : (x : ℤ) (xs cs : List ℤ) → length cs ≡ suc (length xs)
    → same_list (xs ++ (x ∷ [])) cs ≡ (same x (get_or cs (length xs) (pos 0)) && same_list xs (take (length xs) cs))
unfolding same_list
same_snoc x xs [] h = absurd (suc-ne-zero (length xs) (sym h))
same_snoc x [] (c ∷ []) h = refl
same_snoc x [] (c ∷ d ∷ cs) h = absurd (suc-ne-zero (length cs) (suc_inj h))
same_snoc x (y ∷ xs) (c ∷ cs) h =
    rw (same_snoc x xs cs (suc_inj h)) (and_swap (same y c) (same x (get_or cs (length xs) (pos 0))) (same_list xs (take (length xs) cs)))

-- "copies place s to i and puts the value at s" gives cs: the value stands at s, and all else is as before
pub insert_law : (v : ℤ) (xs cs : List ℤ) (s : ℕ) → length cs ≡ suc (length xs) → s ≤ length xs
    → same_list (inserted v xs s) cs ≡ (same v (get_or cs s (pos 0)) && same_list xs (undo (length xs) cs s))
unfolding same_list inserted
insert_law v xs [] s h k = absurd (suc-ne-zero (length xs) (sym h))
insert_law v [] (c ∷ []) zero h k = refl
insert_law v [] (c ∷ d ∷ cs) zero h k = absurd (suc-ne-zero (length cs) (suc_inj h))
insert_law v [] (c ∷ cs) (suc s) h k = absurd (not-suc-le-zero k)
insert_law v (x ∷ xs) (c ∷ cs) zero h k = ap (λ (b : Bool). same v c && b) (same_snoc x xs cs (suc_inj h))
insert_law v (x ∷ xs) (c ∷ cs) (suc s) h k =
    rw (insert_law v xs cs s (suc_inj h) (le_of_suc-le-suc k))
    (and_swap (same x c) (same v (get_or cs s (pos 0))) (same_list xs (undo (length xs) cs s)))

tally_snoc : (p : ℤ → Bool) (n : ℕ) (cs : List ℤ) → length cs ≡ suc n → tally_by p (take n cs) + bit (p (get_or cs n (pos 0))) ≡ tally_by p cs
unfolding tally_by
tally_snoc p n [] h = absurd (suc-ne-zero n (sym h))
tally_snoc p zero (c ∷ []) h = omega arith
tally_snoc p zero (c ∷ d ∷ cs) h = absurd (suc-ne-zero (length cs) (suc_inj h))
tally_snoc p (suc n) (c ∷ cs) h = omega (arith, tally_snoc p n cs (suc_inj h))

-- the coefficient taken out is one less of its classes
pub tally-undo : (p : ℤ → Bool) (n : ℕ) (cs : List ℤ) (s : ℕ) → length cs ≡ suc n → s ≤ n
    → tally_by p (undo n cs s) + bit (p (get_or cs s (pos 0))) ≡ tally_by p cs
unfolding tally_by
tally-undo p n [] s h k = absurd (suc-ne-zero n (sym h))
tally-undo p zero (c ∷ []) zero h k = omega arith
tally-undo p zero (c ∷ d ∷ cs) zero h k = absurd (suc-ne-zero (length cs) (suc_inj h))
tally-undo p zero (c ∷ cs) (suc s) h k = absurd (not-suc-le-zero k)
tally-undo p (suc n) (c ∷ cs) zero h k = omega (arith, tally_snoc p n cs (suc_inj h))
tally-undo p (suc n) (c ∷ cs) (suc s) h k = omega (arith, tally-undo p n cs s (suc_inj h) (le_of_suc-le-suc k))

-- the places that pass are as many as the coefficients that pass
pub tally-places : (p : ℤ → Bool) (cs : List ℤ) → sum (length cs) (λ s. bit (p (get_or cs s (pos 0)))) ≡ tally_by p cs
unfolding tally_by sum
tally-places p [] = refl
tally-places p (c ∷ cs) =
    sum_first (length cs) (λ s. bit (p (get_or (c ∷ cs) s (pos 0)))) ∙ ap (λ (x : ℕ). bit (p c) + x) (tally-places p cs)

sum-nothing : (r : ℕ) (f : ℕ → ℕ) → ((d : ℕ) → d < r → f d ≡ 0) → sum r f ≡ 0
sum-nothing r f h = sum_ext r f (λ d. 0) h ∙ sum-zero r

-- lists of two lengths are not the same
same-lengths : (xs cs : List ℤ) → (length xs ≡ length cs → ⊥) → same_list xs cs ≡ false
same-lengths xs cs h = go (same_list xs cs) refl
  where
    go : (b : Bool) → same_list xs cs ≡ b → b ≡ false
    go true e = absurd (h (ap length (same_list_eq xs cs (rw e tt))))
    go false e = refl

pub length_inserted : (v : ℤ) (xs : List ℤ) (s : ℕ) → length (inserted v xs s) ≡ suc (length xs)
unfolding inserted
length_inserted v xs s = simp (length-set, length-append) (omega arith)

length-undo : (n : ℕ) (cs : List ℤ) (s : ℕ) → length cs ≡ suc n → length (undo n cs s) ≡ n
length-undo n cs s h = simp (length-set, length-take) (omega arith)

-- the last insertion of a value v: all its places together
pub last-insertion : (v : ℤ) (xs cs : List ℤ)
    → sum (suc (length xs)) (λ s. bit (same_list (inserted v xs s) cs)) ≡ last_into (same v) (λ ds. bit (same_list xs ds)) cs
unfolding last_into
last-insertion v xs [] =
    sum-nothing (suc (length xs)) (λ s. bit (same_list (inserted v xs s) []))
    (λ s k. ap bit (same-lengths (inserted v xs s) [] (λ e. suc-ne-zero (length xs) (sym (length_inserted v xs s) ∙ e))))
last-insertion v xs (c ∷ cs) = go (eqb (length cs) (length xs)) refl
  where
    there : ℕ → ℕ
    there s = bit (same v (get_or (c ∷ cs) s (pos 0)))

    go : (b : Bool) → eqb (length cs) (length xs) ≡ b
        → sum (suc (length xs)) (λ s. bit (same_list (inserted v xs s) (c ∷ cs)))
        ≡ sum (suc (length cs)) (λ s. there s * bit (same_list xs (undo (length cs) (c ∷ cs) s)))
    go true e =
        let l : length cs ≡ length xs = eqb-true (length cs) (length xs) e in
        rw l
        (sum_ext (suc (length xs)) (λ s. bit (same_list (inserted v xs s) (c ∷ cs))) (λ s. there s * bit (same_list xs (undo (length xs) (c ∷ cs) s)))
        (λ s k. ap bit (insert_law v xs (c ∷ cs) s (ap suc l) (le_of_suc-le-suc k))
        ∙ bit_and (same v (get_or (c ∷ cs) s (pos 0))) (same_list xs (undo (length xs) (c ∷ cs) s))))
    go false e =
        sum-nothing (suc (length xs)) (λ s. bit (same_list (inserted v xs s) (c ∷ cs)))
        (λ s k. ap bit (same-lengths (inserted v xs s) (c ∷ cs) (λ l. eqb-false (length cs) (length xs) e (omega (arith, length_inserted v xs s)))))
        ∙ sym (sum-nothing (suc (length cs)) (λ s. there s * bit (same_list xs (undo (length cs) (c ∷ cs) s)))
        (λ s k. ap (λ (b : Bool). there s * bit b) (same-lengths xs (undo (length cs) (c ∷ cs) s)
        (λ l. eqb-false (length cs) (length xs) e (sym (l ∙ length-undo (length cs) (c ∷ cs) s refl))))
        ∙ mul-zero (there s)))

-- ---- several insertions, one after the other

-- how often insertions of these classes, the first first, end in a list, where f counts the lists before them
unfoldable pub inserting : List (ℤ → Bool) → (List ℤ → ℕ) → List ℤ → ℕ
inserting [] f cs = f cs
inserting (p ∷ ps) f cs = inserting ps (last_into p f) cs

pub inserting_ext : (ps : List (ℤ → Bool)) (f g : List ℤ → ℕ) → ((ds : List ℤ) → f ds ≡ g ds) → (cs : List ℤ) → inserting ps f cs ≡ inserting ps g cs
inserting_ext ps f g h cs = ap (λ (k : List ℤ → ℕ). inserting ps k cs) (fun_ext h)

last_into-sum : (p : ℤ → Bool) (r : ℕ) (f : ℕ → List ℤ → ℕ) (cs : List ℤ)
    → last_into p (λ ds. sum r (λ i. f i ds)) cs ≡ sum r (λ i. last_into p (f i) cs)
unfolding last_into
last_into-sum p r f [] = sym (sum-zero r)
last_into-sum p r f (c ∷ cs) =
    sum_ext (suc (length cs)) (λ s. there s * sum r (λ i. f i (before s))) (λ s. sum r (λ i. there s * f i (before s)))
    (λ s k. sym (sum-mul_left r (there s) (λ i. f i (before s))))
    ∙ sum_swap (suc (length cs)) r (λ s i. there s * f i (before s))
  where
    there : ℕ → ℕ
    there s = bit (p (get_or (c ∷ cs) s (pos 0)))

    before : ℕ → List ℤ
    before s = undo (length cs) (c ∷ cs) s

pub inserting-sum : (ps : List (ℤ → Bool)) (r : ℕ) (f : ℕ → List ℤ → ℕ) (cs : List ℤ)
    → inserting ps (λ ds. sum r (λ i. f i ds)) cs ≡ sum r (λ i. inserting ps (f i) cs)
unfolding inserting
inserting-sum [] r f cs = refl
inserting-sum (p ∷ ps) r f cs =
    inserting_ext ps (last_into p (λ ds. sum r (λ i. f i ds))) (λ ds. sum r (λ i. last_into p (f i) ds)) (last_into-sum p r f) cs
    ∙ inserting-sum ps r (λ i. last_into p (f i)) cs

pub inserting_append : (ps qs : List (ℤ → Bool)) (f : List ℤ → ℕ) (cs : List ℤ) → inserting (ps ++ qs) f cs ≡ inserting qs (inserting ps f) cs
unfolding inserting
inserting_append [] qs f cs = refl
inserting_append (p ∷ ps) qs f cs = inserting_append ps qs (last_into p f) cs

-- two classes that make up a third
pub last_into_join : (p q r : ℤ → Bool) → ((c : ℤ) → bit (p c) + bit (q c) ≡ bit (r c))
    → (f : List ℤ → ℕ) (cs : List ℤ) → last_into p f cs + last_into q f cs ≡ last_into r f cs
unfolding last_into
last_into_join p q r h f [] = refl
last_into_join p q r h f (c ∷ cs) =
    sym (sum-add (suc (length cs)) (λ s. bit (p (at s)) * f (before s)) (λ s. bit (q (at s)) * f (before s)))
    ∙ sum_ext (suc (length cs)) (λ s. bit (p (at s)) * f (before s) + bit (q (at s)) * f (before s)) (λ s. bit (r (at s)) * f (before s))
    (λ s k. sym (add-mul (bit (p (at s))) (bit (q (at s))) (f (before s))) ∙ ap (λ (x : ℕ). x * f (before s)) (h (at s)))
  where
    at : ℕ → ℤ
    at s = get_or (c ∷ cs) s (pos 0)

    before : ℕ → List ℤ
    before s = undo (length cs) (c ∷ cs) s

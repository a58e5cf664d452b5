-- Values inserted one after the other: the choices that end in a list, as sums, and the count of one class inserted several times.
use mathlib.Core.Path.{◌≡◌, refl, sym, ap, ◌∙◌}
use mathlib.Core.Bool.{Bool, true, false, cond, ◌&&◌}
use mathlib.Core.List.{List, [], ◌∷◌, map}
use Prim.Native.Nat.{ℕ, zero, suc, ◌+◌, ◌-◌, ◌*◌, ◌^◌, ◌<◌, ◌≤◌}
use native.Mathlib.Nat.{add-zero, add-suc, suc-add, mul-zero, mul_left_comm, le_of_suc-le-suc}
use native.Mathlib.Omega.{arith}
use lib.Dec.{T, leb, le→leb}
use lib.Ieee.Fits.{and_i}
use lib.ListN.{length, get_or, drop, replicate, length-replicate}
use lib.IntN.{ℤ, pos}
use Rattle.distr.specs.Packed.{minus_one, sign_value}
use Rattle.distr.specs.Insertion.{count_up, inserted, insert_each, insert_signed, sign_before, insertion}
use Rattle.counts.specs.Inside.{same}
use Rattle.counts.specs.Formula.{factorial}
use Rattle.counts.proofs.Sums.{bit, sum, sum_ext, sum-mul-right, cnt, same_list}
use Rattle.counts.proofs.Exact.{Counted, counted}
use Rattle.counts.proofs.Choices.{choosable, choices_boxed, choices-carried, choices_are_words}
use Rattle.counts.proofs.InsertionLaw.{undo, tally_by, last_into, inserting, inserting_ext, inserting-sum}
use Rattle.counts.proofs.InsertionLaw.{length_inserted, last-insertion, last_into_join, tally-places}
use Rattle.counts.proofs.Tallies.{is_sign, sign_values}

-- one insertion of v before others, at all its places together
insert_first : (v : ℤ) (n : ℕ) (xs : List ℤ) → length xs ≡ n → (ps : List (ℤ → Bool)) (cs : List ℤ)
    → sum (suc n) (λ s. inserting ps (λ ds. bit (same_list (inserted v xs s) ds)) cs) ≡ inserting ps (last_into (same v) (λ ds. bit (same_list xs ds))) cs
insert_first v n xs h ps cs =
    sym (inserting-sum ps (suc n) (λ s ds. bit (same_list (inserted v xs s) ds)) cs)
    ∙ inserting_ext ps (λ ds. sum (suc n) (λ s. bit (same_list (inserted v xs s) ds))) (last_into (same v) (λ ds. bit (same_list xs ds)))
    (λ ds. rw (← h) (last-insertion v xs ds)) cs

-- the choices for values inserted into xs that end in cs
pub each-insertion : (vs : List ℤ) (n : ℕ) (xs : List ℤ) → length xs ≡ n → (cs : List ℤ)
    → cnt (count_up (suc n) (length vs)) (λ ss. bit (same_list (insert_each vs ss xs) cs)) ≡ inserting (map same vs) (λ ds. bit (same_list xs ds)) cs
unfolding cnt count_up insert_each inserting
each-insertion [] n xs h cs = refl
each-insertion (v ∷ vs) n xs h cs =
    sum_ext (suc n) (λ s. cnt (count_up (suc (suc n)) (length vs)) (λ ss. bit (same_list (insert_each vs ss (inserted v xs s)) cs)))
    (λ s. inserting (map same vs) (λ ds. bit (same_list (inserted v xs s) ds)) cs)
    (λ s k. each-insertion vs (suc n) (inserted v xs s) (length_inserted v xs s ∙ ap suc h) cs)
    ∙ insert_first v n xs h (map same vs) cs

sum_two : (f : ℕ → ℕ) → sum 2 f ≡ f 0 + f 1
unfolding sum
sum_two f = omega arith

-- the signs and choices for h values inserted into xs that end in cs
pub each_signed : (h n : ℕ) (xs : List ℤ) → length xs ≡ n → (cs : List ℤ)
    → cnt (sign_before (count_up (suc n) h)) (λ ds. bit (same_list (insert_signed ds xs) cs)) ≡ inserting (replicate h is_sign) (λ ds. bit (same_list xs ds)) cs
unfolding cnt count_up sign_before insert_signed inserting
each_signed zero n xs e cs = refl
each_signed (suc h) n xs e cs =
    sum_ext 2 (λ b. sum (suc n) (ending b)) (λ b. inserting (replicate h is_sign) (into b) cs)
    (λ b k. sum_ext (suc n) (ending b) (λ s. inserting (replicate h is_sign) (λ ds. bit (same_list (inserted (sign_value b) xs s) ds)) cs)
    (λ s l. each_signed h (suc n) (inserted (sign_value b) xs s) (length_inserted (sign_value b) xs s ∙ ap suc e) cs)
    ∙ insert_first (sign_value b) n xs e (replicate h is_sign) cs)
    ∙ sym (inserting-sum (replicate h is_sign) 2 into cs)
    ∙ inserting_ext (replicate h is_sign) (λ ds. sum 2 (λ b. into b ds)) (last_into is_sign (λ ds. bit (same_list xs ds))) both cs
  where
    ending : ℕ → ℕ → ℕ
    ending b s = cnt (sign_before (count_up (suc (suc n)) h)) (λ ds. bit (same_list (insert_signed ds (inserted (sign_value b) xs s)) cs))

    into : ℕ → List ℤ → ℕ
    into b = last_into (same (sign_value b)) (λ ds. bit (same_list xs ds))

    both : (ds : List ℤ) → sum 2 (λ b. into b ds) ≡ last_into is_sign (λ ds. bit (same_list xs ds)) ds
    both ds = sum_two (λ b. into b ds) ∙ last_into_join (same minus_one) (same (pos 1)) is_sign sign_values (λ ds. bit (same_list xs ds)) ds

-- tests of a list, by a tally of the class p: one less of p goes back by one test, and a list that passes has the tally
pub record Steps (p : ℤ → Bool) (test : ℕ → List ℤ → Bool) : Type 0 where
  pub back : (j n : ℕ) (cs : List ℤ) (s : ℕ) → length cs ≡ suc n → s ≤ n → T (p (get_or cs s (pos 0))) → test j (undo n cs s) ≡ test (suc j) cs
  pub has : (j : ℕ) (cs : List ℤ) → T (test j cs) → tally_by p cs ≡ j

class_step : (p : ℤ → Bool) (test : ℕ → List ℤ → Bool) → Steps p test → (C j : ℕ) (f : List ℤ → ℕ)
    → ((ds : List ℤ) → f ds ≡ cond (test j ds) (C * factorial j) 0)
    → (cs : List ℤ) → last_into p f cs ≡ cond (test (suc j) cs) (C * factorial (suc j)) 0
unfolding last_into factorial tally_by
class_step p test steps C j f h [] = go (test (suc j) []) refl
  where
    none : ◌≡◌ {A = ℕ} 0 (suc j) → ⊥
    none e = omega arith

    go : (b : Bool) → test (suc j) [] ≡ b → 0 ≡ cond b (C * (suc j * factorial j)) 0
    go true e = absurd (none (steps.has (suc j) [] (rw e tt)))
    go false e = refl
class_step p test steps C j f h (c ∷ cs) =
    sum_ext (suc (length cs)) (λ s. bit (p (at s)) * f (undo (length cs) (c ∷ cs) s)) (λ s. bit (p (at s)) * each) place
    ∙ sum-mul-right (suc (length cs)) each (λ s. bit (p (at s)))
    ∙ ap (λ (x : ℕ). x * each) (tally-places p (c ∷ cs))
    ∙ total (test (suc j) (c ∷ cs)) refl
  where
    at : ℕ → ℤ
    at s = get_or (c ∷ cs) s (pos 0)

    each : ℕ
    each = cond (test (suc j) (c ∷ cs)) (C * factorial j) 0

    place : (s : ℕ) → s < suc (length cs) → bit (p (at s)) * f (undo (length cs) (c ∷ cs) s) ≡ bit (p (at s)) * each
    place s k = go (p (at s)) refl
      where
        go : (b : Bool) → p (at s) ≡ b → bit b * f (undo (length cs) (c ∷ cs) s) ≡ bit b * each
        go true e =
            ap (λ (x : ℕ). 1 * x) (h (undo (length cs) (c ∷ cs) s)
            ∙ ap (λ (b : Bool). cond b (C * factorial j) 0) (steps.back j (length cs) (c ∷ cs) s refl (le_of_suc-le-suc k) (rw e tt)))
        go false e = omega arith

    total : (b : Bool) → test (suc j) (c ∷ cs) ≡ b → tally_by p (c ∷ cs) * cond b (C * factorial j) 0 ≡ cond b (C * (suc j * factorial j)) 0
    total true e = rw (steps.has (suc j) (c ∷ cs) (rw e tt)) (mul_left_comm (suc j) C (factorial j))
    total false e = mul-zero (tally_by p (c ∷ cs))

-- k of a class inserted where j of it stand: the count grows as the factorial of the tally
pub class_count : (p : ℤ → Bool) (test : ℕ → List ℤ → Bool) → Steps p test → (C k j : ℕ) (f : List ℤ → ℕ)
    → ((ds : List ℤ) → f ds ≡ cond (test j ds) (C * factorial j) 0)
    → (cs : List ℤ) → inserting (replicate k p) f cs ≡ cond (test (j + k) cs) (C * factorial (j + k)) 0
unfolding inserting
class_count p test steps C zero j f h cs = rw (add-zero j) (h cs)
class_count p test steps C (suc k) j f h cs =
    rw (add-suc j k, ← suc-add j k) (class_count p test steps C k (suc j) (last_into p f) (class_step p test steps C j f h) cs)

-- ---- the choices of an insertion are carried and boxed

pub choosable-up : (k a : ℕ) → 1 ≤ a → a + k ≤ 2 ^ 32 → T (choosable (count_up a k))
unfolding choosable count_up
choosable-up zero a l u = tt
choosable-up (suc k) a l u =
    and_i (leb 1 a && leb a (2 ^ 32)) (choosable (count_up (suc a) k))
    (and_i (leb 1 a) (leb a (2 ^ 32)) (le→leb 1 a l) (le→leb a (2 ^ 32) (omega arith))) (choosable-up k (suc a) (omega arith) (omega arith))

-- an insertion is counted by its sums
pub insertion-counted : (fill : ℤ) (values : List ℤ) (n : ℕ) (inside : List ℤ → Bool) (formula : List ℤ → ℕ)
    → length values ≤ n → n ≤ 65536
    → ((cs : List ℤ) → inserting (map same values) (λ ds. bit (same_list (replicate (n - length values) fill) ds)) cs ≡ cond (inside cs) (formula cs) 0)
    → Counted (insertion fill values n) inside formula
insertion-counted fill values n inside formula h u sums =
    counted (insertion fill values n) inside formula
    (λ cs. each-insertion values m (replicate m fill) (length-replicate m fill) cs ∙ sums cs)
    (λ ds b. (ds, [], record { are_words = choices_are_words ks ds good b; good_place = omega arith; reads = choices-carried ks ds good b }))
    (λ words place ds rest c. choices_boxed ks (drop place words) ds rest good c.reads)
  where
    m : ℕ
    m = n - length values

    ks : List ℕ
    ks = count_up (suc m) (length values)

    good : T (choosable ks)
    good = choosable-up (length values) (suc m) (omega arith) (omega arith)

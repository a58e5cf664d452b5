-- Tallies of classes of coefficients: how they make up a list, and how taking a coefficient out changes them.
use mathlib.Core.Path.{◌≡◌, refl, sym, ap₂, ◌∙◌}
use mathlib.Core.Bool.{Bool, true, false, not, ◌&&◌, ◌||◌}
use mathlib.Core.List.{List, [], ◌∷◌}
use Prim.Native.Nat.{ℕ, zero, suc, ◌+◌, ◌≤◌}
use native.Mathlib.Nat.{zero-add}
use native.Mathlib.Omega.{arith}
use borrow.Author.Tests.{eq-eqb, ne_eqb, lt-leb}
use lib.Dec.{T, eqb, eqb→eq, eqb-zero-suc, eqb-suc-zero, eqb-suc-suc}
use lib.Ieee.Fits.{and_l, and_r}
use lib.ListN.{length, get_or, replicate}
use lib.IntN.{ℤ, pos, negsuc}
use Rattle.distr.specs.Packed.{minus_one}
use Rattle.counts.specs.Inside.{same, tally, every, within}
use Rattle.counts.proofs.Sums.{bit, same-eq, same_list, tests_agree, bit-cond}
use Rattle.counts.proofs.InsertionLaw.{undo, tally_by, tally-undo}

-- −1 or 1
abbrev pub is_sign : ℤ → Bool
is_sign c = same minus_one c || same (pos 1) c

-- none of −1, 0 and 1
abbrev pub other : ℤ → Bool
other c = not (within 1 c)

-- the tally of a value is that of its class
pub tally-is : (v : ℤ) (cs : List ℤ) → tally v cs ≡ tally_by (same v) cs
unfolding tally tally_by
tally-is v [] = refl
tally-is v (c ∷ cs) = ap₂ ◌+◌ (sym (bit-cond (same v c))) (tally-is v cs)

-- all that pass, and all that do not
tally-not : (p : ℤ → Bool) (cs : List ℤ) → tally_by p cs + tally_by (λ c. not (p c)) cs ≡ length cs
unfolding tally_by
tally-not p [] = refl
tally-not p (c ∷ cs) = go (p c) (tally-not p cs)
  where
    go : (b : Bool) → tally_by p cs + tally_by (λ c. not (p c)) cs ≡ length cs
        → bit b + tally_by p cs + (bit (not b) + tally_by (λ c. not (p c)) cs) ≡ suc (length cs)
    go true e = omega arith
    go false e = omega arith

pub every-tally : (p : ℤ → Bool) (cs : List ℤ) → every p cs ≡ eqb (tally_by (λ c. not (p c)) cs) 0
unfolding every tally_by
every-tally p [] = refl
every-tally p (c ∷ cs) = rw (every-tally p cs) (go (p c) (tally_by (λ c. not (p c)) cs))
  where
    go : (b : Bool) (t : ℕ) → (b && eqb t 0) ≡ eqb (bit (not b) + t) 0
    go true t = rw (zero-add t)
    go false t = sym (ne_eqb (1 + t) 0 (omega arith))

-- two classes that make up a third
pub tally_join : (p q r : ℤ → Bool) → ((c : ℤ) → bit (p c) + bit (q c) ≡ bit (r c)) → (cs : List ℤ) → tally_by p cs + tally_by q cs ≡ tally_by r cs
unfolding tally_by
tally_join p q r h [] = refl
tally_join p q r h (c ∷ cs) = omega (arith, h c, tally_join p q r h cs)

-- exactly one sign gives each of the two
pub sign_values : (c : ℤ) → bit (same minus_one c) + bit (same (pos 1) c) ≡ bit (is_sign c)
sign_values (pos a) = zero-add (bit (same (pos 1) (pos a)))
sign_values (negsuc a) = go (eqb 0 a)
  where
    go : (b : Bool) → bit b + 0 ≡ bit (b || false)
    go true = refl
    go false = refl

-- each coefficient is one of 0, −1, 1 and the others
pub tally_parts : (cs : List ℤ)
    → tally_by (same (pos 0)) cs + tally_by (same minus_one) cs + tally_by (same (pos 1)) cs + tally_by other cs ≡ length cs
unfolding tally_by
tally_parts [] = refl
tally_parts (c ∷ cs) = omega (arith, tally_parts cs, parts c)
  where
    parts : (c : ℤ) → bit (same (pos 0) c) + bit (same minus_one c) + bit (same (pos 1) c) + bit (other c) ≡ 1
    parts (pos zero) = refl
    parts (pos (suc zero)) = refl
    parts (pos (suc (suc a))) = rw (ne_eqb 0 (suc (suc a)) (omega arith), ne_eqb 1 (suc (suc a)) (omega arith), lt-leb (suc (suc a)) 1 (omega arith))
    parts (negsuc zero) = refl
    parts (negsuc (suc a)) = rw (ne_eqb 0 (suc a) (omega arith), lt-leb (suc (suc a)) 1 (omega arith))

-- copies of u are a list of as many in which nothing else stands
fill_test : (u : ℤ) (m : ℕ) (cs : List ℤ) → same_list (replicate m u) cs ≡ (eqb (length cs) m && eqb (tally_by (λ c. not (same u c)) cs) 0)
unfolding same_list tally_by
fill_test u zero [] = refl
fill_test u zero (c ∷ cs) = rw (eqb-suc-zero (length cs))
fill_test u (suc m) [] = rw (eqb-zero-suc m)
fill_test u (suc m) (c ∷ cs) = rw (eqb-suc-suc (length cs) m, fill_test u m cs) (go (same u c) (eqb (length cs) m) (tally_by (λ c. not (same u c)) cs))
  where
    go : (b e : Bool) (t : ℕ) → (b && (e && eqb t 0)) ≡ (e && eqb (bit (not b) + t) 0)
    go true e t = rw (zero-add t)
    go false true t = sym (ne_eqb (1 + t) 0 (omega arith))
    go false false t = refl

-- a coefficient of a class taken out leaves the tally of a class apart from it
kept_by : (p q : ℤ → Bool) → ((c : ℤ) → T (p c) → q c ≡ false) → (n : ℕ) (cs : List ℤ) (s : ℕ) → length cs ≡ suc n → s ≤ n
    → T (p (get_or cs s (pos 0))) → tally_by q (undo n cs s) ≡ tally_by q cs
kept_by p q apart n cs s h k t =
    let none : bit (q (get_or cs s (pos 0))) ≡ 0 = rw (apart (get_or cs s (pos 0)) t) in
    omega (arith, tally-undo q n cs s h k)

-- so where a value v is taken out
pub kept : (v : ℤ) (q : ℤ → Bool) → q v ≡ false → (n : ℕ) (cs : List ℤ) (s : ℕ) → length cs ≡ suc n → s ≤ n → T (same v (get_or cs s (pos 0)))
    → tally_by q (undo n cs s) ≡ tally_by q cs
kept v q e = kept_by (same v) q (λ c t. rw (← same-eq v c t) e)

-- and where a sign is
pub kept_sign : (q : ℤ → Bool) → q minus_one ≡ false → q (pos 1) ≡ false → (n : ℕ) (cs : List ℤ) (s : ℕ) → length cs ≡ suc n → s ≤ n
    → T (is_sign (get_or cs s (pos 0))) → tally_by q (undo n cs s) ≡ tally_by q cs
kept_sign q e f = kept_by is_sign q (λ c t. go c (same minus_one c) refl t)
  where
    go : (c : ℤ) (b : Bool) → same minus_one c ≡ b → T (b || same (pos 1) c) → q c ≡ false
    go c true d t = rw (← same-eq minus_one c (rw d tt)) e
    go c false d t = rw (← same-eq (pos 1) c t) f

-- the tally of its own class is one less
pub one_less : (p : ℤ → Bool) (n : ℕ) (cs : List ℤ) (s : ℕ) → length cs ≡ suc n → s ≤ n → T (p (get_or cs s (pos 0)))
    → tally_by p cs ≡ suc (tally_by p (undo n cs s))
one_less p n cs s h k t = omega (arith, tally-undo p n cs s h k, one (p (get_or cs s (pos 0))) t)
  where
    one : (b : Bool) → T b → bit b ≡ 1
    one true t = refl
    one false t = elim t [ ]

-- copies of u pass a test that says so by the length and the tally of u
pub copies : (u : ℤ) (m : ℕ) (cs : List ℤ) (test : Bool) → (tally_by (same u) cs ≡ m → length cs ≡ m → T test)
    → (T test → (tally_by (same u) cs ≡ m) × (length cs ≡ m)) → same_list (replicate m u) cs ≡ test
copies u m cs test f g = fill_test u m cs ∙ tests_agree (eqb (length cs) m && eqb rest 0) test there back
  where
    rest : ℕ
    rest = tally_by (λ c. not (same u c)) cs

    there : T (eqb (length cs) m && eqb rest 0) → T test
    there t =
        let l : length cs ≡ m = eqb→eq (length cs) m (and_l (eqb (length cs) m) (eqb rest 0) t) in
        let none : rest ≡ 0 = eqb→eq rest 0 (and_r (eqb (length cs) m) (eqb rest 0) t) in
        f (omega (arith, tally-not (same u) cs)) l

    back : T test → T (eqb (length cs) m && eqb rest 0)
    back t =
        let both = g t in
        rw (eq-eqb (length cs) m both.1, eq-eqb rest 0 (omega (arith, tally-not (same u) cs))) tt

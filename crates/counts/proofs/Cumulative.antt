-- The cumulative Gaussian: how many 64-bit words give each coefficient, and so the count of its rule.
use mathlib.Core.Path.{◌≡◌, refl, sym, ap, ap₂, subst, ◌∙◌}
use mathlib.Core.Logic.{◌⊎◌, inl, inr}
use mathlib.Core.Bool.{Bool, true, false, not, cond, ◌&&◌}
use mathlib.Core.List.{List}
use Prim.Native.Nat.{ℕ, zero, suc, ◌+◌, ◌-◌, ◌*◌, ◌/◌, ◌%◌, ◌^◌, ◌<◌, ◌≤◌}
use native.Mathlib.Nat.{le_refl, le_trans, le_step, le_dest, eq-or-lt_of_le}
use native.Mathlib.Nat.{zero-mul, one-mul, mul-one, mul_comm}
use native.Mathlib.Omega.{arith}
use borrow.Author.Tests.{leb-true, leb-false, ltb-true, ltb-false, eqb-true, eqb-false, le-leb, lt-leb, lt-ltb, le-ltb, eq-eqb, ne_eqb}
use lib.Dec.{T, leb, ltb, eqb, leb→le, le→leb, ltb→lt, lt→ltb, eqb→eq, eqb-suc-zero, eqb-zero-suc, eqb-suc-suc}
use lib.ListN.{get_or}
use lib.Ieee.Fits.{and_i, and_l, and_r, eq→eqb}
use lib.IntN.{ℤ, pos, negsuc}
use Rattle.distr.specs.Gaussian.{cumulative_table, magnitude, with_sign, cumulative_value, cumulative}
use Rattle.distr.proofs.Rising.{Rising, is-rising, rises, Largest, largest}
use Rattle.counts.specs.Inside.{same, within, list_of}
use Rattle.counts.specs.Formula.{product_of, cumulative_ways}
use Rattle.counts.proofs.Exact.{Counted}
use Rattle.counts.proofs.Sums.{bit, sum, sum_ext, sum-zero, sum_const, sum_append, bit_and, tests_agree}
use Rattle.counts.proofs.Products.{ways}
use Rattle.counts.proofs.WideWords.{wide-counted}

-- ---- sums over an interval, and over the odd or even words of one

-- a number below, past, or in an interval
term_below : (s t d x : ℕ) → d < s → bit (leb s d && ltb d t) * x ≡ 0
term_below s t d x h = ap (λ (b : Bool). bit (b && ltb d t) * x) (lt-leb s d h) ∙ zero-mul x

term_past : (s t d x : ℕ) → t ≤ d → bit (leb s d && ltb d t) * x ≡ 0
term_past s t d x h = ap (λ (b : Bool). bit (leb s d && b) * x) (le-ltb d t h) ∙ go (leb s d)
  where
    go : (b : Bool) → bit (b && false) * x ≡ 0
    go true = zero-mul x
    go false = zero-mul x

term_in : (s t d x : ℕ) → s ≤ d → d < t → bit (leb s d && ltb d t) * x ≡ x
term_in s t d x h k = ap₂ (λ (a b : Bool). bit (a && b) * x) (le-leb s d h) (lt-ltb d t k) ∙ one-mul x

-- a sum over the numbers from s up to t
sum-part : (r s t : ℕ) (f : ℕ → ℕ) → s ≤ t → t ≤ r → sum r (λ d. bit (leb s d && ltb d t) * f d) ≡ sum t f - sum s f
sum-part r s t f h k = go (le_dest h) (le_dest k)
  where
    term : ℕ → ℕ
    term d = bit (leb s d && ltb d t) * f d

    go : (a : ℕ) × (s + a ≡ t) → (c : ℕ) × (t + c ≡ r) → sum r term ≡ sum t f - sum s f
    go (a, p) (c, q) = omega (
      arith,
      ap (λ (x : ℕ). sum x term) (sym q) ∙ sum_append t c term,
      ap (λ (x : ℕ). sum x term) (sym p) ∙ sum_append s a term,
      ap (λ (x : ℕ). sum x f) (sym p) ∙ sum_append s a f,
      sum_ext s term (λ d. 0) (λ d l. term_below s t d (f d) l) ∙ sum-zero s,
      sum_ext a (λ d. term (s + d)) (λ d. f (s + d)) (λ d l. term_in s t (s + d) (f (s + d)) (omega arith) (omega arith)),
      sum_ext c (λ d. term (t + d)) (λ d. 0) (λ d l. term_past s t (t + d) (f (t + d)) (omega arith)) ∙ sum-zero c,
    )

-- below b stand b/2 odd numbers and (b+1)/2 even ones
sum_odd : (b : ℕ) → sum b (λ w. bit (eqb (w % 2) 1)) ≡ b / 2
unfolding sum
sum_odd zero = refl
sum_odd (suc b) = ap (λ (x : ℕ). x + bit (eqb (b % 2) 1)) (sum_odd b) ∙ go (eqb (b % 2) 1) refl
  where
    go : (t : Bool) → eqb (b % 2) 1 ≡ t → b / 2 + bit t ≡ suc b / 2
    go true e = omega (arith, eqb-true (b % 2) 1 e)
    go false e = omega (arith, eqb-false (b % 2) 1 e)

sum-even : (b : ℕ) → sum b (λ w. bit (not (eqb (w % 2) 1))) ≡ (b + 1) / 2
unfolding sum
sum-even zero = refl
sum-even (suc b) = ap (λ (x : ℕ). x + bit (not (eqb (b % 2) 1))) (sum-even b) ∙ go (eqb (b % 2) 1) refl
  where
    go : (t : Bool) → eqb (b % 2) 1 ≡ t → (b + 1) / 2 + bit (not t) ≡ (suc b + 1) / 2
    go true e = omega (arith, eqb-true (b % 2) 1 e)
    go false e = omega (arith, eqb-false (b % 2) 1 e)

-- ---- the magnitude of a word

-- the end of magnitude m's interval of the words below r: `interval_end` where r is 2^64
abbrev end : ℕ → ℕ → List ℕ → ℕ → ℕ
end r M bounds m = cond (eqb m M) r (get_or bounds (suc m) 0)

end-inner : (r M : ℕ) (bounds : List ℕ) (m : ℕ) → m < M → end r M bounds m ≡ get_or bounds (suc m) 0
end-inner r M bounds m h = ap (λ (t : Bool). cond t r (get_or bounds (suc m) 0)) (ne_eqb m M (omega arith))

end-last : (r M : ℕ) (bounds : List ℕ) (m : ℕ) → m ≡ M → end r M bounds m ≡ r
end-last r M bounds m e = ap (λ (t : Bool). cond t r (get_or bounds (suc m) 0)) (eq-eqb m M e)

-- ---- words below r, bounds that never fall from 0 to at most r

module _ (r M : ℕ) (bounds : List ℕ) (first : get_or bounds 0 0 ≡ 0)
    (rise : (i j : ℕ) → i ≤ j → j ≤ M → get_or bounds i 0 ≤ get_or bounds j 0) (limit : (j : ℕ) → j ≤ M → get_or bounds j 0 ≤ r) where
  end-bounds : (m : ℕ) → m ≤ M → (get_or bounds m 0 ≤ end r M bounds m) × (end r M bounds m ≤ r)
  end-bounds m h = go (eq-or-lt_of_le h)
    where
      go : (m ≡ M) ⊎ (m < M) → (get_or bounds m 0 ≤ end r M bounds m) × (end r M bounds m ≤ r)
      go (inl e) = omega (arith, end-last r M bounds m e, limit m h)
      go (inr l) = omega (arith, end-inner r M bounds m l, rise m (suc m) (le_step (le_refl m)) l, limit (suc m) l)

  -- magnitude m is that of the words from its bound up to its end
  in_interval : (m w : ℕ) → m ≤ M → w < r → eqb (magnitude bounds M w) m ≡ (leb (get_or bounds m 0) w && ltb w (end r M bounds m))
  in_interval m w h l = tests_agree (eqb (magnitude bounds M w) m) (lower && upper) onto back
    where
      lower : Bool
      lower = leb (get_or bounds m 0) w

      upper : Bool
      upper = ltb w (end r M bounds m)

      x : Largest bounds M w (magnitude bounds M w)
      x = largest bounds M w (omega arith)

      below : magnitude bounds M w ≡ m → (m ≡ M) ⊎ (m < M) → w < end r M bounds m
      below e (inl p) = omega (arith, end-last r M bounds m p)
      below e (inr p) = omega (arith, end-inner r M bounds m p, x.above (suc m) (omega arith) p)

      onto : T (eqb (magnitude bounds M w) m) → T (lower && upper)
      onto t =
          let e = eqb→eq (magnitude bounds M w) m t in
          let s : get_or bounds m 0 ≤ w = subst (λ (k : ℕ). get_or bounds k 0 ≤ w) e x.reached in
          and_i lower upper (le→leb (get_or bounds m 0) w s) (lt→ltb w (end r M bounds m) (below e (eq-or-lt_of_le h)))

      equal : get_or bounds m 0 ≤ w → w < end r M bounds m → (a b : Bool)
          → ltb (magnitude bounds M w) m ≡ a → ltb m (magnitude bounds M w) ≡ b → magnitude bounds M w ≡ m
      equal s u true b p q = absurd (omega (arith, x.above m (ltb-true (magnitude bounds M w) m p) h))
      equal s u false true p q =
          let k : m < magnitude bounds M w = ltb-true m (magnitude bounds M w) q in
          absurd (omega (arith, end-inner r M bounds m (le_trans k x.top), rise (suc m) (magnitude bounds M w) k x.top, x.reached))
      equal s u false false p q = omega (arith, ltb-false (magnitude bounds M w) m p, ltb-false m (magnitude bounds M w) q)

      back : T (lower && upper) → T (eqb (magnitude bounds M w) m)
      back t =
          let s = leb→le (get_or bounds m 0) w (and_l lower upper t) in
          let u = ltb→lt w (end r M bounds m) (and_r lower upper t) in
          eq→eqb (equal s u (ltb (magnitude bounds M w) m) (ltb m (magnitude bounds M w)) refl refl)

  -- words of one kind that have a magnitude
  kind_ways : (kind : ℕ → Bool) (m : ℕ)
      → sum r (λ w. bit (kind w && eqb (magnitude bounds M w) m))
      ≡ cond (leb m M) (sum (end r M bounds m) (λ w. bit (kind w)) - sum (get_or bounds m 0) (λ w. bit (kind w))) 0
  kind_ways kind m = go (leb m M) refl
    where
      part : ℕ → ℕ
      part w = bit (leb (get_or bounds m 0) w && ltb w (end r M bounds m)) * bit (kind w)

      term : (w : ℕ) → bit (kind w && eqb (magnitude bounds M w) m) ≡ bit (eqb (magnitude bounds M w) m) * bit (kind w)
      term w = bit_and (kind w) (eqb (magnitude bounds M w) m) ∙ mul_comm (bit (kind w)) (bit (eqb (magnitude bounds M w) m))

      with_test : (w : ℕ) (t : Bool) → eqb (magnitude bounds M w) m ≡ t → bit (kind w && eqb (magnitude bounds M w) m) ≡ bit t * bit (kind w)
      with_test w t e = term w ∙ ap (λ (b : Bool). bit b * bit (kind w)) e

      too_large : M < m → (w : ℕ) → eqb (magnitude bounds M w) m ≡ false
      too_large l w = ne_eqb (magnitude bounds M w) m (omega (arith, (largest bounds M w (omega arith)).top))

      go : (t : Bool) → leb m M ≡ t
          → sum r (λ w. bit (kind w && eqb (magnitude bounds M w) m))
          ≡ cond t (sum (end r M bounds m) (λ w. bit (kind w)) - sum (get_or bounds m 0) (λ w. bit (kind w))) 0
      go true e =
          let h = leb-true m M e in
          let b = end-bounds m h in
          sum_ext r (λ w. bit (kind w && eqb (magnitude bounds M w) m)) part (λ w l. with_test w _ (in_interval m w h l))
          ∙ sum-part r (get_or bounds m 0) (end r M bounds m) (λ w. bit (kind w)) b.0 b.1
      go false e =
          sum_ext r (λ w. bit (kind w && eqb (magnitude bounds M w) m)) (λ w. 0)
          (λ w l. with_test w false (too_large (leb-false m M e) w) ∙ zero-mul (bit (kind w)))
          ∙ sum-zero r

  -- a coefficient's ways, where its sign and magnitude are a test of the word and a number, and the words of that kind are counted
  sign_ways : (c : ℤ) (kind : ℕ → Bool) (m : ℕ) (below : ℕ → ℕ)
      → ((w : ℕ) → same (cumulative_value M bounds w) c ≡ (kind w && eqb (magnitude bounds M w) m))
      → ((b : ℕ) → sum b (λ w. bit (kind w)) ≡ below b)
      → ways r (cumulative_value M bounds) c ≡ cond (leb m M) (below (end r M bounds m) - below (get_or bounds m 0)) 0
  sign_ways c kind m below h k =
      sum_ext r (λ w. bit (same (cumulative_value M bounds w) c)) (λ w. bit (kind w && eqb (magnitude bounds M w) m)) (λ w l. ap bit (h w))
      ∙ kind_ways kind m
      ∙ ap₂ (λ (x y : ℕ). cond (leb m M) (x - y) 0) (k (end r M bounds m)) (k (get_or bounds m 0))

-- ---- the sign of a word

same-zero : (p : Bool) (x : ℕ) → same (with_sign p x) (pos 0) ≡ (true && eqb x 0)
same-zero true x = refl
same-zero false zero = refl
same-zero false (suc x) = sym (eqb-suc-zero x)

same_plus : (p : Bool) (x m : ℕ) → same (with_sign p x) (pos (suc m)) ≡ (p && eqb x (suc m))
same_plus true x m = refl
same_plus false zero m = eqb-zero-suc m
same_plus false (suc x) m = refl

same_minus : (p : Bool) (x m : ℕ) → same (with_sign p x) (negsuc m) ≡ (not p && eqb x (suc m))
same_minus true x m = refl
same_minus false zero m = sym (eqb-zero-suc m)
same_minus false (suc x) m = sym (eqb-suc-suc x m)

sum-all : (b : ℕ) → sum b (λ w. bit true) ≡ b
sum-all b = sum_const b 1 ∙ mul-one b

-- ---- the rule

-- the 64-bit words that give a coefficient
pub cumulative-ways : (M : ℕ) (bounds : List ℕ) → T (cumulative_table M bounds)
    → (c : ℤ) → ways (2 ^ 64) (cumulative_value M bounds) c ≡ cond (within M c) (cumulative_ways M bounds c) 0
cumulative-ways M bounds t c = go c
  where
    table : Rising (M + 2) (2 ^ 64 - 1) bounds
    table = is-rising (M + 2) (2 ^ 64 - 1) bounds t

    rise : (i j : ℕ) → i ≤ j → j ≤ M → get_or bounds i 0 ≤ get_or bounds j 0
    rise i j h k = rises bounds table.never_falls_lem i j h (omega (arith, table.long))

    limit : (j : ℕ) → j ≤ M → get_or bounds j 0 ≤ 2 ^ 64
    limit j h = omega (arith, rises bounds table.never_falls_lem j (M + 2 - 1) (omega arith) (omega (arith, table.long)), table.final)

    go : (c : ℤ) → ways (2 ^ 64) (cumulative_value M bounds) c ≡ cond (within M c) (cumulative_ways M bounds c) 0
    go (pos zero) = sign_ways (2 ^ 64) M bounds table.first rise limit (pos 0) (λ w. true) 0 (λ b. b)
        (λ w. same-zero (eqb (w % 2) 1) (magnitude bounds M w)) sum-all
    go (pos (suc m)) = sign_ways (2 ^ 64) M bounds table.first rise limit (pos (suc m)) (λ w. eqb (w % 2) 1) (suc m) (λ b. b / 2)
        (λ w. same_plus (eqb (w % 2) 1) (magnitude bounds M w) m) sum_odd
    go (negsuc m) = sign_ways (2 ^ 64) M bounds table.first rise limit (negsuc m) (λ w. not (eqb (w % 2) 1)) (suc m) (λ b. (b + 1) / 2)
        (λ w. same_minus (eqb (w % 2) 1) (magnitude bounds M w) m) sum-even

-- the count of the cumulative Gaussian
pub cumulative-counted : (M n : ℕ) (bounds : List ℕ) → T (cumulative_table M bounds)
    → Counted (cumulative M bounds n) (λ cs. list_of n (within M) cs) (λ cs. product_of (cumulative_ways M bounds) cs)
cumulative-counted M n bounds t = wide-counted n (cumulative_value M bounds) (within M) (cumulative_ways M bounds) (cumulative-ways M bounds t)

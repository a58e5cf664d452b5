-- Fixed composition: counted by the factorials of the two inserted weights.
use mathlib.Core.Path.{◌≡◌, refl, ap, ap₂, ◌∙◌}
use mathlib.Core.Bool.{Bool, true, false, cond, ◌&&◌}
use mathlib.Core.List.{List, ◌++◌, map}
use Prim.Native.Nat.{ℕ, ◌+◌, ◌-◌, ◌*◌, ◌<◌, ◌≤◌, max}
use native.Mathlib.Nat.{zero-add, one-mul, mul-one}
use native.Mathlib.Omega.{arith}
use borrow.Author.Tests.{eq-eqb, ne_eqb, leb-true, leb-false}
use lib.Dec.{T, leb, eqb, leb→le, le→leb, eqb→eq, eqb-suc-suc}
use lib.Ieee.Fits.{and_i, and_l, and_r}
use lib.ListN.{length, replicate, length-append, length-replicate}
use lib.IntN.{ℤ, pos}
use Rattle.distr.specs.Packed.{minus_one}
use Rattle.distr.specs.Insertion.{insertion, fixed_composition}
use Rattle.counts.specs.Inside.{same, tally, within, list_of}
use Rattle.counts.specs.Formula.{factorial, composition_formula}
use Rattle.counts.proofs.Exact.{Counted}
use Rattle.distr.proofs.Writing.{map_append, map-replicate}
use Rattle.counts.proofs.Sums.{bit, same_list, tests_agree, bit-cond}
use Rattle.counts.proofs.InsertionLaw.{undo, tally_by, inserting, inserting_append}
use Rattle.counts.proofs.Insertion.{Steps, class_count, insertion-counted}
use Rattle.counts.proofs.Tallies.{other, tally-is, every-tally, tally_parts, copies, kept, one_less}

-- ---- profiles: z zeros, x of −1, y of 1 and nothing else

record Profile (z x y : ℕ) (cs : List ℤ) : Type 0 where
  zeros : tally_by (same (pos 0)) cs ≡ z
  minuses : tally_by (same minus_one) cs ≡ x
  ones : tally_by (same (pos 1)) cs ≡ y
  others : tally_by other cs ≡ 0

-- the same as a test
profile : ℕ → ℕ → ℕ → List ℤ → Bool
profile z x y cs =
    eqb (tally_by (same (pos 0)) cs) z && (eqb (tally_by (same minus_one) cs) x && (eqb (tally_by (same (pos 1)) cs) y && eqb (tally_by other cs) 0))

profile_of : (z x y : ℕ) (cs : List ℤ) → T (profile z x y cs) → Profile z x y cs
unfolding profile
profile_of z x y cs t =
    let all = four (eqb (tally_by (same (pos 0)) cs) z) (eqb (tally_by (same minus_one) cs) x) (eqb (tally_by (same (pos 1)) cs) y)
    (eqb (tally_by other cs) 0) t in record {
      zeros = eqb→eq (tally_by (same (pos 0)) cs) z all.0;
      minuses = eqb→eq (tally_by (same minus_one) cs) x all.1;
      ones = eqb→eq (tally_by (same (pos 1)) cs) y all.2;
      others = eqb→eq (tally_by other cs) 0 all.3;
    }
  where
    four : (a b c d : Bool) → T (a && (b && (c && d))) → T a × T b × T c × T d
    four true true true true t = (tt, tt, tt, tt)
    four false b c d t = elim t [ ]
    four true false c d t = elim t [ ]
    four true true false d t = elim t [ ]
    four true true true false t = elim t [ ]

profile_from : (z x y : ℕ) (cs : List ℤ) → Profile z x y cs → T (profile z x y cs)
unfolding profile
profile_from z x y cs h =
    rw (
      eq-eqb (tally_by (same (pos 0)) cs) z h.zeros,
      eq-eqb (tally_by (same minus_one) cs) x h.minuses,
      eq-eqb (tally_by (same (pos 1)) cs) y h.ones,
      eq-eqb (tally_by other cs) 0 h.others,
    ) tt

-- each of the three values, taken out, goes back to the profile with one less of it
zero_steps : (x y : ℕ) → Steps (same (pos 0)) (λ j. profile j x y)
unfolding profile
zero_steps x y = record {
  back = λ j n cs s h k t. rw (
    kept (pos 0) (same minus_one) refl n cs s h k t,
    kept (pos 0) (same (pos 1)) refl n cs s h k t,
    kept (pos 0) other refl n cs s h k t,
    one_less (same (pos 0)) n cs s h k t,
    eqb-suc-suc (tally_by (same (pos 0)) (undo n cs s)) j,
  );
  has = λ j cs t. (profile_of j x y cs t).zeros;
}

minus_steps : (z y : ℕ) → Steps (same minus_one) (λ j. profile z j y)
unfolding profile
minus_steps z y = record {
  back = λ j n cs s h k t. rw (
    kept minus_one (same (pos 0)) refl n cs s h k t,
    kept minus_one (same (pos 1)) refl n cs s h k t,
    kept minus_one other refl n cs s h k t,
    one_less (same minus_one) n cs s h k t,
    eqb-suc-suc (tally_by (same minus_one) (undo n cs s)) j,
  );
  has = λ j cs t. (profile_of z j y cs t).minuses;
}

one_steps : (z x : ℕ) → Steps (same (pos 1)) (λ j. profile z x j)
unfolding profile
one_steps z x = record {
  back = λ j n cs s h k t. rw (
    kept (pos 1) (same (pos 0)) refl n cs s h k t,
    kept (pos 1) (same minus_one) refl n cs s h k t,
    kept (pos 1) other refl n cs s h k t,
    one_less (same (pos 1)) n cs s h k t,
    eqb-suc-suc (tally_by (same (pos 1)) (undo n cs s)) j,
  );
  has = λ j cs t. (profile_of z x j cs t).ones;
}

-- copies of each of the three have its profile
copies_zero : (m : ℕ) (cs : List ℤ) → same_list (replicate m (pos 0)) cs ≡ profile m 0 0 cs
copies_zero m cs =
    copies (pos 0) m cs (profile m 0 0 cs) (λ e l. profile_from m 0 0 cs (omega (arith, tally_parts cs)))
    (λ t. omega (arith, tally_parts cs, profile_of m 0 0 cs t))

copies_minus : (m : ℕ) (cs : List ℤ) → same_list (replicate m minus_one) cs ≡ profile 0 m 0 cs
copies_minus m cs =
    copies minus_one m cs (profile 0 m 0 cs) (λ e l. profile_from 0 m 0 cs (omega (arith, tally_parts cs)))
    (λ t. omega (arith, tally_parts cs, profile_of 0 m 0 cs t))

copies_one : (m : ℕ) (cs : List ℤ) → same_list (replicate m (pos 1)) cs ≡ profile 0 0 m cs
copies_one m cs =
    copies (pos 1) m cs (profile 0 0 m cs) (λ e l. profile_from 0 0 m cs (omega (arith, tally_parts cs)))
    (λ t. omega (arith, tally_parts cs, profile_of 0 0 m cs t))

-- ---- two classes, one after the other

two_classes : (p q : ℤ → Bool) (test : ℕ → ℕ → List ℤ → Bool) → Steps p (λ j. test j 0) → ((a : ℕ) → Steps q (test a))
    → (a b : ℕ) (f : List ℤ → ℕ) → ((ds : List ℤ) → f ds ≡ cond (test 0 0 ds) 1 0)
    → (cs : List ℤ) → inserting (replicate a p ++ replicate b q) f cs ≡ cond (test a b cs) (factorial a * factorial b) 0
unfolding factorial
two_classes p q test ps qs a b f h cs =
    inserting_append (replicate a p) (replicate b q) f cs
    ∙ class_count q (test a) (qs a) (factorial a) b 0 (inserting (replicate a p) f)
    (λ ds. class_count p (λ j. test j 0) ps 1 a 0 f h ds ∙ rw (zero-add a, one-mul (factorial a), mul-one (factorial a))) cs
    ∙ rw (zero-add b)

-- a of v and then b of w inserted into m of u
two_inserted : (u v w : ℤ) (m a b n : ℕ) (test : ℕ → ℕ → List ℤ → Bool) (inside : List ℤ → Bool)
    → m + (a + b) ≡ n → n ≤ 65536
    → ((cs : List ℤ) → same_list (replicate m u) cs ≡ test 0 0 cs) → Steps (same v) (λ j. test j 0) → ((a : ℕ) → Steps (same w) (test a))
    → ((cs : List ℤ) → test a b cs ≡ inside cs)
    → Counted (insertion u (replicate a v ++ replicate b w) n) inside (λ cs. factorial a * factorial b)
two_inserted u v w m a b n test inside e k start vs ws final =
    insertion-counted u values n inside (λ cs. factorial a * factorial b) (omega (arith, size)) k sums
  where
    values : List ℤ
    values = replicate a v ++ replicate b w

    size : length values ≡ a + b
    size = length-append (replicate a v) (replicate b w) ∙ ap₂ ◌+◌ (length-replicate a v) (length-replicate b w)

    left : n - length values ≡ m
    left = omega (arith, size)

    classes : map same values ≡ replicate a (same v) ++ replicate b (same w)
    classes = map_append same (replicate a v) (replicate b w) ∙ ap₂ ◌++◌ (map-replicate same a v) (map-replicate same b w)

    sums : (cs : List ℤ) → inserting (map same values) (λ ds. bit (same_list (replicate (n - length values) u) ds)) cs
        ≡ cond (inside cs) (factorial a * factorial b) 0
    sums cs =
        ap₂ (λ (ps : List (ℤ → Bool)) (j : ℕ). inserting ps (λ ds. bit (same_list (replicate j u) ds)) cs) classes left
        ∙ two_classes (same v) (same w) test vs ws a b (λ ds. bit (same_list (replicate m u) ds)) (λ ds. ap bit (start ds) ∙ bit-cond (test 0 0 ds)) cs
        ∙ ap (λ (t : Bool). cond t (factorial a * factorial b) 0) (final cs)

-- ---- fixed composition

-- the profile is the distribution's own condition
composition_inside : (minus ones z n : ℕ) → z + (minus + ones) ≡ n → (cs : List ℤ)
    → profile z minus ones cs ≡ (list_of n (within 1) cs && eqb (tally minus_one cs) minus && eqb (tally (pos 1) cs) ones)
composition_inside minus ones z n e cs =
    rw (tally-is minus_one cs, tally-is (pos 1) cs, every-tally (within 1) cs) (tests_agree (profile z minus ones cs) test there back)
  where
    test : Bool
    test =
        eqb (length cs) n && eqb (tally_by other cs) 0 && eqb (tally_by (same minus_one) cs) minus && eqb (tally_by (same (pos 1)) cs) ones

    there : T (profile z minus ones cs) → T test
    there t =
        let h = profile_of z minus ones cs t in
        rw (
          eq-eqb (length cs) n (omega (arith, tally_parts cs)),
          eq-eqb (tally_by other cs) 0 h.others,
          eq-eqb (tally_by (same minus_one) cs) minus h.minuses,
          eq-eqb (tally_by (same (pos 1)) cs) ones h.ones,
        ) tt

    four : (a b c d : Bool) → T (a && b && c && d) → T a × T b × T c × T d
    four true true true true t = (tt, tt, tt, tt)
    four false b c d t = elim t [ ]
    four true false c d t = elim t [ ]
    four true true false d t = elim t [ ]
    four true true true false t = elim t [ ]

    back : T test → T (profile z minus ones cs)
    back t =
        let all = four (eqb (length cs) n) (eqb (tally_by other cs) 0) (eqb (tally_by (same minus_one) cs) minus) (eqb (tally_by (same (pos 1)) cs) ones) t in
        let l : length cs ≡ n = eqb→eq (length cs) n all.0 in
        let o : tally_by other cs ≡ 0 = eqb→eq (tally_by other cs) 0 all.1 in
        let x : tally_by (same minus_one) cs ≡ minus = eqb→eq (tally_by (same minus_one) cs) minus all.2 in
        let y : tally_by (same (pos 1)) cs ≡ ones = eqb→eq (tally_by (same (pos 1)) cs) ones all.3 in
        profile_from z minus ones cs (omega (arith, tally_parts cs))

-- the formula by the commonest value
pub zeros_fill : (minus ones z : ℕ) → max minus ones ≤ z → composition_formula minus ones z ≡ factorial minus * factorial ones
zeros_fill minus ones z h = rw (eq-eqb (max z (max minus ones)) z (omega arith))

minuses_fill : (minus ones z : ℕ) → z < max minus ones → ones ≤ minus → composition_formula minus ones z ≡ factorial z * factorial ones
minuses_fill minus ones z h k = rw (ne_eqb (max z (max minus ones)) z (omega arith), eq-eqb (max z (max minus ones)) minus (omega arith))

pub ones_fill : (minus ones z : ℕ) → z < max minus ones → minus < ones → composition_formula minus ones z ≡ factorial z * factorial minus
ones_fill minus ones z h k = rw (ne_eqb (max z (max minus ones)) z (omega arith), ne_eqb (max z (max minus ones)) minus (omega arith))

both_at_most : (a b z : ℕ) → (leb a z && leb b z) ≡ leb (max a b) z
both_at_most a b z =
    tests_agree (leb a z && leb b z) (leb (max a b) z)
    (λ t. le→leb (max a b) z (omega (arith, leb→le a z (and_l (leb a z) (leb b z) t), leb→le b z (and_r (leb a z) (leb b z) t))))
    (λ t. and_i (leb a z) (leb b z) (le→leb a z (omega (arith, leb→le (max a b) z t))) (le→leb b z (omega (arith, leb→le (max a b) z t))))

pub composition_counted : (minus ones n : ℕ) → minus + ones ≤ n → n ≤ 65536
    → Counted (fixed_composition minus ones n) (λ cs. list_of n (within 1) cs && eqb (tally minus_one cs) minus && eqb (tally (pos 1) cs) ones)
    (λ cs. composition_formula minus ones (n - (minus + ones)))
composition_counted minus ones n h k = rw (both_at_most minus ones z) (go (leb (max minus ones) z) (leb ones minus) refl refl)
  where
    z : ℕ
    z = n - (minus + ones)

    inside : List ℤ → Bool
    inside cs = list_of n (within 1) cs && eqb (tally minus_one cs) minus && eqb (tally (pos 1) cs) ones

    final : (cs : List ℤ) → profile z minus ones cs ≡ inside cs
    final = composition_inside minus ones z n (omega arith)

    go : (t r : Bool) → leb (max minus ones) z ≡ t → leb ones minus ≡ r
        → Counted (cond t (insertion (pos 0) (replicate minus minus_one ++ replicate ones (pos 1)) n)
        (cond r (insertion minus_one (replicate z (pos 0) ++ replicate ones (pos 1)) n) (insertion (pos 1) (replicate z (pos 0) ++ replicate minus minus_one) n)))
        inside (λ cs. composition_formula minus ones z)
    go true r e f =
        rw (zeros_fill minus ones z (leb-true (max minus ones) z e))
        (two_inserted (pos 0) minus_one (pos 1) z minus ones n (λ i j. profile z i j) inside (omega arith) k
        (copies_zero z) (minus_steps z 0) (λ a. one_steps z a) final)
    go false true e f =
        rw (minuses_fill minus ones z (leb-false (max minus ones) z e) (leb-true ones minus f))
        (two_inserted minus_one (pos 0) (pos 1) minus z ones n (λ i j. profile i minus j) inside (omega arith) k
        (copies_minus minus) (zero_steps minus 0) (λ a. one_steps a minus) final)
    go false false e f =
        rw (ones_fill minus ones z (leb-false (max minus ones) z e) (leb-false ones minus f))
        (two_inserted (pos 1) (pos 0) minus_one ones z minus n (λ i j. profile i j ones) inside (omega arith) k
        (copies_one ones) (zero_steps 0 ones) (λ a. minus_steps a ones) final)

-- Fixed binary and ternary weight: counted by the factorial of the inserted weight.
use mathlib.Core.Path.{◌≡◌, refl, ap, ◌∙◌}
use mathlib.Core.Bool.{Bool, true, false, cond, ◌&&◌, and_assoc}
use mathlib.Core.List.{List, [], ◌∷◌, ◌++◌, append-nil}
use Prim.Native.Nat.{ℕ, zero, suc, ◌+◌, ◌-◌, ◌<◌, ◌≤◌, min}
use native.Mathlib.Nat.{zero-add, one-mul, mul-one}
use native.Mathlib.Omega.{arith}
use borrow.Author.Tests.{eq-eqb, ne_eqb, lt-leb, leb-true, leb-false, eqb-true}
use lib.Dec.{T, leb, eqb, eqb→eq, leb-zero, eqb-suc-suc}
use lib.ListN.{length, drop, replicate, length-replicate}
use lib.IntN.{ℤ, pos, negsuc}
use Rattle.distr.specs.Packed.{minus_one, signs_alone}
use Rattle.distr.specs.Insertion.{count_up, sign_before, insert_signed, insertion, fixed_composition, fixed_binary_weight, signed_insertion, fixed_ternary_weight}
use Rattle.counts.specs.Inside.{same, tally, every, is_bit, within, list_of}
use Rattle.counts.specs.Formula.{factorial, composition_formula}
use Rattle.counts.specs.DrawLists.{in_box}
use Rattle.counts.proofs.Sums.{bit, cnt, same_list, tests_agree, bit-cond}
use Rattle.counts.proofs.Exact.{Counted, counted}
use Rattle.counts.proofs.WideWords.{counted_as}
use Rattle.counts.proofs.Choices.{choosable}
use Rattle.counts.proofs.Packed.{signs_alone_counted}
use Rattle.counts.proofs.InsertionLaw.{undo, tally_by}
use Rattle.counts.proofs.Insertion.{Steps, class_count, each_signed, choosable-up}
use Rattle.counts.proofs.Tallies.{is_sign, other, tally-is, tally_join, sign_values, every-tally, tally_parts}
use Rattle.counts.proofs.Tallies.{copies, kept_sign, one_less}
use Rattle.counts.proofs.SignedInsertion.{next_signs, carrier, signed_boxed, signed-carried, carrier_are_words}
use Rattle.counts.proofs.FixedComposition.{zeros_fill, ones_fill, composition_counted}

-- ---- fixed binary weight: a composition with no −1

-- the two rules are one
weight_rule : (h n : ℕ) → fixed_composition 0 h n ≡ fixed_binary_weight h n
weight_rule h n = rw (zero-add h, leb-zero (n - h)) (go (leb h (n - h)) refl)
  where
    go : (t : Bool) → leb h (n - h) ≡ t
        → cond t (insertion (pos 0) (replicate h (pos 1)) n)
        (cond (leb h 0) (insertion minus_one (replicate (n - h) (pos 0) ++ replicate h (pos 1)) n) (insertion (pos 1) (replicate (n - h) (pos 0) ++ []) n))
        ≡ cond t (insertion (pos 0) (replicate h (pos 1)) n) (insertion (pos 1) (replicate (n - h) (pos 0)) n)
    go true e = refl
    go false e = rw (lt-leb h 0 (omega (arith, leb-false h (n - h) e)), append-nil (replicate (n - h) (pos 0)))

weight_formula : (h n : ℕ) → composition_formula 0 h (n - (0 + h)) ≡ factorial (min h (n - h))
unfolding factorial
weight_formula h n = rw (zero-add h) (go (leb h (n - h)) refl)
  where
    least : (m : ℕ) → m ≡ min h (n - h) → factorial m ≡ factorial (min h (n - h))
    least m e = ap factorial e

    go : (t : Bool) → leb h (n - h) ≡ t → composition_formula 0 h (n - h) ≡ factorial (min h (n - h))
    go true e =
        let l : h ≤ n - h = leb-true h (n - h) e in
        zeros_fill 0 h (n - h) (omega arith) ∙ one-mul (factorial h) ∙ least h (omega arith)
    go false e =
        let l : n - h < h = leb-false h (n - h) e in
        ones_fill 0 h (n - h) (omega arith) (omega arith) ∙ mul-one (factorial (n - h)) ∙ least (n - h) (omega arith)

-- −1, 0 and 1 without −1 are bits
every-bit : (cs : List ℤ) → (every (within 1) cs && eqb (tally minus_one cs) 0) ≡ every is_bit cs
unfolding every tally
every-bit [] = refl
every-bit (pos a ∷ cs) =
    rw (zero-add (tally minus_one cs)) (and_assoc (leb a 1) (every (within 1) cs) (eqb (tally minus_one cs) 0) ∙ ap (λ (b : Bool). leb a 1 && b) (every-bit cs))
every-bit (negsuc zero ∷ cs) = go (every (within 1) cs)
  where
    go : (b : Bool) → (b && eqb (1 + tally minus_one cs) 0) ≡ false
    go true = ne_eqb (1 + tally minus_one cs) 0 (omega arith)
    go false = refl
every-bit (negsuc (suc a) ∷ cs) = rw (lt-leb (suc (suc a)) 1 (omega arith))

pub binary_weight_counted : (h n : ℕ) → h ≤ n → n ≤ 65536
    → Counted (fixed_binary_weight h n) (λ cs. list_of n is_bit cs && eqb (tally (pos 1) cs) h) (λ cs. factorial (min h (n - h)))
binary_weight_counted h n l k =
    rw (← weight_rule h n)
    (counted_as (fixed_composition 0 h n) (λ cs. list_of n (within 1) cs && eqb (tally minus_one cs) 0 && eqb (tally (pos 1) cs) h)
    (λ cs. list_of n is_bit cs && eqb (tally (pos 1) cs) h) (λ cs. composition_formula 0 h (n - (0 + h))) (λ cs. factorial (min h (n - h)))
    (λ cs. ap (λ (b : Bool). b && eqb (tally (pos 1) cs) h)
    (and_assoc (eqb (length cs) n) (every (within 1) cs) (eqb (tally minus_one cs) 0) ∙ ap (λ (b : Bool). eqb (length cs) n && b) (every-bit cs)))
    (λ cs t. weight_formula h n) (composition_counted 0 h n (omega arith) k))

-- ---- fixed ternary weight: z zeros and j signs

weights : ℕ → ℕ → List ℤ → Bool
weights z j cs = eqb (tally_by (same (pos 0)) cs) z && (eqb (tally_by is_sign cs) j && eqb (tally_by other cs) 0)

record Weights (z j : ℕ) (cs : List ℤ) : Type 0 where
  zeros : tally_by (same (pos 0)) cs ≡ z
  signs : tally_by is_sign cs ≡ j
  others : tally_by other cs ≡ 0

weights_of : (z j : ℕ) (cs : List ℤ) → T (weights z j cs) → Weights z j cs
unfolding weights
weights_of z j cs t =
    let all = three (eqb (tally_by (same (pos 0)) cs) z) (eqb (tally_by is_sign cs) j) (eqb (tally_by other cs) 0) t in record {
      zeros = eqb→eq (tally_by (same (pos 0)) cs) z all.0;
      signs = eqb→eq (tally_by is_sign cs) j all.1;
      others = eqb→eq (tally_by other cs) 0 all.2;
    }
  where
    three : (a b c : Bool) → T (a && (b && c)) → T a × T b × T c
    three true true true t = (tt, tt, tt)
    three false b c t = elim t [ ]
    three true false c t = elim t [ ]
    three true true false t = elim t [ ]

weights_from : (z j : ℕ) (cs : List ℤ) → Weights z j cs → T (weights z j cs)
unfolding weights
weights_from z j cs h =
    rw (eq-eqb (tally_by (same (pos 0)) cs) z h.zeros, eq-eqb (tally_by is_sign cs) j h.signs, eq-eqb (tally_by other cs) 0 h.others) tt

sign_steps : (z : ℕ) → Steps is_sign (weights z)
unfolding weights
sign_steps z = record {
  back = λ j n cs s h k t. rw (
    kept_sign (same (pos 0)) refl refl n cs s h k t,
    kept_sign other refl refl n cs s h k t,
    one_less is_sign n cs s h k t,
    eqb-suc-suc (tally_by is_sign (undo n cs s)) j,
  );
  has = λ j cs t. (weights_of z j cs t).signs;
}

-- each coefficient is 0, a sign or another
weights_parts : (cs : List ℤ) → tally_by (same (pos 0)) cs + tally_by is_sign cs + tally_by other cs ≡ length cs
weights_parts cs = omega (arith, tally_parts cs, tally_join (same minus_one) (same (pos 1)) is_sign sign_values cs)

-- before the insertions
no_signs : (z : ℕ) (cs : List ℤ) → same_list (replicate z (pos 0)) cs ≡ weights z 0 cs
no_signs z cs =
    copies (pos 0) z cs (weights z 0 cs) (λ e l. weights_from z 0 cs (omega (arith, weights_parts cs)))
    (λ t. omega (arith, weights_parts cs, weights_of z 0 cs t))

-- after them: the distribution's own condition
ternary-inside : (h n : ℕ) → h ≤ n → (cs : List ℤ) → weights (n - h) h cs ≡ (list_of n (within 1) cs && eqb (tally (pos 0) cs + h) n)
ternary-inside h n l cs = rw (tally-is (pos 0) cs, every-tally (within 1) cs) (tests_agree (weights (n - h) h cs) test there back)
  where
    zeros : ℕ
    zeros = tally_by (same (pos 0)) cs

    test : Bool
    test = eqb (length cs) n && eqb (tally_by other cs) 0 && eqb (zeros + h) n

    there : T (weights (n - h) h cs) → T test
    there t =
        let w = weights_of (n - h) h cs t in
        rw (eq-eqb (length cs) n (omega (arith, weights_parts cs)), eq-eqb (tally_by other cs) 0 w.others, eq-eqb (zeros + h) n (omega arith)) tt

    three : (a b c : Bool) → T (a && b && c) → T a × T b × T c
    three true true true t = (tt, tt, tt)
    three false b c t = elim t [ ]
    three true false c t = elim t [ ]
    three true true false t = elim t [ ]

    back : T test → T (weights (n - h) h cs)
    back t =
        let all = three (eqb (length cs) n) (eqb (tally_by other cs) 0) (eqb (zeros + h) n) t in
        let a : length cs ≡ n = eqb→eq (length cs) n all.0 in
        let o : tally_by other cs ≡ 0 = eqb→eq (tally_by other cs) 0 all.1 in
        let z : zeros + h ≡ n = eqb→eq (zeros + h) n all.2 in
        weights_from (n - h) h cs (omega (arith, weights_parts cs))

-- h signs inserted into n − h zeros
signed-counted : (h n : ℕ) → h ≤ n → n ≤ 65536
    → Counted (signed_insertion h n) (λ cs. list_of n (within 1) cs && eqb (tally (pos 0) cs + h) n) (λ cs. factorial h)
unfolding next_signs in_box factorial
signed-counted h n l u =
    counted (signed_insertion h n) (λ cs. list_of n (within 1) cs && eqb (tally (pos 0) cs + h) n) (λ cs. factorial h) sums
    (λ ds b. (
      carrier 0 ds,
      [],
      record {
        are_words = carrier_are_words ks 0 ds good b;
        good_place = omega arith;
        reads = signed-carried ks 0 ds good b;
      },
    ))
    (λ words place ds rest c. signed_boxed ks 0 [] (drop place words) ds rest tt c.reads)
  where
    z : ℕ
    z = n - h

    ks : List ℕ
    ks = count_up (suc z) h

    good : T (choosable ks)
    good = choosable-up h (suc z) (omega arith) (omega arith)

    sums : (cs : List ℤ) → cnt (sign_before ks) (λ ds. bit (same_list (insert_signed ds (replicate z (pos 0))) cs))
        ≡ cond (list_of n (within 1) cs && eqb (tally (pos 0) cs + h) n) (factorial h) 0
    sums cs =
        each_signed h z (replicate z (pos 0)) (length-replicate z (pos 0)) cs
        ∙ class_count is_sign (weights z) (sign_steps z) 1 h 0 (λ ds. bit (same_list (replicate z (pos 0)) ds))
        (λ ds. ap bit (no_signs z ds) ∙ bit-cond (weights z 0 ds)) cs
        ∙ rw (zero-add h, one-mul (factorial h), ternary-inside h n l cs)

pub ternary_weight_counted : (h n : ℕ) → h ≤ n → n ≤ 65536
    → Counted (fixed_ternary_weight h n) (λ cs. list_of n (within 1) cs && eqb (tally (pos 0) cs + h) n) (λ cs. cond (eqb h n) 1 (factorial h))
ternary_weight_counted h n l u = go (eqb h n) refl
  where
    go : (b : Bool) → eqb h n ≡ b
        → Counted (cond b (signs_alone n) (signed_insertion h n)) (λ cs. list_of n (within 1) cs && eqb (tally (pos 0) cs + h) n) (λ cs. cond b 1 (factorial h))
    go true e = rw (eqb-true h n e) (signs_alone_counted n)
    go false e = signed-counted h n l u

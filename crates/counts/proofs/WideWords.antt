-- Rules of one 64-bit word a coefficient: carried, boxed, and counted by the ways of each coefficient.
use mathlib.Core.Path.{◌≡◌, refl, ap, subst, ◌∙◌}
use mathlib.Core.Bool.{Bool, true, false, cond, ◌&&◌}
use mathlib.Core.List.{List, [], ◌∷◌}
use Prim.Native.Nat.{ℕ, zero, suc, ◌+◌, ◌*◌, ◌/◌, ◌%◌, ◌^◌, ◌<◌}
use native.Mathlib.Nat.{mod-add-div'}
use native.Mathlib.Omega.{arith}
use lib.Dec.{T, ltb, eqb, ltb→lt, lt→ltb, eqb-zero-suc, eqb-suc-zero, eqb-suc-suc}
use lib.Ieee.Fits.{and_i, and_l, and_r}
use lib.ListN.{length, drop, replicate}
use lib.IntN.{ℤ}
use Rattle.distr.specs.Words.{Read, got, short, map_read, bind_read, are_words, many, wide}
use Rattle.distr.specs.Rule.{Rule, wide_words, constant}
use Rattle.counts.specs.Inside.{same, every, list_of}
use Rattle.counts.specs.Formula.{product_of}
use Rattle.counts.specs.DrawLists.{Exactly, in_box, Carries}
use Rattle.distr.proofs.Reading.{are_words-drop}
use Rattle.counts.proofs.Sums.{bit, cnt, same_list, and_swap, bit-cond}
use Rattle.counts.proofs.Exact.{Counted, counted}
use Rattle.counts.proofs.Products.{ways, map_law}

-- the words that carry 64-bit words, low half first
unfoldable pub halves : List ℕ → List ℕ
halves [] = []
halves (d ∷ ds) = d % 2 ^ 32 ∷ d / 2 ^ 32 ∷ halves ds

halves_are_words : (n : ℕ) (ds : List ℕ) → T (in_box (replicate n (2 ^ 64)) ds) → T (are_words (halves ds))
unfolding halves are_words in_box
halves_are_words zero [] t = tt
halves_are_words (suc n) (d ∷ ds) t =
    let h : d < 2 ^ 64 = ltb→lt d (2 ^ 64) (and_l (ltb d (2 ^ 64)) (in_box (replicate n (2 ^ 64)) ds) t) in
    and_i (ltb (d % 2 ^ 32) (2 ^ 32)) (ltb (d / 2 ^ 32) (2 ^ 32) && are_words (halves ds)) (lt→ltb (d % 2 ^ 32) (2 ^ 32) (omega arith))
    (and_i (ltb (d / 2 ^ 32) (2 ^ 32)) (are_words (halves ds)) (lt→ltb (d / 2 ^ 32) (2 ^ 32) (omega arith))
    (halves_are_words n ds (and_r (ltb d (2 ^ 64)) (in_box (replicate n (2 ^ 64)) ds) t)))
halves_are_words zero (d ∷ ds) t = elim t [ ]
halves_are_words (suc n) [] t = elim t [ ]

halves_read : (n : ℕ) (ds : List ℕ) → T (in_box (replicate n (2 ^ 64)) ds) → many wide n (halves ds) ≡ got ds []
unfolding halves many wide bind_read map_read in_box
halves_read zero [] t = refl
halves_read (suc n) (d ∷ ds) t =
    rw (halves_read n ds (and_r (ltb d (2 ^ 64)) (in_box (replicate n (2 ^ 64)) ds) t), mod-add-div' d (2 ^ 32))
halves_read zero (d ∷ ds) t = elim t [ ]
halves_read (suc n) [] t = elim t [ ]

wide_boxed : (n : ℕ) (ws ds rest : List ℕ) → T (are_words ws) → many wide n ws ≡ got ds rest → T (in_box (replicate n (2 ^ 64)) ds)
unfolding many wide bind_read map_read in_box are_words
wide_boxed zero ws ds rest t e =
    let z : [] ≡ ds = cc in
    rw (← z) tt
wide_boxed (suc n) [] ds rest t e =
    let z : ◌≡◌ {A = ℕ} 0 1 = cc in
    absurd (omega arith)
wide_boxed (suc n) (low ∷ []) ds rest t e =
    let z : ◌≡◌ {A = ℕ} 0 1 = cc in
    absurd (omega arith)
wide_boxed (suc n) (low ∷ high ∷ ws) ds rest t e = go (λ es left. wide_boxed n ws es left words) (many wide n ws) refl e
  where
    lows : low < 2 ^ 32
    lows = ltb→lt low (2 ^ 32) (and_l (ltb low (2 ^ 32)) (ltb high (2 ^ 32) && are_words ws) t)

    tail : T (ltb high (2 ^ 32) && are_words ws)
    tail = and_r (ltb low (2 ^ 32)) (ltb high (2 ^ 32) && are_words ws) t

    highs : high < 2 ^ 32
    highs = ltb→lt high (2 ^ 32) (and_l (ltb high (2 ^ 32)) (are_words ws) tail)

    words : T (are_words ws)
    words = and_r (ltb high (2 ^ 32)) (are_words ws) tail

    go : ((es left : List ℕ) → many wide n ws ≡ got es left → T (in_box (replicate n (2 ^ 64)) es))
        → (r : Read (List ℕ)) → many wide n ws ≡ r → map_read (λ rs. (low + high * 2 ^ 32) ∷ rs) r ≡ got ds rest
        → T (in_box (replicate (suc n) (2 ^ 64)) ds)
    go ih short p q = let z : ◌≡◌ {A = ℕ} 0 1 = cc in absurd (omega arith)
    go ih (got es left) p q =
        let z : (low + high * 2 ^ 32) ∷ es ≡ ds = cc in
        rw (← z) (and_i (ltb (low + high * 2 ^ 32) (2 ^ 64)) (in_box (replicate n (2 ^ 64)) es)
        (lt→ltb (low + high * 2 ^ 32) (2 ^ 64) (omega (arith, lows, highs))) (ih es left p))

-- a rule of one 64-bit word a coefficient is counted by the product of each coefficient's ways
pub wide-counted : (n : ℕ) (value : ℕ → ℤ) (ok : ℤ → Bool) (w : ℤ → ℕ)
    → ((c : ℤ) → ways (2 ^ 64) value c ≡ cond (ok c) (w c) 0)
    → Counted (wide_words n value) (λ cs. list_of n ok cs) (λ cs. product_of w cs)
wide-counted n value ok w h = counted (wide_words n value) (λ cs. list_of n ok cs) (λ cs. product_of w cs) (map_law n (2 ^ 64) value ok w h) carried boxed
  where
    carried : (ds : List ℕ) → T (in_box (replicate n (2 ^ 64)) ds) → (words : List ℕ) × (rest : List ℕ) × Carries (wide_words n value) words 0 ds rest
    carried ds t = (halves ds, [], record { are_words = halves_are_words n ds t; good_place = omega arith; reads = halves_read n ds t })

    boxed : (words : List ℕ) (place : ℕ) (ds rest : List ℕ) → Carries (wide_words n value) words place ds rest → T (in_box (replicate n (2 ^ 64)) ds)
    boxed words place ds rest c = wide_boxed n (drop place words) ds rest (are_words-drop words place c.are_words) c.reads

-- as many of one value as wanted, by the test of the whole list and by the tests of its parts
same-replicate : (v : ℤ) (n : ℕ) (cs : List ℤ) → same_list (replicate n v) cs ≡ list_of n (same v) cs
unfolding same_list every
same-replicate v zero [] = refl
same-replicate v zero (c ∷ cs) = rw (eqb-suc-zero (length cs))
same-replicate v (suc n) [] = rw (eqb-zero-suc n)
same-replicate v (suc n) (c ∷ cs) = rw (same-replicate v n cs, eqb-suc-suc (length cs) n) (and_swap (same v c) (eqb (length cs) n) (every (same v) cs))

-- a constant is reached by the one empty draw list
pub constant-counted : (v : ℤ) (n : ℕ) → Counted (constant v n) (λ cs. list_of n (same v) cs) (λ cs. 1)
unfolding cnt in_box are_words
constant-counted v n = counted (constant v n) (λ cs. list_of n (same v) cs) (λ cs. 1) sums carried boxed
  where
    sums : (cs : List ℤ) → cnt [] (λ ds. bit (same_list (replicate n v) cs)) ≡ cond (list_of n (same v) cs) 1 0
    sums cs = rw (same-replicate v n cs) (bit-cond (list_of n (same v) cs))

    carried : (ds : List ℕ) → T (in_box [] ds) → (words : List ℕ) × (rest : List ℕ) × Carries (constant v n) words 0 ds rest
    carried [] t = ([], [], record { are_words = tt; good_place = omega arith; reads = refl })
    carried (_ ∷ _) t = elim t [ ]

    boxed : (words : List ℕ) (place : ℕ) (ds rest : List ℕ) → Carries (constant v n) words place ds rest → T (in_box [] ds)
    boxed words place ds rest c =
        let e : got [] (drop place words) ≡ got ds rest = c.reads in
        let z : [] ≡ ds = cc in
        rw (← z) tt

-- the same count under tests and formulas that agree where it matters
pub counted_as : (rule : Rule) (inside inside' : List ℤ → Bool) (formula formula' : List ℤ → ℕ)
    → ((cs : List ℤ) → inside cs ≡ inside' cs)
    → ((cs : List ℤ) → T (inside cs) → formula cs ≡ formula' cs)
    → Counted rule inside formula → Counted rule inside' formula'
counted_as rule inside inside' formula formula' p q c = record {
  exactly = λ cs.
      subst (λ (N : ℕ). Exactly (List ℕ) N (λ ds. T (in_box rule.ranges ds) × (rule.decode ds ≡ cs)))
      (agree (inside cs) (formula cs) (formula' cs) (q cs) ∙ ap (λ (t : Bool). cond t (formula' cs) 0) (p cs)) (c.exactly cs);
  carried = c.carried;
  boxed = c.boxed;
}
  where
    agree : (t : Bool) (x y : ℕ) → (T t → x ≡ y) → cond t x 0 ≡ cond t y 0
    agree true x y e = e tt
    agree false x y e = refl

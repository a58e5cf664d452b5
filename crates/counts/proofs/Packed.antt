-- Draws packed into words: every draw list is packed into some words, what is split out of words is a draw list, and each list is counted.
use mathlib.Core.Path.{◌≡◌, refl, sym, ap, ap₂, ◌∙◌}
use mathlib.Core.Bool.{Bool, true, false, not, cond, ◌&&◌, and_assoc}
use mathlib.Core.List.{List, [], ◌∷◌, ◌++◌}
use Prim.Native.Nat.{ℕ, zero, suc, ◌+◌, ◌-◌, ◌*◌, ◌/◌, ◌%◌, ◌^◌, ◌<◌, ◌≤◌}
use native.Mathlib.Nat.{mod-lt, div-lt_iff_lt-mul, div-add-mod', suc-mul, zero-mul, zero-add, add-sub_of_le, pow-zero, pow-suc}
use native.Mathlib.Omega.{arith}
use lib.Dec.{T, leb, ltb, eqb, ltb→lt, lt→ltb}
use lib.Arith.{digits_lt, digits_div, digits_mod}
use lib.Ieee.Fits.{and_i, and_l, and_r}
use borrow.Author.Tests.{le-leb, lt-leb, leb-true, eq-eqb, ne_eqb}
use lib.Seq.{take_all, take_at, drop_at, length-take-le}
use lib.ListN.{drop_of_length-le, length, take, drop, replicate, length-replicate, replicate-append-replicate, take-append-drop}
use lib.IntN.{ℤ, pos, negsuc}
use Rattle.distr.specs.Words.{got, short, map_read, are_words, many, word}
use Rattle.distr.specs.Packed.{digits, split, packed, uniform_binary, sparse_ternary, sparse_value, signs_alone, sign_value}
use Rattle.counts.specs.Inside.{same, every, list_of, is_bit, within, tally}
use Rattle.counts.specs.Formula.{product_of}
use Rattle.counts.specs.DrawLists.{in_box, Carries}
use Rattle.distr.proofs.Reading.{many-word}
use Rattle.distr.proofs.Digits.{length_digits}
use Rattle.counts.proofs.Sums.{sum, in_box_cons}
use Rattle.counts.proofs.Exact.{Counted, counted}
use Rattle.counts.proofs.Products.{ways, map_law, product-tally, product-ones}
use Rattle.counts.proofs.WideWords.{counted_as}

-- ---- boxes joined and taken apart

-- a list of one box with a list of another after it
pub box_join : (rs ss ds es : List ℕ) → T (in_box rs ds) → T (in_box ss es) → T (in_box (rs ++ ss) (ds ++ es))
unfolding in_box
box_join [] ss [] es t u = u
box_join (r ∷ rs) ss (d ∷ ds) es t u =
    and_i (ltb d r) (in_box (rs ++ ss) (ds ++ es)) (and_l (ltb d r) (in_box rs ds) t) (box_join rs ss ds es (and_r (ltb d r) (in_box rs ds) t) u)
box_join [] ss (d ∷ ds) es t u = elim t [ ]
box_join (r ∷ rs) ss [] es t u = elim t [ ]

pub box_take : (rs ss ds : List ℕ) → T (in_box (rs ++ ss) ds) → T (in_box rs (take (length rs) ds))
unfolding in_box
box_take [] ss ds t = tt
box_take (r ∷ rs) ss (d ∷ ds) t =
    and_i (ltb d r) (in_box rs (take (length rs) ds)) (and_l (ltb d r) (in_box (rs ++ ss) ds) t) (box_take rs ss ds (and_r (ltb d r) (in_box (rs ++ ss) ds) t))
box_take (r ∷ rs) ss [] t = elim t [ ]

pub box_drop : (rs ss ds : List ℕ) → T (in_box (rs ++ ss) ds) → T (in_box ss (drop (length rs) ds))
unfolding in_box
box_drop [] ss ds t = t
box_drop (r ∷ rs) ss (d ∷ ds) t = box_drop rs ss ds (and_r (ltb d r) (in_box (rs ++ ss) ds) t)
box_drop (r ∷ rs) ss [] t = elim t [ ]

pub box_length : (rs ds : List ℕ) → T (in_box rs ds) → length ds ≡ length rs
unfolding in_box
box_length [] [] t = refl
box_length (r ∷ rs) (d ∷ ds) t = ap suc (box_length rs ds (and_r (ltb d r) (in_box rs ds) t))
box_length [] (d ∷ ds) t = elim t [ ]
box_length (r ∷ rs) [] t = elim t [ ]

-- equal ranges: the first k draws, and the l after them
pub box_parts : (k l b : ℕ) (ds : List ℕ) → T (in_box (replicate (k + l) b) ds)
    → T (in_box (replicate k b) (take k ds)) × T (in_box (replicate l b) (drop k ds))
box_parts k l b ds t =
    let u : T (in_box (replicate k b ++ replicate l b) ds) = rw (replicate-append-replicate k l b) t in (
      rw (length-replicate k b) at (box_take (replicate k b) (replicate l b) ds u),
      rw (length-replicate k b) at (box_drop (replicate k b) (replicate l b) ds u),
    )

-- equal ranges: k draws, and l after them
pub box_both : (k l b : ℕ) (ds es : List ℕ) → T (in_box (replicate k b) ds) → T (in_box (replicate l b) es) → T (in_box (replicate (k + l) b) (ds ++ es))
box_both k l b ds es t u = rw (replicate-append-replicate k l b) at (box_join (replicate k b) (replicate l b) ds es t u)

-- the empty box has the empty list alone
box_empty : (ds : List ℕ) → T (in_box [] ds) → [] ≡ ds
unfolding in_box
box_empty [] t = refl
box_empty (_ ∷ _) t = elim t [ ]

zeros_boxed : (k b : ℕ) → 0 < b → T (in_box (replicate k b) (replicate k 0))
unfolding in_box
zeros_boxed zero b h = tt
zeros_boxed (suc k) b h = and_i (ltb 0 b) (in_box (replicate k b) (replicate k 0)) (lt→ltb 0 b h) (zeros_boxed k b h)

-- ---- the number that has given digits

-- the number with these digits, the lowest first
unfoldable pub joined : ℕ → List ℕ → ℕ
joined base [] = 0
joined base (d ∷ ds) = joined base ds * base + d

pub joined-below : (base k : ℕ) (ds : List ℕ) → T (in_box (replicate k base) ds) → joined base ds < base ^ k
unfolding joined in_box
joined-below base zero [] t = omega (arith, pow-zero base)
joined-below base (suc k) (d ∷ ds) t =
    rw (pow-suc base k)
    (digits_lt (joined-below base k ds (and_r (ltb d base) (in_box (replicate k base) ds) t))
    (ltb→lt d base (and_l (ltb d base) (in_box (replicate k base) ds) t)))
joined-below base zero (d ∷ ds) t = elim t [ ]
joined-below base (suc k) [] t = elim t [ ]

-- the digits of a number joined from digits are those digits
pub digits-joined : (base k : ℕ) (ds : List ℕ) → T (in_box (replicate k base) ds) → digits base k (joined base ds) ≡ ds
unfolding joined digits in_box
digits-joined base zero [] t = refl
digits-joined base (suc k) (d ∷ ds) t =
    let h : d < base = ltb→lt d base (and_l (ltb d base) (in_box (replicate k base) ds) t) in
    rw (digits_mod (joined base ds) h, digits_div (joined base ds) h, digits-joined base k ds (and_r (ltb d base) (in_box (replicate k base) ds) t))
digits-joined base zero (d ∷ ds) t = elim t [ ]
digits-joined base (suc k) [] t = elim t [ ]

-- and the number joined from the digits of a number is that number
joined-digits : (base k x : ℕ) → 0 < base → x < base ^ k → joined base (digits base k x) ≡ x
unfolding joined digits
joined-digits base zero x h l = omega (arith, pow-zero base)
joined-digits base (suc k) x h l =
    let above : x / base < base ^ k = (div-lt_iff_lt-mul h).1 (rw pow-suc at l) in
    rw (joined-digits base k (x / base) h above) (div-add-mod' x base)

pub digits_boxed : (base k x : ℕ) → 0 < base → T (in_box (replicate k base) (digits base k x))
unfolding digits in_box
digits_boxed base zero x h = tt
digits_boxed base (suc k) x h =
    and_i (ltb (x % base) base) (in_box (replicate k base) (digits base k (x / base))) (lt→ltb (x % base) base (mod-lt x h)) (digits_boxed base k (x / base) h)

-- ---- draws in words

box_are_words : (m : ℕ) (ws : List ℕ) → T (in_box (replicate m (2 ^ 32)) ws) → T (are_words ws)
unfolding are_words in_box
box_are_words zero [] t = tt
box_are_words (suc m) (w ∷ ws) t =
    let rest : Bool = in_box (replicate m (2 ^ 32)) ws in
    and_i (ltb w (2 ^ 32)) (are_words ws) (and_l (ltb w (2 ^ 32)) rest t) (box_are_words m ws (and_r (ltb w (2 ^ 32)) rest t))
box_are_words zero (w ∷ ws) t = elim t [ ]
box_are_words (suc m) [] t = elim t [ ]

-- just the words wanted, all of them taken
all_words : (m : ℕ) (ws : List ℕ) → length ws ≡ m → many word m ws ≡ got ws []
all_words m ws h =
    many-word m ws
    ∙ rw (le-leb m (length ws) (omega arith), take_all m ws (omega arith), drop_of_length-le ws {i = m} (omega arith))

module _ (base each : ℕ) where
  -- as many words, each joined from the next draws
  unfoldable pub pack : ℕ → List ℕ → List ℕ
  pack zero ds = []
  pack (suc m) ds = joined base (take each ds) ∷ pack m (drop each ds)

  pub length-pack : (m : ℕ) (ds : List ℕ) → length (pack m ds) ≡ m
  unfolding pack
  length-pack zero ds = refl
  length-pack (suc m) ds = ap suc (length-pack m (drop each ds))

  -- the draws of one word more are its own and those of the others
  one_more : (m : ℕ) → suc m * each ≡ each + m * each
  one_more m = omega (arith, suc-mul m each)

  word_parts : (m : ℕ) (ds : List ℕ) → T (in_box (replicate (suc m * each) base) ds)
      → T (in_box (replicate each base) (take each ds)) × T (in_box (replicate (m * each) base) (drop each ds))
  word_parts m ds t = box_parts each (m * each) base ds (rw (one_more m) at t)

  -- packed draws are split out again
  pub split-pack : (m : ℕ) (ds : List ℕ) → T (in_box (replicate (m * each) base) ds) → split base each (pack m ds) ≡ ds
  unfolding split pack
  split-pack zero ds t = box_empty ds (rw (zero-mul each) at t)
  split-pack (suc m) ds t =
      ap₂ ◌++◌ (digits-joined base each (take each ds) (word_parts m ds t).0) (split-pack m (drop each ds) (word_parts m ds t).1) ∙ take-append-drop each ds

  -- numbers that have so many digits are packed again from them
  pub pack-split : (m : ℕ) (xs : List ℕ) → 0 < base → T (in_box (replicate m (base ^ each)) xs) → pack m (split base each xs) ≡ xs
  unfolding split pack in_box
  pack-split zero [] h t = refl
  pack-split (suc m) (x ∷ xs) h t =
      let long = length_digits base each x in
      ap₂ (λ ds es. joined base ds ∷ pack m es) (take_at (digits base each x) (split base each xs) each long)
      (drop_at (digits base each x) (split base each xs) each long)
      ∙ ap₂ ◌∷◌ (joined-digits base each x h (ltb→lt x (base ^ each) (and_l (ltb x (base ^ each)) (in_box (replicate m (base ^ each)) xs) t)))
      (pack-split m xs h (and_r (ltb x (base ^ each)) (in_box (replicate m (base ^ each)) xs) t))
  pack-split zero (x ∷ xs) h t = elim t [ ]
  pack-split (suc m) [] h t = elim t [ ]

  pub pack_boxed : (m : ℕ) (ds : List ℕ) → T (in_box (replicate (m * each) base) ds) → T (in_box (replicate m (base ^ each)) (pack m ds))
  unfolding pack in_box
  pack_boxed zero ds t = tt
  pack_boxed (suc m) ds t =
      in_box_cons (joined base (take each ds)) (base ^ each) (pack m (drop each ds)) (replicate m (base ^ each))
      (joined-below base each (take each ds) (word_parts m ds t).0) (pack_boxed m (drop each ds) (word_parts m ds t).1)

  pub split_boxed : (xs : List ℕ) → 0 < base → T (in_box (replicate (length xs * each) base) (split base each xs))
  unfolding split in_box
  split_boxed [] h = rw (zero-mul each) tt
  split_boxed (x ∷ xs) h =
      rw (one_more (length xs))
      (box_both each (length xs * each) base (digits base each x) (split base each xs) (digits_boxed base each x h) (split_boxed xs h))

  module _ (m n : ℕ) (value : ℕ → ℤ) (some-digit : 0 < base) (full : base ^ each ≡ 2 ^ 32) (enough : n ≤ m * each) where
    -- a draw list stands in the words packed from it and zeros after it
    packed-carried : (ds : List ℕ) → T (in_box (replicate n base) ds)
        → (words : List ℕ) × (rest : List ℕ) × Carries (packed base each m n value) words 0 ds rest
    unfolding map_read
    packed-carried ds t = (words, [], record { are_words = box_are_words m words (rw full at (pack_boxed m padded boxed)); good_place = omega arith; reads = reads })
      where
        padded : List ℕ
        padded = ds ++ replicate (m * each - n) 0

        words : List ℕ
        words = pack m padded

        boxed : T (in_box (replicate (m * each) base) padded)
        boxed =
            rw (add-sub_of_le enough) at
            (box_both n (m * each - n) base ds (replicate (m * each - n) 0) t (zeros_boxed (m * each - n) base some-digit))

        reads : map_read (λ xs. take n (split base each xs)) (many word m words) ≡ got ds []
        reads =
            ap (map_read (λ xs. take n (split base each xs))) (all_words m words (length-pack m padded))
            ∙ ap (λ (xs : List ℕ). got (take n xs) []) (split-pack m padded boxed)
            ∙ ap (λ (xs : List ℕ). got xs []) (take_at ds (replicate (m * each - n) 0) n (box_length (replicate n base) ds t ∙ length-replicate n base))

    -- what is split out of words is below the base
    packed_boxed : (words : List ℕ) (place : ℕ) (ds rest : List ℕ) → Carries (packed base each m n value) words place ds rest
        → T (in_box (replicate n base) ds)
    unfolding map_read
    packed_boxed words place ds rest c = go (leb m (length ws)) refl (rw (many-word m ws) at c.reads)
      where
        ws : List ℕ
        ws = drop place words

        drawn : List ℕ
        drawn = split base each (take m ws)

        go : (b : Bool) → leb m (length ws) ≡ b
            → map_read (λ xs. take n (split base each xs)) (cond b (got (take m ws) (drop m ws)) short) ≡ got ds rest
            → T (in_box (replicate n base) ds)
        go false e q = let z : ◌≡◌ {A = ℕ} 0 1 = cc in absurd (omega arith)
        go true e q =
            let z : take n drawn ≡ ds = cc in
            let all : T (in_box (replicate (length (take m ws) * each) base) drawn) = split_boxed (take m ws) some-digit in
            let size : length (take m ws) ≡ m = length-take-le m ws (leb-true m (length ws) e) in
            let known : T (in_box (replicate (m * each) base) drawn) = rw size at all in
            let parts : T (in_box (replicate (n + (m * each - n)) base) drawn) = rw (add-sub_of_le enough) known in
            rw (← z) (box_parts n (m * each - n) base drawn parts).0

    -- a rule of packed draws is counted by the product of each coefficient's ways
    pub packed-counted : (ok : ℤ → Bool) (w : ℤ → ℕ) → ((c : ℤ) → ways base value c ≡ cond (ok c) (w c) 0)
        → Counted (packed base each m n value) (λ cs. list_of n ok cs) (λ cs. product_of w cs)
    packed-counted ok w h =
        counted (packed base each m n value) (λ cs. list_of n ok cs) (λ cs. product_of w cs) (map_law n base value ok w h) packed-carried packed_boxed

-- ---- the three rules

bit-ways : (c : ℤ) → ways 2 pos c ≡ cond (is_bit c) 1 0
unfolding sum
bit-ways (pos zero) = refl
bit-ways (pos (suc zero)) = refl
bit-ways (pos (suc (suc a))) = rw (ne_eqb 0 (suc (suc a)) (omega arith), ne_eqb 1 (suc (suc a)) (omega arith), lt-leb (suc (suc a)) 1 (omega arith))
bit-ways (negsuc a) = refl

pub uniform_binary-counted : (n : ℕ) → Counted (uniform_binary n) (λ cs. list_of n is_bit cs) (λ cs. 1)
uniform_binary-counted n =
    counted_as (uniform_binary n) (λ cs. list_of n is_bit cs) (λ cs. list_of n is_bit cs) (λ cs. product_of (λ c. 1) cs) (λ cs. 1)
    (λ cs. refl) (λ cs t. product-ones cs)
    (packed-counted 2 32 (n / 32 + 1) n pos (omega arith) refl (omega arith) is_bit (λ c. 1) bit-ways)

sparse_ways : (c : ℤ) → ways 4 sparse_value c ≡ cond (within 1 c) (cond (same (pos 0) c) 2 1) 0
unfolding sum
sparse_ways (pos zero) = refl
sparse_ways (pos (suc zero)) = refl
sparse_ways (pos (suc (suc a))) = rw (ne_eqb 0 (suc (suc a)) (omega arith), ne_eqb 1 (suc (suc a)) (omega arith), lt-leb (suc (suc a)) 1 (omega arith))
sparse_ways (negsuc zero) = refl
sparse_ways (negsuc (suc a)) = rw (ne_eqb 0 (suc a) (omega arith), lt-leb (suc (suc a)) 1 (omega arith))

pub sparse_ternary-counted : (n : ℕ) → Counted (sparse_ternary n) (λ cs. list_of n (within 1) cs) (λ cs. 2 ^ tally (pos 0) cs)
sparse_ternary-counted n =
    counted_as (sparse_ternary n) (λ cs. list_of n (within 1) cs) (λ cs. list_of n (within 1) cs) (λ cs. product_of (λ c. cond (same (pos 0) c) 2 1) cs)
    (λ cs. 2 ^ tally (pos 0) cs) (λ cs. refl) (λ cs t. product-tally (pos 0) 2 cs)
    (packed-counted 4 16 ((n + 15) / 16) n sparse_value (omega arith) refl (omega arith) (within 1) (λ c. cond (same (pos 0) c) 2 1) sparse_ways)

-- 1 or −1
abbrev is_sign : ℤ → Bool
is_sign c = within 1 c && not (same (pos 0) c)

sign_ways : (c : ℤ) → ways 2 sign_value c ≡ cond (is_sign c) 1 0
unfolding sum
sign_ways (pos zero) = refl
sign_ways (pos (suc zero)) = refl
sign_ways (pos (suc (suc a))) = rw (ne_eqb 1 (suc (suc a)) (omega arith), lt-leb (suc (suc a)) 1 (omega arith))
sign_ways (negsuc zero) = refl
sign_ways (negsuc (suc a)) = rw (ne_eqb 0 (suc a) (omega arith), lt-leb (suc (suc a)) 1 (omega arith))

-- a list of signs is one of −1, 0 and 1 in which 0 does not stand
every_sign : (cs : List ℤ) → every is_sign cs ≡ (every (within 1) cs && eqb (tally (pos 0) cs) 0)
unfolding every tally
every_sign [] = refl
every_sign (c ∷ cs) = rw (every_sign cs) (step (within 1 c) (same (pos 0) c) (every (within 1) cs) (tally (pos 0) cs))
  where
    step : (w s e : Bool) (t : ℕ) → (w && not s && (e && eqb t 0)) ≡ (w && e && eqb (cond s 1 0 + t) 0)
    step false s e t = refl
    step true true false t = refl
    step true true true t = rw (ne_eqb (1 + t) 0 (omega arith))
    step true false e t = rw (zero-add t)

-- t more than n is n where t is 0
no_more : (t n : ℕ) → eqb t 0 ≡ eqb (t + n) n
no_more zero n = rw (eq-eqb (0 + n) n (omega arith))
no_more (suc t) n = rw (ne_eqb (suc t) 0 (omega arith), ne_eqb (suc t + n) n (omega arith))

signs-inside : (n : ℕ) (cs : List ℤ) → list_of n is_sign cs ≡ (list_of n (within 1) cs && eqb (tally (pos 0) cs + n) n)
signs-inside n cs =
    rw (← no_more (tally (pos 0) cs) n, every_sign cs) (sym (and_assoc (eqb (length cs) n) (every (within 1) cs) (eqb (tally (pos 0) cs) 0)))

pub signs_alone_counted : (n : ℕ) → Counted (signs_alone n) (λ cs. list_of n (within 1) cs && eqb (tally (pos 0) cs + n) n) (λ cs. 1)
signs_alone_counted n =
    counted_as (signs_alone n) (λ cs. list_of n is_sign cs) (λ cs. list_of n (within 1) cs && eqb (tally (pos 0) cs + n) n)
    (λ cs. product_of (λ c. 1) cs) (λ cs. 1) (signs-inside n) (λ cs t. product-ones cs)
    (packed-counted 2 32 ((n + 31) / 32) n sign_value (omega arith) refl (omega arith) is_sign (λ c. 1) sign_ways)

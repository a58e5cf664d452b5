-- Uniform ternary: a byte below 243 is five base-3 digits, so a coefficient list is reached once for each choice of the digits left over.
use mathlib.Core.Path.{◌≡◌, refl, sym, ap, ◌∙◌}
use mathlib.Core.Bool.{Bool, true, false, cond}
use mathlib.Core.List.{List, [], ◌∷◌, ◌++◌, map}
use Prim.Native.Nat.{ℕ, zero, suc, ◌+◌, ◌*◌, ◌-◌, ◌/◌, ◌%◌, ◌^◌, ◌<◌}
use native.Mathlib.Nat.{zero-add, suc-add, add_comm, sub-zero, zero-sub, suc-sub-suc, pow-zero, pow-suc, pow-succ'}
use native.Mathlib.Nat.{zero-mul, one-mul, mul-one, mul-zero, mul_assoc, suc-mul}
use native.Mathlib.Omega.{arith}
use lib.Arith.{digits_div, digits_mod}
use lib.Dec.{T, ltb, lt→ltb, eqb-zero-suc, eqb-suc-suc, leb-suc-suc, leb-suc-zero}
use lib.ListN.{length, take, drop, replicate, replicate-append-replicate}
use lib.Seq.{take-nil}
use borrow.Author.Tests.{lt-ltb, ltb-true}
use lib.Ieee.Fits.{and_i}
use lib.IntN.{ℤ, pos, negsuc}
use Rattle.distr.specs.Words.{Read, got, short, map_read, are_words}
use Rattle.distr.specs.Packed.{digits, split}
use Rattle.distr.specs.UniformTernary.{accepted_bytes, bytes, trit_value, uniform_ternary}
use Rattle.counts.specs.Inside.{within, list_of}
use Rattle.counts.specs.Formula.{product_of}
use Rattle.counts.specs.DrawLists.{in_box, Carries}
use Rattle.distr.proofs.Reading.{short-not-got}
use Rattle.counts.proofs.Sums.{bit, sum, cnt, same_list, sum_ext, sum_swap, sum-product, sum-mul_left, sum_const, cnt_append, in_box_cons}
use Rattle.counts.proofs.Products.{ways, map_law, product-ones}
use Rattle.counts.proofs.Exact.{Counted, counted}
use Rattle.counts.proofs.Choices.{box_cons}

-- the digits of the numbers below b^c are all lists of c digits, each once
pub digits_law : (b c : ℕ) (f : List ℕ → ℕ) → sum (b ^ c) (λ d. f (digits b c d)) ≡ cnt (replicate c b) f
unfolding sum digits cnt
digits_law b zero f = rw (pow-zero b) (zero-add (f []))
digits_law b (suc c) f =
    ap (λ m. sum m (λ d. f (digits b (suc c) d))) (pow-suc b c)
    ∙ sum-product (b ^ c) b (λ d. f (digits b (suc c) d))
    ∙ sum_ext (b ^ c) (λ i. sum b (λ j. f (digits b (suc c) (i * b + j)))) (λ i. sum b (λ j. f (j ∷ digits b c i)))
    (λ i h. sum_ext b (λ j. f (digits b (suc c) (i * b + j))) (λ j. f (j ∷ digits b c i)) (λ j k. rw (digits_div i k, digits_mod i k)))
    ∙ sum_swap (b ^ c) b (λ i j. f (j ∷ digits b c i))
    ∙ sum_ext b (λ j. sum (b ^ c) (λ i. f (j ∷ digits b c i))) (λ j. cnt (replicate c b) (λ ds. f (j ∷ ds)))
    (λ j k. digits_law b c (λ ds. f (j ∷ ds)))

-- the digits of m numbers below b^c are all lists of m · c digits, each once
pub split_law : (b c m : ℕ) (f : List ℕ → ℕ) → cnt (replicate m (b ^ c)) (λ ds. f (split b c ds)) ≡ cnt (replicate (m * c) b) f
unfolding split cnt
split_law b c zero f = rw (zero-mul c)
split_law b c (suc m) f =
    sum_ext (b ^ c) (λ d. cnt (replicate m (b ^ c)) (λ ds. f (digits b c d ++ split b c ds)))
    (λ d. cnt (replicate (m * c) b) (λ es. f (digits b c d ++ es)))
    (λ d h. split_law b c m (λ es. f (digits b c d ++ es)))
    ∙ digits_law b c (λ ds. cnt (replicate (m * c) b) (λ es. f (ds ++ es)))
    ∙ sym (cnt_append (replicate c b) (replicate (m * c) b) f)
    ∙ rw (replicate-append-replicate, suc-mul, add_comm c (m * c))

-- m draws below b that are not used
free_draws : (b m x : ℕ) → cnt (replicate m b) (λ ds. x) ≡ b ^ m * x
unfolding cnt
free_draws b zero x = rw (pow-zero b) (sym (one-mul x))
free_draws b (suc m) x =
    sum_ext b (λ d. cnt (replicate m b) (λ ds. x)) (λ d. b ^ m * x) (λ d h. free_draws b m x)
    ∙ sum_const b (b ^ m * x) ∙ rw (pow-succ', mul_assoc)

-- of n + m draws the first n are used
pub take_law : (b n m : ℕ) (f : List ℕ → ℕ) → cnt (replicate (n + m) b) (λ ds. f (take n ds)) ≡ b ^ m * cnt (replicate n b) f
unfolding cnt
take_law b zero m f = rw (zero-add m) (free_draws b m (f []))
take_law b (suc n) m f =
    ap (λ k. cnt (replicate k b) (λ ds. f (take (suc n) ds))) (suc-add n m)
    ∙ sum_ext b (λ d. cnt (replicate (n + m) b) (λ ds. f (d ∷ take n ds))) (λ d. b ^ m * cnt (replicate n b) (λ ds. f (d ∷ ds)))
    (λ d h. take_law b n m (λ ds. f (d ∷ ds)))
    ∙ sum-mul_left b (b ^ m) (λ d. cnt (replicate n b) (λ ds. f (d ∷ ds)))

-- each coefficient is one digit's
trit_ways : (c : ℤ) → ways 3 trit_value c ≡ cond (within 1 c) 1 0
unfolding sum
trit_ways (pos zero) = refl
trit_ways (pos (suc zero)) = refl
trit_ways (pos (suc (suc a))) = rw (eqb-zero-suc (suc a), eqb-suc-suc 0 (suc a), eqb-zero-suc a, leb-suc-suc (suc a) 0, leb-suc-zero a)
trit_ways (negsuc zero) = refl
trit_ways (negsuc (suc a)) = rw (eqb-zero-suc a, leb-suc-suc (suc a) 0, leb-suc-zero a)

-- the bytes of n coefficients have room for them
room : (n : ℕ) → (n + 4) / 5 * 5 ≡ n + (5 * ((n + 4) / 5) - n)
room n = omega arith

-- n coefficients are reached once for every value of the digits past n
ternary_count : (n : ℕ) (cs : List ℤ)
    → cnt (replicate ((n + 4) / 5) 243) (λ ds. bit (same_list (map trit_value (take n (split 3 5 ds))) cs))
    ≡ cond (list_of n (within 1) cs) (3 ^ (5 * ((n + 4) / 5) - n)) 0
ternary_count n cs =
    let used : List ℕ → ℕ = λ ds. bit (same_list (map trit_value ds) cs) in
    let free : ℕ = 5 * ((n + 4) / 5) - n in
    split_law 3 5 ((n + 4) / 5) (λ ds. used (take n ds))
    ∙ ap (λ k. cnt (replicate k 3) (λ ds. used (take n ds))) (room n)
    ∙ take_law 3 n free used
    ∙ ap (λ k. 3 ^ free * k) (map_law n 3 trit_value (within 1) (λ c. 1) trit_ways cs)
    ∙ spread (list_of n (within 1) cs) (3 ^ free)
  where
    spread : (b : Bool) (x : ℕ) → x * cond b (product_of (λ c. 1) cs) 0 ≡ cond b x 0
    spread true x = rw (product-ones cs) (mul-one x)
    spread false x = mul-zero x

-- words that carry bytes: one byte a word, with three bytes 255 above it that are skipped
carriers : List ℕ → List ℕ
carriers [] = []
carriers (d ∷ ds) = (d + 0xFFFFFF00) ∷ carriers ds

carriers_are_words : (m : ℕ) (ds : List ℕ) → T (in_box (replicate m 243) ds) → T (are_words (carriers ds))
unfolding carriers are_words in_box
carriers_are_words zero [] t = tt
carriers_are_words (suc m) (d ∷ ds) t =
    let box = box_cons 243 d (replicate m 243) ds t in
    and_i (ltb (d + 0xFFFFFF00) (2 ^ 32)) (are_words (carriers ds)) (lt→ltb (d + 0xFFFFFF00) (2 ^ 32) (omega arith)) (carriers_are_words m ds box.1)
carriers_are_words zero (d ∷ ds) t = elim t [ ]
carriers_are_words (suc m) [] t = elim t [ ]

-- such a word has one accepted byte
one_byte : (d : ℕ) → d < 243 → accepted_bytes (digits 256 4 (d + 0xFFFFFF00)) ≡ d ∷ []
unfolding accepted_bytes digits
one_byte d h =
    let low : (d + 0xFFFFFF00) % 256 ≡ d = omega arith in
    let high : (d + 0xFFFFFF00) / 256 ≡ 0xFFFFFF = omega arith in
    rw (low, high, lt-ltb d 243 h)

carriers_read : (m : ℕ) (ds : List ℕ) → T (in_box (replicate m 243) ds) → bytes (carriers ds) m ≡ got ds []
unfolding carriers bytes in_box map_read
carriers_read zero [] t = refl
carriers_read (suc m) (d ∷ ds) t =
    let box = box_cons 243 d (replicate m 243) ds t in
    let fewer : suc m - 1 ≡ m = omega arith in
    rw (one_byte d box.0, fewer, carriers_read m ds box.1, take-nil m)
carriers_read zero (d ∷ ds) t = elim t [ ]
carriers_read (suc m) [] t = elim t [ ]

-- what is taken from a list of draws, and then as many as are still wanted
box_wanted : (b m : ℕ) (xs ys : List ℕ) → T (in_box (replicate (length xs) b) xs) → T (in_box (replicate (m - length xs) b) ys)
    → T (in_box (replicate m b) (take m xs ++ ys))
box_wanted b zero xs ys t u = rw (zero-sub (length xs)) at u
box_wanted b (suc m) [] ys t u = rw sub-zero at u
box_wanted b (suc m) (x ∷ xs) ys t u =
    let box = box_cons b x (replicate (length xs) b) xs t in
    in_box_cons x b (take m xs ++ ys) (replicate m b) box.0 (box_wanted b m xs ys box.1 (rw suc-sub-suc at u))

-- the accepted bytes are below 243
accepted_boxed : (bs : List ℕ) → T (in_box (replicate (length (accepted_bytes bs)) 243) (accepted_bytes bs))
unfolding accepted_bytes in_box
accepted_boxed [] = tt
accepted_boxed (b ∷ bs) = judged (accepted_boxed bs) (ltb b 243) refl
  where
    judged : T (in_box (replicate (length (accepted_bytes bs)) 243) (accepted_bytes bs)) → (c : Bool) → ltb b 243 ≡ c
        → let kept = cond c (b ∷ accepted_bytes bs) (accepted_bytes bs) in T (in_box (replicate (length kept) 243) kept)
    judged t true e = in_box_cons b 243 (accepted_bytes bs) (replicate (length (accepted_bytes bs)) 243) (ltb-true b 243 e) t
    judged t false e = t

-- as many bytes as are wanted, each below 243
bytes_boxed : (ws : List ℕ) (m : ℕ) (ds rest : List ℕ) → bytes ws m ≡ got ds rest → T (in_box (replicate m 243) ds)
unfolding bytes in_box map_read
bytes_boxed [] zero ds rest e = let none : ds ≡ [] = cc in rw none tt
bytes_boxed [] (suc m) ds rest e = absurd (short-not-got e)
bytes_boxed (w ∷ ws) zero ds rest e = let none : ds ≡ [] = cc in rw none tt
bytes_boxed (w ∷ ws) (suc m) ds rest e = later (bytes_boxed ws (suc m - length found)) (bytes ws (suc m - length found)) refl e
  where
    found : List ℕ
    found = accepted_bytes (digits 256 4 w)

    later : ((es left : List ℕ) → bytes ws (suc m - length found) ≡ got es left → T (in_box (replicate (suc m - length found) 243) es))
        → (r : Read (List ℕ)) → bytes ws (suc m - length found) ≡ r → map_read (λ es. take (suc m) found ++ es) r ≡ got ds rest
        → T (in_box (replicate (suc m) 243) ds)
    later ih (got es left) f e =
        let both : ds ≡ take (suc m) found ++ es = cc in
        rw both (box_wanted 243 (suc m) found es (accepted_boxed (digits 256 4 w)) (ih es left f))
    later ih short f e = absurd (short-not-got e)

-- each list of n coefficients −1, 0, 1 is reached by 3^(5⌈n/5⌉ − n) draw lists, and no other list is reached
pub uniform_ternary-counted : (n : ℕ) → Counted (uniform_ternary n) (λ cs. list_of n (within 1) cs) (λ cs. 3 ^ (5 * ((n + 4) / 5) - n))
uniform_ternary-counted n =
    counted (uniform_ternary n) (λ cs. list_of n (within 1) cs) (λ cs. 3 ^ (5 * ((n + 4) / 5) - n)) (ternary_count n) carried boxed
  where
    carried : (ds : List ℕ) → T (in_box (replicate ((n + 4) / 5) 243) ds) → (words : List ℕ) × (rest : List ℕ) × Carries (uniform_ternary n) words 0 ds rest
    carried ds t = (
      carriers ds,
      [],
      record {
        are_words = carriers_are_words ((n + 4) / 5) ds t;
        good_place = omega arith;
        reads = carriers_read ((n + 4) / 5) ds t;
      },
    )

    boxed : (words : List ℕ) (place : ℕ) (ds rest : List ℕ) → Carries (uniform_ternary n) words place ds rest
        → T (in_box (replicate ((n + 4) / 5) 243) ds)
    boxed words place ds rest c = bytes_boxed (drop place words) ((n + 4) / 5) ds rest c.reads

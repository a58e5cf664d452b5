-- Block binary: one choice a block, and each block with its one 1, or with none, comes from exactly one choice.
use mathlib.Core.Path.{◌≡◌, refl, sym, ap, ap₂, ◌∙◌}
use mathlib.Core.Bool.{Bool, true, false, not, cond, ◌&&◌, and_assoc, and-false}
use mathlib.Core.List.{List, [], ◌∷◌, ◌++◌}
use Prim.Native.Nat.{ℕ, zero, suc, ◌+◌, ◌*◌, ◌/◌, ◌%◌, ◌^◌, ◌<◌, ◌≤◌}
use native.Mathlib.Nat.{zero-add, add-zero, suc-add, add_comm, zero-mul, suc-mul, mod-eq_of_lt, div-add-mod'}
use native.Mathlib.Numerals.{one-add}
use native.Mathlib.Omega.{arith}
use borrow.Author.Tests.{ltb-true, ltb-false}
use lib.Dec.{T, leb, ltb, eqb, le→leb, eqb-zero-suc, eqb-suc-zero, eqb-suc-suc, leb-suc-suc, leb-suc-zero}
use lib.ListN.{length, take, drop, replicate, length-set, length-replicate}
use lib.Seq.{set_out}
use lib.Ieee.Fits.{and_i}
use lib.IntN.{ℤ, pos, negsuc}
use Rattle.distr.specs.declared.secret_key_distr.BlockOccupancy.{BlockOccupancy}
use Rattle.distr.specs.declared.secret_key_distr.BlockOccupancy.TheVariants.{AtMostOne, ExactlyOne}
use Rattle.distr.specs.Blocks.{categories, block, blocks_of, block_binary}
use Rattle.distr.specs.Making.{bad_block}
use Rattle.counts.specs.Inside.{same, tally, every, is_bit, list_of, every_block, block_ok}
use Rattle.counts.specs.DrawLists.{in_box, Carries}
use Rattle.counts.proofs.Sums.{bit, sum, cnt, same_list, sum_ext, sum_first, sum-zero, sum-mul-right, cnt_ext, cnt-mul_left, bit_and, and_swap, bit-cond}
use Rattle.counts.proofs.Exact.{Counted, counted}
use Rattle.counts.proofs.Choices.{choosable, choices_boxed, choices-carried, choices_are_words}

-- ---- lists of coefficients that pass a test

module _ (ok : ℤ → Bool) where
  list_of_cons : (n : ℕ) (c : ℤ) (cs : List ℤ) → list_of (suc n) ok (c ∷ cs) ≡ (ok c && list_of n ok cs)
  unfolding every
  list_of_cons n c cs = rw (eqb-suc-suc (length cs) n) (and_swap (eqb (length cs) n) (ok c) (every ok cs))

  list_of_nil : (n : ℕ) → list_of (suc n) ok [] ≡ false
  list_of_nil n = rw (eqb-zero-suc n)

  -- a + b coefficients are a of them, and then b
  list_of_split : (a b : ℕ) (cs : List ℤ) → list_of (a + b) ok cs ≡ (list_of a ok (take a cs) && list_of b ok (drop a cs))
  unfolding every
  list_of_split zero b cs = rw (zero-add b)
  list_of_split (suc a) b [] = rw (suc-add a b, eqb-zero-suc (a + b), eqb-zero-suc a)
  list_of_split (suc a) b (c ∷ cs) =
      ap (λ k. list_of k ok (c ∷ cs)) (suc-add a b) ∙ list_of_cons (a + b) c cs ∙ ap (λ t. ok c && t) (list_of_split a b cs)
      ∙ sym (and_assoc (ok c) (list_of a ok (take a cs)) (list_of b ok (drop a cs)))
      ∙ ap (λ t. t && list_of b ok (drop a cs)) (sym (list_of_cons a c (take a cs)))

-- ---- one block

-- a number from 2 on is no bit
large : (a : ℕ) → leb (suc (suc a)) 1 ≡ false
large a = rw (leb-suc-suc (suc a) 0, leb-suc-zero a)

-- the block of zeros is the one with no 1
zeros : (size : ℕ) (cs : List ℤ) → same_list (replicate size (pos 0)) cs ≡ (list_of size is_bit cs && eqb (tally (pos 1) cs) 0)
unfolding same_list every tally
zeros zero [] = refl
zeros zero (c ∷ cs) = rw (eqb-suc-zero (length cs))
zeros (suc size) [] = rw (list_of_nil is_bit size)
zeros (suc size) (pos zero ∷ cs) = rw (list_of_cons is_bit size (pos zero) cs, zero-add (tally (pos 1) cs)) (zeros size cs)
zeros (suc size) (pos (suc zero) ∷ cs) =
    rw (list_of_cons is_bit size (pos (suc zero)) cs, one-add (tally (pos 1) cs), eqb-suc-zero (tally (pos 1) cs)) (sym (and-false (list_of size is_bit cs)))
zeros (suc size) (pos (suc (suc a)) ∷ cs) = rw (list_of_cons is_bit size (pos (suc (suc a))) cs, eqb-zero-suc (suc a), large a)
zeros (suc size) (negsuc a ∷ cs) = rw (list_of_cons is_bit size (negsuc a) cs)

-- a block with one 1 comes from the one choice of its place
one_place : (size : ℕ) (cs : List ℤ) → sum size (λ s. bit (same_list (block size s) cs)) ≡ bit (list_of size is_bit cs && eqb (tally (pos 1) cs) 1)
unfolding sum same_list every tally
one_place zero [] = refl
one_place zero (c ∷ cs) = rw (eqb-suc-zero (length cs))
one_place (suc size) [] =
    sum_first size (λ s. bit (same_list (block (suc size) s) [])) ∙ rw (sum-zero size, list_of_nil is_bit size)
one_place (suc size) (c ∷ cs) =
    sum_first size (λ s. bit (same_list (block (suc size) s) (c ∷ cs))) ∙ rw (list_of_cons is_bit size c cs) (front c (one_place size cs))
  where
    front : (c : ℤ) → sum size (λ s. bit (same_list (block size s) cs)) ≡ bit (list_of size is_bit cs && eqb (tally (pos 1) cs) 1)
        → bit (same (pos 1) c && same_list (replicate size (pos 0)) cs) + sum size (λ s. bit (same (pos 0) c && same_list (block size s) cs))
        ≡ bit (is_bit c && list_of size is_bit cs && eqb (tally (pos 1) (c ∷ cs)) 1)
    front (pos zero) ih = rw (zero-add (tally (pos 1) cs), ih) (zero-add (bit (list_of size is_bit cs && eqb (tally (pos 1) cs) 1)))
    front (pos (suc zero)) ih =
        rw (sum-zero size, one-add (tally (pos 1) cs), eqb-suc-suc (tally (pos 1) cs) 0, zeros size cs)
        (add-zero (bit (list_of size is_bit cs && eqb (tally (pos 1) cs) 0)))
    front (pos (suc (suc a))) ih = simp (eqb-suc-suc 0 (suc a), eqb-zero-suc, large a, sum-zero size)
    front (negsuc a) ih = rw (sum-zero size)

block-ways : (size : ℕ) (occupancy : BlockOccupancy) (cs : List ℤ)
    → sum (categories size occupancy) (λ s. bit (same_list (block size s) cs)) ≡ bit (list_of size is_bit cs && block_ok occupancy cs)
unfolding sum
block-ways size AtMostOne cs =
    rw (one_place size cs, set_out (replicate size (pos 0)) size (pos 1) (omega (arith, length-replicate size (pos 0))), zeros size cs)
    (either (list_of size is_bit cs) (tally (pos 1) cs))
  where
    either : (b : Bool) (t : ℕ) → bit (b && eqb t 1) + bit (b && eqb t 0) ≡ bit (b && leb t 1)
    either false t = refl
    either true zero = refl
    either true (suc zero) = refl
    either true (suc (suc t)) = rw (eqb-suc-suc (suc t) 0, eqb-suc-zero (suc t), eqb-suc-zero t, leb-suc-suc (suc t) 0, leb-suc-zero t)
block-ways size ExactlyOne cs = one_place size cs

-- ---- all blocks

same_list_split : (xs ys cs : List ℤ) → same_list (xs ++ ys) cs ≡ (same_list xs (take (length xs) cs) && same_list ys (drop (length xs) cs))
unfolding same_list
same_list_split [] ys cs = refl
same_list_split (x ∷ xs) ys [] = refl
same_list_split (x ∷ xs) ys (c ∷ cs) =
    ap (λ t. same x c && t) (same_list_split xs ys cs) ∙ sym (and_assoc (same x c) (same_list xs (take (length xs) cs)) (same_list ys (drop (length xs) cs)))

-- m blocks in a row: a block for each choice, so m choices for m blocks that pass
blocks_count : (size k : ℕ) (ok : List ℤ → Bool)
    → ((cs : List ℤ) → sum k (λ s. bit (same_list (block size s) cs)) ≡ bit (list_of size is_bit cs && ok cs))
    → (m : ℕ) (cs : List ℤ)
    → cnt (replicate m k) (λ ss. bit (same_list (blocks_of size ss) cs)) ≡ bit (list_of (m * size) is_bit cs && every_block size ok m cs)
unfolding cnt same_list blocks_of every every_block
blocks_count size k ok h zero [] = rw (zero-mul size)
blocks_count size k ok h zero (c ∷ cs) = rw (zero-mul size, eqb-suc-zero (length cs))
blocks_count size k ok h (suc m) cs =
    sum_ext k (λ s. cnt (replicate m k) (λ ss. bit (same_list (block size s ++ blocks_of size ss) cs))) (λ s. one s * cnt (replicate m k) later)
    (λ s a.
    cnt_ext (replicate m k) (λ ss. bit (same_list (block size s ++ blocks_of size ss) cs)) (λ ss. one s * later ss) (λ ss t. apart s ss)
    ∙ cnt-mul_left (replicate m k) (one s) later)
    ∙ sum-mul-right k (cnt (replicate m k) later) one
    ∙ ap₂ ◌*◌ (h (take size cs)) (blocks_count size k ok h m (drop size cs))
    ∙ sym (bit_and (list_of size is_bit (take size cs) && ok (take size cs)) (list_of (m * size) is_bit (drop size cs) && every_block size ok m (drop size cs)))
    ∙ ap bit (regroup (list_of size is_bit (take size cs)) (ok (take size cs)) (list_of (m * size) is_bit (drop size cs)) (every_block size ok m (drop size cs)))
    ∙ rw (suc-mul m size, add_comm (m * size) size, list_of_split is_bit size (m * size) cs)
  where
    one : ℕ → ℕ
    one s = bit (same_list (block size s) (take size cs))

    later : List ℕ → ℕ
    later ss = bit (same_list (blocks_of size ss) (drop size cs))

    apart : (s : ℕ) (ss : List ℕ) → bit (same_list (block size s ++ blocks_of size ss) cs) ≡ one s * later ss
    apart s ss =
        let whole : length (block size s) ≡ size = length-set (replicate size (pos 0)) s (pos 1) ∙ length-replicate size (pos 0) in
        ap bit (same_list_split (block size s) (blocks_of size ss) cs)
        ∙ rw whole (bit_and (same_list (block size s) (take size cs)) (same_list (blocks_of size ss) (drop size cs)))

    regroup : (a b c d : Bool) → (a && b && (c && d)) ≡ (a && c && (b && d))
    regroup false b c d = refl
    regroup true false false d = refl
    regroup true false true d = refl
    regroup true true c d = refl

-- ---- the rule

choosable-replicate : (m k : ℕ) → 1 ≤ k → k ≤ 2 ^ 32 → T (choosable (replicate m k))
unfolding choosable
choosable-replicate zero k l u = tt
choosable-replicate (suc m) k l u =
    and_i (leb 1 k && leb k (2 ^ 32)) (choosable (replicate m k)) (and_i (leb 1 k) (leb k (2 ^ 32)) (le→leb 1 k l) (le→leb k (2 ^ 32) u))
    (choosable-replicate m k l u)

-- a length from 1 on is at least what divides it
divisor_le : (size n : ℕ) → 0 < n → n % size ≡ 0 → size ≤ n
divisor_le size n h e = judged (ltb n size) refl
  where
    judged : (b : Bool) → ltb n size ≡ b → size ≤ n
    judged true t = omega (arith, mod-eq_of_lt (ltb-true n size t))
    judged false t = ltb-false n size t

-- a good block has at least one category, and at most one more than places
some-categories : (size : ℕ) (occupancy : BlockOccupancy) → T (not (bad_block size occupancy)) → 1 ≤ categories size occupancy
some-categories size AtMostOne t = omega arith
some-categories zero ExactlyOne t = absurd t
some-categories (suc size) ExactlyOne t = omega arith

few-categories : (size : ℕ) (occupancy : BlockOccupancy) → categories size occupancy ≤ suc size
few-categories size AtMostOne = omega arith
few-categories size ExactlyOne = omega arith

-- each list of blocks that pass is reached by one draw list, and no other list is reached
pub block-binary-counted : (size n : ℕ) (occupancy : BlockOccupancy)
    → T (not (bad_block size occupancy)) → 0 < n → n ≤ 65536 → n % size ≡ 0
    → Counted (block_binary size occupancy n) (λ cs. list_of n is_bit cs && every_block size (block_ok occupancy) (n / size) cs) (λ cs. 1)
block-binary-counted size n occupancy t h k e =
    counted (block_binary size occupancy n) (λ cs. list_of n is_bit cs && every_block size (block_ok occupancy) (n / size) cs) (λ cs. 1) sums carried boxed
  where
    choices : List ℕ
    choices = replicate (n / size) (categories size occupancy)

    good : T (choosable choices)
    good =
        choosable-replicate (n / size) (categories size occupancy) (some-categories size occupancy t)
        (omega (arith, few-categories size occupancy, divisor_le size n h e))

    sums : (cs : List ℤ) → cnt choices (λ ss. bit (same_list (blocks_of size ss) cs))
        ≡ cond (list_of n is_bit cs && every_block size (block_ok occupancy) (n / size) cs) 1 0
    sums cs =
        blocks_count size (categories size occupancy) (block_ok occupancy) (block-ways size occupancy) (n / size) cs
        ∙ ap (λ l. bit (list_of l is_bit cs && every_block size (block_ok occupancy) (n / size) cs)) whole
        ∙ bit-cond (list_of n is_bit cs && every_block size (block_ok occupancy) (n / size) cs)
      where
        whole : n / size * size ≡ n
        whole = omega (arith, div-add-mod' n size)

    carried : (ds : List ℕ) → T (in_box choices ds) → (words : List ℕ) × (rest : List ℕ) × Carries (block_binary size occupancy n) words 0 ds rest
    carried ds b =
        (ds, [], record { are_words = choices_are_words choices ds good b; good_place = omega arith; reads = choices-carried choices ds good b })

    boxed : (words : List ℕ) (place : ℕ) (ds rest : List ℕ) → Carries (block_binary size occupancy n) words place ds rest → T (in_box choices ds)
    boxed words place ds rest c = choices_boxed choices (drop place words) ds rest good c.reads

-- Choices among several values, one after the other: what is read is a draw list of the box, and every one is carried by some words.
use mathlib.Core.Path.{◌≡◌, refl, sym, ap, ap₂, subst, ◌∙◌}
use mathlib.Core.Bool.{Bool, true, false, cond, ◌&&◌}
use mathlib.Core.List.{List, [], ◌∷◌}
use Prim.Native.Nat.{ℕ, ◌+◌, ◌*◌, ◌/◌, ◌%◌, ◌^◌, ◌<◌, ◌≤◌}
use native.Mathlib.Nat.{mod-eq_of_lt, mod-lt, div-add-mod', mul_comm, mul-one, one-mul, mul-le-mul_left, le-div_iff_mul-le}
use native.Mathlib.Omega.{arith}
use borrow.Author.Tests.{lt-ltb, le-ltb}
use lib.Arith.{digits_mod, digits_lt}
use lib.Dec.{T, leb, ltb, eqb, leb→le, ltb→lt, lt→ltb, eqb→eq, eqb_refl}
use lib.Ieee.Fits.{and_i, and_l, and_r}
use Rattle.distr.specs.Words.{Read, got, short, map_read, bind_read, are_words, choose, choose_each}
use Rattle.counts.specs.DrawLists.{Exactly, in_box}
use Rattle.distr.proofs.Reading.{chose, short-not-got}
use Rattle.counts.proofs.Sums.{bit, sum, sum_ext, sum_append, sum-product, sum_single, sum_const, sum-zero, in_box_cons}
use Rattle.counts.proofs.Exact.{exactly_as, below-exactly}

-- each number of a list is a good number of choices, 1 to 2^32
unfoldable pub choosable : List ℕ → Bool
choosable [] = true
choosable (k ∷ ks) = leb 1 k && leb k (2 ^ 32) && choosable ks

-- what the two tests say of the first entry
choosable_cons : (k : ℕ) (ks : List ℕ) → T (choosable (k ∷ ks)) → (1 ≤ k) × (k ≤ 2 ^ 32) × T (choosable ks)
unfolding choosable
choosable_cons k ks t =
    let first = and_l (leb 1 k && leb k (2 ^ 32)) (choosable ks) t in (
      leb→le 1 k (and_l (leb 1 k) (leb k (2 ^ 32)) first),
      leb→le k (2 ^ 32) (and_r (leb 1 k) (leb k (2 ^ 32)) first),
      and_r (leb 1 k && leb k (2 ^ 32)) (choosable ks) t,
    )

pub box_cons : (k s : ℕ) (ks ss : List ℕ) → T (in_box (k ∷ ks) (s ∷ ss)) → (s < k) × T (in_box ks ss)
unfolding in_box
box_cons k s ks ss t = (ltb→lt s k (and_l (ltb s k) (in_box ks ss) t), and_r (ltb s k) (in_box ks ss) t)

pub choices_boxed : (ks ws ss rest : List ℕ) → T (choosable ks) → choose_each ks ws ≡ got ss rest → T (in_box ks ss)
unfolding choose_each in_box map_read bind_read
choices_boxed [] ws ss rest t e = let none : ss ≡ [] = cc in rw none tt
choices_boxed (k ∷ ks) ws ss rest t e =
    first (λ left ts left'. choices_boxed ks left ts left' (choosable_cons k ks t).2) (choose k ws) refl e
  where
    Rec : Type 0
    Rec = (left ts left' : List ℕ) → choose_each ks left ≡ got ts left' → T (in_box ks ts)

    later : Rec → (s : ℕ) (left : List ℕ) → s < k → (r : Read (List ℕ)) → choose_each ks left ≡ r
        → map_read (λ ts. s ∷ ts) r ≡ got ss rest → T (in_box (k ∷ ks) ss)
    later ih s left b (got ts left') f e =
        let both : ss ≡ s ∷ ts = cc in rw both (in_box_cons s k ts ks b (ih left ts left' f))
    later ih s left b short f e = absurd (short-not-got e)

    first : Rec → (r : Read ℕ) → choose k ws ≡ r → bind_read r (λ s left. map_read (λ ts. s ∷ ts) (choose_each ks left)) ≡ got ss rest
        → T (in_box (k ∷ ks) ss)
    first ih (got s left) c e = later ih s left (chose k ws s left c).below (choose_each ks left) refl e
    first ih short c e = absurd (short-not-got e)

-- a value below k is accepted as a word, for a k up to N
accepts : (N k : ℕ) → 1 ≤ k → k ≤ N → (s : ℕ) → s < k → s < k * (N / k)
accepts N k l u s h =
    let one : 1 ≤ N / k = (le-div_iff_mul-le l).1 (rw one-mul u) in omega (arith, mul-le-mul_left k one, mul-one k)

-- a choice is carried by itself as a word
pub choices-carried : (ks ss : List ℕ) → T (choosable ks) → T (in_box ks ss) → choose_each ks ss ≡ got ss []
unfolding choose_each choose in_box map_read bind_read
choices-carried [] [] t b = refl
choices-carried (k ∷ ks) (s ∷ ss) t b =
    let good = choosable_cons k ks t in
    let box = box_cons k s ks ss b in
    let taken = lt-ltb s (k * (2 ^ 32 / k)) (accepts (2 ^ 32) k good.0 good.1 s box.0) in
    rw (taken, mod-eq_of_lt box.0, choices-carried ks ss good.2 box.1)
choices-carried [] (s ∷ ss) t b = elim b [ ]
choices-carried (k ∷ ks) [] t b = elim b [ ]

pub choices_are_words : (ks ss : List ℕ) → T (choosable ks) → T (in_box ks ss) → T (are_words ss)
unfolding in_box are_words
choices_are_words [] [] t b = tt
choices_are_words (k ∷ ks) (s ∷ ss) t b =
    let good = choosable_cons k ks t in
    let box = box_cons k s ks ss b in
    and_i (ltb s (2 ^ 32)) (are_words ss) (lt→ltb s (2 ^ 32) (omega arith)) (choices_are_words ks ss good.2 box.1)
choices_are_words [] (s ∷ ss) t b = elim b [ ]
choices_are_words (k ∷ ks) [] t b = elim b [ ]

-- a number is accepted, below N, with the remainder r
abbrev gives : (N k r w : ℕ) → Bool
gives N k r w = ltb w (k * (N / k)) && eqb (w % k) r

-- so are ⌊N/k⌋ numbers: one in each k of those accepted
gives_count : (N k r : ℕ) → r < k → sum N (λ w. bit (gives N k r w)) ≡ N / k
gives_count N k r h =
    let q = N / k in
    let whole : N ≡ q * k + N % k = sym (div-add-mod' N k) in
    ap (λ m. sum m (λ w. bit (gives N k r w))) whole ∙ sum_append (q * k) (N % k) (λ w. bit (gives N k r w))
    ∙ ap₂ ◌+◌ (sum-product q k (λ w. bit (gives N k r w)) ∙ sum_ext q (λ i. sum k (λ j. bit (gives N k r (i * k + j)))) (λ i. 1) full) rest
    ∙ omega (arith, sum_const q 1, mul-one q)
  where
    place : (i : ℕ) → i < N / k → (j : ℕ) → j < k → bit (gives N k r (i * k + j)) ≡ bit (eqb j r) * 1
    place i a j b =
        rw (lt-ltb (i * k + j) (k * (N / k)) (rw (mul_comm k (N / k)) (digits_lt a b)), digits_mod i b) (sym (mul-one (bit (eqb j r))))

    full : (i : ℕ) → i < N / k → sum k (λ j. bit (gives N k r (i * k + j))) ≡ 1
    full i a = sum_ext k (λ j. bit (gives N k r (i * k + j))) (λ j. bit (eqb j r) * 1) (place i a) ∙ sum_single k r (λ j. 1) h

    rest : sum (N % k) (λ d. bit (gives N k r (N / k * k + d))) ≡ 0
    rest =
        sum_ext (N % k) (λ d. bit (gives N k r (N / k * k + d))) (λ d. 0)
        (λ d a. rw (le-ltb (N / k * k + d) (k * (N / k)) (omega (arith, mul_comm k (N / k)))))
        ∙ sum-zero (N % k)

-- one word: what it gives, whatever follows
module _ (k : ℕ) (l : 1 ≤ k) where
  abbrev Gives : ℕ → ℕ → Type 0
  Gives w r = (ws : List ℕ) → choose k (w ∷ ws) ≡ got r ws

  to_gives : (r w : ℕ) → T (gives (2 ^ 32) k r w) → Gives w r
  unfolding choose
  to_gives r w t ws =
      let accepted = lt-ltb w (k * (2 ^ 32 / k)) (ltb→lt w (k * (2 ^ 32 / k)) (and_l (ltb w (k * (2 ^ 32 / k))) (eqb (w % k) r) t)) in
      rw (accepted, eqb→eq (w % k) r (and_r (ltb w (k * (2 ^ 32 / k))) (eqb (w % k) r) t))

  from_gives : (r w : ℕ) → Gives w r → T (gives (2 ^ 32) k r w)
  unfolding choose
  from_gives r w g = judged (ltb w (k * (2 ^ 32 / k))) (g [])
    where
      judged : (b : Bool) → cond b (got (w % k) []) short ≡ got r [] → T (b && eqb (w % k) r)
      judged true e = let rest : w % k ≡ r = cc in rw rest (eqb_refl r)
      judged false e = short-not-got e

  -- each value of a choice comes from exactly ⌊2^32/k⌋ words
  pub choice_each : (r : ℕ) → r < k → Exactly ℕ (2 ^ 32 / k) (λ w. (w < 2 ^ 32) × Gives w r)
  choice_each r h =
      exactly_as (subst (λ (N : ℕ). Exactly ℕ N (λ w. T (ltb w (2 ^ 32)) × T (gives (2 ^ 32) k r w))) (gives_count (2 ^ 32) k r h) (below-exactly (2 ^ 32) (gives (2 ^ 32) k r)))
      (λ w p. (ltb→lt w (2 ^ 32) p.0, to_gives r w p.1))
      (λ w p. (lt→ltb w (2 ^ 32) p.0, from_gives r w p.1))

  -- and every other word is skipped
  pub choice_others : (w : ℕ) → ((r : ℕ) → r < k → Gives w r → ⊥) → (ws : List ℕ) → choose k (w ∷ ws) ≡ choose k ws
  unfolding choose
  choice_others w none ws = skips (ltb w (k * (2 ^ 32 / k))) refl
    where
      skips : (b : Bool) → ltb w (k * (2 ^ 32 / k)) ≡ b → choose k (w ∷ ws) ≡ choose k ws
      skips true t = absurd (none (w % k) (mod-lt w l) (λ ws. rw t))
      skips false t = rw t

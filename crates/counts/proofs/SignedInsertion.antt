-- Signs and choices: what is read is a draw list of the box, and every one is carried by some words.
use mathlib.Core.Path.{◌≡◌, refl, ap}
use mathlib.Core.Bool.{Bool, true, false, cond, ◌&&◌}
use mathlib.Core.List.{List, [], ◌∷◌}
use Prim.Native.Nat.{ℕ, zero, suc, ◌*◌, ◌/◌, ◌%◌, ◌^◌, ◌<◌}
use native.Mathlib.Omega.{arith}
use lib.Dec.{T, leb, ltb, lt→ltb}
use lib.Ieee.Fits.{and_i, and_l, and_r}
use lib.ListN.{replicate}
use Rattle.distr.specs.Words.{Read, got, short, map_read, bind_read, are_words, word, choose, choose_each}
use Rattle.distr.specs.Packed.{digits}
use Rattle.distr.specs.Insertion.{signs, choose_signed, sign_before}
use Rattle.counts.specs.DrawLists.{in_box}
use Rattle.distr.proofs.Reading.{chose, short-not-got}
use Rattle.counts.proofs.Sums.{in_box_cons}
use Rattle.counts.proofs.Choices.{choosable, choices-carried, choices_are_words, box_cons}
use Rattle.counts.proofs.Packed.{joined, joined-below, digits-joined, digits_boxed}

-- a sign b and a choice among k before a later reading
sign_step : (k b : ℕ) (rs : List ℕ) (later : List ℕ → Read (List ℕ)) → b < 2
    → ((left ts end : List ℕ) → later left ≡ got ts end → T (in_box rs ts))
    → (ws ds rest : List ℕ) → bind_read (choose k ws) (λ s left. map_read (λ ts. b ∷ s ∷ ts) (later left)) ≡ got ds rest → T (in_box (2 ∷ k ∷ rs) ds)
unfolding bind_read map_read
sign_step k b rs later l ih ws ds rest e = first (choose k ws) refl e
  where
    after : (s : ℕ) (left : List ℕ) → s < k → (r : Read (List ℕ)) → later left ≡ r → map_read (λ ts. b ∷ s ∷ ts) r ≡ got ds rest
        → T (in_box (2 ∷ k ∷ rs) ds)
    after s left u (got ts end) f e =
        let all : ds ≡ b ∷ s ∷ ts = cc in rw all (in_box_cons b 2 (s ∷ ts) (k ∷ rs) l (in_box_cons s k ts rs u (ih left ts end f)))
    after s left u short f e = absurd (short-not-got e)

    first : (r : Read ℕ) → choose k ws ≡ r → bind_read r (λ s left. map_read (λ ts. b ∷ s ∷ ts) (later left)) ≡ got ds rest → T (in_box (2 ∷ k ∷ rs) ds)
    first (got s left) c e = after s left (chose k ws s left c).below (later left) refl e
    first short c e = absurd (short-not-got e)

-- whatever is read is a sign below 2 and a choice below each number; j signs are at hand
pub signed_boxed : (ks : List ℕ) (j : ℕ) (bits ws ds rest : List ℕ) → T (in_box (replicate j 2) bits)
    → choose_signed ks bits ws ≡ got ds rest → T (in_box (sign_before ks) ds)
unfolding choose_signed signs word sign_before in_box digits map_read bind_read
signed_boxed [] j bits ws ds rest t e = let none : ds ≡ [] = cc in rw none tt
signed_boxed (k ∷ ks) zero [] [] ds rest t e = absurd (short-not-got e)
signed_boxed (k ∷ ks) zero [] (w ∷ ws) ds rest t e =
    sign_step k (w % 2) (sign_before ks) (choose_signed ks (digits 2 31 (w / 2))) (omega arith)
    (λ left ts end. signed_boxed ks 31 (digits 2 31 (w / 2)) left ts end (digits_boxed 2 31 (w / 2) (omega arith))) ws ds rest e
signed_boxed (k ∷ ks) (suc j) (b ∷ bs) ws ds rest t e =
    let both = box_cons 2 b (replicate j 2) bs t in
    sign_step k b (sign_before ks) (choose_signed ks bs) both.0 (λ left ts end. signed_boxed ks j bs left ts end both.1) ws ds rest e
signed_boxed (k ∷ ks) zero (b ∷ bs) ws ds rest t e = elim t [ ]
signed_boxed (k ∷ ks) (suc j) [] ws ds rest t e = elim t [ ]

-- a draw list is made of pairs: no sign without its choice
no_half : (k b : ℕ) (rs : List ℕ) → T (in_box (2 ∷ k ∷ rs) (b ∷ [])) → ⊥
unfolding in_box
no_half k b rs t = (box_cons 2 b (k ∷ rs) [] t).1

pair_box : (k b s : ℕ) (rs ds : List ℕ) → T (in_box (2 ∷ k ∷ rs) (b ∷ s ∷ ds)) → (b < 2) × (s < k) × T (in_box rs ds)
pair_box k b s rs ds t =
    let first = box_cons 2 b (k ∷ rs) (s ∷ ds) t in
    let second = box_cons k s rs ds first.1 in
    (first.0, second.0, second.1)

-- the next j signs of a draw list, 0 where none are left
unfoldable pub next_signs : ℕ → List ℕ → List ℕ
next_signs zero ds = []
next_signs (suc j) [] = 0 ∷ next_signs j []
next_signs (suc j) (b ∷ []) = 0 ∷ next_signs j []
next_signs (suc j) (b ∷ s ∷ ds) = b ∷ next_signs j ds

next-below : (ks : List ℕ) (j : ℕ) (ds : List ℕ) → T (in_box (sign_before ks) ds) → T (in_box (replicate j 2) (next_signs j ds))
unfolding next_signs in_box sign_before
next-below ks zero ds t = tt
next-below [] (suc j) [] t = next-below [] j [] t
next-below (k ∷ ks) (suc j) (b ∷ []) t = absurd (no_half k b (sign_before ks) t)
next-below (k ∷ ks) (suc j) (b ∷ s ∷ ds) t =
    let each = pair_box k b s (sign_before ks) ds t in in_box_cons b 2 (next_signs j ds) (replicate j 2) each.0 (next-below ks j ds each.2)
next-below [] (suc j) (b ∷ _) t = elim t [ ]
next-below (k ∷ ks) (suc j) [] t = elim t [ ]

-- the words that carry a draw list where j signs are at hand: each choice, and before it the next 32 signs where none is
unfoldable pub carrier : ℕ → List ℕ → List ℕ
carrier j [] = []
carrier j (b ∷ []) = []
carrier zero (b ∷ s ∷ ds) = joined 2 (next_signs 32 (b ∷ s ∷ ds)) ∷ s ∷ carrier 31 ds
carrier (suc j) (b ∷ s ∷ ds) = s ∷ carrier j ds

choosable_parts : (k : ℕ) (ks : List ℕ) → T (choosable (k ∷ ks)) → T (choosable (k ∷ [])) × T (choosable ks)
unfolding choosable
choosable_parts k ks t =
    let here = leb 1 k && leb k (2 ^ 32) in (and_i here true (and_l here (choosable ks) t) tt, and_r here (choosable ks) t)

-- a choice is its own word, whatever follows
choose_itself : (k s : ℕ) (rest : List ℕ) → T (choosable (k ∷ [])) → s < k → choose k (s ∷ rest) ≡ got s rest
unfolding choose choose_each bind_read map_read in_box
choose_itself k s rest t h = go (ltb s (k * (2 ^ 32 / k))) (choices-carried (k ∷ []) (s ∷ []) t (in_box_cons s k [] [] h tt))
  where
    go : (b : Bool) → bind_read (cond b (got (s % k) []) short) (λ s left. map_read (λ ss. s ∷ ss) (got [] left)) ≡ got (s ∷ []) []
        → cond b (got (s % k) rest) (choose k rest) ≡ got s rest
    go true e =
        let z : s % k ≡ s = cc in
        ap (λ (x : ℕ). got x rest) z
    go false e = absurd (short-not-got e)

word_itself : (k s : ℕ) → T (choosable (k ∷ [])) → s < k → T (ltb s (2 ^ 32))
unfolding are_words in_box
word_itself k s t h = and_l (ltb s (2 ^ 32)) true (choices_are_words (k ∷ []) (s ∷ []) t (in_box_cons s k [] [] h tt))

pub signed-carried : (ks : List ℕ) (j : ℕ) (ds : List ℕ) → T (choosable ks) → T (in_box (sign_before ks) ds)
    → choose_signed ks (next_signs j ds) (carrier j ds) ≡ got ds []
unfolding choose_signed signs word sign_before in_box carrier next_signs map_read bind_read
signed-carried [] j [] t u = refl
signed-carried (k ∷ ks) zero (b ∷ []) t u = absurd (no_half k b (sign_before ks) u)
signed-carried (k ∷ ks) (suc j) (b ∷ []) t u = absurd (no_half k b (sign_before ks) u)
signed-carried (k ∷ ks) zero (b ∷ s ∷ ds) t u =
    let each = pair_box k b s (sign_before ks) ds u in
    let good = choosable_parts k ks t in
    rw (
      digits-joined 2 32 (next_signs 32 (b ∷ s ∷ ds)) (next-below (k ∷ ks) 32 (b ∷ s ∷ ds) u),
      choose_itself k s (carrier 31 ds) good.0 each.1,
      signed-carried ks 31 ds good.1 each.2,
    )
signed-carried (k ∷ ks) (suc j) (b ∷ s ∷ ds) t u =
    let each = pair_box k b s (sign_before ks) ds u in
    let good = choosable_parts k ks t in
    rw (choose_itself k s (carrier j ds) good.0 each.1, signed-carried ks j ds good.1 each.2)
signed-carried [] j (b ∷ _) t u = elim u [ ]
signed-carried (k ∷ ks) zero [] t u = elim u [ ]
signed-carried (k ∷ ks) (suc j) [] t u = elim u [ ]

pub carrier_are_words : (ks : List ℕ) (j : ℕ) (ds : List ℕ) → T (choosable ks) → T (in_box (sign_before ks) ds) → T (are_words (carrier j ds))
unfolding carrier are_words in_box sign_before
carrier_are_words [] j [] t u = tt
carrier_are_words (k ∷ ks) zero (b ∷ []) t u = tt
carrier_are_words (k ∷ ks) (suc j) (b ∷ []) t u = tt
carrier_are_words (k ∷ ks) zero (b ∷ s ∷ ds) t u =
    let each = pair_box k b s (sign_before ks) ds u in
    let good = choosable_parts k ks t in
    let signs = next_signs 32 (b ∷ s ∷ ds) in
    and_i (ltb (joined 2 signs) (2 ^ 32)) (ltb s (2 ^ 32) && are_words (carrier 31 ds))
    (lt→ltb (joined 2 signs) (2 ^ 32) (joined-below 2 32 signs (next-below (k ∷ ks) 32 (b ∷ s ∷ ds) u)))
    (and_i (ltb s (2 ^ 32)) (are_words (carrier 31 ds)) (word_itself k s good.0 each.1) (carrier_are_words ks 31 ds good.1 each.2))
carrier_are_words (k ∷ ks) (suc j) (b ∷ s ∷ ds) t u =
    let each = pair_box k b s (sign_before ks) ds u in
    let good = choosable_parts k ks t in
    and_i (ltb s (2 ^ 32)) (are_words (carrier j ds)) (word_itself k s good.0 each.1) (carrier_are_words ks j ds good.1 each.2)
carrier_are_words [] j (b ∷ _) t u = elim u [ ]
carrier_are_words (k ∷ ks) zero [] t u = elim u [ ]
carrier_are_words (k ∷ ks) (suc j) [] t u = elim u [ ]

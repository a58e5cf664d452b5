-- The bytes looked at while some are wanted: bytes taken off the front are all looked at, where no fewer are wanted.
use mathlib.Core.Path.{◌≡◌, refl, ap, ◌∙◌}
use mathlib.Core.Bool.{Bool, true, false, cond}
use mathlib.Core.List.{List, [], ◌∷◌, ◌++◌}
use Prim.Native.Nat.{ℕ, zero, suc, ◌+◌, ◌-◌, ◌≤◌}
use native.Mathlib.Nat.{sub-zero, zero-sub}
use native.Mathlib.Omega.{arith}
use lib.Dec.{ltb}
use lib.ListN.{length, length-append}
use Rattle.distr.specs.Packed.{digits}
use Rattle.distr.specs.UniformTernary.{accepted_bytes, rejected_among, rejected_bytes}

-- the bytes accepted of two lists, one after the other
pub accepted_append : (xs ys : List ℕ) → accepted_bytes (xs ++ ys) ≡ accepted_bytes xs ++ accepted_bytes ys
unfolding accepted_bytes
accepted_append [] ys = refl
accepted_append (x ∷ xs) ys = go (ltb x 243) (accepted_bytes xs) (accepted_append xs ys)
  where
    go : (t : Bool) {both : List ℕ} (front : List ℕ) → both ≡ front ++ accepted_bytes ys → cond t (x ∷ both) both ≡ cond t (x ∷ front) front ++ accepted_bytes ys
    go true front e = ap (λ (l : List ℕ). x ∷ l) e
    go false front e = e

-- where m bytes are wanted: the bytes looked at, first those left of a word and then those of the words after it
abbrev pub looked_from : List ℕ → List ℕ → ℕ → ℕ
looked_from left ws m = rejected_among left m + rejected_bytes ws (m - length (accepted_bytes left)) + m

-- no byte is left: the words alone
pub looked_words : (ws : List ℕ) (m : ℕ) → looked_from [] ws m ≡ rejected_bytes ws m + m
unfolding accepted_bytes rejected_among
looked_words ws m = rw (sub-zero m) (omega arith)

-- the next word's bytes
pub looked_next : (w : ℕ) (ws : List ℕ) (m : ℕ) → looked_from [] (w ∷ ws) (suc m) ≡ looked_from (digits 256 4 w) ws (suc m)
unfolding rejected_bytes
looked_next w ws m = looked_words (w ∷ ws) (suc m)

-- no byte is wanted
pub looked_none : (left ws : List ℕ) → looked_from left ws 0 ≡ 0
unfolding rejected_among rejected_bytes
looked_none left ws = omega (arith, among left, ap (rejected_bytes ws) (zero-sub (length (accepted_bytes left))) ∙ words ws)
  where
    among : (bs : List ℕ) → rejected_among bs 0 ≡ 0
    among [] = refl
    among (b ∷ bs) = refl

    words : (vs : List ℕ) → rejected_bytes vs 0 ≡ 0
    words [] = refl
    words (v ∷ vs) = refl

-- each byte in front is accepted or rejected
among_front : (bs left : List ℕ) (m : ℕ) → length bs ≤ m
    → rejected_among (bs ++ left) m + length (accepted_bytes bs) ≡ length bs + rejected_among left (m - length (accepted_bytes bs))
unfolding accepted_bytes rejected_among
among_front [] left m h = rw (sub-zero m) (omega arith)
among_front (b ∷ bs) left zero h = absurd (omega arith)
among_front (b ∷ bs) left (suc m) h = go (ltb b 243) (among_front bs left m (omega arith)) (among_front bs left (suc m) (omega arith))
  where
    A : List ℕ
    A = accepted_bytes bs

    go : (t : Bool) → rejected_among (bs ++ left) m + length A ≡ length bs + rejected_among left (m - length A)
        → rejected_among (bs ++ left) (suc m) + length A ≡ length bs + rejected_among left (suc m - length A)
        → cond t (rejected_among (bs ++ left) m) (suc (rejected_among (bs ++ left) (suc m))) + length (cond t (b ∷ A) A)
        ≡ suc (length bs) + rejected_among left (suc m - length (cond t (b ∷ A) A))
    go true e f = let less : suc m - suc (length A) ≡ m - length A = omega arith in rw less (omega arith)
    go false e f = omega arith

pub looked_front : (bs left ws : List ℕ) (m : ℕ) → length bs ≤ length (accepted_bytes bs) + m
    → looked_from (bs ++ left) ws (length (accepted_bytes bs) + m) ≡ length bs + looked_from left ws m
looked_front bs left ws m h =
    let front : List ℕ = accepted_bytes bs in
    let back : List ℕ = accepted_bytes left in
    let less : length front + m - length (front ++ back) ≡ m - length back = rw (length-append front back) (omega arith) in
    let rest : length front + m - length front ≡ m = omega arith in
    rw (accepted_append bs left, less) (omega (arith, rw rest at (among_front bs left (length front + m) h)))

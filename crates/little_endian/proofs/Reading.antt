-- The words that stand in bytes, one by one, and those of a part of the bytes.
use mathlib.Core.Path.{◌≡◌, refl, ap, ap₂, ◌∙◌}
use mathlib.Core.Bool.{cond}
use mathlib.Core.List.{List, ◌∷◌}
use Prim.Native.Nat.{ℕ, zero, suc, ◌+◌, ◌-◌, ◌*◌, ◌/◌, ◌<◌, ◌≤◌}
use native.Mathlib.Nat.{add-zero}
use native.Mathlib.Omega.{arith}
use borrow.Author.Tests.{eq-eqb}
use lib.Dec.{eqb}
use lib.ListN.{length, get_or, take, drop, length-take, length-drop}
use lib.Seq.{get_or-take, get_or-drop}
use Rattle.little_endian.specs.LittleEndian.{u32_at, words_at, words_in}

pub length-words : (s : List ℕ) (i count : ℕ) → length (words_at s i count) ≡ count
unfolding words_at
length-words s i zero = refl
length-words s i (suc count) = ap suc (length-words s (i + 4) count)

-- the k-th word begins 4 k bytes after the first
pub word_at : (s : List ℕ) (i count k : ℕ) → k < count → get_or (words_at s i count) k 0 ≡ u32_at s (i + 4 * k)
unfolding words_at
word_at s i zero k h = absurd (omega arith)
word_at s i (suc count) zero h = ap (u32_at s) (omega arith)
word_at s i (suc count) (suc k) h = word_at s (i + 4) count k (omega arith) ∙ ap (u32_at s) (omega arith)

-- ---- a part of the bytes

-- a word in the bytes from a place on, and in the first bytes
pub u32_drop : (s : List ℕ) (n i : ℕ) → u32_at (drop n s) i ≡ u32_at s (n + i)
unfolding u32_at
u32_drop s n i = rw (get_or-drop n s i 0, byte 1, byte 2, byte 3)
  where
    byte : (j : ℕ) → get_or (drop n s) (i + j) 0 ≡ get_or s (n + i + j) 0
    byte j = let e : n + (i + j) ≡ n + i + j = omega arith in get_or-drop n s (i + j) 0 ∙ ap (λ (k : ℕ). get_or s k 0) e

u32_take : (s : List ℕ) (n i : ℕ) → i + 4 ≤ n → u32_at (take n s) i ≡ u32_at s i
unfolding u32_at
u32_take s n i h =
    rw (
      get_or-take n s i 0 (omega arith),
      get_or-take n s (i + 1) 0 (omega arith),
      get_or-take n s (i + 2) 0 (omega arith),
      get_or-take n s (i + 3) 0 (omega arith),
    )

words-drop : (s : List ℕ) (n i count : ℕ) → words_at (drop n s) i count ≡ words_at s (n + i) count
unfolding words_at
words-drop s n i zero = refl
words-drop s n i (suc count) =
    let e : n + (i + 4) ≡ n + i + 4 = omega arith in
    ap₂ ◌∷◌ (u32_drop s n i) (words-drop s n (i + 4) count ∙ ap (λ (k : ℕ). words_at s k count) e)

words_take : (s : List ℕ) (n i count : ℕ) → i + 4 * count ≤ n → words_at (take n s) i count ≡ words_at s i count
unfolding words_at
words_take s n i zero h = refl
words_take s n i (suc count) h = ap₂ ◌∷◌ (u32_take s n i (omega arith)) (words_take s n (i + 4) count (omega arith))

-- the words of a part are those that begin at its start
module _ (s : List ℕ) (i count : ℕ) (inside : i + 4 * count ≤ length s) where
  abbrev part : List ℕ
  part = take (i + 4 * count - i) (drop i s)

  length_part : length part ≡ 4 * count
  length_part = simp (length-take, length-drop) (omega arith)

  words-part : words_in part ≡ words_at s i count
  words-part =
      let as_many : length part / 4 ≡ count = omega (arith, length_part) in
      ap (words_at part 0) as_many ∙ words_take (drop i s) (i + 4 * count - i) 0 count (omega arith) ∙ words-drop s i 0 count
      ∙ ap (λ (k : ℕ). words_at s k count) (add-zero i)

  -- so that is what is read from it into just so many words
  pub part_read : (before after : List ℕ) → length before ≡ count
      → after ≡ cond (eqb (length part) (4 * length before)) (words_in part) before → after ≡ words_at s i count
  part_read before after e read = read ∙ rw (eq-eqb (length part) (4 * length before) (omega (arith, length_part))) words-part

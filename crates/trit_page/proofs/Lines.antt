-- The lines of bytes that follow one another, ten characters each.
use mathlib.Core.Path.{◌≡◌, refl, sym, ap, ◌∙◌}
use mathlib.Core.List.{List, ◌++◌, map, flat_map, append-nil, append_assoc}
use Prim.Native.Nat.{ℕ, zero, suc, ◌+◌, ◌-◌, ◌*◌, ◌≤◌}
use native.Mathlib.Nat.{add-zero, zero-add}
use native.Mathlib.Numerals.{add-one}
use native.Mathlib.Omega.{arith}
use borrow.Rule.Slice.PartMut.{put_mid}
use lib.ListN.{length, drop, length-append, length-drop, drop_of_length-le}
use lib.Seq.{drop-drop, take_at, drop_at}
use Rattle.distr.specs.Packed.{digits}
use Rattle.packed.specs.TritTable.{count_up, trit_table}
use Rattle.trit_page.specs.Page.{line_of, page_text}

-- the line of a byte
abbrev pub line_at : ℕ → List ℕ
line_at byte = line_of (digits 3 5 byte)

-- those of so many, from one on
abbrev pub lines : ℕ → ℕ → List ℕ
lines from count = flat_map line_of (map (digits 3 5) (count_up from count))

length-line : (byte : ℕ) → length (line_at byte) ≡ 10
unfolding line_of digits
length-line byte = refl

length-lines : (from count : ℕ) → length (lines from count) ≡ 10 * count
unfolding count_up flat_map
length-lines from zero = refl
length-lines from (suc count) =
    length-append (line_at from) (lines (suc from) count) ∙ omega (arith, length-line from, length-lines (suc from) count)

-- one byte more
lines_more : (from count : ℕ) → lines from (suc count) ≡ lines from count ++ line_at (from + count)
unfolding count_up flat_map
lines_more from zero = append-nil (line_at from) ∙ ap line_at (sym (add-zero from))
lines_more from (suc count) =
    let next : suc from + count ≡ from + suc count = omega arith in
    ap (λ (t : List ℕ). line_at from ++ t) (lines_more (suc from) count ∙ ap (λ (byte : ℕ). lines (suc from) count ++ line_at byte) next)
    ∙ sym (append_assoc (line_at from) (lines (suc from) count) (line_at (from + suc count)))

-- ---- into a page

-- a page on which the lines of the bytes below one stand
abbrev pub printed : ℕ → List ℕ → List ℕ
printed byte page = lines 0 byte ++ drop (10 * byte) page

pub length-printed : (byte : ℕ) (page : List ℕ) → 10 * byte ≤ length page → length (printed byte page) ≡ length page
length-printed byte page h = simp (length-append, length-drop) (omega (arith, length-lines 0 byte))

pub printed_none : (page : List ℕ) → printed 0 page ≡ page
unfolding count_up flat_map
printed_none page = refl

-- the line of the next is put into the ten characters after them
pub printed_more : (byte : ℕ) (page line : List ℕ) → line ≡ line_at byte
    → put_mid (10 * byte) (10 * byte + 10 - 10 * byte) (printed byte page) line ≡ printed (byte + 1) page
printed_more byte page line e =
    let there = length-lines 0 byte in
    let ten : 10 * byte + 10 - 10 * byte ≡ 10 = omega arith in
    let end : 10 * byte + 10 ≡ 10 * (byte + 1) = omega arith in
    rw (ten, e, take_at, drop_at, drop-drop, end, add-one byte, lines_more 0 byte, zero-add byte)
    (sym (append_assoc (lines 0 byte) (line_at byte) (drop (10 * suc byte) page)))

-- after the last it is the whole page
pub printed-all : (page : List ℕ) → length page ≡ 2430 → printed 243 page ≡ page_text
unfolding page_text trit_table
printed-all page e = ap (λ (t : List ℕ). lines 0 243 ++ t) (drop_of_length-le page {i = 2430} (omega arith)) ∙ append-nil (lines 0 243)

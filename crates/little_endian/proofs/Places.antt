-- Coefficients written one after the other, each into its eight bytes.
use mathlib.Core.Path.{◌≡◌, sym, ap, ◌∙◌}
use mathlib.Core.List.{List, ◌++◌, map, append_assoc}
use Prim.Native.Nat.{ℕ, suc, ◌+◌, ◌-◌, ◌*◌, ◌^◌, ◌<◌, ◌≤◌}
use native.Mathlib.Nat.{le_refl, mul_comm, div-div-eq-div-mul}
use native.Mathlib.Omega.{arith}
use borrow.Rule.Slice.PartMut.{put_mid}
use lib.ListN.{length, get_or, take, drop, length-map, get_or-map}
use lib.Seq.{drop-cons, drop-drop, take-take, take_at}
use lib.IntN.{ℤ, pos}
use Rattle.std.specs.Int.{w64, to_le_bytes}
use Rattle.distr.specs.Packed.{digits, split}
use Rattle.distr.specs.Encoding.{encode}
use Rattle.distr.proofs.Digits.{length_digits, drop-split}
use Rattle.distr.proofs.Writing.{written, written-paste}
use Rattle.little_endian.specs.LittleEndian.{bytes_of}
use Rattle.little_endian.proofs.OneToOne.{length-bytes}

-- ---- the eight bytes of a number

pub eight_digits : (x : ℕ) → to_le_bytes w64 x ≡ digits 256 8 x
unfolding digits
eight_digits x =
    rw (
      div-div-eq-div-mul x (2 ^ 8) 256,
      div-div-eq-div-mul x (2 ^ 16) 256,
      div-div-eq-div-mul x (2 ^ 24) 256,
      div-div-eq-div-mul x (2 ^ 32) 256,
      div-div-eq-div-mul x (2 ^ 40) 256,
      div-div-eq-div-mul x (2 ^ 48) 256,
    )

-- ---- a part that was lent

-- the next elements of what is to be written stand in it
part-written : (xs out ys : List ℕ) (p count : ℕ) → p ≤ length xs → ys ≡ take count (drop p xs)
    → put_mid p count (written xs p out) ys ≡ written xs (p + count) out
part-written xs out ys p count h e =
    let d : List ℕ = written xs p out in
    let all : take count ys ≡ ys = ap (take count) e ∙ take-take count count (drop p xs) (le_refl count) ∙ sym e in
    ap (λ (t : List ℕ). take p d ++ (t ++ drop count (drop p d))) (sym all)
    ∙ ap (λ (t : List ℕ). take p d ++ (take count ys ++ t)) (drop-drop count p d)
    ∙ sym (append_assoc (take p d) (take count ys) (drop (p + count) d))
    ∙ written-paste xs out ys p count h (all ∙ e)

module _ (cs : List ℤ) (i : ℕ) (inside : i < length cs) where
  abbrev bits : List ℕ
  bits = map (encode (2 ^ 64)) cs

  -- the bytes of coefficient i
  next-bytes : take 8 (drop (8 * i) (bytes_of cs)) ≡ digits 256 8 (encode (2 ^ 64) (get_or cs i (pos 0)))
  unfolding split
  next-bytes =
      let x : ℕ = get_or bits i 0 in
      ap (λ (k : ℕ). take 8 (drop k (bytes_of cs))) (mul_comm 8 i)
      ∙ ap (take 8) (drop-split 256 8 i bits ∙ ap (split 256 8) (drop-cons bits i 0 (rw (length-map cs (encode (2 ^ 64))) inside)))
      ∙ take_at (digits 256 8 x) (split 256 8 (drop (suc i) bits)) 8 (length_digits 256 8 x)
      ∙ ap (digits 256 8) (get_or-map (encode (2 ^ 64)) cs i (pos 0))

  pub turn_more : (out ys : List ℕ) → ys ≡ digits 256 8 (encode (2 ^ 64) (get_or cs i (pos 0)))
      → put_mid (8 * i) (8 * i + 8 - 8 * i) (written (bytes_of cs) (8 * i) out) ys ≡ written (bytes_of cs) (8 * (i + 1)) out
  turn_more out ys e =
      let eight : 8 * i + 8 - 8 * i ≡ 8 = omega arith in
      let end : 8 * i + 8 ≡ 8 * (i + 1) = omega arith in
      ap (λ (k : ℕ). put_mid (8 * i) k (written (bytes_of cs) (8 * i) out) ys) eight
      ∙ part-written (bytes_of cs) out ys (8 * i) 8 (omega (arith, length-bytes cs)) (e ∙ sym next-bytes)
      ∙ ap (λ (k : ℕ). written (bytes_of cs) k out) end

-- Coefficients of 64 bits and their bytes go one to one: the bytes are the digits of numbers, and the numbers are joined from them again.
use mathlib.Core.Path.{◌≡◌, refl, sym, ap, ap₂, ◌∙◌}
use mathlib.Core.Bool.{true}
use mathlib.Core.List.{List, [], ◌∷◌, map}
use Prim.Native.Nat.{ℕ, zero, suc, ◌+◌, ◌*◌, ◌/◌, ◌^◌, ◌<◌}
use native.Mathlib.Nat.{add-zero}
use native.Mathlib.Omega.{arith}
use lib.Dec.{T, ltb, ltb→lt}
use lib.Ieee.Fits.{and_l, and_r}
use lib.ListN.{length, get_or, take, drop, replicate, length-map, get_or-map}
use lib.Seq.{take-nil, drop-drop}
use lib.IntN.{ℤ, pos}
use Rattle.distr.specs.Packed.{split}
use Rattle.distr.specs.Encoding.{encode}
use Rattle.distr.proofs.Digits.{length-split}
use Rattle.counts.specs.DrawLists.{in_box}
use Rattle.counts.proofs.Sums.{in_box_cons}
use Rattle.counts.proofs.Packed.{joined, pack, split-pack, pack-split, pack_boxed}
use Rattle.little_endian.specs.Patterns.{value_of}
use Rattle.little_endian.specs.LittleEndian.{u32_at, bytes_of, coefficients_at, coefficients_in}
use Rattle.little_endian.specs.OneToOne.{Is64, OneToOne}
use Rattle.little_endian.proofs.Reading.{u32_drop}
use Rattle.little_endian.proofs.Patterns.{encode-below, bits_back, values_back}

pub length-bytes : (cs : List ℤ) → length (bytes_of cs) ≡ length cs * 8
length-bytes cs = length-split 256 8 (map (encode (2 ^ 64)) cs) ∙ ap (λ (n : ℕ). n * 8) (length-map cs (encode (2 ^ 64)))

-- ---- the number that eight bytes are

-- the lowest byte, and those after it; a byte past the end counts 0
joined-front : (k : ℕ) (l : List ℕ) → joined 256 (take (suc k) l) ≡ joined 256 (take k (drop 1 l)) * 256 + get_or l 0 0
unfolding joined
joined-front k [] = rw (take-nil k)
joined-front k (x ∷ l) = refl

joined_at : (k i : ℕ) (l : List ℕ) → joined 256 (take (suc k) (drop i l)) ≡ joined 256 (take k (drop (suc i) l)) * 256 + get_or l i 0
joined_at k zero l = joined-front k l
joined_at k (suc i) [] = joined-front k []
joined_at k (suc i) (x ∷ l) = joined_at k i l

-- two words of 32 bits, the lower first
joined_words : (l : List ℕ) → joined 256 (take 8 l) ≡ u32_at l 0 + u32_at l 4 * 2 ^ 32
unfolding u32_at joined
joined_words l =
    omega (
      arith,
      joined_at 7 0 l,
      joined_at 6 1 l,
      joined_at 5 2 l,
      joined_at 4 3 l,
      joined_at 3 4 l,
      joined_at 2 5 l,
      joined_at 1 6 l,
      joined_at 0 7 l,
    )

-- so the coefficients are the numbers packed from the bytes, as values
coefficients-packed : (bytes : List ℕ) (i count : ℕ) → coefficients_at bytes i count ≡ map (value_of true) (pack 256 8 count (drop i bytes))
unfolding coefficients_at pack
coefficients-packed bytes i zero = refl
coefficients-packed bytes i (suc count) =
    ap₂ (λ (x : ℕ) (cs : List ℤ). value_of true x ∷ cs) number
    (coefficients-packed bytes (i + 8) count ∙ ap (λ (l : List ℕ). map (value_of true) (pack 256 8 count l)) (sym (drop-drop 8 i bytes)))
  where
    number : u32_at bytes i + u32_at bytes (i + 4) * 2 ^ 32 ≡ joined 256 (take 8 (drop i bytes))
    number =
        ap₂ (λ (a b : ℕ). a + b * 2 ^ 32) (ap (u32_at bytes) (sym (add-zero i)) ∙ sym (u32_drop bytes i 0)) (sym (u32_drop bytes i 4))
        ∙ sym (joined_words (drop i bytes))

all-packed : (bytes : List ℕ) (n : ℕ) → length bytes ≡ n * 8 → coefficients_in bytes ≡ map (value_of true) (pack 256 8 n bytes)
all-packed bytes n e = let as_many : length bytes / 8 ≡ n = omega arith in ap (coefficients_at bytes 0) as_many ∙ coefficients-packed bytes 0 n

-- ---- boxes of numbers below a bound

below_boxed : (most : ℕ) (ds : List ℕ) → ((i : ℕ) → get_or ds i 0 < most) → T (in_box (replicate (length ds) most) ds)
unfolding in_box
below_boxed most [] h = tt
below_boxed most (d ∷ ds) h = in_box_cons d most ds (replicate (length ds) most) (h 0) (below_boxed most ds (λ i. h (suc i)))

bits-all_back : (m : ℕ) (xs : List ℕ) → T (in_box (replicate m (2 ^ 64)) xs) → map (encode (2 ^ 64)) (map (value_of true) xs) ≡ xs
unfolding in_box
bits-all_back zero [] t = refl
bits-all_back (suc m) (x ∷ xs) t =
    let rest = in_box (replicate m (2 ^ 64)) xs in
    ap₂ ◌∷◌ (bits_back x (ltb→lt x (2 ^ 64) (and_l (ltb x (2 ^ 64)) rest t))) (bits-all_back m xs (and_r (ltb x (2 ^ 64)) rest t))
bits-all_back zero (x ∷ xs) t = elim t [ ]
bits-all_back (suc m) [] t = elim t [ ]

-- ---- both laws

read_back : (cs : List ℤ) → ((i : ℕ) → Is64 (get_or cs i (pos 0))) → coefficients_in (bytes_of cs) ≡ cs
read_back cs h =
    let xs : List ℕ = map (encode (2 ^ 64)) cs in
    let below : (i : ℕ) → get_or xs i 0 < 2 ^ 64 = λ i. rw (get_or-map (encode (2 ^ 64)) cs i (pos 0)) (encode-below (get_or cs i (pos 0)) (h i)) in
    let boxed : T (in_box (replicate (length cs) (2 ^ 64)) xs) = rw (length-map cs (encode (2 ^ 64))) at (below_boxed (2 ^ 64) xs below) in
    all-packed (bytes_of cs) (length cs) (length-bytes cs) ∙ ap (map (value_of true)) (pack-split 256 8 (length cs) xs (omega arith) boxed) ∙ values_back cs h

written_back : (bytes : List ℕ) (n : ℕ) → length bytes ≡ 8 * n → ((i : ℕ) → get_or bytes i 0 < 256) → bytes_of (coefficients_in bytes) ≡ bytes
written_back bytes n e h =
    let size : length bytes ≡ n * 8 = omega arith in
    let boxed : T (in_box (replicate (n * 8) 256) bytes) = rw size at (below_boxed 256 bytes h) in
    ap bytes_of (all-packed bytes n size)
    ∙ ap (split 256 8) (bits-all_back n (pack 256 8 n bytes) (pack_boxed 256 8 n bytes boxed)) ∙ split-pack 256 8 n bytes boxed

pub one_to_one : OneToOne
one_to_one = record { read_back = read_back; written_back = written_back }

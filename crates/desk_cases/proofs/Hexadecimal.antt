-- Digits and bytes: how many there are, and which stands where.
use Rattle.std.proofs.Common.{◌≡◌, ℕ, zero, suc, ◌+◌, ◌*◌, ◌/◌, ◌%◌, ◌<◌, true, false, ◌&&◌, List, [], ◌∷◌, length, get_or, drop, set, sym, refl, ap, ◌∙◌, add-one, arith, drop-cons}
use Rattle.distr.proofs.Writing.{written, written_more}
use Rattle.desk_cases.specs.Hexadecimal.{digit, hex, is_digit, value_of, all_digits, bytes_in}

-- the places of a pair after the first
even-suc : (i : ℕ) → 2 * suc i ≡ suc (suc (2 * i))
even-suc i = omega arith

odd_suc : (i : ℕ) → 2 * suc i + 1 ≡ suc (suc (2 * i + 1))
odd_suc i = omega arith

pub hex-length : (bs : List ℕ) → length (hex bs) ≡ 2 * length bs
unfolding hex
hex-length [] = refl
hex-length (b ∷ bs) = omega (arith, hex-length bs)

high_at : (bs : List ℕ) (i : ℕ) → i < length bs → get_or (hex bs) (2 * i) 0 ≡ digit (get_or bs i 0 / 16)
unfolding hex
high_at [] i h = absurd (omega arith)
high_at (b ∷ bs) zero h = refl
high_at (b ∷ bs) (suc i) h = rw (even-suc i) (high_at bs i (omega arith))

low_at : (bs : List ℕ) (i : ℕ) → i < length bs → get_or (hex bs) (2 * i + 1) 0 ≡ digit (get_or bs i 0 % 16)
unfolding hex
low_at [] i h = absurd (omega arith)
low_at (b ∷ bs) zero h = refl
low_at (b ∷ bs) (suc i) h = rw (odd_suc i) (low_at bs i (omega arith))

-- a turn of the writing loop: the two digits of a byte more
module _ (bs out : List ℕ) (i : ℕ) (room : length out ≡ 2 * length bs) (h : i < length bs) where
  first_more : set (written (hex bs) (2 * i) out) (2 * i) (digit (get_or bs i 0 / 16)) ≡ written (hex bs) (2 * i + 1) out
  first_more =
      ap (set (written (hex bs) (2 * i) out) (2 * i)) (sym (high_at bs i h))
      ∙ rw (add-one (2 * i)) (written_more (hex bs) out (2 * i) 0 (omega (arith, hex-length bs)) (omega arith))

  second_more : set (written (hex bs) (2 * i + 1) out) (2 * i + 1) (digit (get_or bs i 0 % 16)) ≡ written (hex bs) (2 * (i + 1)) out
  second_more =
      let next : 2 * (i + 1) ≡ suc (2 * i + 1) = omega arith in
      ap (set (written (hex bs) (2 * i + 1) out) (2 * i + 1)) (sym (low_at bs i h))
      ∙ rw next (written_more (hex bs) out (2 * i + 1) 0 (omega (arith, hex-length bs)) (omega arith))

  pub pair_more : set (set (written (hex bs) (2 * i) out) (2 * i) (digit (get_or bs i 0 / 16))) (2 * i + 1) (digit (get_or bs i 0 % 16))
      ≡ written (hex bs) (2 * (i + 1)) out
  pair_more = ap (λ (l : List ℕ). set l (2 * i + 1) (digit (get_or bs i 0 % 16))) first_more ∙ second_more

pub bytes-length : (n : ℕ) (text : List ℕ) → length text ≡ 2 * n → length (bytes_in text) ≡ n
unfolding bytes_in
bytes-length zero [] h = refl
bytes-length (suc n) [] h = absurd (omega arith)
bytes-length zero (c ∷ cs) h = absurd (omega arith)
bytes-length (suc n) (c ∷ []) h = absurd (omega arith)
bytes-length (suc n) (c ∷ d ∷ cs) h = ap suc (bytes-length n cs (omega arith))

pub byte_at : (i : ℕ) (text : List ℕ) → 2 * i + 1 < length text
    → get_or (bytes_in text) i 0 ≡ value_of (get_or text (2 * i) 0) * 16 + value_of (get_or text (2 * i + 1) 0)
unfolding bytes_in
byte_at i [] h = absurd (omega arith)
byte_at i (c ∷ []) h = absurd (omega arith)
byte_at zero (c ∷ d ∷ cs) h = refl
byte_at (suc i) (c ∷ d ∷ cs) h = rw (odd_suc i, even-suc i) (byte_at i cs (omega arith))

-- the first byte of what is left decides, or the rest does
pub digits_at_lem : (text : List ℕ) (i : ℕ) → i < length text → all_digits (drop i text) ≡ is_digit (get_or text i 0) && all_digits (drop (suc i) text)
unfolding all_digits
digits_at_lem text i h = rw (drop-cons text i 0 h)

pub digits_more : (text : List ℕ) (i : ℕ) → i < length text → is_digit (get_or text i 0) ≡ true → all_digits (drop i text) ≡ all_digits (drop (i + 1) text)
digits_more text i h e = rw (add-one i) (digits_at_lem text i h ∙ ap (λ t. t && all_digits (drop (suc i) text)) e)

pub digits-bad : (text : List ℕ) (i : ℕ) → i < length text → is_digit (get_or text i 0) ≡ false → all_digits (drop i text) ≡ false
digits-bad text i h e = digits_at_lem text i h ∙ ap (λ t. t && all_digits (drop (suc i) text)) e

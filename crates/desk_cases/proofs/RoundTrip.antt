-- Bytes and their fields go one to one.
use Rattle.std.proofs.Common.{◌≡◌, ℕ, zero, suc, ◌+◌, ◌-◌, ◌*◌, ◌/◌, ◌%◌, ◌<◌, ◌≤◌, Bool, true, false, cond, not, ◌&&◌, ◌||◌, ltb, leb, List, [], ◌∷◌, length, get_or, sym, refl, ap, ◌∙◌, ap₂, true≢false, arith, ltb-false, ltb-true, le-ltb, lt-ltb, eq-eqb, ne_eqb, eqb-true, le-leb, leb-true}
use Rattle.std.proofs.lemmas.Bool.{lt-leb, not-true}
use Rattle.distr.proofs.Reading.{both_true}
use Rattle.desk_cases.specs.Hexadecimal.{digit, hex, shown, is_digit, value_of, all_digits, bytes_in, unfit, is_field}
use Rattle.desk_cases.specs.RoundTrip.{RoundTrip}
use Rattle.desk_cases.proofs.Hexadecimal.{hex-length}
use Rattle.desk_cases.proofs.Fields.{pairs}

-- the two kinds of digits, and their values
digit_low : (v : ℕ) → v < 10 → digit v ≡ 48 + v
digit_low v h = rw (lt-ltb v 10 h)

digit-high : (v : ℕ) → 10 ≤ v → digit v ≡ 87 + v
digit-high v h = rw (le-ltb v 10 h)

value_low : (c : ℕ) → c < 97 → value_of c ≡ (c - 48) % 16
value_low c h = rw (lt-leb 97 c h)

value-high : (c : ℕ) → 97 ≤ c → value_of c ≡ (c - 87) % 16
value-high c h = rw (le-leb 97 c h)

value-small : (c : ℕ) → value_of c < 16
value-small c = by_kind (leb 97 c)
  where
    by_kind : (t : Bool) → cond t ((c - 87) % 16) ((c - 48) % 16) < 16
    by_kind true = omega arith
    by_kind false = omega arith

-- the digit of a digit's value
number_back : (c : ℕ) → 48 ≤ c → c ≤ 57 → digit (value_of c) ≡ c
number_back c h k = ap digit (value_low c (omega arith)) ∙ digit_low ((c - 48) % 16) (omega arith) ∙ omega arith

letter_back : (c : ℕ) → 97 ≤ c → c ≤ 102 → digit (value_of c) ≡ c
letter_back c h k = ap digit (value-high c h) ∙ digit-high ((c - 87) % 16) (omega arith) ∙ omega arith

digit_back : (c : ℕ) → is_digit c ≡ true → digit (value_of c) ≡ c
digit_back c e = by_kind (leb 48 c && leb c 57) refl
  where
    by_kind : (t : Bool) → (leb 48 c && leb c 57) ≡ t → digit (value_of c) ≡ c
    by_kind true f = let both = both_true (leb 48 c) (leb c 57) f in number_back c (leb-true 48 c both.0) (leb-true c 57 both.1)
    by_kind false f =
        let both = both_true (leb 97 c) (leb c 102) (ap (λ t. t || (leb 97 c && leb c 102)) (sym f) ∙ e) in
        letter_back c (leb-true 97 c both.0) (leb-true c 102 both.1)

-- the value of a number's digit, which is one
value_back : (v : ℕ) → v < 16 → value_of (digit v) ≡ v
value_back v h = by_kind (ltb v 10) refl
  where
    by_kind : (t : Bool) → ltb v 10 ≡ t → value_of (digit v) ≡ v
    by_kind true f =
        let low = ltb-true v 10 f in
        ap value_of (digit_low v low) ∙ value_low (48 + v) (omega arith) ∙ omega arith
    by_kind false f =
        let high = ltb-false v 10 f in
        ap value_of (digit-high v high) ∙ value-high (87 + v) (omega arith) ∙ omega arith

is_digit_lem : (v : ℕ) → v < 16 → is_digit (digit v) ≡ true
is_digit_lem v h = by_kind (ltb v 10) refl
  where
    by_kind : (t : Bool) → ltb v 10 ≡ t → is_digit (digit v) ≡ true
    by_kind true f =
        let low = ltb-true v 10 f in
        ap is_digit (digit_low v low) ∙ rw (le-leb 48 (48 + v) (omega arith), le-leb (48 + v) 57 (omega arith))
    by_kind false f =
        let high = ltb-false v 10 f in
        ap is_digit (digit-high v high)
        ∙ rw (lt-leb (87 + v) 57 (omega arith), le-leb 97 (87 + v) (omega arith), le-leb (87 + v) 102 (omega arith), le-leb 48 (87 + v) (omega arith))

-- digits in pairs
hex_back : (n : ℕ) (text : List ℕ) → length text ≡ 2 * n → all_digits text ≡ true → hex (bytes_in text) ≡ text
unfolding hex all_digits bytes_in
hex_back n [] h e = refl
hex_back n (c ∷ []) h e = absurd (omega arith)
hex_back zero (c ∷ d ∷ text) h e = absurd (omega arith)
hex_back (suc n) (c ∷ d ∷ text) h e =
    let first = both_true (is_digit c) (is_digit d && all_digits text) e in
    let second = both_true (is_digit d) (all_digits text) first.1 in
    let small = value-small d in
    let upper : (value_of c * 16 + value_of d) / 16 ≡ value_of c = omega arith in
    let lower : (value_of c * 16 + value_of d) % 16 ≡ value_of d = omega arith in
    ap₂ (λ (x : ℕ) (l : List ℕ). x ∷ l) (ap digit upper ∙ digit_back c first.0)
    (ap₂ (λ (x : ℕ) (l : List ℕ). x ∷ l) (ap digit lower ∙ digit_back d second.0) (hex_back n text (omega arith) second.1))

bytes_back : (bytes : List ℕ) → ((i : ℕ) → get_or bytes i 0 < 256) → bytes_in (hex bytes) ≡ bytes
unfolding hex bytes_in
bytes_back [] fits = refl
bytes_back (b ∷ bytes) fits =
    let whole : b / 16 * 16 + b % 16 ≡ b = omega arith in
    ap₂ (λ (x : ℕ) (l : List ℕ). x ∷ l)
    (ap₂ (λ (x y : ℕ). x * 16 + y) (value_back (b / 16) (omega (arith, fits 0))) (value_back (b % 16) (omega arith)) ∙ whole)
    (bytes_back bytes (λ i. fits (suc i)))

digits-all : (bytes : List ℕ) → ((i : ℕ) → get_or bytes i 0 < 256) → all_digits (hex bytes) ≡ true
unfolding hex all_digits
digits-all [] fits = refl
digits-all (b ∷ bytes) fits =
    rw (is_digit_lem (b / 16) (omega (arith, fits 0)), is_digit_lem (b % 16) (omega arith)) (digits-all bytes (λ i. fits (suc i)))

-- digits in pairs are a field
pairs_field : (most n : ℕ) (text : List ℕ) → length text ≡ 2 * n → 0 < n → n ≤ most → all_digits text ≡ true → is_field most text ≡ true
unfolding is_field
pairs_field most n text h some room e =
    rw (
      ne_eqb (length text) 1 (λ one. omega arith),
      ne_eqb (length text / 2) 0 (λ none. omega arith),
      eq-eqb (length text % 2) 0 (omega arith),
      le-ltb most (length text / 2) (omega arith),
    ) e

-- and a field of two bytes or more is digits in pairs
field_pairs : (most : ℕ) (text : List ℕ) → 1 < length text → is_field most text ≡ true → (length text ≡ 2 * (length text / 2)) × (all_digits text ≡ true)
unfolding is_field
field_pairs most text h e =
    let both = both_true (not (unfit most text)) (all_digits text) (rw (ne_eqb (length text) 1 (λ one. omega arith)) at e) in
    ((pairs most text (not-true (unfit most text) both.0)).0, both.1)

written_back : (most : ℕ) (text : List ℕ) → is_field most text ≡ true → shown (bytes_in text) ≡ text
unfolding shown bytes_in is_field
written_back most [] e = absurd (true≢false (sym e))
written_back most (c ∷ []) e = ap (λ (x : ℕ). x ∷ []) (sym (eqb-true c 45 e))
written_back most (c ∷ d ∷ text) e = let p = field_pairs most (c ∷ d ∷ text) (omega arith) e in hex_back _ (c ∷ d ∷ text) p.0 p.1

read_back : (bytes : List ℕ) → ((i : ℕ) → get_or bytes i 0 < 256) → bytes_in (shown bytes) ≡ bytes
unfolding shown bytes_in
read_back [] fits = refl
read_back (b ∷ bytes) fits = bytes_back (b ∷ bytes) fits

is_field_lem : (most : ℕ) (bytes : List ℕ) → ((i : ℕ) → get_or bytes i 0 < 256) → length bytes ≤ most → is_field most (shown bytes) ≡ true
unfolding shown is_field
is_field_lem most [] fits h = refl
is_field_lem most (b ∷ bytes) fits h =
    pairs_field most (length (b ∷ bytes)) (hex (b ∷ bytes)) (hex-length (b ∷ bytes)) (omega arith) h (digits-all (b ∷ bytes) fits)

pub round_trip : RoundTrip
round_trip = record { written_back = written_back; read_back = read_back; is_field = is_field_lem }

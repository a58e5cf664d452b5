-- Laws of the digits of a number, and of those of many numbers one after the other.
use mathlib.Core.Path.{◌≡◌, refl, sym, ap, ap₂, ◌∙◌}
use mathlib.Core.List.{List, [], ◌∷◌, ◌++◌}
use Prim.Native.Nat.{ℕ, zero, suc, ◌+◌, ◌-◌, ◌*◌, ◌/◌, ◌%◌, ◌^◌, ◌<◌, ◌≤◌}
use native.Mathlib.Nat.{sub-zero, zero-mul, suc-mul, zero-add, add_comm, pow-zero, pow-succ', suc-sub-suc, le_of_suc-le-suc, not-suc-le-zero}
use native.Mathlib.Nat.{div-one, zero-div, zero-mod, mod-lt, div-div-eq-div-mul, div-add-mod'}
use native.Mathlib.Omega.{arith}
use lib.ListN.{length, get_or, take, drop, length-append, get_or-append}
use lib.Seq.{get_or-append-add, take-append-add, drop-append-add, take-nil, drop-nil}
use Rattle.distr.specs.Packed.{digits, split}
use Rattle.distr.specs.SamplePolyCbd.{bit_of}

pub length_digits : (base count x : ℕ) → length (digits base count x) ≡ count
unfolding digits
length_digits base zero x = refl
length_digits base (suc count) x = ap suc (length_digits base count (x / base))

-- the first k of m digits
pub take-digits : (base m k x : ℕ) → k ≤ m → take k (digits base m x) ≡ digits base k x
unfolding digits
take-digits base m zero x h = refl
take-digits base zero (suc k) x h = absurd (not-suc-le-zero h)
take-digits base (suc m) (suc k) x h = ap (λ (l : List ℕ). x % base ∷ l) (take-digits base m k (x / base) (le_of_suc-le-suc h))

-- the digits from the k-th on
pub drop-digits : (base m k x : ℕ) → k ≤ m → drop k (digits base m x) ≡ digits base (m - k) (x / base ^ k)
unfolding digits
drop-digits base m zero x h = rw (sub-zero, pow-zero) (ap (λ (y : ℕ). digits base m y) (sym (div-one x)))
drop-digits base zero (suc k) x h = absurd (not-suc-le-zero h)
drop-digits base (suc m) (suc k) x h =
    drop-digits base m k (x / base) (le_of_suc-le-suc h)
    ∙ rw suc-sub-suc (ap (λ (y : ℕ). digits base (m - k) y) (div-div-eq-div-mul x base (base ^ k) ∙ ap (λ (y : ℕ). x / y) (sym (pow-succ' base k))))

-- digit j
pub get_d_digits : (base count x j : ℕ) → j < count → get_or (digits base count x) j 0 ≡ x / base ^ j % base
unfolding digits
get_d_digits base zero x j h = absurd (not-suc-le-zero h)
get_d_digits base (suc count) x zero h = rw pow-zero (ap (λ (y : ℕ). y % base) (sym (div-one x)))
get_d_digits base (suc count) x (suc j) h =
    get_d_digits base count (x / base) j (le_of_suc-le-suc h)
    ∙ ap (λ (y : ℕ). y % base) (div-div-eq-div-mul x base (base ^ j) ∙ ap (λ (y : ℕ). x / y) (sym (pow-succ' base j)))

-- the digits of many numbers: how many there are, those of the first numbers, and those from a number on
module _ (base each : ℕ) where
  pub length-split : (ws : List ℕ) → length (split base each ws) ≡ length ws * each
  unfolding split
  length-split [] = sym (zero-mul each)
  length-split (w ∷ ws) =
      length-append (digits base each w) (split base each ws)
      ∙ ap₂ (λ (a b : ℕ). a + b) (length_digits base each w) (length-split ws)
      ∙ add_comm each (length ws * each)
      ∙ sym (suc-mul (length ws) each)

  -- one word more: its digits stand in front
  word-front : (ds : List ℕ) (m : ℕ) → length ds ≡ each → suc m * each ≡ length ds + m * each
  word-front ds m e = suc-mul m each ∙ add_comm (m * each) each ∙ ap (λ (k : ℕ). k + m * each) (sym e)

  -- whole words off the front, and whole words alone
  pub drop-split : (i : ℕ) (ws : List ℕ) → drop (i * each) (split base each ws) ≡ split base each (drop i ws)
  unfolding split
  drop-split zero ws = ap (λ (k : ℕ). drop k (split base each ws)) (zero-mul each)
  drop-split (suc i) [] = drop-nil (suc i * each)
  drop-split (suc i) (w ∷ ws) =
      let ds : List ℕ = digits base each w in
      ap (λ (k : ℕ). drop k (ds ++ split base each ws)) (word-front ds i (length_digits base each w))
      ∙ drop-append-add ds (split base each ws) (i * each)
      ∙ drop-split i ws

  pub take_split : (m : ℕ) (ws : List ℕ) → split base each (take m ws) ≡ take (m * each) (split base each ws)
  unfolding split
  take_split zero ws = sym (ap (λ (k : ℕ). take k (split base each ws)) (zero-mul each))
  take_split (suc m) [] = sym (take-nil (suc m * each))
  take_split (suc m) (w ∷ ws) =
      let ds : List ℕ = digits base each w in
      ap (λ (l : List ℕ). ds ++ l) (take_split m ws)
      ∙ sym (take-append-add ds (split base each ws) (m * each))
      ∙ ap (λ (k : ℕ). take k (ds ++ split base each ws)) (sym (word-front ds m (length_digits base each w)))

-- digit j of number i, also past the last number, where both are 0
pub get_d_split : (base each : ℕ) (xs : List ℕ) (i j : ℕ) → j < each → get_or (split base each xs) (i * each + j) 0 ≡ get_or xs i 0 / base ^ j % base
unfolding split
get_d_split base each [] i j h = rw (zero-div (base ^ j), zero-mod base)
get_d_split base each (x ∷ xs) zero j h =
    rw (zero-mul each, zero-add j) (get_or-append (digits base each x) (split base each xs) 0 j (rw (length_digits base each x) h) ∙ get_d_digits base each x j h)
get_d_split base each (x ∷ xs) (suc i) j h =
    let behind : suc i * each + j ≡ length (digits base each x) + (i * each + j) = omega (arith, suc-mul i each, length_digits base each x) in
    rw behind (get_or-append-add (digits base each x) (split base each xs) (i * each + j) 0 ∙ get_d_split base each xs i j h)

-- a byte string's bits are the digits of its bytes
pub get_d_bits : (B : List ℕ) (k : ℕ) → get_or (split 2 8 B) k 0 ≡ bit_of B k
get_d_bits B k = ap (λ (l : ℕ). get_or (split 2 8 B) l 0) (sym (div-add-mod' k 8)) ∙ get_d_split 2 8 B (k / 8) (k % 8) (mod-lt k (omega arith))

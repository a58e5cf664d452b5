-- The bits of one coefficient, read from two bytes, and their two sums taken at once.
use mathlib.Core.Path.{◌≡◌, refl, sym, ap, ap₂, ◌∙◌}
use mathlib.Core.Bool.{Bool, true, false}
use mathlib.Core.Logic.{◌⊎◌, ⊎_elim}
use mathlib.Core.List.{List}
use Prim.Native.Nat.{ℕ, zero, suc, ◌+◌, ◌-◌, ◌*◌, ◌/◌, ◌%◌, ◌^◌, ◌<◌, ◌≤◌}
use native.Mathlib.Numerals.{add-one}
use native.Mathlib.Nat.{add_comm, add_assoc, mul-le-mul, mod-eq_of_lt, mul_right_comm, add-mul-div_right, mul_assoc, mod-lt}
use native.Mathlib.Omega.{arith}
use borrow.Author.Tests.{ltb-true, ltb-false}
use lib.Dec.{ltb}
use lib.ListN.{get_or}
use lib.IntN.{pos, ◌-ℤ◌}
use lib.Arith.{digits_div, digits_mod}
use lib.Pow.{pow-add, pow_pos, shr-shr, split, mod-mod-pow, pow_mono}
use lib.Bits.{bit_and, and_mask, and_block}
use Rattle.distr.specs.SamplePolyCbd.{bit_of, sum_to, first_bits, second_bits, modulo}
use Rattle.distr.proofs.Differences.{minus_pos, minus_neg}
use Rattle.distr.proofs.Tabulating.{sum_to_ext}
use Rattle.poly_cbd.specs.Coefficient.{HoldsBits, both_sums}

-- eta is small, and the bits of 256 coefficients are those of its bytes
pub small : (eta : ℕ) → (eta ≡ 2) ⊎ (eta ≡ 3) → (2 ≤ eta) × (eta ≤ 3)
small eta = ⊎_elim (λ e. (omega arith, omega arith)) (λ e. (omega arith, omega arith))

-- ---- bits of two bytes

-- bit t of the first byte
low_bit : (low high t : ℕ) → t < 8 → (low + high * 256) / 2 ^ t % 2 ≡ low / 2 ^ t % 2
low_bit low high t h =
    let eight : 7 - t + 1 + t ≡ 8 = omega arith in
    let whole : 256 ≡ 2 ^ (7 - t) * 2 * 2 ^ t = sym (ap (λ n. 2 ^ n) eight) ∙ pow-add 2 (7 - t + 1) t ∙ ap (λ n. n * 2 ^ t) (pow-add 2 (7 - t) 1) in
    let moved : high * 256 ≡ high * (2 ^ (7 - t) * 2) * 2 ^ t = ap (λ n. high * n) whole ∙ sym (mul_assoc high (2 ^ (7 - t) * 2) (2 ^ t)) in
    let even : high * (2 ^ (7 - t) * 2) ≡ high * 2 ^ (7 - t) * 2 = sym (mul_assoc high (2 ^ (7 - t)) 2) in
    rw (moved, add-mul-div_right low (high * (2 ^ (7 - t) * 2)) (pow_pos t), even) (omega arith)

-- bit t of both is bit t − 8 of the second
high_bit : (low high t : ℕ) → low < 256 → 8 ≤ t → (low + high * 256) / 2 ^ t % 2 ≡ high / 2 ^ (t - 8) % 2
high_bit low high t l h =
    let eight : t ≡ 8 + (t - 8) = omega arith in
    let second : (low + high * 256) / 256 ≡ high = omega arith in
    ap (λ n. (low + high * 256) / 2 ^ n % 2) eight
    ∙ ap (λ n. n % 2) (sym (shr-shr (low + high * 256) 8 (t - 8)))
    ∙ ap (λ n. n / 2 ^ (t - 8) % 2) second

-- the bytes of a coefficient's first and last bit, shifted down to its first bit
pub holds-bits : (eta : ℕ) (B : List ℕ) (i : ℕ) → eta ≤ 4 → ((k : ℕ) → get_or B k 0 < 256)
    → HoldsBits eta B i ((get_or B (2 * eta * i / 8) 0 + get_or B ((2 * eta * i + (2 * eta - 1)) / 8) 0 * 256) / 2 ^ (2 * eta * i % 8))
holds-bits eta B i small bytes j below =
    ap (λ n. n % 2) (shr-shr both (first % 8) j) ∙ go (ltb (first % 8 + j) 8) refl
    ∙ ap (bit_of B) (ap (λ n. n + j) (mul_right_comm 2 eta i))
  where
    first : ℕ
    first = 2 * eta * i

    both : ℕ
    both = get_or B (first / 8) 0 + get_or B ((first + (2 * eta - 1)) / 8) 0 * 256

    go : (b : Bool) → ltb (first % 8 + j) 8 ≡ b → both / 2 ^ (first % 8 + j) % 2 ≡ bit_of B (first + j)
    go true e =
        let t : first % 8 + j < 8 = ltb-true _ _ e in
        let byte : first / 8 ≡ (first + j) / 8 = omega arith in
        let bit : first % 8 + j ≡ (first + j) % 8 = omega arith in
        low_bit (get_or B (first / 8) 0) _ (first % 8 + j) t ∙ ap₂ (λ k n. get_or B k 0 / 2 ^ n % 2) byte bit
    go false e =
        let t : 8 ≤ first % 8 + j = ltb-false _ _ e in
        let byte : (first + (2 * eta - 1)) / 8 ≡ (first + j) / 8 = omega arith in
        let bit : first % 8 + j - 8 ≡ (first + j) % 8 = omega arith in
        high_bit (get_or B (first / 8) 0) _ (first % 8 + j) (bytes (first / 8)) t ∙ ap₂ (λ k n. get_or B k 0 / 2 ^ n % 2) byte bit

-- ---- two sums at once

-- the two bits at the ends of a mask
pub both_ends : (x eta : ℕ) → 1 ≤ eta → bit_and x (2 ^ eta + 1) ≡ x % 2 + x / 2 ^ eta % 2 * 2 ^ eta
both_ends x eta h =
    let one : 1 < 2 ^ eta = omega (arith, pow_mono {i = 1} {j = eta} h) in
    let inner : eta ≡ eta - 1 + 1 = omega arith in
    let lowest : x % 2 ^ eta % 2 ≡ x % 2 = ap (λ n. x % 2 ^ n % 2) inner ∙ mod-mod-pow x (eta - 1) 1 in
    let mask : 2 ^ eta + 1 ≡ 1 * 2 ^ eta + 1 = omega arith in
    ap₂ bit_and (sym (split x eta)) mask
    ∙ and_block eta (x / 2 ^ eta) 1 (x % 2 ^ eta) 1 (mod-lt x (pow_pos eta)) one
    ∙ ap₂ (λ a b. a * 2 ^ eta + b) (and_mask (x / 2 ^ eta) 1) (and_mask (x % 2 ^ eta) 1 ∙ lowest)
    ∙ omega arith

-- the mask as the code makes it
pub mask_fits : (eta : ℕ) → eta ≤ 3 → (2 ^ eta ≤ 8) × (1 * 2 ^ eta % 4294967296 ≡ 2 ^ eta)
mask_fits eta h = let p : 2 ^ eta ≤ 8 = pow_mono {i = eta} {j = 3} h in (p, omega arith)

-- after n turns
abbrev pub sums_after : ℕ → ℕ → ℕ → ℕ
sums_after eta bits n = sum_to n (λ j. bits / 2 ^ j % 2) + sum_to n (λ j. bits / 2 ^ (eta + j) % 2) * 2 ^ eta

-- a turn more
pub one_more : (eta bits n : ℕ) → 1 ≤ eta → sums_after eta bits n + bit_and (bits / 2 ^ n) (2 ^ eta + 1) ≡ sums_after eta bits (suc n)
unfolding sum_to
one_more eta bits n h =
    let next : bits / 2 ^ n / 2 ^ eta ≡ bits / 2 ^ (eta + n) = shr-shr bits n eta ∙ ap (λ k. bits / 2 ^ k) (omega arith) in
    ap (λ k. sums_after eta bits n + k) (both_ends (bits / 2 ^ n) eta h ∙ ap (λ k. bits / 2 ^ n % 2 + k % 2 * 2 ^ eta) next)
    ∙ ring (sum_to n (λ j. bits / 2 ^ j % 2)) (sum_to n (λ j. bits / 2 ^ (eta + j) % 2)) (bits / 2 ^ n % 2) (bits / 2 ^ (eta + n) % 2) (2 ^ eta)
  where
    ring : (a b c d p : ℕ) → a + b * p + (c + d * p) ≡ a + c + (b + d) * p
    ring a b c d p = omega arith

-- after none
pub no_turns : (eta bits : ℕ) → 0 ≡ sums_after eta bits 0
unfolding sum_to
no_turns eta bits = omega arith

-- a turn of the code
pub turn : (eta bits n sums : ℕ) → n < eta → eta ≤ 3 → sums ≡ sums_after eta bits n
    → sums + bit_and (bits / 2 ^ n) (1 * 2 ^ eta % 4294967296 + 1) ≡ sums_after eta bits (n + 1)
turn eta bits n sums l h e =
    ap₂ (λ a b. a + bit_and (bits / 2 ^ n) (b + 1)) e (mask_fits eta h).1 ∙ one_more eta bits n (omega arith) ∙ ap (sums_after eta bits) (sym (add-one n))

-- a sum of n bits is at most n
few : (n : ℕ) (g : ℕ → ℕ) → sum_to n (λ j. g j % 2) ≤ n
unfolding sum_to
few zero g = omega arith
few (suc n) g = omega (arith, few n g)

-- the sums of up to three bits each are small
pub sums-small : (eta bits n : ℕ) → n ≤ 3 → eta ≤ 3 → sums_after eta bits n ≤ 27
sums-small eta bits n h k =
    let low : sum_to n (λ j. bits / 2 ^ j % 2) ≤ n = few n (λ j. bits / 2 ^ j) in
    let high : sum_to n (λ j. bits / 2 ^ (eta + j) % 2) ≤ n = few n (λ j. bits / 2 ^ (eta + j)) in
    let product : sum_to n (λ j. bits / 2 ^ (eta + j) % 2) * 2 ^ eta ≤ 3 * 8 =
    mul-le-mul {n₁ = sum_to n (λ j. bits / 2 ^ (eta + j) % 2)} {m₁ = 2 ^ eta} {n₂ = 3} {m₂ = 8} (omega arith) (mask_fits eta k).0
    in
    omega arith

-- ---- the two sums taken apart again

-- what the code takes them apart into are the standard's x and y, and each is small
pub record Apart (eta : ℕ) (B : List ℕ) (i sums : ℕ) : Type 0 where
  pub x : bit_and sums (1 * 2 ^ eta % 4294967296 - 1) ≡ first_bits eta B i
  pub y : sums / 2 ^ eta ≡ second_bits eta B i
  pub x-small : first_bits eta B i ≤ 3
  pub y-small : second_bits eta B i ≤ 3

-- a sum of eta bits lies below 2^eta, so the two do not run into each other
pub apart : (eta : ℕ) (B : List ℕ) (i bits sums : ℕ) → (eta ≡ 2) ⊎ (eta ≡ 3) → HoldsBits eta B i bits → sums ≡ both_sums eta bits → Apart eta B i sums
apart eta B i bits sums good holds e = record {
  x = rw ((mask_fits eta range.1).1, and_mask sums eta, e, add_comm low (high * 2 ^ eta)) (digits_mod high below ∙ first);
  y = rw (e, add_comm low (high * 2 ^ eta)) (digits_div high below ∙ second);
  x-small = rw (← first) (omega (arith, few eta (λ j. bits / 2 ^ j), range));
  y-small = rw (← second) (omega (arith, few eta (λ j. bits / 2 ^ (eta + j)), range));
}
  where
    range : (2 ≤ eta) × (eta ≤ 3)
    range = small eta good

    low : ℕ
    low = sum_to eta (λ j. bits / 2 ^ j % 2)

    high : ℕ
    high = sum_to eta (λ j. bits / 2 ^ (eta + j) % 2)

    below : low < 2 ^ eta
    below = omega (arith, few eta (λ j. bits / 2 ^ j), range, pow_mono {i = 2} {j = eta} range.0)

    first : low ≡ first_bits eta B i
    first = sum_to_ext eta _ _ (λ j l. holds j (omega arith))

    second : high ≡ second_bits eta B i
    second = sum_to_ext eta _ _ (λ j l. holds (eta + j) (omega arith) ∙ ap (bit_of B) (sym (add_assoc (2 * i * eta) eta j)))

-- x − y modulo q, from 0 on and below it
pub modulo-pos : (q x y : ℕ) → y ≤ x → x < q → x - y ≡ modulo q (pos x -ℤ pos y)
modulo-pos q x y h k = rw (minus_pos x y h) (sym (mod-eq_of_lt (omega arith)))

pub modulo-neg : (q x y : ℕ) → x < y → y ≤ q → q + x - y ≡ modulo q (pos x -ℤ pos y)
modulo-neg q x y h k =
    let m : (y - x - 1) % q ≡ y - x - 1 = mod-eq_of_lt (omega arith) in
    rw (minus_neg x y h, m) (omega arith)

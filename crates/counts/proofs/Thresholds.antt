-- `Binary` and `Ternary` counted: each coefficient has as many 64-bit words as its interval between thresholds is long.
use mathlib.Core.Path.{◌≡◌, refl, ap, ap₂, ◌∙◌}
use mathlib.Core.Bool.{Bool, true, false, cond, ◌&&◌, ◌||◌}
use mathlib.Core.List.{List}
use Prim.Native.Nat.{ℕ, zero, suc, ◌-◌, ◌*◌, ◌^◌, ◌<◌, ◌≤◌}
use native.Mathlib.Omega.{arith}
use borrow.Author.Tests.{lt-ltb, le-ltb, le-leb, lt-leb, ne_eqb, ltb-true, ltb-false}
use lib.Dec.{leb, ltb, eqb}
use lib.IntN.{ℤ, pos, negsuc}
use Rattle.distr.specs.Packed.{minus_one}
use Rattle.distr.specs.Rule.{constant, wide_words}
use Rattle.distr.specs.Thresholds.{binary_value, binary, nonzero_end, ternary_value, ternary}
use Rattle.counts.specs.Inside.{same, list_of, is_bit, within, tally, inside_binary, inside_ternary}
use Rattle.counts.specs.Formula.{product_of, binary_formula, ternary_formula}
use Rattle.counts.proofs.Exact.{Counted}
use Rattle.counts.proofs.Sums.{bit, sum_ext, sum-zero, sum-between}
use Rattle.counts.proofs.Products.{ways, product-mul, product-tally}
use Rattle.counts.proofs.WideWords.{wide-counted, constant-counted, counted_as}

-- a coefficient that stands for the numbers from s up to t has t − s ways
pub ways-between : (r s t : ℕ) (value : ℕ → ℤ) (c : ℤ) → s ≤ t → t ≤ r
    → ((d : ℕ) → d < r → same (value d) c ≡ (leb s d && ltb d t))
    → ways r value c ≡ t - s
ways-between r s t value c h k tests =
    sum_ext r (λ d. bit (same (value d) c)) (λ d. bit (leb s d && ltb d t)) (λ d l. ap bit (tests d l)) ∙ sum-between r s t h k

-- one that no number stands for has none
pub ways_none : (r : ℕ) (value : ℕ → ℤ) (c : ℤ) → ((d : ℕ) → d < r → same (value d) c ≡ false) → ways r value c ≡ 0
ways_none r value c tests = sum_ext r (λ d. bit (same (value d) c)) (λ d. 0) (λ d l. ap bit (tests d l)) ∙ sum-zero r

-- the length of each coefficient's interval
abbrev lengths : ℕ → ℕ → ℕ → ℤ → ℕ
lengths r N E c = cond (same minus_one c) N 1 * cond (same (pos 1) c) (E - N) 1 * cond (same (pos 0) c) (r - E) 1

ternary-ways : (r N E : ℕ) → N ≤ E → E ≤ r → (c : ℤ) → ways r (ternary_value N E) c ≡ cond (within 1 c) (lengths r N E c) 0
ternary-ways r N E h k (pos zero) =
    ways-between r E r (ternary_value N E) (pos 0) k (omega arith) (λ d l. go d l (ltb d N) (ltb d E) refl refl) ∙ omega arith
  where
    go : (d : ℕ) → d < r → (a b : Bool) → ltb d N ≡ a → ltb d E ≡ b → same (cond a minus_one (cond b (pos 1) (pos 0))) (pos 0) ≡ (leb E d && ltb d r)
    go d l true b e f = rw (lt-leb E d (omega (arith, ltb-true d N e)))
    go d l false true e f = rw (lt-leb E d (ltb-true d E f))
    go d l false false e f = rw (le-leb E d (ltb-false d E f), lt-ltb d r l)
ternary-ways r N E h k (pos (suc zero)) =
    ways-between r N E (ternary_value N E) (pos 1) h k (λ d l. go d (ltb d N) (ltb d E) refl refl) ∙ omega arith
  where
    go : (d : ℕ) (a b : Bool) → ltb d N ≡ a → ltb d E ≡ b → same (cond a minus_one (cond b (pos 1) (pos 0))) (pos 1) ≡ (leb N d && ltb d E)
    go d true b e f = rw (lt-leb N d (ltb-true d N e))
    go d false true e f = rw (le-leb N d (ltb-false d N e), f)
    go d false false e f = rw (le-leb N d (ltb-false d N e), f)
ternary-ways r N E h k (pos (suc (suc v))) =
    ways_none r (ternary_value N E) (pos (suc (suc v))) (λ d l. go (ltb d N) (ltb d E)) ∙ rw (lt-leb (suc (suc v)) 1 (omega arith))
  where
    go : (a b : Bool) → same (cond a minus_one (cond b (pos 1) (pos 0))) (pos (suc (suc v))) ≡ false
    go true b = refl
    go false true = ne_eqb 1 (suc (suc v)) (omega arith)
    go false false = ne_eqb 0 (suc (suc v)) (omega arith)
ternary-ways r N E h k (negsuc zero) =
    ways-between r 0 N (ternary_value N E) minus_one (omega arith) (omega arith) (λ d l. go d (ltb d N) (ltb d E) refl) ∙ omega arith
  where
    go : (d : ℕ) (a b : Bool) → ltb d N ≡ a → same (cond a minus_one (cond b (pos 1) (pos 0))) minus_one ≡ (leb 0 d && ltb d N)
    go d true b e = rw (le-leb 0 d (omega arith), e)
    go d false true e = rw (le-leb 0 d (omega arith), e)
    go d false false e = rw (le-leb 0 d (omega arith), e)
ternary-ways r N E h k (negsuc (suc v)) =
    ways_none r (ternary_value N E) (negsuc (suc v)) (λ d l. go (ltb d N) (ltb d E)) ∙ rw (lt-leb (suc (suc v)) 1 (omega arith))
  where
    go : (a b : Bool) → same (cond a minus_one (cond b (pos 1) (pos 0))) (negsuc (suc v)) ≡ false
    go true b = ne_eqb 0 (suc v) (omega arith)
    go false true = refl
    go false false = refl

-- the same with thresholds 0 and t: `Binary` is `Ternary` without −1
abbrev bit_lengths : ℕ → ℕ → ℤ → ℕ
bit_lengths r t c = cond (same (pos 1) c) t 1 * cond (same (pos 0) c) (r - t) 1

binary-ways : (r t : ℕ) → t ≤ r → (c : ℤ) → ways r (binary_value t) c ≡ cond (is_bit c) (bit_lengths r t c) 0
binary-ways r t h c =
    sum_ext r (λ d. bit (same (binary_value t d) c)) (λ d. bit (same (ternary_value 0 t d) c)) (λ d l. rw (le-ltb d 0 (omega arith)))
    ∙ ternary-ways r 0 t (omega arith) h c
    ∙ at c
  where
    at : (c : ℤ) → cond (within 1 c) (lengths r 0 t c) 0 ≡ cond (is_bit c) (bit_lengths r t c) 0
    at (pos zero) = omega arith
    at (pos (suc zero)) = omega arith
    at (pos (suc (suc v))) = rw (lt-leb (suc (suc v)) 1 (omega arith))
    at (negsuc zero) = refl
    at (negsuc (suc v)) = rw (lt-leb (suc (suc v)) 1 (omega arith))

-- "t^ones × (2^64−t)^zeros; all ones by 1 list if t = 2^64"
pub binary-counted : (t n : ℕ) → t ≤ 2 ^ 64 → Counted (binary t n) (λ cs. inside_binary t n cs) (λ cs. binary_formula t cs)
binary-counted t n h = go (eqb t (2 ^ 64))
  where
    powers : List ℤ → ℕ
    powers cs = t ^ tally (pos 1) cs * (2 ^ 64 - t) ^ tally (pos 0) cs

    product : (cs : List ℤ) → product_of (bit_lengths (2 ^ 64) t) cs ≡ powers cs
    product cs =
        product-mul (λ c. cond (same (pos 1) c) t 1) (λ c. cond (same (pos 0) c) (2 ^ 64 - t) 1) cs
        ∙ ap₂ ◌*◌ (product-tally (pos 1) t cs) (product-tally (pos 0) (2 ^ 64 - t) cs)

    go : (a : Bool) → Counted (cond a (constant (pos 1) n) (wide_words n (binary_value t)))
        (λ cs. list_of n (cond a (same (pos 1)) is_bit) cs) (λ cs. cond a 1 (powers cs))
    go true = constant-counted (pos 1) n
    go false =
        counted_as (wide_words n (binary_value t)) (λ cs. list_of n is_bit cs) (λ cs. list_of n is_bit cs)
        (λ cs. product_of (bit_lengths (2 ^ 64) t) cs) powers (λ cs. refl) (λ cs u. product cs)
        (wide-counted n (binary_value t) is_bit (bit_lengths (2 ^ 64) t) (binary-ways (2 ^ 64) t h))

-- "N^minus × (E−N)^ones × (2^64−E)^zeros", or a constant by 1 list
pub ternary-counted : (N P n : ℕ) → N ≤ 2 ^ 64 → P ≤ 2 ^ 64 → Counted (ternary N P n) (λ cs. inside_ternary N P n cs) (λ cs. ternary_formula N P cs)
ternary-counted N P n h k = go (eqb N (2 ^ 64)) (eqb E 0) (eqb P (2 ^ 64))
  where
    E : ℕ
    E = nonzero_end N P

    powers : List ℤ → ℕ
    powers cs = N ^ tally minus_one cs * (E - N) ^ tally (pos 1) cs * (2 ^ 64 - E) ^ tally (pos 0) cs

    product : (cs : List ℤ) → product_of (lengths (2 ^ 64) N E) cs ≡ powers cs
    product cs =
        product-mul (λ c. cond (same minus_one c) N 1 * cond (same (pos 1) c) (E - N) 1) (λ c. cond (same (pos 0) c) (2 ^ 64 - E) 1) cs
        ∙ ap₂ ◌*◌
        (product-mul (λ c. cond (same minus_one c) N 1) (λ c. cond (same (pos 1) c) (E - N) 1) cs
        ∙ ap₂ ◌*◌ (product-tally minus_one N cs) (product-tally (pos 1) (E - N) cs))
        (product-tally (pos 0) (2 ^ 64 - E) cs)

    go : (a b c : Bool) → Counted
        (cond a (constant minus_one n) (cond b (constant (pos 0) n) (cond c (constant (pos 1) n) (wide_words n (ternary_value N E)))))
        (λ cs. list_of n (cond a (same minus_one) (cond b (same (pos 0)) (cond c (same (pos 1)) (within 1)))) cs)
        (λ cs. cond (a || b || c) 1 (powers cs))
    go true b c = constant-counted minus_one n
    go false true c = constant-counted (pos 0) n
    go false false true = constant-counted (pos 1) n
    go false false false =
        counted_as (wide_words n (ternary_value N E)) (λ cs. list_of n (within 1) cs) (λ cs. list_of n (within 1) cs)
        (λ cs. product_of (lengths (2 ^ 64) N E) cs) powers (λ cs. refl) (λ cs t. product cs)
        (wide-counted n (ternary_value N E) (within 1) (lengths (2 ^ 64) N E) (ternary-ways (2 ^ 64) N E (omega arith) (omega arith)))

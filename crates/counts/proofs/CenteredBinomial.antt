-- The centered binomial is counted: the value v of one coefficient comes from C(2eta, eta+v) × 2^(64−2eta) words.
use mathlib.Core.Path.{◌≡◌, refl, sym, ap, ap₂, ◌∙◌}
use mathlib.Core.Bool.{Bool, true, false, cond}
use Prim.Native.Nat.{ℕ, zero, suc, ◌+◌, ◌-◌, ◌*◌, ◌/◌, ◌%◌, ◌^◌, ◌<◌, ◌≤◌}
use native.Mathlib.Nat.{add-zero, zero-add, add_comm, mul_comm, mul-zero, pow-suc}
use native.Mathlib.Numerals.{add-one}
use native.Mathlib.Omega.{arith}
use borrow.Author.Tests.{leb-true, leb-false, le-ltb, lt-ltb}
use lib.Dec.{leb, eqb, lit<, eqb-zero-suc, eqb-suc-zero, eqb-suc-suc}
use lib.ListN.{take, drop}
use lib.Arith.{digits_div, digits_mod}
use lib.Pow.{pow-add}
use lib.Count.{ones, ones_step, ones_cat}
use lib.IntN.{ℤ, pos, negsuc, nat_abs, ◌+ℤ◌, ◌-ℤ◌, +ℤ_assoc, +ℤ_comm, -ℤ-+ℤ_cancel, +ℤ-neg_ℤ_cancel}
use Rattle.distr.specs.Packed.{digits}
use Rattle.distr.specs.CenteredBinomial.{total, binomial_value, centered_binomial}
use Rattle.counts.specs.Inside.{same, within, list_of}
use Rattle.counts.specs.Formula.{binomial, binomial_ways, product_of}
use Rattle.counts.proofs.Exact.{Counted}
use Rattle.distr.proofs.BitSums.{first-ones, second_ones}
use Rattle.counts.proofs.Sums.{bit, sum, sum_ext, sum-zero, sum_const, sum-add, sum-product, sum_reverse, same-eq, same_refl}
use Rattle.counts.proofs.Products.{ways}
use Rattle.counts.proofs.WideWords.{wide-counted}

-- two double sums that agree term by term
sums_ext : (r s : ℕ) (f g : ℕ → ℕ → ℕ) → ((i j : ℕ) → i < r → j < s → f i j ≡ g i j) → sum r (λ i. sum s (f i)) ≡ sum r (λ i. sum s (g i))
sums_ext r s f g h = sum_ext r _ _ (λ i l. sum_ext s (f i) (g i) (λ j m. h i j l m))

-- ---- Pascal's rule

-- a last bit below the digits of i
ones_below : (i : ℕ) → (ones (i * 2 + 0) ≡ ones i) × (ones (i * 2 + 1) ≡ suc (ones i))
unfolding ones
ones_below i = (ones_cat 1 i 0 (lit< tt) ∙ add-zero (ones i), ones_cat 1 i 1 (lit< tt) ∙ add-one (ones i))

-- the last bit is 0 or 1, and the ones above it are k or one less
last_bit : (m k : ℕ)
    → sum (2 ^ suc m) (λ w. bit (eqb (ones w) k)) ≡ sum (2 ^ m) (λ i. bit (eqb (ones i) k)) + sum (2 ^ m) (λ i. bit (eqb (suc (ones i)) k))
unfolding sum
last_bit m k =
    ap (λ r. sum r (λ w. bit (eqb (ones w) k))) (pow-suc 2 m)
    ∙ sum-product (2 ^ m) 2 (λ w. bit (eqb (ones w) k))
    ∙ sum_ext (2 ^ m) _ _ (λ i l. ap₂ (λ x y. 0 + bit (eqb x k) + bit (eqb y k)) (ones_below i).0 (ones_below i).1
    ∙ ap (λ n. n + bit (eqb (suc (ones i)) k)) (zero-add (bit (eqb (ones i) k))))
    ∙ sum-add (2 ^ m) (λ i. bit (eqb (ones i) k)) (λ i. bit (eqb (suc (ones i)) k))

-- the numbers below 2^m with exactly k ones
pub pascal : (m k : ℕ) → sum (2 ^ m) (λ w. bit (eqb (ones w) k)) ≡ binomial m k
unfolding sum binomial ones
pascal zero zero = refl
pascal zero (suc k) = ap (λ b. 0 + bit b) (eqb-zero-suc k)
pascal (suc m) zero =
    last_bit m 0 ∙ ap₂ ◌+◌ (pascal m 0) (sum_ext (2 ^ m) _ _ (λ i l. ap bit (eqb-suc-zero (ones i))) ∙ sum-zero (2 ^ m))
pascal (suc m) (suc k) =
    last_bit m (suc k)
    ∙ ap₂ ◌+◌ (pascal m (suc k)) (sum_ext (2 ^ m) _ _ (λ i l. ap bit (eqb-suc-suc (ones i) k)) ∙ pascal m k)
    ∙ add_comm (binomial m (suc k)) (binomial m k)

-- there are none with more than m
binomial-over : (m k : ℕ) → m < k → binomial m k ≡ 0
unfolding binomial
binomial-over m zero h = absurd (omega arith)
binomial-over zero (suc k) h = refl
binomial-over (suc m) (suc k) h = rw (binomial-over m k (omega arith), binomial-over m (suc k) (omega arith))

-- ---- complements, and the parts of a word

-- a number of k bits and its complement have k ones between them
ones_complement : (k b : ℕ) → b < 2 ^ k → ones b + ones (2 ^ k - suc b) ≡ k
unfolding ones
ones_complement zero zero h = refl
ones_complement zero (suc b) h = absurd (omega arith)
ones_complement (suc k) b h =
    let double : 2 ^ suc k ≡ 2 ^ k * 2 = pow-suc 2 k in
    let half : (2 ^ suc k - suc b) / 2 ≡ 2 ^ k - suc (b / 2) = omega arith in
    let above : ones (b / 2) + ones ((2 ^ suc k - suc b) / 2) ≡ k = rw half (ones_complement k (b / 2) (omega arith)) in
    omega (arith, ones_step b, ones_step (2 ^ suc k - suc b))

-- the ones of two halves are those of the whole
halves : (eta : ℕ) (h : ℕ → ℕ) → sum (2 ^ eta) (λ b. sum (2 ^ eta) (λ a. h (ones a + ones b))) ≡ sum (2 ^ (2 * eta)) (λ w. h (ones w))
halves eta h =
    sums_ext (2 ^ eta) (2 ^ eta) _ _ (λ b a l m. ap h (add_comm (ones a) (ones b) ∙ sym (ones_cat eta b a m)))
    ∙ sym (sum-product (2 ^ eta) (2 ^ eta) (λ w. h (ones w)))
    ∙ ap (λ r. sum r (λ w. h (ones w))) (sym (pow-add 2 eta eta) ∙ ap (λ n. 2 ^ n) (omega arith))

-- of a number's three parts, the lowest two alone are looked at
parts : (e P : ℕ) (g : ℕ → ℕ → ℕ)
    → sum (e * P * P) (λ w. g (w % P) (w / P % P)) ≡ e * sum P (λ b. sum P (λ a. g a b))
parts e P g =
    sum-product (e * P) P (λ w. g (w % P) (w / P % P))
    ∙ sums_ext (e * P) P _ _ (λ u a l m. ap₂ g (digits_mod u m) (ap (λ n. n % P) (digits_div u m)))
    ∙ sum-product e P (λ u. sum P (λ a. g a (u % P)))
    ∙ sums_ext e P _ _ (λ i b l m. ap (λ n. sum P (λ a. g a n)) (digits_mod i m))
    ∙ sum_const e (sum P (λ b. sum P (λ a. g a b)))

-- ---- differences of ones

-- two tests of equality agree where each equation gives the other
same-same : (u v u' v' : ℤ) → (u ≡ v → u' ≡ v') → (u' ≡ v' → u ≡ v) → same u v ≡ same u' v'
same-same u v u' v' f g = go (same u v) (same u' v') refl refl
  where
    go : (a b : Bool) → same u v ≡ a → same u' v' ≡ b → a ≡ b
    go true true p q = refl
    go false false p q = refl
    go true false p q = sym (same_refl v') ∙ ap (λ w. same w v') (sym (f (same-eq u v (rw p tt)))) ∙ q
    go false true p q = sym p ∙ ap (λ w. same w v) (g (same-eq u' v' (rw q tt))) ∙ same_refl v

-- x − z is c where x + y is y + z + c
shift_test : (x y z : ℕ) (c : ℤ) → same (pos x -ℤ pos z) c ≡ same (pos (x + y)) (pos (y + z) +ℤ c)
shift_test x y z c = same-same d c (pos (x + y)) (pos (y + z) +ℤ c)
    (λ e. sym (+ℤ_comm (pos (y + z)) c ∙ ap (λ w. w +ℤ pos (y + z)) (sym e) ∙ back))
    (λ e. sym (+ℤ-neg_ℤ_cancel d (pos (y + z))) ∙ ap (λ w. w -ℤ pos (y + z)) (back ∙ e ∙ +ℤ_comm (pos (y + z)) c)
    ∙ +ℤ-neg_ℤ_cancel c (pos (y + z)))
  where
    d : ℤ
    d = pos x -ℤ pos z

    back : d +ℤ pos (y + z) ≡ pos (x + y)
    back =
        ap (λ n. d +ℤ pos n) (add_comm y z) ∙ sym (+ℤ_assoc d (pos z) (pos y))
        ∙ ap (λ w. w +ℤ pos y) (-ℤ-+ℤ_cancel (pos x) (pos z))

-- the numbers of 2·eta bits with eta + c ones
ones_at : (eta : ℕ) (c : ℤ)
    → sum (2 ^ (2 * eta)) (λ w. bit (same (pos (ones w)) (pos eta +ℤ c)))
    ≡ cond (within eta c) (binomial (2 * eta) (nat_abs (pos eta +ℤ c))) 0
ones_at eta (pos j) = pascal (2 * eta) (eta + j) ∙ go (leb j eta) refl
  where
    go : (b : Bool) → leb j eta ≡ b → binomial (2 * eta) (eta + j) ≡ cond b (binomial (2 * eta) (eta + j)) 0
    go true e = refl
    go false e = binomial-over (2 * eta) (eta + j) (omega (arith, leb-false j eta e))
ones_at eta (negsuc j) = go (leb (suc j) eta) refl
  where
    go : (b : Bool) → leb (suc j) eta ≡ b
        → sum (2 ^ (2 * eta)) (λ w. bit (same (pos (ones w)) (pos eta +ℤ negsuc j)))
        ≡ cond b (binomial (2 * eta) (nat_abs (pos eta +ℤ negsuc j))) 0
    go true e = rw (le-ltb eta (suc j) (leb-true (suc j) eta e)) (pascal (2 * eta) (eta - suc j))
    go false e = rw (lt-ltb eta (suc j) (leb-false (suc j) eta e)) (sum-zero (2 ^ (2 * eta)))

-- the first sum less the second, of the bits of a number that many bits wide
abbrev pub bit_difference : ℕ → ℕ → ℕ → ℤ
bit_difference width eta w = pos (total (take eta (digits 2 width w))) -ℤ pos (total (take eta (drop eta (digits 2 width w))))

-- the numbers that give c: by their two sums, the second half turned into its complement
pub binomial-ways : (width eta : ℕ) → 2 * eta ≤ width → (c : ℤ)
    → ways (2 ^ width) (bit_difference width eta) c ≡ cond (within eta c) (binomial (2 * eta) (nat_abs (pos eta +ℤ c)) * 2 ^ (width - 2 * eta)) 0
binomial-ways width eta h c =
    sum_ext (2 ^ width) _ _ (λ w l. ap₂ test (first-ones width eta w (omega arith)) (second_ones width eta w h))
    ∙ ap (λ r. sum r (λ w. test (ones (w % P)) (ones (w / P % P)))) whole
    ∙ parts rest P (λ a b. test (ones a) (ones b))
    ∙ ap (λ n. rest * n) complemented
    ∙ among (within eta c)
  where
    P : ℕ
    P = 2 ^ eta

    rest : ℕ
    rest = 2 ^ (width - 2 * eta)

    test : ℕ → ℕ → ℕ
    test x z = bit (same (pos x -ℤ pos z) c)

    whole : 2 ^ width ≡ rest * P * P
    whole =
        let exponent : width ≡ width - 2 * eta + eta + eta = omega arith in
        ap (λ n. 2 ^ n) exponent ∙ pow-add 2 (width - 2 * eta + eta) eta ∙ ap (λ n. n * P) (pow-add 2 (width - 2 * eta) eta)

    complemented : sum P (λ b. sum P (λ a. test (ones a) (ones b))) ≡ cond (within eta c) (binomial (2 * eta) (nat_abs (pos eta +ℤ c))) 0
    complemented =
        sum_reverse P (λ b. sum P (λ a. test (ones a) (ones b)))
        ∙ sums_ext P P _ _ (λ b a l m. ap bit (shift_test (ones a) (ones b) (ones (P - suc b)) c)
        ∙ ap (λ n. bit (same (pos (ones a + ones b)) (pos n +ℤ c))) (ones_complement eta b l))
        ∙ halves eta (λ n. bit (same (pos n) (pos eta +ℤ c)))
        ∙ ones_at eta c

    among : (b : Bool) → rest * cond b (binomial (2 * eta) (nat_abs (pos eta +ℤ c))) 0 ≡ cond b (binomial (2 * eta) (nat_abs (pos eta +ℤ c)) * rest) 0
    among true = mul_comm rest (binomial (2 * eta) (nat_abs (pos eta +ℤ c)))
    among false = mul-zero rest

pub centered-binomial-counted : (eta n : ℕ) → eta ≤ 32
    → Counted (centered_binomial eta n) (λ cs. list_of n (within eta) cs) (λ cs. product_of (binomial_ways eta) cs)
centered-binomial-counted eta n h = wide-counted n (binomial_value eta) (within eta) (binomial_ways eta) (binomial-ways 64 eta (omega arith))

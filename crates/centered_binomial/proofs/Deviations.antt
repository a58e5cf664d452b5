-- The table of deviations: its rule, computed once over all entries, and that each is the f64 nearest to its root.
use mathlib.Core.Path.{◌≡◌, refl, sym, ap, subst, ◌∙◌}
use mathlib.Core.Bool.{Bool, true, false, cond, ◌&&◌}
use mathlib.Core.List.{List, [], ◌∷◌}
use Prim.Native.Nat.{ℕ, zero, suc, ◌+◌, ◌-◌, ◌*◌, ◌/◌, ◌%◌, ◌^◌, ◌<◌, ◌≤◌}
use native.Mathlib.Nat.{add-zero, add-suc, suc-add, pow-suc, mul-mul-mul_comm, le_of_suc-le-suc, le_of_lt, lt_of_lt_of_le, not-suc-le-zero}
use native.Mathlib.Omega.{arith}
use borrow.Author.Tests.{leb-true, leb-false, le-leb, lt-leb, eq-eqb}
use lib.Dec.{T, leb, eqb, eqb→eq, lit≤}
use lib.Pow.{shl_lt}
use lib.ListN.{get_or}
use lib.Ieee.{Float, nan, binary64, round, to_bits, of_bits}
use lib.Ieee.Bits.{of_bits-to_bits}
use lib.Ieee.Fits.{round-fits, and_l, and_r}
use Rattle.distr.specs.Constants.{literal}
use Rattle.centered_binomial.specs.Binomial.{eta_number}
use Rattle.centered_binomial.specs.Deviation.{one_more, root, scaled_root, binomial_deviation, NearestRoot}
use Rattle.centered_binomial.proofs.Made.{eta_range}

-- ---- the whole root: its square is at most n, and that of the next number above n
module _ (n r : ℕ) where
  more_below : r * r ≤ n → one_more n r * one_more n r ≤ n
  more_below h = go (leb ((r + 1) * (r + 1)) n) refl
    where
      go : (b : Bool) → leb ((r + 1) * (r + 1)) n ≡ b → cond b (r + 1) r * cond b (r + 1) r ≤ n
      go true e = leb-true ((r + 1) * (r + 1)) n e
      go false e = h

  more_above : n < (r + 1 + 1) * (r + 1 + 1) → n < (one_more n r + 1) * (one_more n r + 1)
  more_above h = go (leb ((r + 1) * (r + 1)) n) refl
    where
      go : (b : Bool) → leb ((r + 1) * (r + 1)) n ≡ b → n < (cond b (r + 1) r + 1) * (cond b (r + 1) r + 1)
      go true e = h
      go false e = leb-false ((r + 1) * (r + 1)) n e

root_below : (k n : ℕ) → root k n * root k n ≤ n
unfolding root
root_below zero n = omega arith
root_below (suc k) n =
    let r = root k (n / 4) in
    more_below n (r * 2) (omega (arith, root_below k (n / 4), mul-mul-mul_comm r 2 r 2))

root-above : (k n : ℕ) → n < 4 ^ k → n < (root k n + 1) * (root k n + 1)
unfolding root
root-above zero n h = omega arith
root-above (suc k) n h =
    let r = root k (n / 4) in
    let quarter : n / 4 < 4 ^ k = omega (arith, pow-suc 4 k) in
    let next : r * 2 + 1 + 1 ≡ (r + 1) * 2 = omega arith in
    more_above n (r * 2) (rw next (omega (arith, root-above k (n / 4) quarter, mul-mul-mul_comm (r + 1) 2 (r + 1) 2)))

-- ---- the fractions on both sides of the root, rounded
abbrev pub rounded : ℕ → Float
rounded eta = literal (scaled_root eta) (2 ^ 60)

abbrev rounded_up : ℕ → Float
rounded_up eta = literal (scaled_root eta + 1) (2 ^ 60)

-- they have the same bits, for k values from eta on
abbrev same_bits : ℕ → ℕ → Bool
same_bits zero eta = true
same_bits (suc k) eta = eqb (to_bits binary64 (rounded_up eta)) (to_bits binary64 (rounded eta)) && same_bits k (suc eta)

-- one test that antt computes, for the 32 values
computed : T (same_bits 32 1)
unfolding round root to_bits
computed = tt

-- what is rounded is known by its bits
by_bits : (a b d : ℕ) → T (eqb (to_bits binary64 (literal a d)) (to_bits binary64 (literal b d))) → literal a d ≡ literal b d
by_bits a b d e =
    sym (of_bits-to_bits binary64 (literal a d) (round-fits binary64 false a d))
    ∙ ap (of_bits binary64) (eqb→eq (to_bits binary64 (literal a d)) (to_bits binary64 (literal b d)) e)
    ∙ of_bits-to_bits binary64 (literal b d) (round-fits binary64 false b d)

both_sides : (k i j : ℕ) → j < k → T (same_bits k i) → rounded_up (i + j) ≡ rounded (i + j)
both_sides zero i j h t = absurd (not-suc-le-zero h)
both_sides (suc k) i zero h t =
    subst (λ (m : ℕ). rounded_up m ≡ rounded m) (sym (add-zero i))
    (by_bits (scaled_root i + 1) (scaled_root i) (2 ^ 60)
    (and_l (eqb (to_bits binary64 (rounded_up i)) (to_bits binary64 (rounded i))) (same_bits k (suc i)) t))
both_sides (suc k) i (suc j) h t =
    subst (λ (m : ℕ). rounded_up m ≡ rounded m) (suc-add i j ∙ sym (add-suc i j))
    (both_sides k (suc i) j (le_of_suc-le-suc h)
    (and_r (eqb (to_bits binary64 (rounded_up i)) (to_bits binary64 (rounded i))) (same_bits k (suc i)) t))

deviation_of_lem : (eta : ℕ) → eta ≤ 32 → rounded eta ≡ binomial_deviation eta
deviation_of_lem eta h = rw (le-leb eta 32 h)

-- each deviation is the f64 nearest to its root
pub nearest : (eta : ℕ) → eta_number eta ≡ 0 → NearestRoot eta (binomial_deviation eta)
nearest eta e =
    let range = eta_range eta (eq-eqb (eta_number eta) 0 e) in
    let up : 1 + (eta - 1) ≡ eta = omega arith in
    let sides : rounded_up eta ≡ rounded eta = rw (← up) (both_sides 32 1 (eta - 1) (omega arith) computed) in
    let inside : eta * 2 ^ 119 < 4 ^ 64 = lt_of_lt_of_le (shl_lt 6 119 (omega arith)) (lit≤ tt) in
    record {
      r = scaled_root eta;
      below = root_below 64 (eta * 2 ^ 119);
      above = le_of_lt (root-above 64 (eta * 2 ^ 119) inside);
      rounded = deviation_of_lem eta range.1;
      rounded-up = sides ∙ deviation_of_lem eta range.1;
    }

-- ---- the deviations as a table: k rows of three, the first for eta
abbrev three : ℕ → List Float
three eta = rounded eta ∷ rounded (eta + 1) ∷ rounded (eta + 2) ∷ []

abbrev pub table : ℕ → ℕ → List (List Float)
table zero eta = []
table (suc k) eta = three eta ∷ table k (eta + 3)

row : (k i j : ℕ) → j < k → get_or (table k i) j [] ≡ three (i + 3 * j)
row zero i j h = absurd (not-suc-le-zero h)
row (suc k) i zero h = ap three (omega arith)
row (suc k) i (suc j) h = row k (i + 3) j (le_of_suc-le-suc h) ∙ ap three (omega arith)

entry : (i j : ℕ) → j < 3 → get_or (three i) j nan ≡ rounded (i + j)
entry i zero h = ap rounded (sym (add-zero i))
entry i (suc zero) h = refl
entry i (suc (suc zero)) h = refl
entry i (suc (suc (suc j))) h = absurd (omega arith)

pub table-value : (eta : ℕ) → eta ≤ 32 → get_or (get_or (table 11 0) (eta / 3) []) (eta % 3) nan ≡ binomial_deviation eta
table-value eta h =
    ap (λ (r : List Float). get_or r (eta % 3) nan) (row 11 0 (eta / 3) (omega arith))
    ∙ entry (0 + 3 * (eta / 3)) (eta % 3) (omega arith)
    ∙ ap rounded (omega arith) ∙ deviation_of_lem eta h

pub no_deviation : (eta : ℕ) → 32 < eta → literal 0 1 ≡ binomial_deviation eta
no_deviation eta h = rw (lt-leb eta 32 h)

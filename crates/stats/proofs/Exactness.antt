-- The halves of a report are the exact sums, and these are far below 2^128.
use Rattle.std.proofs.Common.{◌≡◌, ℕ, suc, ◌+◌, ◌^◌, ◌≤◌, Bool, true, false, cond, eqb, ltb, List, [], ◌∷◌, map, length, ℤ, pos, negsuc, ◌+ℤ◌, neg_ℤ, nat_abs, refl, ap, le_trans, le_refl, div-add-mod', arith, ltb-false, ltb-true, eqb-true}
use borrow.Author.Tests.{eqb-false}
use lib.IntN.{sub_ℕ}
use Rattle.stats.specs.declared.Report.{Report}
use Rattle.stats.specs.Centered.{centered, centered_all, sum_of, squares_of, how_many_within}
use Rattle.stats.specs.Report.{report_number, is_negative, high_half, low_half, exact_report, refused_report, report}
use Rattle.stats.specs.Exact.{joined, signed, Exact, EveryReportExact}
use Rattle.stats.specs.Sums.{total, size_of}
use Rattle.stats.proofs.Totals.{total-most}
use Rattle.stats.proofs.Integers.{size_less, size_more}
use Rattle.stats.proofs.Centering.{size-most, squares-is}
use Rattle.stats.proofs.Blocks.{squares-most}
use Rattle.stats.proofs.Reports.{Accepted, accepted}

-- the two halves of a number
joined-halves : (n : ℕ) → joined (high_half n) (low_half n) ≡ n
joined-halves n = div-add-mod' n (2 ^ 64)

signed-halves : (s : ℤ) → signed (is_negative s) (joined (high_half (nat_abs s)) (low_half (nat_abs s))) ≡ s
signed-halves (pos n) = ap pos (joined-halves n)
signed-halves (negsuc n) = ap (λ (m : ℕ). neg_ℤ (pos m)) (joined-halves (suc n))

-- the magnitude of a sum
difference-most : (a b : ℕ) → nat_abs (sub_ℕ a b) ≤ a + b
difference-most a b = by (ltb a b) refl
  where
    by : (t : Bool) → ltb a b ≡ t → nat_abs (sub_ℕ a b) ≤ a + b
    by true e = omega (arith, size_less a b (ltb-true a b e))
    by false e = omega (arith, size_more a b (ltb-false a b e))

sum-most : (v w : ℤ) → nat_abs (v +ℤ w) ≤ nat_abs v + nat_abs w
sum-most (pos a) (pos b) = le_refl (a + b)
sum-most (pos a) (negsuc b) = difference-most a (suc b)
sum-most (negsuc a) (pos b) = omega (arith, difference-most b (suc a))
sum-most (negsuc a) (negsuc b) = omega arith

sums-most : (modulus : ℕ) (rs : List ℕ) → nat_abs (sum_of (centered_all modulus rs)) ≤ total (size_of modulus) rs
unfolding sum_of total
sums-most modulus [] = omega arith
sums-most modulus (r ∷ rs) = omega (arith, sum-most (centered modulus r) (sum_of (centered_all modulus rs)), sums-most modulus rs)

module _ (residues : List ℕ) (modulus : ℕ) (limits counts : ℕ) (a : Accepted residues modulus limits counts) where
  sum_bound : nat_abs (sum_of (centered_all modulus residues)) ≤ 2 ^ 68
  sum_bound =
      le_trans (sums-most modulus residues)
      (le_trans
      (total-most (size_of modulus) modulus (2 ^ 52) residues (λ r h. omega (arith, size-most modulus r h, a.modulus_most)) a.below)
      (omega (arith, a.few)))

  squares-bound : squares_of (centered_all modulus residues) ≤ 2 ^ 120
  squares-bound = rw (squares-is modulus residues) (squares-most modulus residues a.modulus_most a.below a.few)

-- by the report's number
by_number : (residues : List ℕ) (modulus : ℕ) (limits counts : List ℕ)
    → let r = (report residues modulus limits counts).0 in
    r.number ≡ 0 → Exact residues modulus r
unfolding report
by_number residues modulus limits counts e = by (eqb number 0) refl e
  where
    number : ℕ
    number = report_number residues modulus (length limits) (length counts)

    sums : Report
    sums = exact_report (sum_of (centered_all modulus residues)) (squares_of (centered_all modulus residues))

    exact : number ≡ 0 → Exact residues modulus sums
    exact z =
        let a = accepted residues modulus (length limits) (length counts) z in
        record {
          sum = signed-halves (sum_of (centered_all modulus residues));
          squares = joined-halves (squares_of (centered_all modulus residues));
          sum_bound = sum_bound residues modulus (length limits) (length counts) a;
          squares_bound = squares-bound residues modulus (length limits) (length counts) a;
        }

    listed : List ℕ
    listed = map (λ limit. how_many_within limit (centered_all modulus residues)) limits

    by : (t : Bool) → eqb number 0 ≡ t → let r = (cond {A = Report × List ℕ} t (sums, listed) (refused_report number, counts)).0 in
        r.number ≡ 0 → Exact residues modulus r
    by true z e = exact (eqb-true number 0 z)
    by false z e = absurd (eqb-false number 0 z e)

pub every-report_exact : EveryReportExact
every-report_exact residues modulus limits before after r e z =
    let same : r ≡ (report residues modulus limits before).0 = ap (λ (p : Report × List ℕ). p.0) e in
    rw same (by_number residues modulus limits before (rw same at z))

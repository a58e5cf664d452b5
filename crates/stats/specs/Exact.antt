-- 02 [2]: what an accepted report says of the sums, without the halves: the claim that they are exact.
use Rattle.std.specs.Prelude.{◌≡◌, ℕ, ◌+◌, ◌*◌, ◌^◌, ◌≤◌, Bool, cond, List, ℤ, pos, neg_ℤ, unsigned_abs}
use Rattle.stats.specs.declared.Report.{Report}
use Rattle.stats.specs.Centered.{centered_all, sum_of, squares_of}
use Rattle.stats.specs.Report.{report}

-- The number of two halves.
abbrev pub joined : ℕ → ℕ → ℕ
joined high low = high * 2 ^ 64 + low

-- (−1)^sign × magnitude.
abbrev pub signed : Bool → ℕ → ℤ
signed negative magnitude = cond negative (neg_ℤ (pos magnitude)) (pos magnitude)

-- The halves of a report are the exact sums over the centered values, and the sums are far below 2^128: at most 65,536 × 2^52 and 65,536 × 2^104.
pub record Exact (residues : List ℕ) (modulus : ℕ) (r : Report) : Type 0 where
  pub sum : signed r.negative (joined r.sum_high r.sum_low) ≡ sum_of (centered_all modulus residues)
  pub squares : joined r.squares_high r.squares_low ≡ squares_of (centered_all modulus residues)
  pub sum_bound : unsigned_abs (sum_of (centered_all modulus residues)) ≤ 2 ^ 68
  pub squares_bound : squares_of (centered_all modulus residues) ≤ 2 ^ 120

-- Every call that keeps the contract and answers 0 hands back the exact sums.
abbrev pub EveryReportExact : Type 0
EveryReportExact =
    (residues : List ℕ) (modulus : ℕ) (limits before after : List ℕ) (r : Report)
    → (r, after) ≡ report residues modulus limits before
    → r.number ≡ 0 → Exact residues modulus r

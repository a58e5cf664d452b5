-- The report: by its number, and its sums in halves. The halves are the exact sums.
use Rattle.std.proofs.Common.{◌≡◌, ℕ, ◌^◌, ◌≤◌, true, eqb, List, [], ◌∷◌, length, refl, arith, ltb-false, le-ltb, eq-eqb, ne_eqb, eqb-true}
use borrow.Author.Tests.{not-false}
use Rattle.distr.specs.Numbers.{first_of, too_long}
use Rattle.distr.proofs.Reading.{or_false}
use Rattle.distr.proofs.Drawing.{first-passed, not-refused}
use Rattle.stats.specs.Centered.{all_below}
use Rattle.stats.specs.Report.{modulus_number, counts_number, residues_number, report_number}

-- What number 0 says of residues, modulus and lists.
pub record Accepted (residues : List ℕ) (modulus limits counts : ℕ) : Type 0 where
  pub few : length residues ≤ 65536
  pub modulus_most : modulus ≤ 2 ^ 53
  pub same : counts ≡ limits
  pub below : all_below modulus residues ≡ true

pub accepted : (residues : List ℕ) (modulus limits counts : ℕ) → report_number residues modulus limits counts ≡ 0
    → Accepted residues modulus limits counts
unfolding report_number
accepted residues modulus limits counts e =
    let a = first-passed (too_long (length residues)) (modulus_number modulus ∷ counts_number counts limits ∷ residues_number modulus residues ∷ []) e in
    let b = first-passed (modulus_number modulus) (counts_number counts limits ∷ residues_number modulus residues ∷ []) a.1 in
    let c = first-passed (counts_number counts limits) (residues_number modulus residues ∷ []) b.1 in
    let d = first-passed (residues_number modulus residues) [] c.1 in
    record {
      few = ltb-false 65536 (length residues) (not-refused _ 5 a.0);
      modulus_most = ltb-false (2 ^ 53) modulus (or_false (eqb modulus 0) _ (not-refused _ 23 b.0)).1;
      same = eqb-true counts limits (not-false _ (not-refused _ 24 c.0));
      below = not-false _ (not-refused _ 25 d.0);
    }

-- and what is so is not refused
pub not-refused-report : (residues : List ℕ) (modulus limits : ℕ) → length residues ≤ 65536 → 1 ≤ modulus → modulus ≤ 2 ^ 53
    → all_below modulus residues ≡ true → report_number residues modulus limits limits ≡ 0
unfolding report_number first_of
not-refused-report residues modulus limits few some most below =
    rw (
      le-ltb 65536 (length residues) few,
      ne_eqb modulus 0 (λ e. omega arith),
      le-ltb (2 ^ 53) modulus most,
      eq-eqb limits limits refl,
      below,
    )

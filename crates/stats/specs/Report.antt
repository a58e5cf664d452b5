-- 02 [2]: the report, its numbers in their order, its sums in halves, and every count.
use Rattle.std.specs.Prelude.{ℕ, ◌/◌, ◌%◌, ◌^◌, Bool, true, false, cond, not, ◌||◌, List, [], ◌∷◌, map, length, ℤ, pos, negsuc, ◌==◌, nat_lt, unsigned_abs}
use Rattle.distr.specs.Constants.{modulus_out_of_range, counts_length_mismatch, residue_not_canonical, report_modulus_limit}
use Rattle.distr.specs.Making.{refuse}
use Rattle.distr.specs.Numbers.{first_of, too_long}
use Rattle.stats.specs.declared.Report.{Report}
use Rattle.stats.specs.Centered.{centered_all, sum_of, squares_of, how_many_within, all_below}

-- "It refuses with 24 a modulus outside the range", which is "1 to 2^53".
abbrev pub modulus_number : ℕ → ℕ
modulus_number modulus = refuse (modulus == 0 || nat_lt report_modulus_limit modulus) modulus_out_of_range

-- "Then with 25 a count list whose length is not the limit list's."
abbrev pub counts_number : ℕ → ℕ → ℕ
counts_number counts limits = refuse (not (counts == limits)) counts_length_mismatch

-- "Then with 26 a residue not below the modulus."
abbrev pub residues_number : ℕ → List ℕ → ℕ
residues_number modulus residues = refuse (not (all_below modulus residues)) residue_not_canonical

-- "More than 65,536 residues give 6 before all three."
unfoldable pub report_number : List ℕ → ℕ → ℕ → ℕ → ℕ
report_number residues modulus limits counts =
    first_of (too_long (length residues) ∷ modulus_number modulus ∷ counts_number counts limits ∷ residues_number modulus residues ∷ [])

-- "A high and a low 64-bit half."
abbrev pub high_half : ℕ → ℕ
high_half n = n / 2 ^ 64

abbrev pub low_half : ℕ → ℕ
low_half n = n % 2 ^ 64

-- The sign says whether the sum is below 0: "a zero sum has no minus sign".
abbrev pub is_negative : ℤ → Bool
is_negative (pos n) = false
is_negative (negsuc n) = true

-- "The exact sum of the centered values as a sign and a magnitude in a high and a low 64-bit half …, the exact sum of their squares in two
-- such halves."
abbrev pub exact_report : ℤ → ℕ → Report
exact_report sum squares = record {
  number = 0;
  negative = is_negative sum;
  sum_high = high_half (unsigned_abs sum);
  sum_low = low_half (unsigned_abs sum);
  squares_high = high_half squares;
  squares_low = low_half squares;
}

-- "A refusal … reports both sums as zero."
abbrev pub refused_report : ℕ → Report
refused_report number = record {
  number = number;
  negative = false;
  sum_high = 0;
  sum_low = 0;
  squares_high = 0;
  squares_low = 0;
}

-- The report and what the count list holds then: of each limit its count, or after "a refusal", which "changes no count", what it held.
unfoldable pub report : List ℕ → ℕ → List ℕ → List ℕ → Report × List ℕ
report residues modulus limits counts =
    let number = report_number residues modulus (length limits) (length counts) in
    let values = centered_all modulus residues in
    cond (number == 0) (exact_report (sum_of values) (squares_of values), map (λ limit. how_many_within limit values) limits)
    (refused_report number, counts)

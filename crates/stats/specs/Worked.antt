-- Reports worked out by hand from the sentences of 02 [2], as a table: what is given, and what the report and the counts are then.
use Rattle.std.specs.Prelude.{ℕ, ◌+◌, ◌-◌, ◌^◌, Bool, true, false, List, [], ◌∷◌}
use Rattle.stats.specs.declared.Report.{Report}
use Rattle.stats.specs.Report.{refused_report, report}

pub record Case : Type 0 where
  pub given : Report × List ℕ
  pub stated : Report × List ℕ

-- A report whose sums have no high halves: its sign, the magnitude of the sum, and the sum of squares.
abbrev pub small : Bool → ℕ → ℕ → Report
small negative sum squares = record {
  number = 0;
  negative = negative;
  sum_high = 0;
  sum_low = sum;
  squares_high = 0;
  squares_low = squares;
}

unfoldable pub worked : List Case
worked =
    -- an empty residue list gives zeros
    record { given = report [] 7 (0 ∷ 3 ∷ []) (9 ∷ 9 ∷ []); stated = (small false 0 0, 0 ∷ 0 ∷ []) }
    -- modulus 1 has the residue 0 alone
    ∷ record { given = report (0 ∷ 0 ∷ []) 1 (0 ∷ []) (9 ∷ []); stated = (small false 0 0, 2 ∷ []) }
    -- of modulus 2 the residue 1 is half, so it is itself
    ∷ record { given = report (0 ∷ 1 ∷ []) 2 (0 ∷ 1 ∷ []) (9 ∷ 9 ∷ []); stated = (small false 1 1, 1 ∷ 2 ∷ []) }
    -- half of 4 is 2, itself; 3 is −1: the sum is 1, the squares 4 and 1; a magnitude equal to a limit does not exceed it
    ∷ record { given = report (2 ∷ 3 ∷ []) 4 (1 ∷ 2 ∷ []) (9 ∷ 9 ∷ []); stated = (small false 1 5, 1 ∷ 2 ∷ []) }
    -- half of 5, rounded down, is 2; 3 and 4 are −2 and −1
    ∷ record { given = report (3 ∷ 4 ∷ []) 5 (0 ∷ 1 ∷ []) (9 ∷ 9 ∷ []); stated = (small true 3 5, 0 ∷ 1 ∷ []) }
    -- a zero sum has no minus sign: 2 and −2
    ∷ record { given = report (2 ∷ 3 ∷ []) 5 [] []; stated = (small false 0 8, []) }
    -- the largest modulus: 2^52 is half, itself, and its square 2^104 has the high half 2^40; the next residue is 1 − 2^52
    ∷ record {
      given = report ((2 ^ 52) ∷ []) (2 ^ 53) ((2 ^ 64 - 1) ∷ []) (9 ∷ []);
      stated = (
        record { number = 0; negative = false; sum_high = 0; sum_low = 2 ^ 52; squares_high = 2 ^ 40; squares_low = 0 },
        1 ∷ [],
      );
    }
    ∷ record {
      given = report ((2 ^ 52 + 1) ∷ []) (2 ^ 53) ((2 ^ 52 - 2) ∷ []) (9 ∷ []);
      stated = (
        record {
          number = 0;
          negative = true;
          sum_high = 0;
          sum_low = 2 ^ 52 - 1;
          squares_high = 2 ^ 40 - 1;
          squares_low = 2 ^ 64 - 2 ^ 53 + 1;
        },
        0 ∷ [],
      );
    }
    -- 24 for a modulus of 0 and one above 2^53, before 25 and 26; no count changes
    ∷ record { given = report (0 ∷ []) 0 (1 ∷ []) (9 ∷ 9 ∷ []); stated = (refused_report 24, 9 ∷ 9 ∷ []) }
    ∷ record { given = report ((2 ^ 53 + 1) ∷ []) (2 ^ 53 + 1) [] []; stated = (refused_report 24, []) }
    -- 25 before 26
    ∷ record { given = report (5 ∷ []) 5 (1 ∷ []) []; stated = (refused_report 25, []) }
    -- 26 for a residue that is the modulus
    ∷ record { given = report (0 ∷ 5 ∷ []) 5 (1 ∷ []) (9 ∷ []); stated = (refused_report 26, 9 ∷ []) }
    ∷ []

-- "Marked cases (prove 1 to 12)", as one table: what the rules give, and what document 01 states.
use Rattle.std.specs.Prelude.{ℕ, ◌-◌, ◌^◌, List, [], ◌∷◌, map, ℤ, pos, negsuc, replicate}
use Rattle.distr.specs.declared.secret_key_distr.BlockOccupancy.TheVariants.{ExactlyOne}
use Rattle.distr.specs.Words.{Read, got, short, map_read, choose}
use Rattle.distr.specs.Skipped.{Skipped, nothing}
use Rattle.distr.specs.Answers.{reported}
use Rattle.distr.specs.Rule.{read_by}
use Rattle.distr.specs.Packed.{uniform_binary, minus_one}
use Rattle.distr.specs.UniformTernary.{uniform_ternary}
use Rattle.distr.specs.Insertion.{fixed_composition, fixed_binary_weight, fixed_ternary_weight}
use Rattle.distr.specs.Blocks.{block_binary}
use Rattle.distr.specs.CenteredBinomial.{centered_binomial}
use Rattle.distr.specs.Gaussian.{cumulative_value, cumulative}
use Rattle.distr.specs.Encoding.{rows}

pub record Case : Type 0 where
  pub given : Read (List ℤ)
  pub stated : Read (List ℤ)

-- A single value, and a list of natural numbers, as coefficients.
abbrev pub one : ℕ → List ℤ
one v = pos v ∷ []

abbrev pub naturals : List ℕ → List ℤ
naturals xs = map pos xs

abbrev pub minus_two : ℤ
minus_two = negsuc 1

-- Case 10's bounds: 0, 4, 8, 2^64−1.
abbrev pub bounds : List ℕ
bounds = 0 ∷ 4 ∷ 8 ∷ (2 ^ 64 - 1) ∷ []

unfoldable pub marked : List Case
marked =
    -- 1 binary n=3, word 5: 1 0 1
    record { given = read_by (uniform_binary 3) (5 ∷ []); stated = got (pos 1 ∷ pos 0 ∷ pos 1 ∷ []) [] }
    -- 2 ternary n=5, word 5: 1 0 −1 −1 −1
    ∷ record { given = read_by (uniform_ternary 5) (5 ∷ []); stated = got (pos 1 ∷ pos 0 ∷ minus_one ∷ minus_one ∷ minus_one ∷ []) [] }
    -- 3 word 0xF3: five −1, one word
    ∷ record { given = read_by (uniform_ternary 5) (0xF3 ∷ []); stated = got (minus_one ∷ minus_one ∷ minus_one ∷ minus_one ∷ minus_one ∷ []) [] }
    -- 4 choice of 3: 4294967294 gives 2
    ∷ record { given = map_read one (choose 3 (4294967294 ∷ [])); stated = got (pos 2 ∷ []) [] }
    -- 5 4294967295 is skipped
    ∷ record { given = map_read one (choose 3 (4294967295 ∷ 4 ∷ [])); stated = got (pos 1 ∷ []) [] }
    -- 6 eta 2, word 7: 1; 12: −2
    ∷ record { given = read_by (centered_binomial 2 2) (7 ∷ 0 ∷ 12 ∷ 0 ∷ []); stated = got (pos 1 ∷ minus_two ∷ []) [] }
    -- 7 eta 32, 2^32−1: 32
    ∷ record { given = read_by (centered_binomial 32 1) ((2 ^ 32 - 1) ∷ 0 ∷ []); stated = got (pos 32 ∷ []) [] }
    -- 8 composition n=4, 1 and 1, words 0, 0: 1 0 0 −1
    ∷ record { given = read_by (fixed_composition 1 1 4) (0 ∷ 0 ∷ []); stated = got (pos 1 ∷ pos 0 ∷ pos 0 ∷ minus_one ∷ []) [] }
    -- 9 binary n=4, h=1, word 5: 0 1 0 0
    ∷ record { given = read_by (fixed_binary_weight 1 4) (5 ∷ []); stated = got (pos 0 ∷ pos 1 ∷ pos 0 ∷ pos 0 ∷ []) [] }
    -- 10 the cumulative rule alone: words 3, 4, 5, 2^64−1 give 0, −1, 1, 2
    ∷ record { given = got (map (cumulative_value 2 bounds) (3 ∷ 4 ∷ 5 ∷ (2 ^ 64 - 1) ∷ [])) []; stated = got (pos 0 ∷ minus_one ∷ pos 1 ∷ pos 2 ∷ []) [] }
    -- 11 −2 over 5, 7: 3, 5
    ∷ record { given = got (naturals (rows (5 ∷ 7 ∷ []) (minus_two ∷ []))) []; stated = got (pos 3 ∷ pos 5 ∷ []) [] }
    -- 12 blocks of 2, exactly one, words 1, 0: 0 1 1 0
    ∷ record { given = read_by (block_binary 2 ExactlyOne 4) (1 ∷ 0 ∷ []); stated = got (pos 0 ∷ pos 1 ∷ pos 1 ∷ pos 0 ∷ []) [] }
    ∷ []

-- "Traps seen in candidates' work", as a second table of the same kind.
unfoldable pub traps : List Case
traps =
    -- byte 243 reduced: it is skipped, and the byte 5 after it gives 1 0 −1 −1 −1
    record { given = read_by (uniform_ternary 5) (0x5F3 ∷ []); stated = got (pos 1 ∷ pos 0 ∷ minus_one ∷ minus_one ∷ minus_one ∷ []) [] }
    -- no extra word read for n = 32: one word is too few, and of three words one is left
    ∷ record { given = read_by (uniform_binary 32) (0 ∷ []); stated = short }
    ∷ record { given = read_by (uniform_binary 32) (0 ∷ 1 ∷ 2 ∷ []); stated = got (replicate 32 (pos 0)) (2 ∷ []) }
    -- the sign taken from a fresh word in the cumulative draw: the word 5 is enough, and its own lowest bit says +1
    ∷ record { given = read_by (cumulative 2 bounds 1) (5 ∷ 0 ∷ 6 ∷ []); stated = got (pos 1 ∷ []) (6 ∷ []) }
    -- −0 encoded as the modulus: the even word 2 has magnitude 0, whose residue is 0
    ∷ record { given = got (naturals (rows (5 ∷ 7 ∷ []) (cumulative_value 2 bounds 2 ∷ []))) []; stated = got (pos 0 ∷ pos 0 ∷ []) [] }
    -- composition ties to the last: with one of each, 0 fills, −1 and then 1 are inserted; with two −1 and two 1, −1 fills
    ∷ record { given = read_by (fixed_composition 1 1 3) (0 ∷ 0 ∷ []); stated = got (pos 1 ∷ pos 0 ∷ minus_one ∷ []) [] }
    ∷ record { given = read_by (fixed_composition 2 2 4) (0 ∷ 0 ∷ []); stated = got (pos 1 ∷ minus_one ∷ minus_one ∷ pos 1 ∷ []) [] }
    ∷ []

-- Document 02 [1], worked out from the rules by hand: what the definitions count, and the figures.
pub record SkipCase : Type 0 where
  pub counted : Skipped
  pub figures : Skipped

unfoldable pub thrown_away : List SkipCase
thrown_away =
    -- a choice among 3 passes over 4294967295, which is 3 × ⌊2^32/3⌋, and takes 4
    record { counted = (fixed_binary_weight 1 3).skips (4294967295 ∷ 4 ∷ []); figures = record { words = 1; bytes = 0 } }
    -- the same word is taken by the choice among 2 and passed over twice by the choice among 3 after it
    ∷ record { counted = (fixed_composition 1 1 3).skips (4294967295 ∷ 4294967295 ∷ 4294967295 ∷ 0 ∷ []); figures = record { words = 2; bytes = 0 } }
    -- the word of signs is used, not skipped: 4294967295 gives the sign, the next one is passed over, and 0 is taken
    ∷ record { counted = (fixed_ternary_weight 1 3).skips (4294967295 ∷ 4294967295 ∷ 0 ∷ []); figures = record { words = 1; bytes = 0 } }
    -- with h = n only signs are read
    ∷ record { counted = (fixed_ternary_weight 3 3).skips (4294967295 ∷ []); figures = nothing }
    -- a choice for each of two blocks
    ∷ record { counted = (block_binary 3 ExactlyOne 6).skips (4294967295 ∷ 0 ∷ 4294967295 ∷ 1 ∷ []); figures = record { words = 2; bytes = 0 } }
    -- bytes 243, 5, 255, 0, one of them wanted: 243 is rejected, and 255 after the accepted 5 is not looked at
    ∷ record { counted = (uniform_ternary 5).skips (0x00FF05F3 ∷ []); figures = record { words = 0; bytes = 1 } }
    -- two wanted: 243 and 255 are rejected
    ∷ record { counted = (uniform_ternary 6).skips (0x00FF05F3 ∷ []); figures = record { words = 0; bytes = 2 } }
    -- a word all rejected, and one more
    ∷ record { counted = (uniform_ternary 5).skips (0xFFFFFFFF ∷ 0xF3F300F4 ∷ []); figures = record { words = 0; bytes = 5 } }
    -- a refused call reports zeros, 23 included; a byte sum above 2^64−1 is given as 2^64−1
    ∷ record { counted = reported 23 (record { words = 3; bytes = 2 }); figures = nothing }
    ∷ record { counted = reported 0 (record { words = 3; bytes = 2 ^ 64 }); figures = record { words = 3; bytes = 2 ^ 64 - 1 } }
    ∷ []

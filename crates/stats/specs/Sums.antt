-- What the inner functions of the report compute: numbers in halves, and sums over residues.
use Rattle.std.specs.Prelude.{◌≡◌, ℕ, suc, ◌+◌, ◌*◌, ◌/◌, ◌%◌, ◌^◌, ◌<◌, cond, List, [], ◌∷◌, nat_le, unsigned_abs}
use Rattle.stats.specs.declared.wide.Halves.{Halves}
use Rattle.stats.specs.declared.sums.BlockSums.{BlockSums}
use Rattle.stats.specs.declared.sums.Totals.{Totals}
use Rattle.stats.specs.Centered.{centered}
use Rattle.stats.specs.Exact.{joined}

-- The number that two halves stand for.
abbrev pub value_of : Halves → ℕ
value_of h = joined h.high h.low

-- The sum of a function's values over a list.
unfoldable pub total : (ℕ → ℕ) → List ℕ → ℕ
total f [] = 0
total f (x ∷ xs) = f x + total f xs

-- 1 where a is at most b, else 0.
abbrev pub at_most : ℕ → ℕ → ℕ
at_most a b = cond (nat_le a b) 1 0

-- 1 for a residue above half the modulus, whose centered value is negative.
abbrev pub above_half : ℕ → ℕ → ℕ
above_half modulus residue = at_most (suc (modulus / 2)) residue

-- The magnitude of a residue's centered value.
abbrev pub size_of : ℕ → ℕ → ℕ
size_of modulus residue = unsigned_abs (centered modulus residue)

-- What one residue adds to a block's five sums: itself, whether it is above half, and the products of the two parts of its magnitude, which is
-- 2^26 × upper + lower.
unfoldable pub residue_sums : ℕ → ℕ → BlockSums
residue_sums modulus residue =
    let size = size_of modulus residue in
    let upper = size / 2 ^ 26 in
    let lower = size % 2 ^ 26 in
    record {
      residues = residue;
      negatives = above_half modulus residue;
      upper = upper * upper;
      cross = upper * lower;
      lower = lower * lower;
    }

-- A block's five sums.
unfoldable pub block_sums : ℕ → List ℕ → BlockSums
block_sums modulus rs = record {
  residues = total (λ r. (residue_sums modulus r).residues) rs;
  negatives = total (λ r. (residue_sums modulus r).negatives) rs;
  upper = total (λ r. (residue_sums modulus r).upper) rs;
  cross = total (λ r. (residue_sums modulus r).cross) rs;
  lower = total (λ r. (residue_sums modulus r).lower) rs;
}

-- The sum of a block's squares, out of the sums of products.
abbrev pub squares_from : BlockSums → ℕ
squares_from b = b.upper * 2 ^ 52 + b.cross * 2 ^ 27 + b.lower

-- The sums of residues as numbers: the sum of the centered values is `residues` less `moduli`, the modulus once for each negative one.
pub record TotalsOf (modulus : ℕ) (rs : List ℕ) (s : Totals) : Type 0 where
  pub residues : value_of s.residues ≡ total (λ r. r) rs
  pub moduli : value_of s.moduli ≡ modulus * total (above_half modulus) rs
  pub squares : value_of s.squares ≡ total (λ r. size_of modulus r * size_of modulus r) rs

-- Numbers far below 2^128.
pub record FitsTotals (s : Totals) : Type 0 where
  pub residues : s.residues.high < 2 ^ 60
  pub moduli : s.moduli.high < 2 ^ 60
  pub squares : s.squares.high < 2 ^ 60

-- "`BlockBinary`: each block is written in its own part of the output, by one choice; the last of `AtMostOne` leaves it zero."
use Rattle.std.specs.Prelude.{ℕ, suc, ◌/◌, List, [], ◌∷◌, ◌++◌, set, replicate, ℤ, pos}
use Rattle.distr.specs.declared.secret_key_distr.BlockOccupancy.{BlockOccupancy}
use Rattle.distr.specs.declared.secret_key_distr.BlockOccupancy.TheVariants.{AtMostOne, ExactlyOne}
use Rattle.distr.specs.Words.{choose_each}
use Rattle.distr.specs.Skipped.{skipped_words, passed_each}
use Rattle.distr.specs.Rule.{Rule}

-- "A value below the block size, or below that plus 1 with `AtMostOne`."
abbrev pub categories : ℕ → BlockOccupancy → ℕ
categories size AtMostOne = suc size
categories size ExactlyOne = size

-- One block: a 1 at the chosen place; the choice `size` is past the block and leaves it zero.
abbrev pub block : ℕ → ℕ → List ℤ
block size s = set (replicate size (pos 0)) s (pos 1)

unfoldable pub blocks_of : ℕ → List ℕ → List ℤ
blocks_of size [] = []
blocks_of size (s ∷ ss) = block size s ++ blocks_of size ss

abbrev pub block_binary : ℕ → BlockOccupancy → ℕ → Rule
block_binary size occupancy n = record {
  ranges = replicate (n / size) (categories size occupancy);
  draws = choose_each (replicate (n / size) (categories size occupancy));
  decode = blocks_of size;
  skips = λ ws. skipped_words (passed_each (replicate (n / size) (categories size occupancy)) ws);
}

-- How a word is cut into digits.
use Rattle.std.specs.Prelude.{ℕ, ◌%◌, ◌<◌, ◌≤◌, ◌≡◌, List}
use Rattle.packed.specs.declared.width.Width.{Width}
use Rattle.packed.specs.declared.width.Width.TheVariants.{Bits, Groups}
use Rattle.packed.specs.Pairs.{Paired}

-- A word is cut into an even number of digits, 32 at most, and a table has the pairs of their values.
pub record Cut {A : Type 0} (z : A) (pairs : List A) (base each : ℕ) : Type 0 where
  pub small : base < 65536
  pub some : 0 < each
  pub most : each ≤ 32
  pub even : each % 2 ≡ 0
  pub paired : Paired base z pairs

-- The base of the digits, and how many of them a word has.
abbrev pub digit_base : Width → ℕ
digit_base Bits = 2
digit_base Groups = 4

abbrev pub digits_aWord : Width → ℕ
digits_aWord Bits = 32
digits_aWord Groups = 16

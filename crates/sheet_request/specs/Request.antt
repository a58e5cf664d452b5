-- A question by numbers: the distribution that a kind selects, its making, and its draw from a place of the words into a lent output.
use Rattle.std.specs.Prelude.{ℕ, ◌-◌, Bool, true, cond, ◌&&◌, List, [], ◌∷◌, map, leb, eqb, length, get_or, drop, replicate, ℤ, pos}
use Rattle.distr.specs.declared.secret_key_distr.SecretKeyDistr.TheVariants.{UniformBinary, SparseTernary, UniformTernary, FixedHammingWeightBinary, BlockBinary, FixedHammingWeightTernary, FixedCompositionTernary}
use Rattle.distr.specs.declared.secret_key_distr.BlockOccupancy.TheVariants.{AtMostOne, ExactlyOne}
use Rattle.distr.specs.declared.error_distribution.ErrorDistribution.TheVariants.{CenteredBinomial}
use Rattle.distr.specs.Constants.{invalid_sheet}
use Rattle.distr.specs.Skipped.{Skipped}
use Rattle.distr.specs.Distribution.{Distr, secret, error, skips_of}
use Rattle.distr.specs.Draw.{Outcome, held_over, no_tables, at_once, signed_draw, encoded_draw}
use Rattle.any_sampler.specs.declared.AnyDistr.{AnyDistr}
use Rattle.any_sampler.specs.declared.AnyDistr.TheVariants.{Unknown}
use Rattle.any_sampler.specs.Either.{any_of}

-- The kinds are the numbers 1 to 9; any other number is refused.
unfoldable pub known_kind : ℕ → Bool
known_kind kind = leb 1 kind && leb kind 9

-- "Kinds 1 to 9 select the distribution by number." (The last is for the other numbers, which are refused.)
unfoldable pub kind_distr : ℕ → ℕ → ℕ → Distr
kind_distr kind a b =
    get_or
    (secret UniformBinary
    ∷ secret SparseTernary
    ∷ secret UniformTernary
    ∷ secret (FixedHammingWeightBinary a)
    ∷ secret (BlockBinary a AtMostOne)
    ∷ secret (BlockBinary a ExactlyOne)
    ∷ secret (FixedHammingWeightTernary a)
    ∷ secret (FixedCompositionTernary a b)
    ∷ error (CenteredBinomial a)
    ∷ [])
    (kind - 1)
    (secret UniformBinary)

-- What a kind selects: its distribution, or number 14.
abbrev pub selected : ℕ → ℕ → ℕ → AnyDistr
selected kind a b = cond (known_kind kind) (any_of (kind_distr kind a b)) Unknown

-- 02 [4]: "another kind gives 14"; "then come the numbers of making and those of the draw".
abbrev pub known : {A : Type 0} → ℕ → ℕ → List A → Outcome A → Outcome A
known kind place out drawn = cond (known_kind kind) drawn (record { number = invalid_sheet; place = place; index = 0; output = out })

-- Residues as their value, in an output of signed numbers.
abbrev pub as_values : List ℤ → Outcome ℕ → Outcome ℤ
as_values out o = held_over (map pos) out o

-- The draw of a distribution: signed coefficients where the modulus is 0, else residues.
unfoldable pub values_draw : Distr → ℕ → List ℕ → ℕ → List ℤ → Outcome ℤ
values_draw d modulus words place out =
    cond (eqb modulus 0) (signed_draw true d no_tables words place out)
    (as_values out (encoded_draw true d no_tables modulus words place (replicate (length out) 0)))

-- 02 [4]: "The desk draws the sheet's nine kinds with its A, B and modulus": 14, then the numbers of making, then the draw.
unfoldable pub question : ℕ → ℕ → ℕ → ℕ → List ℕ → ℕ → List ℤ → Outcome ℤ
question kind a b modulus words place out =
    let d = kind_distr kind a b in
    known kind place out (at_once d place out (values_draw d modulus words place out))

-- 02 [1]: what the draw of n coefficients skips.
abbrev pub question_skips : ℕ → ℕ → ℕ → ℕ → List ℕ → ℕ → Skipped
question_skips kind a b n words place = skips_of (kind_distr kind a b) n no_tables (drop place words)

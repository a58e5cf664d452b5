-- The distribution that a kind names, and the answer of a call.
use Rattle.std.specs.Prelude.{ℕ, Bool, cond, List, [], ◌∷◌, leb, get_or, Float}
use Rattle.distr.specs.declared.secret_key_distr.SecretKeyDistr.TheVariants.{UniformBinary, Binary, SparseTernary, UniformTernary, Ternary}
use Rattle.distr.specs.declared.secret_key_distr.SecretKeyDistr.TheVariants.{FixedHammingWeightBinary, BlockBinary, FixedHammingWeightTernary}
use Rattle.distr.specs.declared.secret_key_distr.SecretKeyDistr.TheVariants.{FixedCompositionTernary, Gaussian}
use Rattle.distr.specs.declared.secret_key_distr.BlockOccupancy.TheVariants.{AtMostOne, ExactlyOne}
use Rattle.distr.specs.declared.error_distribution.ErrorDistribution.TheVariants.{CenteredBinomial, Gaussian as ErrorGaussian}
use Rattle.distr.specs.Constants.{eta_limit}
use Rattle.distr.specs.Skipped.{Skipped}
use Rattle.distr.specs.Draw.{Outcome}
use Rattle.stats.specs.declared.Report.{Report}
use Rattle.any_sampler.specs.declared.AnyDistr.{AnyDistr}
use Rattle.any_sampler.specs.declared.AnyDistr.TheVariants.{Secret, Error, Unknown}

-- The kinds from 0 on, of which 0 and those past the last name nothing: 14. An eta above 32 is refused, whatever it is, and stands as 33.
abbrev pub kinds : ℕ → ℕ → Float → Float → List AnyDistr
kinds a b p q =
    Unknown
    ∷ Secret UniformBinary
    ∷ Secret SparseTernary
    ∷ Secret UniformTernary
    ∷ Secret (FixedHammingWeightBinary a)
    ∷ Secret (BlockBinary a AtMostOne)
    ∷ Secret (BlockBinary a ExactlyOne)
    ∷ Secret (FixedHammingWeightTernary a)
    ∷ Secret (FixedCompositionTernary a b)
    ∷ Error (CenteredBinomial (cond (leb a eta_limit) a 33))
    ∷ Secret (Binary p)
    ∷ Secret (Ternary p q)
    ∷ Secret (Gaussian p)
    ∷ Error (ErrorGaussian p)
    ∷ []

abbrev pub named : ℕ → ℕ → ℕ → Float → Float → AnyDistr
named kind a b p q = get_or (kinds a b p q) kind Unknown

-- The answer of a call: its number, the place and the index that it writes and what its output holds then.
abbrev pub answered : {A : Type 0} → ℕ → ℕ → ℕ → List A → Outcome A
answered number place index output = record { number = number; place = place; index = index; output = output }

-- 02 [1]: the two sums that a call writes.
abbrev pub written : ℕ → ℕ → Skipped
written words bytes = record { words = words; bytes = bytes }

-- What a report writes: its number, its sign and the halves of its sums.
abbrev pub report_of : ℕ → Bool → ℕ → ℕ → ℕ → ℕ → Report
report_of number negative sum_high sum_low squares_high squares_low = record {
  number = number;
  negative = negative;
  sum_high = sum_high;
  sum_low = sum_low;
  squares_high = squares_high;
  squares_low = squares_low;
}

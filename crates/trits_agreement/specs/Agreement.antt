-- 02 [5]: "The table draw and the division draw agree for every list of words, refusals included."
use Rattle.std.specs.Prelude.{ℕ, ◌≡◌, List, length, drop, ℤ}
use Rattle.std.specs.Borrow.{Bor, MutBor}
use Rattle.distr.specs.declared.answer.Answer.{Answer}
use Rattle.distr.specs.declared.secret_key_distr.SecretKeyDistr.TheVariants.{UniformTernary}
use Rattle.distr.specs.Answers.{sums, reported}
use Rattle.distr.specs.Distribution.{secret, skips_of}
use Rattle.distr.specs.Draw.{Outcome, outcome, signed_at_once, encoded_at_once, no_tables}
use Rattle.distr.specs.Contract.{Contract}
use Rattle.common.proofs.signed.sample_uniform_ternary_values_to.Reads as table-signed
use Rattle.common.proofs.residues.sample_uniform_ternary_values_to.Reads as table-residues
use Rattle.by_division.proofs.signed.sample_uniform_ternary_values_by_division_to.Reads as division-signed
use Rattle.by_division.proofs.residues.sample_uniform_ternary_values_by_division_to.Reads as division-residues

-- ---- the contracts

-- What a call of either draw does: its number, its place, what its output holds after it, and the sums of what it skipped.
abbrev pub Promises : {A : Type 0} → Outcome A → List ℕ → ℕ → ℕ → Answer → List A → Type 0
Promises drawn words place n answer after = (outcome answer after ≡ drawn) × (sums answer ≡ reported answer.number (skips_of (secret UniformTernary) n no_tables (drop place words)))

-- Signed,
abbrev pub MeetsSigned : List ℕ → ℕ → List ℤ → Answer → List ℤ → Type 0
MeetsSigned words place out answer after = Promises (signed_at_once (secret UniformTernary) words place out) words place (length out) answer after

-- and residues of a modulus.
abbrev pub MeetsResidues : ℕ → List ℕ → ℕ → List ℕ → Answer → List ℕ → Type 0
MeetsResidues modulus words place out answer after = Promises (encoded_at_once (secret UniformTernary) modulus words place out) words place (length out) answer after

-- The arguments of both signed draws: output, words, place. The promise of either is what `MeetsSigned` says.
abbrev pub SignedArguments : Type 0
SignedArguments = MutBor (List ℤ) × (Bor (List ℕ) × (ℕ × Unit {0}))

abbrev pub SignedCall : SignedArguments → Answer → SignedArguments → Type 0
SignedCall (output, (words, (place, end))) answer (written, _) = MeetsSigned words.now place output.now answer written.now

-- The arguments of both draws of residues: output, modulus, words, place. The promise of either is what `MeetsResidues` says.
abbrev pub ResidueArguments : Type 0
ResidueArguments = MutBor (List ℕ) × (ℕ × (Bor (List ℕ) × (ℕ × Unit {0})))

abbrev pub ResidueCall : ResidueArguments → Answer → ResidueArguments → Type 0
ResidueCall (output, (modulus, (words, (place, end)))) answer (written, _) = MeetsResidues modulus words.now place output.now answer written.now

-- ---- the claim

-- Two answers, with what their outputs hold, are the same: number, place, every element, and the sums.
pub record Same {A : Type 0} (table : Answer) (table_after : List A) (division : Answer) (division_after : List A) : Type 0 where
  pub answer : table ≡ division
  pub output : table_after ≡ division_after

pub record Agreement : Type 1 where
  -- A call of the table draw and one of the division draw, on the same words, from the same place and over outputs that hold the same at entry, give the same,
  -- whether they succeed or are refused: signed,
  pub signed : (words : List ℕ) (place : ℕ) (out : List ℤ) (table division : Answer) (table_after division_after : List ℤ)
      → MeetsSigned words place out table table_after → MeetsSigned words place out division division_after → Same table table_after division division_after
  -- and residues of any modulus.
  pub residues : (modulus : ℕ) (words : List ℕ) (place : ℕ) (out : List ℕ) (table division : Answer) (table_after division_after : List ℕ)
      → MeetsResidues modulus words place out table table_after → MeetsResidues modulus words place out division division_after
      → Same table table_after division division_after
  -- And it is about this code.
  pub table_signed_calls : Contract 2 SignedArguments Answer SignedCall table-signed.Pre table-signed.Post
  pub division_signed_calls : Contract 2 SignedArguments Answer SignedCall division-signed.Pre division-signed.Post
  pub table_residue_calls : Contract 2 ResidueArguments Answer ResidueCall table-residues.Pre table-residues.Post
  pub division_residue_calls : Contract 2 ResidueArguments Answer ResidueCall division-residues.Pre division-residues.Post

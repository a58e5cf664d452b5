-- The contracts of the code that demand 3 is about: what a signed draw, a bounded choice and a polynomial from bytes promise of a call. Certificate ties each to its function.
use Rattle.std.specs.Prelude.{ℕ, ◌≡◌, Bool, List, length, drop, ℤ, Float, Option, Result}
use Rattle.std.specs.Borrow.{Bor, MutBor}
use Rattle.distr.specs.declared.answer.Answer.{Answer}
use Rattle.distr.specs.declared.refusal.Refusal.{Refusal}
use Rattle.distr.specs.Words.{choose}
use Rattle.distr.specs.Skipped.{passed_over}
use Rattle.distr.specs.Answers.{sums, reported}
use Rattle.distr.specs.Refusals.{number_of}
use Rattle.distr.specs.Distribution.{Distr, skips_of}
use Rattle.distr.specs.Draw.{outcome, Meets}
use Rattle.words.specs.declared.Taken.{Taken}
use Rattle.words.specs.Reading.{taken}
use Rattle.signed_discrete_gaussian.specs.Lent.{lent}
use Rattle.certificate.specs.Polynomials.{MeetsCbd}

-- The arguments of a `sample_signed_to`: self, output, bounds, endpoints, heights, curve, words, place.
abbrev pub SignedArguments : Type 0 → Type 0
SignedArguments S =
    S × (MutBor (List ℤ) × (Bor (List ℕ) × (Bor (List ℕ) × (Bor (List Float) × (Bor (List Float) × (Bor (List ℕ) × (ℕ × Unit {0})))))))

-- Its promise: what the call does is what `Meets` says, and the sums that it reports are those of 02 [1].
abbrev pub SignedCall : {S : Type 0} → (S → Bool) → (S → Distr) → SignedArguments S → Answer → SignedArguments S → Type 0
SignedCall is_made distr (self, (output, (bounds, (endpoints, (heights, (curve, (words, (place, end)))))))) answer (_, (written, _)) =
    let tables = lent bounds.now endpoints.now heights.now curve.now in
    Meets (is_made self) (distr self) tables words.now place output.now (outcome answer written.now)
    × (sums answer ≡ reported answer.number (skips_of (distr self) (length output.now) tables (drop place words.now)))

-- The arguments of a bounded choice: words, place, k. Its promise: the value and the place of `choose`, and the words that it passed over.
abbrev pub ChoiceArguments : Type 0
ChoiceArguments = Bor (List ℕ) × (ℕ × (ℕ × Unit {0}))

abbrev pub BoundedChoice : ChoiceArguments → Option Taken → ChoiceArguments → Type 0
BoundedChoice (words, (place, (k, end))) answer after =
    answer ≡ taken (length words.now) (passed_over k (drop place words.now)) (choose k (drop place words.now))

-- The arguments of `sample_poly_cbd`: output, eta, bytes. Its promise is what `MeetsCbd` says.
abbrev pub CbdArguments : Type 0
CbdArguments = MutBor (List ℕ) × (ℕ × (Bor (List ℕ) × Unit {0}))

abbrev pub CbdCall : CbdArguments → Result (Unit {0}) Refusal → CbdArguments → Type 0
CbdCall (output, (eta, (bytes, end))) answer (written, _) = MeetsCbd eta bytes.now output.now (number_of answer) written.now

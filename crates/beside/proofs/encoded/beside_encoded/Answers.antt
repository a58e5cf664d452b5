-- `beside_encoded` draws what its kind names.
use native.Mathlib.Omega.{arith}
use Rattle.signed_discrete_gaussian.specs.Lent.{lent}
use Rattle.any_sampler.proofs.Drawing.{any_encoded}
use Rattle.beside.specs.Calls.{named}
use Rattle.beside.proofs.encoded.beside_encoded.Goals as goal

pub returns : goal.returns
returns c =
    let a = c.args in
    let drawn = c.sample_encoded_to-answer.ensures in
    let said = any_encoded (lent a.bounds.now a.endpoints.now a.heights.now a.curve.now) a.words.now a.place c.prepare-prepared.result
    (named a.kind a.a a.b a.p a.q) (rw c.by_kind.ensures at c.prepare-prepared.ensures) a.modulus a.output.now (omega arith)
    (drawn.output_after, drawn.result_value) in
    record { output_after = said.0; skipped_bytes_after = said.1 }

-- `draw_question` draws what the kind selects: signed where the modulus is 0, else residues.
use mathlib.Core.Bool.{true}
use borrow.Author.Tests.{ne_eqb}
use lib.ListN.{length, drop, replicate}
use Rattle.distr.specs.Distribution.{Distr, skips_of}
use Rattle.distr.specs.Draw.{signed_draw, encoded_draw, no_tables}
use Rattle.any_sampler.proofs.Drawing.{any_signed}
use Rattle.sheet_request.specs.Request.{as_values, values_draw, question}
use Rattle.sheet_request.proofs.Requests.{asked_draw}
use Rattle.sheet_request.proofs.draw_question.Goals as goal

pub returns-then-modulus-eq0 : goal.returns-then-modulus-eq0
unfolding question values_draw
returns-then-modulus-eq0 c =
    let a = c.args in
    let both = asked_draw (λ (d : Distr). signed_draw true d no_tables a.words.now a.place a.output.now)
    (λ (d : Distr). skips_of d (length a.output.now) no_tables (drop a.place a.words.now))
    a.place a.output.now a.kind a.a a.b c.select-found.ensures
    (any_signed no_tables a.words.now a.place _ c.select-found.result c.prepare-by.ensures a.output.now (c.sample_signed_to.ensures.output_after, c.sample_signed_to.ensures.result_value)) in
    rw c.if-modulus-eq0.true (record { output_after = both.0; result_value = both.1 })

pub returns : goal.returns
unfolding question values_draw
returns c =
    let a = c.args in
    let both = asked_draw
    (λ (d : Distr). as_values a.output.now
    (encoded_draw true d no_tables a.modulus a.words.now a.place (replicate (length a.output.now) 0)))
    (λ (d : Distr). skips_of d (length a.output.now) no_tables (drop a.place a.words.now))
    a.place a.output.now a.kind a.a a.b c.select-found.ensures (c.draw_residues.ensures.output_after, c.draw_residues.ensures.result_value) in
    rw (ne_eqb a.modulus 0 c.if-modulus-eq0.false) (record { output_after = both.0; result_value = both.1 })

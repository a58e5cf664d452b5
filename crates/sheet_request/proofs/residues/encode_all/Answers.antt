use Rattle.std.proofs.Common.{ℤ, pos, get_or, ap, ◌∙◌}
use mir.Syntax.{w64}
use mir.Val.{of_z, to_z}
use mir.Facts.{to_z-of_z}
use borrow.Author.Rules.{sfits_of}
use Rattle.distr.specs.Encoding.{encode}
use Rattle.sheet_request.proofs.Encoding.{made_more}
use Rattle.sheet_request.proofs.residues.encode_all.Goals as goal

-- an element is held by its bits, and fits them
pub loop-element-preserved : goal.loop-element-preserved
loop-element-preserved c =
    let loop = c.loop-element in
    let f : ℤ → ℤ = λ v. pos (encode c.args.modulus v) in
    let read = to_z-of_z {w = w64} {z = get_or loop.output loop.element-index (pos 0)} (record { sfits = c.residue-arg-1.given }) in
    made_more f c.args.output.now loop.output loop.element-index (pos 0) (to_z w64 (of_z w64 c.residue.result)) loop.invariant c.loop-element-test.true
    (to_z-of_z {w = w64} (sfits_of c.residue.type_inv) ∙ c.residue.ensures ∙ ap f read)

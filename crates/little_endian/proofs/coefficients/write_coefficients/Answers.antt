-- Eight bytes more in each turn; after the last all stand there.
use Rattle.std.proofs.Common.{◌≡◌, ℕ, ◌*◌, length, get_or, pos, FitsSigned, w64, ap, ◌∙◌, arith, rules}
use Rattle.std.proofs.lemmas.Int.{to_z-of_z}
use borrow.Author.Tests.{eq-eqb}
use Rattle.distr.specs.Packed.{digits}
use Rattle.distr.proofs.Writing.{written, written_all}
use Rattle.little_endian.specs.LittleEndian.{bytes_of}
use Rattle.little_endian.proofs.Sizes.{fitting}
use Rattle.little_endian.proofs.OneToOne.{length-bytes}
use Rattle.little_endian.proofs.Places.{turn_more}
use Rattle.little_endian.proofs.coefficients.write_coefficients.Goals as goal

pub loop-i-preserved : goal.loop-i-preserved
loop-i-preserved c =
    let cs = c.args.coefficients.now in
    let fits : FitsSigned w64 (get_or cs c.loop-i.i (pos 0)) = search rules in
    let bits = rw (to_z-of_z w64 _ fits) at c.pattern.ensures in
    rw c.loop-i.invariant
    (turn_more cs c.loop-i.i c.loop-i-test.true c.args.bytes.now c.write_u64.new.bytes (c.write_u64.ensures ∙ ap (digits 256 8) bits))

pub returns : goal.returns
returns c =
    let a = c.args in
    let cs = a.coefficients.now in
    let size = fitting (length a.bytes.now) (length cs) 8 (omega arith) c.if-size-n.false in
    let end : 8 * c.loop-i.i ≡ length a.bytes.now = omega (arith, size) in
    rw (eq-eqb (length a.bytes.now) (8 * length cs) size)
    (c.loop-i.invariant ∙ ap (λ (k : ℕ). written (bytes_of cs) k a.bytes.now) end
    ∙ written_all (bytes_of cs) a.bytes.now (omega (arith, size, length-bytes cs)))

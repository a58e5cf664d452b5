-- One word more in each turn; after the last all stand there.
use Rattle.std.proofs.Common.{◌≡◌, ℕ, ◌+◌, ◌*◌, ◌/◌, length, sym, ap, ◌∙◌, add-one, arith}
use borrow.Author.Tests.{eq-eqb}
use Rattle.distr.proofs.Writing.{written, written_more, written_all}
use Rattle.little_endian.specs.LittleEndian.{u32_at, words_at}
use Rattle.little_endian.proofs.Sizes.{fitting}
use Rattle.little_endian.proofs.Reading.{length-words, word_at}
use Rattle.little_endian.proofs.words.read_words.Goals as goal

pub loop-i-preserved : goal.loop-i-preserved
loop-i-preserved c =
    let a = c.args in
    let i = c.loop-i.i in
    let n = length a.words.now in
    let at : 4 * i ≡ 0 + 4 * i = omega arith in
    let next = c.read_u32.ensures ∙ ap (u32_at a.bytes.now) at ∙ sym (word_at a.bytes.now 0 n i c.loop-i-test.true) in
    rw (c.loop-i.invariant, next, add-one i)
    (written_more (words_at a.bytes.now 0 n) a.words.now i 0 (omega (arith, length-words a.bytes.now 0 n)) c.loop-i-test.true)

pub returns : goal.returns
returns c =
    let a = c.args in
    let n = length a.words.now in
    let ws = words_at a.bytes.now 0 n in
    let size = fitting (length a.bytes.now) n 4 (omega arith) c.if-size-n.false in
    let as_many : n ≡ length a.bytes.now / 4 = omega (arith, size) in
    let end : c.loop-i.i ≡ n = omega arith in
    rw (eq-eqb (length a.bytes.now) (4 * n) size)
    (c.loop-i.invariant ∙ ap (λ (k : ℕ). written ws k a.words.now) end ∙ written_all ws a.words.now (length-words a.bytes.now 0 n)
    ∙ ap (words_at a.bytes.now 0) as_many)

-- After i turns the first i words stand there.
use Rattle.std.proofs.Common.{◌≡◌}
use Rattle.distr.proofs.Writing.{written}
use Rattle.little_endian.specs.LittleEndian.{words_at}
use Rattle.little_endian.proofs.words.read_words.Given as goal

abbrev pub invariant-loop-i : goal.invariant-loop-i
invariant-loop-i l = l.words ≡ written (words_at l.bytes 0 l.n) l.i l.initial.words

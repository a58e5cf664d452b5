-- `word_lists::of_kind` keeps the room of 96 words.
use Rattle.std.proofs.Common.{◌≡◌, length}
use Rattle.trit_draws.proofs.word_lists.of_kind.Given as goal

abbrev pub invariant-loop-i : goal.invariant-loop-i
invariant-loop-i l = length l.words ≡ 96

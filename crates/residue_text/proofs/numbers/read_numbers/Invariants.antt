-- `count` numbers stand in the room, and what is left begins with no space.
use Rattle.std.proofs.Common.{◌≡◌, ◌-◌, ◌<◌, ◌≤◌, false, length, get_or}
use Rattle.residue_text.specs.Tokens.{is_space}
use Rattle.residue_text.proofs.Filling.{Held}
use Rattle.residue_text.proofs.numbers.read_numbers.Given as goal

abbrev pub invariant-loop-at : goal.invariant-loop-at
invariant-loop-at l =
    (l.at ≤ length l.text) × (l.at < length l.text → is_space (get_or l.text l.at 0) ≡ false) × Held l.most l.text l.initial.numbers l.count l.at l.numbers

abbrev pub decreases-loop-at : goal.decreases-loop-at
decreases-loop-at l = length l.text - l.at

-- Document 01's twelve marked cases, as one claim about the rules: what they give is what the document states.
use mathlib.Core.Path.{◌≡◌, refl}
use mathlib.Core.List.{map}
use Rattle.distr.specs.Words.{map_read, bind_read, many, word, wide, choose, choose_each}
use Rattle.distr.specs.Skipped.{passed_over, passed_after, passed_each}
use Rattle.distr.specs.Answers.{reported}
use Rattle.distr.specs.Packed.{digits, split}
use Rattle.distr.specs.UniformTernary.{accepted_bytes, bytes, rejected_among, rejected_bytes}
use Rattle.distr.specs.Insertion.{count_up, inserted, insert_each, signs, passed_signed}
use Rattle.distr.specs.Blocks.{blocks_of}
use Rattle.distr.specs.CenteredBinomial.{total}
use Rattle.distr.specs.Gaussian.{magnitude}
use Rattle.distr.specs.Encoding.{rows}
use Rattle.distr.specs.Marked.{Case, marked, traps, SkipCase, thrown_away}

pub marked_cases : map (λ (c : Case). c.given) marked ≡ map (λ (c : Case). c.stated) marked
unfolding marked map_read bind_read many word wide choose choose_each digits split accepted_bytes bytes count_up inserted insert_each blocks_of total magnitude rows
marked_cases = refl

-- The five traps that the document names, as one claim of the same kind.
pub traps_avoided : map (λ (c : Case). c.given) traps ≡ map (λ (c : Case). c.stated) traps
unfolding traps map_read bind_read many word wide choose choose_each digits split accepted_bytes bytes count_up inserted insert_each blocks_of total magnitude rows
traps_avoided = refl

-- What document 02 [1] counts, worked out by hand, as a third.
pub words_thrown_away : map (λ (c : SkipCase). c.counted) thrown_away ≡ map (λ (c : SkipCase). c.figures) thrown_away
unfolding thrown_away map_read word choose digits accepted_bytes count_up signs passed_over passed_after passed_each passed_signed rejected_among rejected_bytes reported
words_thrown_away = refl

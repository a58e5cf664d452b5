use Rattle.ziggurat.proofs.Proposing.{all_three}
use Rattle.ziggurat.proofs.sampling.propose.Goals as goal

pub returns : goal.returns
returns c =
    all_three _ _ _ c.requires.t c.if-words-place-lt3.false c.type_inv.words _ c.type_inv.endpoints c.wrapping_add_u64.ensures.value c.in_ok-taken.ensures

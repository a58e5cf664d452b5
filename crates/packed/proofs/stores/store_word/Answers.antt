use Rattle.distr.specs.Packed.{digits}
use Rattle.packed.proofs.TritLoop.{bytes-stored}
use Rattle.packed.proofs.stores.store_word.Goals as goal

pub returns : goal.returns
unfolding digits
returns g c =
    bytes-stored _ _ c.store_byte-one.ensures (bytes-stored _ _ c.store_byte-two.ensures (bytes-stored _ _ c.store_byte-three.ensures c.store_byte.ensures))

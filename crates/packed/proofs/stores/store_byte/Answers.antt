use Rattle.std.proofs.Common.{refl}
use Rattle.packed.proofs.TritLoop.{byte_stored}
use Rattle.packed.proofs.stores.store_byte.Goals as goal

pub returns : goal.returns
returns g c = byte_stored _ _ c.args.byte c.requires.0 refl c.store_trits.ensures

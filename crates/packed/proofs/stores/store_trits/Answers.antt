use Rattle.std.proofs.Common.{arith}
use Rattle.std.proofs.lemmas.List.{get_or_read}
use Rattle.packed.proofs.Storing.{five_trits}
use Rattle.packed.proofs.TritTable.{found_places, in_pairs}
use Rattle.packed.proofs.stores.store_trits.Goals as goal

pub store_pair-requires : goal.store_pair-requires
store_pair-requires g c = let within = in_pairs c.args.tables.now.by c.args.tables.now.tables c.requires.1 c.places_of-places.ensures in omega arith

pub store_pair-requires-2 : goal.store_pair-requires-2
store_pair-requires-2 g c = let within = in_pairs c.args.tables.now.by c.args.tables.now.tables c.requires.1 c.places_of-places.ensures in omega arith

pub offset_bounds-pairs-i : goal.offset_bounds-pairs-i
offset_bounds-pairs-i g c = let within = in_pairs c.args.tables.now.by c.args.tables.now.tables c.requires.1 c.places_of-places.ensures in omega arith

pub bounds-pairs-i : goal.bounds-pairs-i
bounds-pairs-i g c = (in_pairs c.args.tables.now.by c.args.tables.now.tables c.requires.1 c.places_of-places.ensures).last

pub returns : goal.returns
returns g c =
    let z = g.T.Output.natural 0 in
    let within = in_pairs c.args.tables.now.by c.args.tables.now.tables c.requires.1 c.places_of-places.ensures in
    rw (get_or_read c.args.tables.now.pairs.now _ _ within.last c.index-pairs-i.is z)
    (five_trits z _ _ _ c.args.byte c.requires.0 c.args.tables.now.tables.paired (found_places c.args.tables.now.by c.args.tables.now.tables.kept c.places_of-places.ensures) c.store_pair.ensures c.store_pair-2.ensures)

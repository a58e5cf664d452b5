-- The tables as they are lent.
use Rattle.distr.specs.Layered.{Layers}
use Rattle.layer_tables.specs.declared.LayerTables.{LayerTables}

abbrev pub lent_tables : LayerTables → Layers
lent_tables t = record { endpoints = t.endpoints.now; heights = t.heights.now; curve = t.curve.now }

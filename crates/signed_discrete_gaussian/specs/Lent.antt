-- The four tables that a caller lends, as one record of the definitions.
use Rattle.std.specs.Prelude.{ℕ, List, Float}
use Rattle.distr.specs.Distribution.{Tables}

abbrev pub lent : List ℕ → List ℕ → List Float → List Float → Tables
lent bounds endpoints heights curve =
    record { bounds = bounds; layers = record { endpoints = endpoints; heights = heights; curve = curve } }

-- The three lent tables of a layered draw as one record, the numbers of layers, and the whole draw.
use Rattle.std.specs.Prelude.{ℕ, ◌-◌, Bool, ◌||◌, List, eqb, length, ℤ, Float}
use Rattle.distr.specs.declared.gaussian_parameters.GaussianParameters.{GaussianParameters}
use Rattle.distr.specs.Layered.{Layers, layered}
use Rattle.distr.specs.Numbers.{layer_number, layer_index}
use Rattle.distr.specs.Draw.{Outcome, naming, read_draw}

-- The tables as they are lent.
abbrev pub tables : List ℕ → List Float → List Float → Layers
tables endpoints heights curve = record { endpoints = endpoints; heights = heights; curve = curve }

-- "R is 128, 256 or 512."
abbrev pub layer_sizes : List ℕ → Bool
layer_sizes endpoints = eqb (length endpoints - 1) 128 || eqb (length endpoints - 1) 256 || eqb (length endpoints - 1) 512

-- A layered draw: 22, 6, 13 or 30 to 32 with their index, or what the rules give.
abbrev pub layered_draw : {A : Type 0} → (List ℤ → List A) → GaussianParameters → Layers → List ℕ → ℕ → List A → Outcome A
layered_draw write parameters t words place out =
    naming (layer_index parameters.maximum_magnitude t)
    (read_draw write (layer_number parameters.maximum_magnitude t) (layered parameters.standard_deviation t (length out)) words place out)

-- What is wrong with layer tables, as a function hands it back.
use Rattle.std.specs.Prelude.{ℕ, cond, ltb, Option, Some, None, Result, Ok, Err}
use Rattle.distr.specs.declared.refusal.Refusal.{Refusal}
use Rattle.distr.specs.Refusals.{number as refusal_number}
use Rattle.distr.specs.Layered.{Layers}
use Rattle.distr.specs.Numbers.{layer_number, layer_index}
use Rattle.layer_tables.specs.declared.LayerFault.{LayerFault}

-- 02 [6]: a number, and the index that goes with it.
pub record Fault : Type 0 where
  pub number : ℕ
  pub index : ℕ

-- The number and the index of tables of a support.
abbrev pub layer_fault : ℕ → Layers → Fault
layer_fault M t = record { number = layer_number M t; index = layer_index M t (layer_number M t) }

-- What a function says of the tables: 0 and 0 where nothing is wrong, else the index of the fault and the number that `by` gives its reason.
abbrev pub told_by : {A R : Type 0} → (R → ℕ) → Result A (LayerFault R) → Fault
told_by by (Ok a) = record { number = 0; index = 0 }
told_by by (Err fault) = record { number = by fault.refusal; index = fault.index }

-- The same where the reason is a refusal, by its number.
abbrev pub told : {A : Type 0} → Result A (LayerFault Refusal) → Fault
told checked = told_by refusal_number checked

-- A search's first wrong index of n entries, which is n where none is wrong, as a function hands it back.
abbrev pub wrong_at : ℕ → ℕ → Option ℕ
wrong_at n i = cond (ltb i n) (Some i) None

-- The refusals, each with its number, and what a check answers.
use Rattle.std.specs.Prelude.{ℕ, ◌≡◌, Result, Ok, Err, IfOk}
use Rattle.distr.specs.declared.refusal.Refusal.{Refusal}
use Rattle.distr.specs.declared.refusal.Refusal.TheVariants as Why
use Rattle.distr.specs.Constants.{invalid_probabilities, invalid_deviation, support_too_large, invalid_eta, invalid_block_size, output_too_long, invalid_weight, invalid_block_length, modulus_too_small, modulus_zero, invalid_shape, invalid_cumulative_table, invalid_layer_tables, invalid_sheet, never_made, place_past_end, out_of_words, modulus_out_of_range, counts_length_mismatch, residue_not_canonical, invalid_cbd_eta, invalid_cbd_length, invalid_desk_request, invalid_endpoint, invalid_height, invalid_curve_value}

-- "What a call hands back": the number of each refusal.
abbrev pub number : Refusal → ℕ
number Why.InvalidProbabilities = invalid_probabilities
number Why.InvalidStandardDeviation = invalid_deviation
number Why.MaximumMagnitudeTooLarge = support_too_large
number Why.InvalidEta = invalid_eta
number Why.InvalidBlockSize = invalid_block_size
number Why.OutputTooLong = output_too_long
number Why.InvalidWeight = invalid_weight
number Why.InvalidBlockLength = invalid_block_length
number Why.ModulusTooSmall = modulus_too_small
number Why.ModulusZero = modulus_zero
number Why.InvalidCrtShape = invalid_shape
number Why.InvalidCumulativeTable = invalid_cumulative_table
number Why.InvalidLayerTables = invalid_layer_tables
number Why.InvalidSheet = invalid_sheet
number Why.NeverMade = never_made
number Why.PastEnd = place_past_end
number Why.OutOfWords = out_of_words
number Why.ModulusOutOfRange = modulus_out_of_range
number Why.CountsLengthMismatch = counts_length_mismatch
number Why.ResidueNotCanonical = residue_not_canonical
number Why.InvalidCbdEta = invalid_cbd_eta
number Why.InvalidCbdLength = invalid_cbd_length
number Why.InvalidDeskRequest = invalid_desk_request
number Why.InvalidEndpoint = invalid_endpoint
number Why.InvalidHeight = invalid_height
number Why.InvalidCurveValue = invalid_curve_value

-- "Success is number 0": the number that a check, or making, comes to.
abbrev pub number_of : {A : Type 0} → Result A Refusal → ℕ
number_of (Ok a) = 0
number_of (Err refusal) = number refusal

-- What making hands back: a result of this number and, where that is 0, one that holds what is made.
abbrev pub Makes : {A : Type 0} → ℕ → A → Result A Refusal → Type 0
Makes by made result = (number_of result ≡ by) × IfOk result (λ a. a ≡ made)

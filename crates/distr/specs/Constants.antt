-- The numbers that refuse, and the limits that document 01 names. When each number comes stands in Making, Numbers and Draw.
use Rattle.std.specs.Prelude.{ℕ, ◌^◌, false, Float}
use Rattle.std.specs.Float.{binary64}
use Rattle.std.specs.Float.Ieee.{round}

-- ---- "What a call hands back": the numbers

-- "1 a probability not finite, outside 0..1, or negative > 1.0 − positive in f64."
abbrev pub invalid_probabilities : ℕ
invalid_probabilities = 1

-- "2 deviation not finite, below 0.7, or its square or doubled square not finite."
abbrev pub invalid_deviation : ℕ
invalid_deviation = 2

-- "3 support above 4,095."
abbrev pub support_too_large : ℕ
support_too_large = 3

-- "4 eta outside 1..32."
abbrev pub invalid_eta : ℕ
invalid_eta = 4

-- "5 block size 0, or 2^64−1 with `AtMostOne`."
abbrev pub invalid_block_size : ℕ
invalid_block_size = 5

-- "6 output longer than 65,536."
abbrev pub output_too_long : ℕ
output_too_long = 6

-- "7 weights over the length, or their sum over 2^64−1."
abbrev pub invalid_weight : ℕ
invalid_weight = 7

-- "8 block length 0 or no multiple of the block size."
abbrev pub invalid_block_length : ℕ
invalid_block_length = 8

-- "9 largest magnitude (M, eta, else 1) above modulus − 1."
abbrev pub modulus_too_small : ℕ
modulus_too_small = 9

-- "10 a CRT modulus of 0."
abbrev pub modulus_zero : ℕ
modulus_zero = 10

-- "11 CRT output length not coefficients × moduli, or that product over 2^64−1."
abbrev pub invalid_shape : ℕ
invalid_shape = 11

-- "12 cumulative table malformed, its length included."
abbrev pub invalid_cumulative_table : ℕ
invalid_cumulative_table = 12

-- "13 layer tables malformed"; 02 [6]: "From now on 13 covers only a wrong R or a wrong list length."
abbrev pub invalid_layer_tables : ℕ
invalid_layer_tables = 13

-- "14 sheet malformed."
abbrev pub invalid_sheet : ℕ
invalid_sheet = 14

-- "21 a sampler that making never gives, the empty one included."
abbrev pub never_made : ℕ
never_made = 21

-- "22 place past the end of the words."
abbrev pub place_past_end : ℕ
place_past_end = 22

-- "23 the rules need a word that is not there."
abbrev pub out_of_words : ℕ
out_of_words = 23

-- 02 [2]: "It refuses with 24 a modulus outside the range."
abbrev pub modulus_out_of_range : ℕ
modulus_out_of_range = 24

-- 02 [2]: "Then with 25 a count list whose length is not the limit list's."
abbrev pub counts_length_mismatch : ℕ
counts_length_mismatch = 25

-- 02 [2]: "Then with 26 a residue not below the modulus."
abbrev pub residue_not_canonical : ℕ
residue_not_canonical = 26

-- 02 [3]: "It refuses with 27 an eta other than 2 and 3."
abbrev pub invalid_cbd_eta : ℕ
invalid_cbd_eta = 27

-- 02 [3]: "Then with 28 a byte length other than 64 × eta or an output length other than 256."
abbrev pub invalid_cbd_length : ℕ
invalid_cbd_length = 28

-- 02 [4]: "It refuses with 29, before every other check, a desk request for more than 4,096 coefficients … or 8,192 words, or a byte slice that is no
-- whole number of items."
abbrev pub invalid_desk_request : ℕ
invalid_desk_request = 29

-- 02 [6]: "It refuses with 30 an endpoint that breaks document 01, with 31 a height, with 32 a curve value."
abbrev pub invalid_endpoint : ℕ
invalid_endpoint = 30

abbrev pub invalid_height : ℕ
invalid_height = 31

abbrev pub invalid_curve_value : ℕ
invalid_curve_value = 32

-- ---- limits

-- The f64 nearest to a fraction, as the compiler reads a literal: 0.7 is `literal 7 10`.
abbrev pub literal : ℕ → ℕ → Float
literal a b = round binary64 false a b

-- "Output longer than 65,536."
abbrev pub output_limit : ℕ
output_limit = 65536

-- "Eta outside 1..32."
abbrev pub eta_limit : ℕ
eta_limit = 32

-- "Deviation … below 0.7."
abbrev pub least_deviation : Float
least_deviation = literal 7 10

-- "⌊deviation × 12.0⌋."
abbrev pub tail_cut : Float
tail_cut = literal 12 1

-- "M ≤ 255 uses a lent cumulative table."
abbrev pub cumulative_limit : ℕ
cumulative_limit = 255

-- "Support above 4,095."
abbrev pub support_limit : ℕ
support_limit = 4095

-- "Reads standard input, at most 65,536 bytes"; "n over 4,096, over 8,192 words."
abbrev pub sheet_bytes : ℕ
sheet_bytes = 65536

abbrev pub sheet_coefficients : ℕ
sheet_coefficients = 4096

abbrev pub sheet_words : ℕ
sheet_words = 8192

-- 02 [2]: "A modulus of 1 to 2^53."
abbrev pub report_modulus_limit : ℕ
report_modulus_limit = 2 ^ 53

-- 02 [3]: "256 coefficients modulo 3329", the standard's n and q.
abbrev pub cbd_coefficients : ℕ
cbd_coefficients = 256

abbrev pub cbd_modulus : ℕ
cbd_modulus = 3329

-- 02 [4]: "The desk's screen shows at most 4,096 coefficients and its store holds 8,192 words."
abbrev pub desk_coefficients : ℕ
desk_coefficients = 4096

abbrev pub desk_words : ℕ
desk_words = 8192

-- "What a call hands back": the numbers of a draw, in their order.
use Rattle.std.specs.Prelude.{ℕ, zero, suc, ◌+◌, ◌*◌, ◌-◌, ◌%◌, ◌^◌, Bool, true, false, not, cond, ◌||◌, List, [], ◌∷◌, ◌++◌, leb, ltb, eqb, length}
use Rattle.distr.specs.declared.secret_key_distr.SecretKeyDistr.TheVariants.{UniformBinary, Binary, SparseTernary, UniformTernary, Ternary, FixedHammingWeightBinary, BlockBinary, FixedHammingWeightTernary, FixedCompositionTernary, Gaussian}
use Rattle.distr.specs.Constants.{output_limit, cumulative_limit, output_too_long, invalid_weight, invalid_block_length, modulus_too_small, modulus_zero, invalid_shape, invalid_cumulative_table, invalid_layer_tables, invalid_endpoint, invalid_height, invalid_curve_value, never_made, place_past_end}
use Rattle.distr.specs.Gaussian.{support, cumulative_table}
use Rattle.distr.specs.Layered.{Layers}
use Rattle.distr.specs.FirstWrong.{right_sizes, wrong_endpoint, wrong_height, wrong_value}
use Rattle.distr.specs.Distribution.{Distr, secret, error, Tables, on_deviation}
use Rattle.distr.specs.Making.{refuse, largest}

-- The first number of a list of tests that is not 0.
unfoldable pub first_of : List ℕ → ℕ
first_of [] = 0
first_of (zero ∷ ns) = first_of ns
first_of (suc k ∷ ns) = suc k

-- "6 output longer than 65,536."
abbrev pub too_long : ℕ → ℕ
too_long n = refuse (ltb output_limit n) output_too_long

-- "7 weights over the length, or their sum over 2^64−1."
abbrev pub bad_weight : ℕ → ℕ → ℕ
bad_weight weight n = refuse (ltb n weight || ltb (2 ^ 64 - 1) weight) invalid_weight

-- "8 block length 0 or no multiple of the block size."
abbrev pub bad_blocks : ℕ → ℕ → ℕ
bad_blocks size n = refuse (eqb n 0 || not (eqb (n % size) 0)) invalid_block_length

-- "7 or 8", by the distribution.
unfoldable pub length_number : Distr → ℕ → ℕ
length_number (secret UniformBinary) n = 0
length_number (secret (Binary p)) n = 0
length_number (secret SparseTernary) n = 0
length_number (secret UniformTernary) n = 0
length_number (secret (Ternary minus plus)) n = 0
length_number (secret (FixedHammingWeightBinary h)) n = bad_weight h n
length_number (secret (BlockBinary size occupancy)) n = bad_blocks size n
length_number (secret (FixedHammingWeightTernary h)) n = bad_weight h n
length_number (secret (FixedCompositionTernary minus ones)) n = bad_weight (minus + ones) n
length_number (secret (Gaussian deviation)) n = 0
length_number (error d) n = 0

-- "9 largest magnitude (M, eta, else 1) above modulus − 1"; "modulus 0 gives 9".
abbrev pub modulus_number : ℕ → ℕ → ℕ
modulus_number most modulus = refuse (leb modulus most) modulus_too_small

-- 02 [6]: "The order is 13, endpoints, heights, curve": 13, 30, 31, 32.
unfoldable pub layer_number : ℕ → Layers → ℕ
layer_number M t =
    first_of
    (refuse (not (right_sizes M t)) invalid_layer_tables
    ∷ refuse (ltb (wrong_endpoint M t) (length t.endpoints)) invalid_endpoint
    ∷ refuse (ltb (wrong_height t) (length t.heights)) invalid_height
    ∷ refuse (ltb (wrong_value t) (length t.curve)) invalid_curve_value
    ∷ [])

-- 02 [6]: 30, 31 and 32 come "each together with the first index that is wrong"; "index 0 accompanies every other number".
unfoldable pub layer_index : ℕ → Layers → ℕ → ℕ
layer_index M t number =
    cond (eqb number invalid_endpoint) (wrong_endpoint M t)
    (cond (eqb number invalid_height) (wrong_height t)
    (cond (eqb number invalid_curve_value) (wrong_value t) 0))

-- "12 cumulative table malformed"; 02 [6]: 30, 31 and 32 "all in 13's place".
abbrev pub gaussian_table : ℕ → Tables → ℕ
gaussian_table M tables =
    cond (leb M cumulative_limit) (refuse (not (cumulative_table M tables.bounds)) invalid_cumulative_table) (layer_number M tables.layers)

-- Tables that a distribution does not use are not judged.
unfoldable pub table_number : Distr → Tables → ℕ
table_number d tables = on_deviation d (λ deviation. gaussian_table (support deviation) tables) 0

-- 02 [6]: the index that goes with a draw's number. A Gaussian's M is its largest magnitude; no other draw has a number that names an index.
abbrev pub table_index : Distr → Tables → ℕ → ℕ
table_index d tables number = layer_index (largest d) tables.layers number

-- "22 place past the end of the words."
abbrev pub past_end : ℕ → ℕ → ℕ
past_end word_count place = refuse (ltb word_count place) place_past_end

-- "21 a sampler that making never gives, the empty one included", before 22. `made` says whether making gives the sampler.
abbrev pub state_numbers : Bool → ℕ → ℕ → List ℕ
state_numbers made word_count place = refuse (not made) never_made ∷ past_end word_count place ∷ []

-- What else can refuse a signed draw, whatever the words: 6, then 7 or 8, then 12 or 13.
abbrev pub signed_numbers : Distr → Tables → ℕ → List ℕ
signed_numbers d tables n = too_long n ∷ length_number d n ∷ table_number d tables ∷ []

-- "Draw order: 21, 22, 6, 7 or 8, 9, 12 or 13" (then 23).
abbrev pub encoded_numbers : Distr → Tables → ℕ → ℕ → List ℕ
encoded_numbers d tables n modulus = too_long n ∷ length_number d n ∷ modulus_number (largest d) modulus ∷ table_number d tables ∷ []

-- "CRT draws serve the Gaussian and the centered binomial, another sampler gives 21."
unfoldable pub serves_crt : Distr → Bool
serves_crt (secret d) = on_deviation (secret d) (λ deviation. true) false
serves_crt (error d) = true

-- "11 CRT output length not coefficients × moduli, or that product over 2^64−1."
abbrev pub shape_number : ℕ → ℕ → ℕ → ℕ
shape_number n coefficient_count moduli =
    refuse (not (eqb n (coefficient_count * moduli)) || ltb (2 ^ 64 - 1) (coefficient_count * moduli)) invalid_shape

-- "Then modulus by modulus 10 before 9"; "10 a CRT modulus of 0".
unfoldable pub moduli_numbers : ℕ → List ℕ → List ℕ
moduli_numbers most [] = []
moduli_numbers most (modulus ∷ moduli) = refuse (eqb modulus 0) modulus_zero ∷ modulus_number most modulus ∷ moduli_numbers most moduli

-- "CRT order: 21, 22, 11, 6, then modulus by modulus 10 before 9, then 12 or 13" (then the empty output, then 23).
abbrev pub crt_numbers : Distr → Tables → ℕ → ℕ → List ℕ → List ℕ
crt_numbers d tables n coefficient_count moduli =
    shape_number n coefficient_count (length moduli) ∷ too_long n ∷ (moduli_numbers (largest d) moduli ++ (table_number d tables ∷ []))

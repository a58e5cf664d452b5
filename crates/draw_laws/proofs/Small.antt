-- The numbers that refuse a draw for its request, whatever the words, are neither 22 nor 23, and those that refuse any draw before a word is read are
-- not 23. All but those of layer tables are below 22.
use mathlib.Core.Path.{◌≡◌}
use mathlib.Core.Bool.{Bool, true, false, not, cond, ◌&&◌, ◌||◌}
use mathlib.Core.List.{List, [], ◌∷◌, ◌++◌}
use Prim.Native.Nat.{ℕ, zero, suc, ◌+◌, ◌-◌, ◌%◌, ◌^◌, ◌<◌}
use native.Mathlib.Omega.{arith}
use lib.Dec.{leb, ltb, eqb}
use lib.Ieee.{Float}
use Rattle.distr.specs.declared.secret_key_distr.SecretKeyDistr.{SecretKeyDistr}
use Rattle.distr.specs.declared.secret_key_distr.SecretKeyDistr.TheVariants.{UniformBinary, Binary, SparseTernary, UniformTernary, Ternary, FixedHammingWeightBinary, BlockBinary, FixedHammingWeightTernary, FixedCompositionTernary, Gaussian}
use Rattle.distr.specs.declared.error_distribution.ErrorDistribution.TheVariants.{CenteredBinomial, Gaussian as ErrorGaussian}
use Rattle.distr.specs.Constants.{cumulative_limit, support_limit, eta_limit}
use Rattle.distr.specs.Gaussian.{support, cumulative_table}
use Rattle.distr.specs.Distribution.{Distr, secret, error, Tables, on_deviation}
use Rattle.distr.specs.Making.{refuse, bad_probability, bad_probabilities, bad_block, bad_deviation, gaussian_number, making_number, secret_number, error_number}
use Rattle.distr.specs.Numbers.{first_of, past_end, too_long, bad_weight, length_number, layer_number, gaussian_table, table_number, state_numbers, signed_numbers}
use Rattle.distr.proofs.FirstWrong.{layer_apart_22, layer_apart_23}

cond_below : {most : ℕ} (b : Bool) (x y : ℕ) → x < most → y < most → cond b x y < most
cond_below true x y h k = h
cond_below false x y h k = k

pub refuse-below : {most : ℕ} (b : Bool) (k : ℕ) → k < most → refuse b k < most
refuse-below true k h = h
refuse-below false k h = omega arith

-- the first of numbers below a bound
pub first_below : {most : ℕ} (k : ℕ) (ns : List ℕ) → k < most → first_of ns < most → first_of (k ∷ ns) < most
unfolding first_of
first_below zero ns h i = i
first_below (suc k) ns h i = h

weight_below : (h n : ℕ) → bad_weight h n < 22
weight_below h n = refuse-below (ltb n h || ltb (2 ^ 64 - 1) h) 7 (omega arith)

pub length-below : (d : Distr) (n : ℕ) → length_number d n < 22
unfolding length_number
length-below (secret UniformBinary) n = omega arith
length-below (secret (Binary p)) n = omega arith
length-below (secret SparseTernary) n = omega arith
length-below (secret UniformTernary) n = omega arith
length-below (secret (Ternary minus plus)) n = omega arith
length-below (secret (FixedHammingWeightBinary h)) n = weight_below h n
length-below (secret (BlockBinary size occupancy)) n = refuse-below (eqb n 0 || not (eqb (n % size) 0)) 8 (omega arith)
length-below (secret (FixedHammingWeightTernary h)) n = weight_below h n
length-below (secret (FixedCompositionTernary minus ones)) n = weight_below (minus + ones) n
length-below (secret (Gaussian deviation)) n = omega arith
length-below (error d) n = omega arith

-- A number other than 22, which refuses a place, and 23, which is a lack of words.
abbrev pub Apart : ℕ → Type 0
Apart k = (k ≡ 22 → ⊥) × (k ≡ 23 → ⊥)

-- A number that is no lack of words.
abbrev pub Enough : ℕ → Type 0
Enough k = k ≡ 23 → ⊥

pub below_apart : {k : ℕ} → k < 22 → Apart k
below_apart h = (λ e. omega arith, λ e. omega arith)

-- the first of numbers that all have a property has it
pub first_either : (P : ℕ → Type 0) (k : ℕ) (ns : List ℕ) → P k → P (first_of ns) → P (first_of (k ∷ ns))
unfolding first_of
first_either P zero ns p q = q
first_either P (suc k) ns p q = p

gaussian_apart : (M : ℕ) (tables : Tables) → Apart (gaussian_table M tables)
gaussian_apart M tables = go (leb M cumulative_limit)
  where
    go : (b : Bool) → Apart (cond b (refuse (not (cumulative_table M tables.bounds)) 12) (layer_number M tables.layers))
    go true = below_apart (refuse-below (not (cumulative_table M tables.bounds)) 12 (omega arith))
    go false = (layer_apart_22 M tables.layers, layer_apart_23 M tables.layers)

pub table_apart : (d : Distr) (tables : Tables) → Apart (table_number d tables)
unfolding table_number on_deviation
table_apart (secret UniformBinary) tables = below_apart (omega arith)
table_apart (secret (Binary p)) tables = below_apart (omega arith)
table_apart (secret SparseTernary) tables = below_apart (omega arith)
table_apart (secret UniformTernary) tables = below_apart (omega arith)
table_apart (secret (Ternary minus plus)) tables = below_apart (omega arith)
table_apart (secret (FixedHammingWeightBinary h)) tables = below_apart (omega arith)
table_apart (secret (BlockBinary size occupancy)) tables = below_apart (omega arith)
table_apart (secret (FixedHammingWeightTernary h)) tables = below_apart (omega arith)
table_apart (secret (FixedCompositionTernary minus ones)) tables = below_apart (omega arith)
table_apart (secret (Gaussian deviation)) tables = gaussian_apart (support deviation) tables
table_apart (error (ErrorGaussian deviation)) tables = gaussian_apart (support deviation) tables
table_apart (error (CenteredBinomial eta)) tables = below_apart (omega arith)

long_below : (n : ℕ) → too_long n < 22
long_below n = refuse-below (ltb 65536 n) 6 (omega arith)

-- a signed draw's
pub signed_apart : (d : Distr) (tables : Tables) (n : ℕ) → Apart (first_of (signed_numbers d tables n))
unfolding first_of
signed_apart d tables n =
    first_either Apart (too_long n) (length_number d n ∷ table_number d tables ∷ []) (below_apart (long_below n))
    (first_either Apart (length_number d n) (table_number d tables ∷ []) (below_apart (length-below d n))
    (first_either Apart (table_number d tables) [] (table_apart d tables) (below_apart (omega arith))))

-- with 21 and 22 before them
pub state_apart : (made : Bool) (word_count place : ℕ) (ns : List ℕ) → Enough (first_of ns) → Enough (first_of (state_numbers made word_count place ++ ns))
state_apart made word_count place ns h =
    first_either Enough (refuse (not made) 21) (past_end word_count place ∷ ns) (λ e. omega (arith, refuse-below {most = 22} (not made) 21 (omega arith)))
    (first_either Enough (past_end word_count place) ns (λ e. omega (arith, refuse-below {most = 23} (ltb word_count place) 22 (omega arith))) h)

-- and the numbers of making
deviation-below : (deviation : Float) → gaussian_number deviation < 22
deviation-below deviation =
    cond_below (bad_deviation deviation) 2 _ (omega arith) (refuse-below (ltb support_limit (support deviation)) 3 (omega arith))

secret-making-below : (d : SecretKeyDistr) → secret_number d < 22
unfolding secret_number
secret-making-below UniformBinary = omega arith
secret-making-below (Binary p) = refuse-below (bad_probability p) 1 (omega arith)
secret-making-below SparseTernary = omega arith
secret-making-below UniformTernary = omega arith
secret-making-below (Ternary minus plus) = refuse-below (bad_probabilities minus plus) 1 (omega arith)
secret-making-below (FixedHammingWeightBinary h) = omega arith
secret-making-below (BlockBinary size occupancy) = refuse-below (bad_block size occupancy) 5 (omega arith)
secret-making-below (FixedHammingWeightTernary h) = omega arith
secret-making-below (FixedCompositionTernary minus ones) = omega arith
secret-making-below (Gaussian deviation) = deviation-below deviation

pub making-below : (d : Distr) → making_number d < 22
unfolding making_number error_number
making-below (secret d) = secret-making-below d
making-below (error (ErrorGaussian deviation)) = deviation-below deviation
making-below (error (CenteredBinomial eta)) = refuse-below (not (leb 1 eta && leb eta eta_limit)) 4 (omega arith)

-- 02 [6], "Which layer list is bad": what the number and the index say of the tables. Proved for all of them: `which_list` in proofs/Which.
use Rattle.std.specs.Prelude.{ℕ, ◌<◌, ◌≡◌, Bool, not, T, length}
use Rattle.distr.specs.Constants.{literal, invalid_endpoint, invalid_height, invalid_curve_value}
use Rattle.distr.specs.Layered.{Layers, layer_tables}
use Rattle.distr.specs.FirstWrong.{endpoints_asked, heights_asked, curve_asked, right}
use Rattle.distr.specs.Numbers.{layer_number, layer_index}

-- Of n entries the one at i is the first that is wrong: it is one of them, it is not right, and each before it is.
pub record Least (right : ℕ → Bool) (n i : ℕ) : Type 0 where
  pub below : i < n
  pub wrong : T (not (right i))
  pub earlier : (k : ℕ) → k < i → T (right k)

-- For a support M and any tables.
pub record WhichList (M : ℕ) (t : Layers) : Type 0 where
  -- Tables that a draw takes have no number, and tables without a number are those that a draw takes.
  pub taken : T (layer_tables M t) → layer_number M t ≡ 0
  pub unnumbered : layer_number M t ≡ 0 → T (layer_tables M t)
  -- Where the number is 30, its index is the first wrong endpoint.
  pub endpoint : layer_number M t ≡ invalid_endpoint
      → Least (right (endpoints_asked M) 0 t.endpoints) (length t.endpoints) (layer_index M t invalid_endpoint)
  -- Where it is 31, its index is the first wrong height.
  pub height : layer_number M t ≡ invalid_height
      → Least (right heights_asked (literal 0 1) t.heights) (length t.heights) (layer_index M t invalid_height)
  -- Where it is 32, its index is the first wrong curve value.
  pub value : layer_number M t ≡ invalid_curve_value
      → Least (right curve_asked (literal 0 1) t.curve) (length t.curve) (layer_index M t invalid_curve_value)
  -- Every other number has the index 0.
  pub other : (number : ℕ) → (number ≡ invalid_endpoint → ⊥) → (number ≡ invalid_height → ⊥) → (number ≡ invalid_curve_value → ⊥)
      → layer_index M t number ≡ 0

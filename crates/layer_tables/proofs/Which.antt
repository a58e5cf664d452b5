-- The claim of specs/Which: the number says which list is bad, and the index which entry of it is the first wrong one.
use mathlib.Core.Path.{◌≡◌}
use mathlib.Core.Bool.{Bool}
use Prim.Native.Nat.{ℕ, ◌<◌, zero-le}
use native.Mathlib.Omega.{arith}
use borrow.Author.Tests.{ne_eqb}
use lib.ListN.{length}
use Rattle.distr.specs.Constants.{literal, invalid_endpoint, invalid_height, invalid_curve_value}
use Rattle.distr.specs.Layered.{Layers}
use Rattle.distr.specs.FirstWrong.{endpoints_asked, heights_asked, curve_asked, right, first_not}
use Rattle.distr.specs.Numbers.{layer_index}
use Rattle.distr.proofs.FirstWrong.{first-not, layer-numbers, layer-good, good-layer}
use Rattle.layer_tables.specs.Which.{Least, WhichList}

-- the first that is not right, where there is one
least : (right : ℕ → Bool) (n : ℕ) → first_not right 0 n < n → Least right n (first_not right 0 n)
least right n h =
    let x = first-not right 0 n in
    record { below = h; wrong = x.wrong (omega arith); earlier = λ k u. x.earlier k zero-le u }

pub which_list : (M : ℕ) (t : Layers) → WhichList M t
unfolding layer_index
which_list M t = record {
  taken = good-layer M t;
  unnumbered = layer-good M t;
  endpoint =
      layer-numbers M t
      (λ n. n ≡ invalid_endpoint → Least endpoints (length t.endpoints) (layer_index M t invalid_endpoint))
      (λ g e. absurd (omega arith)) (λ e. absurd (omega arith)) (λ h e. least endpoints (length t.endpoints) h) (λ h e. absurd (omega arith))
      (λ h e. absurd (omega arith));
  height =
      layer-numbers M t
      (λ n. n ≡ invalid_height → Least heights (length t.heights) (layer_index M t invalid_height))
      (λ g e. absurd (omega arith)) (λ e. absurd (omega arith)) (λ h e. absurd (omega arith)) (λ h e. least heights (length t.heights) h)
      (λ h e. absurd (omega arith));
  value =
      layer-numbers M t
      (λ n. n ≡ invalid_curve_value → Least curve (length t.curve) (layer_index M t invalid_curve_value))
      (λ g e. absurd (omega arith)) (λ e. absurd (omega arith)) (λ h e. absurd (omega arith)) (λ h e. absurd (omega arith))
      (λ h e. least curve (length t.curve) h);
  other = λ k a b c. rw (ne_eqb k invalid_endpoint a, ne_eqb k invalid_height b, ne_eqb k invalid_curve_value c);
}
  where
    endpoints : ℕ → Bool
    endpoints = right (endpoints_asked M) 0 t.endpoints

    heights : ℕ → Bool
    heights = right heights_asked (literal 0 1) t.heights

    curve : ℕ → Bool
    curve = right curve_asked (literal 0 1) t.curve

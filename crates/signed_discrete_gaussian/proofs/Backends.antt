-- The support decides which backend serves: its draw is that of the definitions.
use mathlib.Core.Path.{◌≡◌, ◌∙◌}
use mathlib.Core.Bool.{not}
use mathlib.Core.List.{List}
use Prim.Native.Nat.{ℕ, ◌<◌, ◌≤◌}
use native.Mathlib.Omega.{arith}
use borrow.Author.Tests.{le-leb, lt-leb}
use lib.ListN.{length}
use lib.IntN.{ℤ}
use lib.Ieee.{Float}
use Rattle.distr.specs.Gaussian.{cumulative, cumulative_table}
use Rattle.distr.specs.Layered.{layered}
use Rattle.distr.specs.Distribution.{Tables, gaussian_read}
use Rattle.distr.specs.Making.{refuse}
use Rattle.distr.specs.Numbers.{layer_number, layer_index, gaussian_table}
use Rattle.distr.specs.Rule.{read_by}
use Rattle.distr.specs.Draw.{Outcome, naming, read_draw, rule_draw}
use Rattle.distr.proofs.FirstWrong.{layer_unnamed}
use Rattle.draw_laws.proofs.Small.{refuse-below}
use Rattle.draw_laws.proofs.Naming.{read_named}

module _ {A : Type 0} (write : List ℤ → List A) (deviation : Float) (M : ℕ) (tables : Tables) (words : List ℕ) (place : ℕ) (out : List A) where
  -- the draw of the backend is the Gaussian's
  pub draw-small : (o : Outcome A) → M ≤ 255
      → o ≡ rule_draw write (refuse (not (cumulative_table M tables.bounds)) 12) (cumulative M tables.bounds (length out)) words place out
      → o ≡ naming (layer_index M tables.layers) (read_draw write (gaussian_table M tables) (λ ws. gaussian_read deviation M tables (length out) ws) words place out)
  unfolding rule_draw
  draw-small o h e =
      let own = refuse (not (cumulative_table M tables.bounds)) 12 in
      e
      ∙ read_named (layer_index M tables.layers) (layer_unnamed M tables.layers) write own (read_by (cumulative M tables.bounds (length out))) words place
      out (refuse-below (not (cumulative_table M tables.bounds)) 12 (omega arith))
      ∙ simp (le-leb M 255 h)

  pub draw_large : (o : Outcome A) → 255 < M
      → o ≡ naming (layer_index M tables.layers) (read_draw write (layer_number M tables.layers) (λ ws. layered deviation tables.layers (length out) ws) words place out)
      → o ≡ naming (layer_index M tables.layers) (read_draw write (gaussian_table M tables) (λ ws. gaussian_read deviation M tables (length out) ws) words place out)
  draw_large o h e = e ∙ simp (lt-leb M 255 h)

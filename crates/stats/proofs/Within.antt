-- Counting the magnitudes within a limit that is below half the modulus.
use Rattle.std.proofs.Common.{◌≡◌, ℕ, ◌+◌, ◌-◌, ◌/◌, ◌<◌, ◌≤◌, true, List, map, length, get_or, take, set, sym, ap, ◌∙◌, add-one, arith, take_all}
use lib.ListN.{length-map, get_or-map}
use Rattle.distr.proofs.Writing.{written, written_more}
use Rattle.stats.specs.Centered.{centered_all, how_many_within, all_below}
use Rattle.stats.specs.Sums.{total, at_most, size_of}
use Rattle.stats.proofs.Totals.{total_more}
use Rattle.stats.proofs.Below.{below_at}
use Rattle.stats.proofs.Centering.{at_most-few, within_sides, within-is}

module _ (rs : List ℕ) (modulus limit : ℕ) where
  -- those of the first i residues are counted
  pub record Counted (i count : ℕ) : Type 0 where
    pub few : count ≤ i
    pub counts : count ≡ total (λ r. at_most (size_of modulus r) limit) (take i rs)

  pub counted_none : Counted 0 0
  unfolding total
  counted_none = record { few = omega arith; counts = omega arith }

  module _ (below : all_below modulus rs ≡ true) (less : limit < modulus / 2) {i count : ℕ} (c : Counted i count) (h : i < length rs) where
    -- a residue is counted from one side at most
    one_side : at_most (size_of modulus (get_or rs i 0)) limit ≡ at_most (get_or rs i 0) limit + at_most (modulus - limit) (get_or rs i 0)
    one_side = within_sides modulus (get_or rs i 0) limit (below_at modulus rs i below h) less

    pub counted_more : {a b : ℕ} → a ≡ at_most (get_or rs i 0) limit → b ≡ at_most (modulus - limit) (get_or rs i 0)
        → Counted (i + 1) (count + (a + b))
    counted_more {a} {b} p q = record {
      few = omega (arith, c.few, p, q, one_side, at_most-few (size_of modulus (get_or rs i 0)) limit);
      counts = omega (arith, c.counts, p, q, one_side, total_more (λ r. at_most (size_of modulus r) limit) rs i h);
    }

  pub counted-all : {i count : ℕ} → Counted i count → length rs ≤ i → count ≡ how_many_within limit (centered_all modulus rs)
  counted-all {i} c h =
      c.counts
      ∙ ap (total (λ r. at_most (size_of modulus r) limit)) (take_all i rs h)
      ∙ sym (within-is modulus limit rs)

-- The counts, one limit after the other.
module _ (f : ℕ → ℕ) (limits counts₀ : List ℕ) (same : length counts₀ ≡ length limits) where
  pub record Listed (i : ℕ) (counts : List ℕ) : Type 0 where
    pub listed : counts ≡ written (map f limits) i counts₀

  pub listed_more : {i v : ℕ} {counts : List ℕ} → i < length limits → Listed i counts → v ≡ f (get_or limits i 0)
      → Listed (i + 1) (set counts i v)
  listed_more {i} {v} h l e =
      record {
        listed =
            rw (l.listed, e ∙ sym (get_or-map f limits i 0), add-one i)
            (written_more (map f limits) counts₀ i (f 0) (rw length-map h) (rw same h));
      }

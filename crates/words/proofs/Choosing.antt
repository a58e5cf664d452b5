-- The words that a choice looks at one after the other: so much is chosen, and passed over, from the words left at i and from those left at first.
use mathlib.Core.Path.{◌≡◌, refl, sym, ◌∙◌}
use mathlib.Core.List.{List}
use Prim.Native.Nat.{ℕ, suc, ◌+◌, ◌-◌, ◌%◌, ◌^◌, ◌<◌, ◌≤◌}
use native.Mathlib.Nat.{le_refl, mul-zero, div-eq_of_lt}
use native.Mathlib.Numerals.{add-one}
use native.Mathlib.Omega.{arith}
use lib.Dec.{lt→ltb, le→leb}
use lib.ListN.{length, get_or, drop}
use Rattle.std.specs.Prelude.{Some, None}
use Rattle.distr.specs.Words.{choose}
use Rattle.distr.specs.Skipped.{passed_over}
use Rattle.distr.proofs.Reading.{choose_accept, choose_skip, choose-end, passed_accept, passed_skip}
use Rattle.words.specs.Reading.{taken}
use Rattle.words.proofs.Places.{taken_at, taken_none, choose_none}
use Rattle.words.proofs.Runs.{run_accepted, run_skipped}

pub record Same (ws : List ℕ) (place k i : ℕ) : Type 0 where
  pub later : place ≤ i
  pub reads : choose k (drop i ws) ≡ choose k (drop place ws)
  pub counts : passed_over k (drop place ws) ≡ (i - place) + passed_over k (drop i ws)

module _ (ws : List ℕ) (place k : ℕ) where
  pub same_first : Same ws place k place
  same_first = record { later = le_refl _; reads = refl; counts = omega arith }

  -- a choice among none, or among more than there are words
  pub none_fits : (i : ℕ) → k ≡ 0 → None ≡ taken (length ws) (passed_over k (drop i ws)) (choose k (drop i ws))
  none_fits i e = taken_none ws _ _ (choose_none k (drop i ws) (rw e))

  pub too_many : (i : ℕ) → 2 ^ 32 < k → None ≡ taken (length ws) (passed_over k (drop i ws)) (choose k (drop i ws))
  too_many i h = taken_none ws _ _ (choose_none k (drop i ws) (rw (div-eq_of_lt h) (mul-zero k)))

  module _ (i : ℕ) (same : Same ws place k i) where
    pub same_last : length ws ≤ i → None ≡ taken (length ws) (passed_over k (drop place ws)) (choose k (drop place ws))
    same_last h = taken_none ws _ _ (sym same.reads ∙ choose-end k i ws h)

    module _ (r : ℕ) (some : 0 < k) (few : k ≤ 2 ^ 32) (inside : i < length ws) (rest : r ≡ get_or ws i 0 % k) where
      pub same_taken : get_or ws i 0 - r ≤ 2 ^ 32 - k
          → Some (record { value = r; place = i + 1; skipped = i - place }) ≡ taken (length ws) (passed_over k (drop place ws)) (choose k (drop place ws))
      same_taken h =
          let w = get_or ws i 0 in
          let below = lt→ltb w _ (run_accepted (2 ^ 32) k w some few (rw rest at h)) in
          let passed : i - place ≡ passed_over k (drop place ws) = omega (arith, same.counts, passed_accept k i ws inside below) in
          rw (passed, rest, add-one i) (taken_at ws (suc i) (w % k) _ (omega arith) (sym same.reads ∙ choose_accept k i ws inside below))

      pub same_next : 2 ^ 32 - k < get_or ws i 0 - r → Same ws place k (i + 1)
      same_next h =
          let w = get_or ws i 0 in
          let above = le→leb _ w (run_skipped (2 ^ 32) k w some few (rw rest at h)) in
          rw (add-one i)
          (record {
            later = omega (arith, same.later);
            reads = sym (choose_skip k i ws inside above) ∙ same.reads;
            counts = omega (arith, same.later, same.counts, passed_skip k i ws inside above);
          })

-- Whether a proposal passes, case by case: inside the layer above, zero, and on the edge; and how many words each case reads.
use mathlib.Core.Path.{◌≡◌}
use mathlib.Core.Bool.{Bool, true, false, cond}
use mathlib.Core.List.{List}
use Prim.Native.Nat.{ℕ, suc, ◌+◌, ◌-◌, ◌*◌, ◌^◌, ◌<◌, ◌≤◌}
use native.Mathlib.Nat.{ne_of_lt, add-zero}
use native.Mathlib.Numerals.{add-one, add-two}
use native.Mathlib.Omega.{arith}
use lib.Dec.{T, leb, ltb, eqb}
use borrow.Author.Tests.{ne_eqb}
use lib.ListN.{length, get_or, drop}
use lib.Ieee.{Float, nan, le}
use Rattle.distr.specs.Constants.{literal}
use Rattle.distr.specs.Words.{got, short, map_read, word, wide, chance}
use Rattle.distr.specs.Layered.{Layers, x, float, accepts, zero_threshold, judge, layer_tables}
use Rattle.distr.specs.declared.threshold.Threshold.{Threshold}
use Rattle.words.specs.Reading.{threshold_value}
use Rattle.words.proofs.Places.{word-there, word_missing, wide-there, wide_missing}
use Rattle.distr.proofs.FirstWrong.{get_d_there}
use Rattle.edge.specs.declared.Layer.{Layer}
use Rattle.edge.specs.Edge.{layer_at, accepts_on}
use Rattle.edge.proofs.Accepting.{same-accepts}
use Rattle.ziggurat.specs.Tables.{tables}
use Rattle.ziggurat.specs.Sampling.{OnLayer, OnTables, is_inside, judge_edge, edge_words}
use Rattle.ziggurat.proofs.LayerTables.{inner-small, magnitude-there, height-there}
use Rattle.ziggurat.proofs.Floats.{float_le}

-- a layer as it is read out of the tables
pub layer_read : (endpoints : List ℕ) (heights curve : List Float) (i : ℕ) (top : Float) → 0 < i → i < length heights
    → top ≡ cond (eqb i 1) (literal 1 1) (get_or heights (i - 1) nan)
    → record {
      left = float (get_or endpoints (i - 1) 0);
      right = float (get_or endpoints i 0);
      above = get_or heights (i - 1) nan;
      below = get_or heights i nan;
      top = top;
    } ≡ layer_at (tables endpoints heights curve) i
layer_read endpoints heights curve i top some there start =
    rw (get_d_there heights i nan (literal 0 1) there, start, get_d_there heights (i - 1) nan (literal 0 1) (omega arith))

-- the words that the judging reads: one on the edge; for zero two, none by the full threshold
module _ (k m : ℕ) where
  pub edge_word : (m ≡ 0 → ⊥) → edge_words k m ≡ 1
  unfolding edge_words
  edge_word some = rw (ne_eqb m 0 some)

  pub full_words : m ≡ 0 → k ≡ 2 ^ 64 → edge_words k m ≡ 0
  unfolding edge_words
  full_words e f = rw (e, f)

  pub zero_words : m ≡ 0 → k < 2 ^ 64 → edge_words k m ≡ 2
  unfolding edge_words
  zero_words e h = rw (e, ne_eqb k (2 ^ 64) (ne_of_lt h))

-- so many are there: those of zero where its threshold is not full, and the one of the edge
module _ (z : Threshold) (m place : ℕ) (ws : List ℕ) (there : place + edge_words (threshold_value z) m ≤ length ws) where
  pub both_there : m ≡ 0 → z.full ≡ false → z.below < 2 ^ 64 → place + 1 < length ws
  both_there e f h = omega (arith, zero_words (threshold_value z) m e (rw f h))

  pub low_there : m ≡ 0 → z.full ≡ false → z.below < 2 ^ 64 → place < length ws
  low_there e f h = omega (arith, both_there e f h)

  pub one_there : (m ≡ 0 → ⊥) → place < length ws
  one_there some = omega (arith, edge_word (threshold_value z) m some)

  -- the judging at the edge by them: zero by its threshold, another by the test on its layer
  module _ (deviation : Float) (t : Layers) (i : ℕ) (same : threshold_value z ≡ zero_threshold t) where
    abbrev Judges : Bool → Type 0
    Judges r = judge_edge deviation t i m (drop place ws) ≡ got r (drop (place + edge_words (threshold_value z) m) ws)

    pub full_passes : m ≡ 0 → z.full ≡ true → Judges true
    unfolding judge_edge chance
    full_passes e f = rw (full_words (threshold_value z) m e (rw f), e, ← same, f, add-zero place)

    pub zero_passes : (wide : ℕ) → m ≡ 0 → z.full ≡ false → z.below < 2 ^ 64 → wide ≡ get_or ws place 0 + get_or ws (place + 1) 0 * 2 ^ 32
        → Judges (ltb wide z.below)
    unfolding judge_edge chance map_read
    zero_passes wide e f h w =
        let two : suc place < length ws = omega (arith, both_there e f h) in
        rw (zero_words (threshold_value z) m e (rw f h), e, ← same, f, ne_eqb z.below (2 ^ 64) (ne_of_lt h), wide-there ws place two, w, add-one place, add-two place)

    pub edge_passes : (l : Layer) (r : Bool) → (m ≡ 0 → ⊥) → m < length t.curve → l ≡ layer_at t i
        → r ≡ accepts_on deviation l (float m) (get_or t.curve m nan) (float (get_or ws place 0)) → Judges r
    unfolding judge_edge map_read
    edge_passes l r some value here accepts =
        rw (
          edge_word (threshold_value z) m some,
          ne_eqb m 0 some,
          word-there ws place (one_there some),
          add-one place,
          accepts,
          here,
          get_d_there t.curve m nan (literal 0 1) value,
          same-accepts t i deviation m (get_or ws place 0),
        )

-- and where one of them lacks
module _ (deviation : Float) (t : Layers) (i m k : ℕ) (same : k ≡ zero_threshold t) (ws : List ℕ) (place : ℕ) where
  pub edge_lacks : place ≤ length ws → length ws < place + edge_words k m → judge_edge deviation t i m (drop place ws) ≡ short
  unfolding judge_edge chance map_read edge_words
  edge_lacks within h = rw (← same) (go (eqb m 0) (eqb k (2 ^ 64)) h)
    where
      go : (zero full : Bool) → length ws < place + cond zero (cond full 0 2) 1
          → cond zero (cond full (got true (drop place ws)) (map_read (λ w. ltb w k) (wide (drop place ws))))
          (map_read (λ u. accepts deviation t i m u) (word (drop place ws))) ≡ short
      go true true h = absurd (omega (arith, within))
      go true false h = rw (wide_missing ws place (omega arith))
      go false full h = rw (word_missing ws place (omega arith))

-- a trial on a layer of good tables
module _ (deviation : Float) (M : ℕ) (t : Layers) (ok : T (layer_tables M t)) (i m : ℕ) (on : OnLayer t.endpoints i m) where
  pub on-tables : OnTables t i m
  on-tables = record { on = on; inner = inner-small M t ok i m on; height = height-there M t ok i m on; value = magnitude-there M t ok i m on }

  -- both sides of the test are f64 exactly
  exact : le (float m) (x t (i - 1)) ≡ leb m (get_or t.endpoints (i - 1) 0)
  exact = float_le m (get_or t.endpoints (i - 1) 0) (omega (arith, on.below, on.small)) (omega (arith, inner-small M t ok i m on))

  pub judge_sides : (ws : List ℕ) → judge deviation t i m ws ≡ cond (is_inside t.endpoints i m) (got true ws) (judge_edge deviation t i m ws)
  unfolding judge_edge
  judge_sides ws = rw exact

-- A proposal from its three readings, and what a missing word makes of it.
use mathlib.Core.Path.{◌≡◌, refl, sym, ap, ◌∙◌}
use mathlib.Core.Bool.{Bool, true, false, cond, ◌||◌}
use mathlib.Core.List.{List, [], ◌∷◌}
use Prim.Native.Nat.{ℕ, suc, ◌+◌, ◌-◌, ◌*◌, ◌/◌, ◌%◌, ◌^◌, ◌<◌, ◌≤◌}
use native.Mathlib.Nat.{div-eq_of_lt, mul-zero, mod-lt}
use native.Mathlib.Numerals.{add-one, add-two}
use native.Mathlib.Omega.{arith}
use lib.Bits.{bit_and, and_mask}
use lib.Dec.{T, leb, ltb, eqb, lt→ltb, lit<}
use borrow.Author.Tests.{eqb-true, leb-true, leb-false, ltb-true, ltb-false}
use lib.ListN.{length, get_or, drop, length-drop, drop_of_length-le}
use mir.Syntax.{w32, w64}
use mir.Val.{Fits}
use mir.Facts.{Fits-widen}
use Rattle.distr.specs.Words.{Read, got, short, map_read, bind_read, word, choose, coin}
use Rattle.distr.specs.Skipped.{passed_over, passed_after}
use Rattle.distr.specs.Layered.{passed_try}
use Rattle.distr.proofs.Reading.{choose_accept, short-not-got, chose}
use Rattle.distr.proofs.Skipping.{choice_counts}
use Rattle.words.specs.declared.Taken.{Taken}
use Rattle.words.specs.Reading.{taken}
use Rattle.words.proofs.Places.{choose_none, coin-there}
use Rattle.words.proofs.Taking.{took_choice, chosen-below, taken-short}
use Rattle.std.proofs.Common.{Option, Some, None}
use Rattle.ziggurat.specs.Tables.{tables, layer_sizes}
use Rattle.ziggurat.specs.Sampling.{Proposed, propose, Proposes, OnLayer}

-- what holds of the three numbers of layers
by_size : (P : ℕ → Type 0) → P 128 → P 256 → P 512 → (R : ℕ) → T (eqb R 128 || eqb R 256 || eqb R 512) → P R
by_size P p q r R t = go (eqb R 128) (eqb R 256) (eqb R 512) refl refl refl t
  where
    go : (a b c : Bool) → eqb R 128 ≡ a → eqb R 256 ≡ b → eqb R 512 ≡ c → T (a || b || c) → P R
    go true b c e f g h = rw (eqb-true R 128 e) p
    go false true c e f g h = rw (eqb-true R 256 f) q
    go false false true e f g h = rw (eqb-true R 512 g) r
    go false false false e f g h = absurd h

-- the choice of a layer skips no word, and its remainder is a mask
masks : (w R : ℕ) → T (eqb R 128 || eqb R 256 || eqb R 512) → (0 < R) × (R * (2 ^ 32 / R) ≡ 2 ^ 32) × (w % R ≡ bit_and w (R - 1))
masks w = by_size (λ R. (0 < R) × (R * (2 ^ 32 / R) ≡ 2 ^ 32) × (w % R ≡ bit_and w (R - 1)))
    (lit< tt, refl, sym (and_mask w 7)) (lit< tt, refl, sym (and_mask w 8)) (lit< tt, refl, sym (and_mask w 9))

-- the layer that a word chooses is one of the tables'
module _ (endpoints : List ℕ) (w : ℕ) (sizes : T (layer_sizes endpoints)) where
  some-layer : 0 < length endpoints - 1
  some-layer = (masks w (length endpoints - 1) sizes).0

  mask : w % (length endpoints - 1) ≡ bit_and w (length endpoints - 2)
  mask =
      let less : length endpoints - 1 - 1 ≡ length endpoints - 2 = omega arith in
      rw less at (masks w (length endpoints - 1) sizes).2

  pub layer-there : bit_and w (length endpoints - 2) + 1 < length endpoints
  layer-there = omega (arith, mod-lt w {m = length endpoints - 1} some-layer, mask, some-layer)

pub two_endpoints : (endpoints : List ℕ) → T (layer_sizes endpoints) → 2 ≤ length endpoints
two_endpoints endpoints sizes = omega (arith, layer-there endpoints 0 sizes)

pub layer_fits : (endpoints : List ℕ) (w : ℕ) → T (layer_sizes endpoints) → length endpoints * 8 < 2 ^ 63
    → Fits w64 (bit_and w (length endpoints - 2) + 1)
layer_fits endpoints w sizes room = record { fits = omega (arith, layer-there endpoints w sizes) }

-- a word has 32 bits
pub word_fits : (ws : List ℕ) (i : ℕ) → ((j : ℕ) → Fits w32 (get_or ws j 0)) → Fits w64 (get_or ws i 0)
word_fits ws i each = Fits-widen tt (each i)

-- a choice among more than 2^32 accepts no word, so what is chosen has 32 bits too
choose_far : (k : ℕ) (ws : List ℕ) → 2 ^ 32 < k → choose k ws ≡ short
choose_far k ws h = choose_none k ws (rw (div-eq_of_lt h) (mul-zero k))

among_few : (k m : ℕ) (ws rest : List ℕ) → choose k ws ≡ got m rest → k ≤ 2 ^ 32
among_few k m ws rest e = go (leb k (2 ^ 32)) refl
  where
    go : (b : Bool) → leb k (2 ^ 32) ≡ b → k ≤ 2 ^ 32
    go true t = leb-true k (2 ^ 32) t
    go false t = absurd (short-not-got (sym (choose_far k ws (leb-false k (2 ^ 32) t)) ∙ e))

pub magnitude_fits : (ws : List ℕ) (i k : ℕ) {r : Taken} → Some r ≡ taken (length ws) (passed_over k (drop i ws)) (choose k (drop i ws)) → Fits w32 r.value
magnitude_fits ws i k {r} told =
    let few = among_few k r.value (drop i ws) (drop r.place ws) (took_choice ws i k told).reads in
    record { fits = omega (arith, chosen-below ws i k told) }

-- the choice up to an endpoint where the number of choices wraps: it wraps to 0 from 2^64, and among neither is a word accepted
wrapped : (end k : ℕ) (ws : List ℕ) → Fits w64 end → k ≡ (end + 1) % 2 ^ 64 → choose k ws ≡ choose (suc end) ws
wrapped end k ws fits wraps = go (ltb (suc end) (2 ^ 64)) refl
  where
    go : (b : Bool) → ltb (suc end) (2 ^ 64) ≡ b → choose k ws ≡ choose (suc end) ws
    go true t = ap (λ (n : ℕ). choose n ws) (omega (arith, ltb-true (suc end) (2 ^ 64) t))
    go false t =
        let far : 2 ^ 64 ≤ suc end = ltb-false (suc end) (2 ^ 64) t in
        let none : k ≡ 0 = omega arith in
        choose_none k ws (rw none) ∙ sym (choose_far (suc end) ws (omega arith))

module _ (endpoints ws : List ℕ) (place : ℕ) where
  -- with fewer than two words left a layer or a sign lacks one
  few : (xs : List ℕ) → length xs < 2 → propose endpoints xs ≡ short
  unfolding propose bind_read choose coin word map_read
  few [] h = refl
  few (w ∷ []) h = go (ltb w ((length endpoints - 1) * (2 ^ 32 / (length endpoints - 1)))) (w % (length endpoints - 1)) _ (λ a. refl)
    where
      go : (b : Bool) (v : ℕ) (next : ℕ → List ℕ → Read Proposed) → ((a : ℕ) → next a [] ≡ short) → bind_read (cond b (got v []) short) next ≡ short
      go true v next none = none v
      go false v next none = refl
  few (w ∷ v ∷ xs) h = absurd (omega arith)

  too_few : length ws - place < 2 → Proposes endpoints ws place None
  too_few h = record { reads = sym (few (drop place ws) (omega (arith, length-drop place ws))); sound = tt }

  abbrev chosen : ℕ
  chosen = bit_and (get_or ws place 0) (length endpoints - 2)

  abbrev end : ℕ
  end = get_or endpoints (chosen + 1) 0

  -- two words give a layer and a sign
  module _ (sizes : T (layer_sizes endpoints)) (two : 2 ≤ length ws - place) (each : (i : ℕ) → Fits w32 (get_or ws i 0)) where
    layer : choose (length endpoints - 1) (drop place ws) ≡ got chosen (drop (suc place) ws)
    layer =
        let whole = (masks (get_or ws place 0) (length endpoints - 1) sizes).1 in
        choose_accept (length endpoints - 1) place ws (omega arith) (rw whole (lt→ltb (get_or ws place 0) (2 ^ 32) (each place).fits))
        ∙ ap (λ (c : ℕ). got c (drop (suc place) ws)) (mask endpoints (get_or ws place 0) sizes)

    tossed : coin (drop (suc place) ws) ≡ got (leb (2 ^ 31) (get_or ws (place + 1) 0)) (drop (place + 2) ws)
    tossed =
        rw (add-one place, add-two place) (coin-there ws (suc place) (leb (2 ^ 31) (get_or ws (suc place) 0)) (omega arith) refl)

    -- the layer's choice passes over none, so that a try passes over what the magnitude's does
    passes : passed_try (tables endpoints [] []) (drop place ws) ≡ passed_over (suc end) (drop (place + 2) ws)
    unfolding passed_try passed_after
    passes =
        let none = choice_counts (length endpoints - 1) (drop place ws) chosen (drop (suc place) ws) layer in
        rw (layer, tossed) (omega (arith, none, length-drop place ws, length-drop (suc place) ws))

    lacking : choose (suc end) (drop (place + 2) ws) ≡ short → Proposes endpoints ws place None
    unfolding propose bind_read map_read
    lacking e = record { reads = rw (layer, tossed, e); sound = tt }

    no_third : length ws - place < 3 → Proposes endpoints ws place None
    unfolding choose
    no_third h = lacking (rw (drop_of_length-le ws {i = place + 2} (omega arith)))

  -- a try with fewer than three words left lacks one
  pub few_words : T (layer_sizes endpoints) → ((i : ℕ) → Fits w32 (get_or ws i 0)) → length ws - place < 3 → Proposes endpoints ws place None
  few_words sizes each h = go (leb 2 (length ws - place)) refl
    where
      go : (b : Bool) → leb 2 (length ws - place) ≡ b → Proposes endpoints ws place None
      go true t = no_third sizes (leb-true 2 (length ws - place) t) each h
      go false t = too_few (leb-false 2 (length ws - place) t)

  -- the third gives the magnitude
  module _ (sizes : T (layer_sizes endpoints)) (three : 3 ≤ length ws - place) (each : (i : ℕ) → Fits w32 (get_or ws i 0)) where
    two : 2 ≤ length ws - place
    two = omega arith

    -- the magnitude, as it was taken by a choice among k, which is one more than the endpoint, and wraps
    module _ (k : ℕ) (fits : (i : ℕ) → Fits w64 (get_or endpoints i 0)) (wraps : k ≡ (end + 1) % 2 ^ 64) where
      same : choose k (drop (place + 2) ws) ≡ choose (suc end) (drop (place + 2) ws)
      same = wrapped end k (drop (place + 2) ws) (fits (chosen + 1)) wraps

      abbrev told : Option Taken
      told = taken (length ws) (passed_over k (drop (place + 2) ws)) (choose k (drop (place + 2) ws))

      pub no_magnitude : None ≡ told → Proposes endpoints ws place None
      no_magnitude e = lacking sizes two each (sym same ∙ taken-short (length ws) (passed_over k (drop (place + 2) ws)) _ e)

      pub all_three : {r : Taken} → Some r ≡ told
          → Proposes endpoints ws place (Some (record { layer = chosen + 1; positive = leb (2 ^ 31) (get_or ws (place + 1) 0); magnitude = r.value; place = r.place }))
      unfolding propose bind_read map_read
      all_three {r} e =
          let took = took_choice ws (place + 2) k e in
          let read : choose (suc end) (drop (place + 2) ws) ≡ got r.value (drop r.place ws) = sym same ∙ took.reads in
          let few = among_few (suc end) r.value (drop (place + 2) ws) (drop r.place ws) read in
          let on : OnLayer endpoints (chosen + 1) r.value = record {
            some = omega arith;
            there = layer-there endpoints (get_or ws place 0) sizes;
            below = omega (arith, (chose (suc end) (drop (place + 2) ws) r.value (drop r.place ws) read).below);
            small = omega arith;
          } in
          let count = choice_counts (suc end) (drop (place + 2) ws) r.value (drop r.place ws) read in
          record {
            reads = rw (layer sizes two each, tossed sizes two each, read);
            sound =
                (on, omega (arith, count, passes sizes two each, length-drop (place + 2) ws, length-drop r.place ws, took.within), took.within);
          }

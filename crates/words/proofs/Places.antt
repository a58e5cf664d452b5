-- What is read at a place of the words, and the place after it.
use mathlib.Core.Path.{◌≡◌, refl, ap}
use mathlib.Core.Bool.{Bool, false}
use mathlib.Core.List.{List, [], ◌∷◌}
use Rattle.std.specs.Prelude.{Option, Some, None}
use Prim.Native.Nat.{ℕ, suc, ◌+◌, ◌-◌, ◌*◌, ◌/◌, ◌^◌, ◌<◌, ◌≤◌}
use native.Mathlib.Nat.{ne_of_lt}
use native.Mathlib.Numerals.{add-one, add-two}
use native.Mathlib.Omega.{arith}
use lib.Dec.{leb, ltb}
use borrow.Author.Tests.{le-ltb, ne_eqb}
use lib.ListN.{length, get_or, take, drop, length-drop, drop_of_length-le}
use lib.Seq.{drop-cons}
use borrow.Author.Rules.{part_to_end}
use Rattle.std.proofs.lemmas.List.{get_or_read}
use Rattle.distr.specs.Words.{Read, got, short, map_read, word, wide, choose, coin, chance}
use Rattle.distr.specs.declared.threshold.Threshold.{Threshold}
use Rattle.words.specs.declared.Taken.{Taken}
use Rattle.words.specs.declared.Told.{Told}
use Rattle.words.specs.Reading.{taken, told, told_chance}

wide-few : (ws : List ℕ) → length ws < 2 → wide ws ≡ short
unfolding wide
wide-few [] h = refl
wide-few (w ∷ []) h = refl
wide-few (w ∷ x ∷ ws) h = absurd (omega arith)

-- a test of the value that was taken is told with its place
abbrev pub tested : (ℕ → Bool) → Option Taken → Option Told
tested test (Some t) = Some (record { yes = test t.value; place = t.place })
tested test None = None

pub tested_told : (count skipped : ℕ) (test : ℕ → Bool) (r : Read ℕ) → tested test (taken count skipped r) ≡ told count (map_read test r)
unfolding taken told map_read
tested_told count skipped test (got v rest) = refl
tested_told count skipped test short = refl

-- a coin tests a word
coin_told : (count : ℕ) (ws : List ℕ) {t : Option Taken} → t ≡ taken count 0 (word ws) → tested (λ w. leb (2 ^ 31) w) t ≡ told count (coin ws)
unfolding coin
coin_told count ws e = rw e (tested_told count 0 (λ w. leb (2 ^ 31) w) (word ws))

pub coin_some : (count : ℕ) (ws : List ℕ) (t : Taken) → Some t ≡ taken count 0 (word ws)
    → Some (record { yes = leb (2 ^ 31) t.value; place = t.place }) ≡ told count (coin ws)
coin_some count ws t e = coin_told count ws e

pub coin_none : (count : ℕ) (ws : List ℕ) → None ≡ taken count 0 (word ws) → None ≡ told count (coin ws)
coin_none count ws e = coin_told count ws e

-- a threshold that is not full tests a 64-bit word
chance_told : (words : List ℕ) (place : ℕ) (t : Threshold) {r : Option Taken} → t.full ≡ false → t.below < 2 ^ 64 → r ≡ taken (length words) 0 (wide (drop place words))
    → tested (λ w. ltb w t.below) r ≡ told_chance words place t
unfolding told_chance chance
chance_told words place t part h e =
    rw (part, ne_eqb t.below (2 ^ 64) (ne_of_lt h), e) (tested_told (length words) 0 (λ w. ltb w t.below) (wide (drop place words)))

pub chance_some : (words : List ℕ) (place : ℕ) (t : Threshold) (r : Taken) → t.full ≡ false → t.below < 2 ^ 64 → Some r ≡ taken (length words) 0 (wide (drop place words))
    → Some (record { yes = ltb r.value t.below; place = r.place }) ≡ told_chance words place t
chance_some words place t r part h e = chance_told words place t part h e

pub chance_none : (words : List ℕ) (place : ℕ) (t : Threshold) → t.full ≡ false → t.below < 2 ^ 64 → None ≡ taken (length words) 0 (wide (drop place words))
    → None ≡ told_chance words place t
chance_none words place t part h e = chance_told words place t part h e

-- no word is below 0, so a choice that no word can give reads them all
pub choose_none : (k : ℕ) (ws : List ℕ) → k * (2 ^ 32 / k) ≡ 0 → choose k ws ≡ short
unfolding choose
choose_none k [] e = refl
choose_none k (w ∷ ws) e = rw (le-ltb w (k * (2 ^ 32 / k)) (omega (arith, e))) (choose_none k ws e)

module _ (ws : List ℕ) where
  -- the words left from i on begin at i
  pub place_of : (i : ℕ) → i ≤ length ws → length ws - length (drop i ws) ≡ i
  place_of i h = omega (arith, length-drop i ws)

  -- the words from a place on, as a slice of them is lent: those that are left there, and what is left of them begins so much later
  abbrev pub lent_from : ℕ → List ℕ
  lent_from place = take (length ws - place) (drop place ws)

  pub lent-all : (place : ℕ) → lent_from place ≡ drop place ws
  lent-all place = part_to_end ws place

  pub lent-place : (place i : ℕ) → place ≤ length ws → i ≤ length (lent_from place) → length ws - length (drop i (lent_from place)) ≡ place + i
  lent-place place i h k = omega (arith, length-drop i (lent_from place), ap length (lent-all place), length-drop place ws)

  pub word-there : (i : ℕ) → i < length ws → word (drop i ws) ≡ got (get_or ws i 0) (drop (suc i) ws)
  unfolding word
  word-there i h = rw (drop-cons ws i 0 h)

  pub word_missing : (i : ℕ) → length ws ≤ i → word (drop i ws) ≡ short
  unfolding word
  word_missing i h = rw (drop_of_length-le ws h)

  pub wide-there : (i : ℕ) → suc i < length ws → wide (drop i ws) ≡ got (get_or ws i 0 + get_or ws (suc i) 0 * 2 ^ 32) (drop (suc (suc i)) ws)
  unfolding wide
  wide-there i h = rw (drop-cons ws i 0 (omega arith), drop-cons ws (suc i) 0 h)

  pub wide_missing : (i : ℕ) → length ws ≤ suc i → wide (drop i ws) ≡ short
  wide_missing i h = wide-few (drop i ws) (omega (arith, length-drop i ws))

  pub coin-there : (i : ℕ) (b : Bool) → i < length ws → leb (2 ^ 31) (get_or ws i 0) ≡ b → coin (drop i ws) ≡ got b (drop (suc i) ws)
  unfolding coin map_read
  coin-there i b h e = rw (word-there i h, e)

  -- a reading that leaves the words from i on hands back the place i
  pub taken_at : {s : ℕ} (i v : ℕ) (r : Read ℕ) → i ≤ length ws → r ≡ got v (drop i ws)
      → Some (record { value = v; place = i; skipped = s }) ≡ taken (length ws) s r
  unfolding taken
  taken_at i v r h e = rw (e, place_of i h)

  pub taken_none : (s : ℕ) (r : Read ℕ) → r ≡ short → None ≡ taken (length ws) s r
  unfolding taken
  taken_none s r e = rw e

  -- what the functions hand back where the words are there, and where not
  pub next_some : (i w : ℕ) → i < length ws → w ≡ get_or ws i w → Some (record { value = w; place = i + 1; skipped = 0 }) ≡ taken (length ws) 0 (word (drop i ws))
  next_some i w h e =
      let here = get_or_read ws i w h e 0 in
      taken_at (i + 1) w (word (drop i ws)) (omega arith) (rw (add-one i, here) (word-there i h))

  pub next_none : (i : ℕ) → length ws ≤ i → None ≡ taken (length ws) 0 (word (drop i ws))
  next_none i h = taken_none 0 (word (drop i ws)) (word_missing i h)

  pub wide_some : (i w : ℕ) → suc i < length ws → w ≡ get_or ws i 0 + get_or ws (suc i) 0 * 2 ^ 32
      → Some (record { value = w; place = i + 2; skipped = 0 }) ≡ taken (length ws) 0 (wide (drop i ws))
  wide_some i w h e = taken_at (i + 2) w (wide (drop i ws)) (omega arith) (rw (add-two i, e) (wide-there i h))

  pub wide_none : (i : ℕ) → length ws ≤ suc i → None ≡ taken (length ws) 0 (wide (drop i ws))
  wide_none i h = taken_none 0 (wide (drop i ws)) (wide_missing i h)

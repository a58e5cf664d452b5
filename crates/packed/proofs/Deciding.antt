-- The whole answer of a draw by one rule: refused, short of words, or drawn, over how the output holds coefficients.
use mathlib.Core.Path.{◌≡◌, refl, sym, ap, ap₂, ◌∙◌}
use mathlib.Core.List.{List, [], ◌∷◌, ◌++◌, map}
use Prim.Native.Nat.{ℕ, zero, suc, ◌+◌, ◌-◌, ◌*◌, ◌/◌, ◌%◌, ◌^◌, ◌<◌, ◌≤◌, min}
use native.Mathlib.Nat.{mod-lt}
use native.Mathlib.Omega.{arith}
use borrow.Author.Tests.{le-leb, lt-leb}
use lib.ListN.{length, take, drop, replicate, length-drop}
use lib.IntN.{ℤ, pos}
use Rattle.distr.specs.Words.{Read, got, short, map_read}
use Rattle.distr.specs.Rule.{Rule, read_by}
use Rattle.distr.specs.Packed.{digits, split, packed}
use Rattle.distr.specs.UniformTernary.{bytes, rejected_bytes, uniform_ternary, trit_value}
use Rattle.distr.specs.Draw.{rule_draw}
use Rattle.distr.proofs.Reading.{many-word}
use Rattle.distr.proofs.Writing.{map_append, map-map, map-replicate, map-take}
use Rattle.distr.proofs.Drawing.{rule-got, rule-short}
use Rattle.numbers.proofs.Refusing.{draw_number, number_passed, rule-refused}
use Rattle.packed.specs.Tabled.{DrawsByTable}
use Rattle.packed.proofs.Packing.{enough}

-- the table's entries are the values of digits below the base
module _ {A : Type 0} (base : ℕ) (g h : ℕ → A) (positive : 0 < base) (same : (d : ℕ) → d < base → g d ≡ h d) where
  map-digits : (count x : ℕ) → map g (digits base count x) ≡ map h (digits base count x)
  unfolding digits
  map-digits zero x = refl
  map-digits (suc count) x = ap₂ (λ (a : A) (as' : List A). a ∷ as') (same (x % base) (mod-lt x positive)) (map-digits count (x / base))

  map-split : (count : ℕ) (xs : List ℕ) → map g (split base count xs) ≡ map h (split base count xs)
  unfolding split
  map-split count [] = refl
  map-split count (x ∷ xs) =
      map_append g (digits base count x) (split base count xs)
      ∙ ap₂ (λ (a b : List A). a ++ b) (map-digits count x) (map-split count xs)
      ∙ sym (map_append h (digits base count x) (split base count xs))

  map-taken : (n count : ℕ) (xs : List ℕ) → map g (take n (split base count xs)) ≡ map h (take n (split base count xs))
  map-taken n count xs =
      map-take g n (split base count xs) ∙ ap (take n) (map-split count xs) ∙ sym (map-take h n (split base count xs))

-- A draw by one rule, where no number refuses it.
module _ {A : Type 0} (write : List ℤ → List A) (f : ℤ → A) (writes : (cs : List ℤ) → write cs ≡ map f cs)
    (rule : Rule) (words : List ℕ) (place : ℕ) (out : List A) {k : ℕ} (number : k ≡ draw_number (length words) place (length out) 0) (good : k ≡ 0) where
  -- 23: the place stays, and the output is zeros
  lacking : {out' : List A} → read_by rule (drop place words) ≡ short → out' ≡ replicate (length out) (f (pos 0))
      → record { number = 23; place = place; index = 0; output = out' } ≡ rule_draw write 0 rule words place out
  lacking e o =
      let passed = number_passed (length words) place (length out) 0 number good in
      ap (λ (l : List A). record { number = 23; place = place; index = 0; output = l }) (o ∙ sym (map-replicate f (length out) (pos 0)) ∙ sym (writes _))
      ∙ sym (rule-short write 0 rule words place out passed.0 passed.1 refl e)

  -- 0: the place after the words read, and the coefficients as the output holds them
  filled : (cs : List ℤ) (rest : List ℕ) {out' : List A} {at : ℕ} → read_by rule (drop place words) ≡ got cs rest
      → at ≡ length words - length rest → out' ≡ map f cs → record { number = 0; place = at; index = 0; output = out' } ≡ rule_draw write 0 rule words place out
  filled cs rest e p o =
      let passed = number_passed (length words) place (length out) 0 number good in
      ap₂ (λ (j : ℕ) (l : List A). record { number = 0; place = j; index = 0; output = l }) p (o ∙ sym (writes cs))
      ∙ sym (rule-got write 0 rule words place out passed.0 passed.1 refl cs rest e)

-- Draws packed into m words: its number decides, and then the test of the words' number, whatever rule the entries hold the values of.
module _ {A : Type 0} (z : A) (entry : ℕ → A) (base each m : ℕ) (words : List ℕ) (place : ℕ) (out : List A)
    {k : ℕ} (number : k ≡ draw_number (length words) place (length out) 0) where
  pub table-refused : (k ≡ 0 → ⊥) → DrawsByTable z entry base each m words place out (record { number = k; place = place; index = 0; output = out })
  table-refused some = record {
    draws = λ write f value writes zeros agree. rule-refused write 0 words place out number (packed base each m (length out) value) some;
  }

  pub table_lacking : {out' : List A} → k ≡ 0 → length words - place < m → out' ≡ replicate (length out) z
      → DrawsByTable z entry base each m words place out (record { number = 23; place = place; index = 0; output = out' })
  unfolding map_read
  table_lacking good l o = record {
    draws = λ write f value writes zeros agree.
        lacking write f writes (packed base each m (length out) value) words place out number good
        (rw (many-word m (drop place words), lt-leb m (length (drop place words)) (rw (length-drop place words) (omega arith))))
        (o ∙ ap (replicate (length out)) zeros);
  }

  pub table_filled : {out' : List A} → k ≡ 0 → 0 < base → m ≤ length words - place → length out ≤ m * each
      → out' ≡ map entry (take (length out) (split base each (drop place words)))
      → DrawsByTable z entry base each m words place out (record { number = 0; place = place + m; index = 0; output = out' })
  unfolding map_read
  table_filled good b l fits o =
      let passed = number_passed (length words) place (length out) 0 number good in
      let n : ℕ = length out in
      let ws : List ℕ = drop place words in
      let there : m ≤ length ws = rw (length-drop place words) (omega arith) in
      record {
        draws = λ write f value writes zeros agree.
            filled write f writes (packed base each m n value) words place out number good
            (map value (take n (split base each (take m ws)))) (drop m ws)
            (rw (many-word m ws, le-leb m (length ws) there))
            (rw (length-drop m ws, length-drop place words) (omega arith))
            (o
            ∙ map-taken base entry (λ d. f (value d)) b agree n each ws
            ∙ ap (map (λ d. f (value d))) (sym (enough base each m n ws fits))
            ∙ sym (map-map f value (take n (split base each (take m ws)))));
      }

-- No trit is wanted: no word is read, and no byte is looked at.
none_read : (ws : List ℕ) → map_read (λ ds. map trit_value (take 0 (split 3 5 ds))) (bytes ws 0) ≡ got [] ws
unfolding map_read bytes split
none_read [] = refl
none_read (w ∷ ws) = refl

pub none_rejected : {n : ℕ} (ws : List ℕ) → n ≡ 0 → 0 ≡ min (rejected_bytes ws ((n + 4) / 5)) (2 ^ 64 - 1)
unfolding rejected_bytes
none_rejected [] e = refl
none_rejected (w ∷ ws) e = rw e

pub trits_none : {A : Type 0} (write : List ℤ → List A) (f : ℤ → A) → ((cs : List ℤ) → write cs ≡ map f cs)
    → (words : List ℕ) (place : ℕ) (out : List A) {k : ℕ} → k ≡ draw_number (length words) place (length out) 0 → k ≡ 0 → length out ≡ 0
    → record { number = 0; place = place; index = 0; output = out } ≡ rule_draw write 0 (uniform_ternary (length out)) words place out
trits_none write f writes words place [] number good none =
    let passed = number_passed (length words) place 0 0 number good in
    filled write f writes (uniform_ternary 0) words place [] number good [] (drop place words) (none_read (drop place words))
    (rw (length-drop place words) (omega arith)) refl
trits_none write f writes words place (x ∷ out) number good none = absurd (omega arith)

-- Trits out of bytes: where the reading of bytes stopped decides.
module _ {A : Type 0} (write : List ℤ → List A) (f : ℤ → A) (writes : (cs : List ℤ) → write cs ≡ map f cs)
    (words : List ℕ) (place : ℕ) (out : List A) {k : ℕ} (number : k ≡ draw_number (length words) place (length out) 0) (good : k ≡ 0)
    (entry : ℕ → A) where
  -- the digits of the bytes read, looked up in the table
  abbrev trits_read : Read (List ℕ) → Read (List A)
  trits_read r = map_read (λ ds. map entry (take (length out) (split 3 5 ds))) r

  abbrev bytes_read : Read (List ℕ)
  bytes_read = bytes (drop place words) ((length out + 4) / 5)

  pub trits_lacking : {out' : List A} → short ≡ trits_read bytes_read → out' ≡ replicate (length out) (f (pos 0))
      → record { number = 23; place = place; index = 0; output = out' } ≡ rule_draw write 0 (uniform_ternary (length out)) words place out
  unfolding map_read
  trits_lacking e o = lacking write f writes (uniform_ternary (length out)) words place out number good (go bytes_read e) o
    where
      go : (r : Read (List ℕ)) → short ≡ trits_read r → map_read (λ ds. map trit_value (take (length out) (split 3 5 ds))) r ≡ short
      go (got ds rest) p = let never : ◌≡◌ {A = ℕ} 0 1 = cc in absurd (omega arith)
      go short p = refl

  pub trits_filled : {out' : List A} {at : ℕ} → ((d : ℕ) → d < 3 → entry d ≡ f (trit_value d)) → at ≤ length words
      → got out' (drop at words) ≡ trits_read bytes_read
      → record { number = 0; place = at; index = 0; output = out' } ≡ rule_draw write 0 (uniform_ternary (length out)) words place out
  unfolding map_read
  trits_filled {out'} {at} agree h e = go bytes_read refl e
    where
      go : (r : Read (List ℕ)) → bytes_read ≡ r → got out' (drop at words) ≡ trits_read r
          → record { number = 0; place = at; index = 0; output = out' } ≡ rule_draw write 0 (uniform_ternary (length out)) words place out
      go (got ds rest) b p =
          let n : ℕ = length out in
          let held : ℕ → A = λ d. f (trit_value d) in
          let stopped : rest ≡ drop at words = cc in
          let looked-up : out' ≡ map entry (take n (split 3 5 ds)) = cc in
          filled write f writes (uniform_ternary n) words place out number good (map trit_value (take n (split 3 5 ds))) rest
          (ap (map_read (λ ds'. map trit_value (take n (split 3 5 ds')))) b)
          (rw (stopped, length-drop at words) (omega arith))
          (looked-up ∙ map-taken 3 entry held (omega arith) agree n 5 ds ∙ sym (map-map f trit_value (take n (split 3 5 ds))))
      go short b p = let never : ◌≡◌ {A = ℕ} 0 1 = cc in absurd (omega arith)

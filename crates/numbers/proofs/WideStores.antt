-- One 64-bit word an element: what a loop has stored after each turn, and what it has read at the end, over any element type and any value of a word.
use mathlib.Core.Path.{◌≡◌, refl, sym, ap, ap₂, ◌∙◌}
use mathlib.Core.List.{List, [], ◌∷◌, ◌++◌, map, append-nil}
use Prim.Native.Nat.{ℕ, zero, suc, ◌+◌, ◌*◌, ◌-◌, ◌^◌, ◌<◌, ◌≤◌}
use native.Mathlib.Nat.{zero-add, suc-add}
use native.Mathlib.Numerals.{add-one}
use native.Mathlib.Omega.{arith}
use lib.ListN.{length, get_or, take, drop, set, length-map, length-set, length-drop, drop_of_length-le, get_or-map}
use lib.Seq.{get_or-drop, drop-drop, length-take-le, take_at}
use borrow.Rule.Slice.PartMut.{mid_of, put_mid, mid_len}
use Rattle.distr.specs.Words.{got}
use Rattle.distr.proofs.Reading.{wides, length-wides, get_d_wides}
use Rattle.distr.proofs.Writing.{written, written_more, written_all, map_append}
use Rattle.numbers.specs.Answering.{wide_read}
use Rattle.numbers.proofs.WideDraws.{read_there}

-- the elements that the words from a place on give
abbrev elements : {A : Type 0} → (ℕ → A) → List ℕ → ℕ → ℕ → List A
elements value words place n = map value (wides n (drop place words))

-- the 64-bit word at a place
abbrev pub word_at : List ℕ → ℕ → ℕ
word_at words at = get_or words at 0 + get_or words (at + 1) 0 * 2 ^ 32

-- i words of 64 bits, and then the others
wides_join : (i k : ℕ) (ws : List ℕ) → wides (i + k) ws ≡ wides i ws ++ wides k (drop (2 * i) ws)
unfolding wides
wides_join zero k ws = ap (λ (j : ℕ). wides j ws) (zero-add k)
wides_join (suc i) k ws =
    ap (λ (j : ℕ). wides j ws) (suc-add i k)
    ∙ ap (λ (l : List ℕ). word_at ws 0 ∷ l)
    (wides_join i k (drop 2 ws)
    ∙ ap (λ (l : List ℕ). wides i (drop 2 ws) ++ wides k l) (drop-drop (2 * i) 2 ws ∙ ap (λ (j : ℕ). drop j ws) twice))
  where
    twice : 2 + 2 * i ≡ 2 * suc i
    twice = omega arith

-- after i turns the first i of them stand in the output
pub record Stored {A : Type 0} (value : ℕ → A) (words : List ℕ) (place : ℕ) (out : List A) (i : ℕ) (now : List A) : Type 0 where
  pub within : i ≤ length out
  pub same_length : length now ≡ length out
  pub front : now ≡ written (elements value words place (length out)) i out

module _ {A : Type 0} (value : ℕ → A) (words : List ℕ) (place : ℕ) (out : List A) where
  elements_count : (n : ℕ) → length (elements value words place n) ≡ n
  elements_count n = length-map (wides n (drop place words)) value ∙ length-wides n (drop place words)

  -- the first i elements, and then the others
  elements_join : (i n : ℕ) → i ≤ n → elements value words place n ≡ elements value words place i ++ elements value words (place + 2 * i) (n - i)
  elements_join i n h =
      ap (λ (j : ℕ). elements value words place j) {x = n} {y = i + (n - i)} (omega arith)
      ∙ ap (map value) (wides_join i (n - i) (drop place words))
      ∙ map_append value (wides i (drop place words)) (wides (n - i) (drop (2 * i) (drop place words)))
      ∙ ap (λ (l : List ℕ). elements value words place i ++ map value (wides (n - i) l)) (drop-drop (2 * i) place words)

  -- element i is given by the words at place + 2 * i
  element_at : (i at : ℕ) → i < length out → at ≡ place + 2 * i
      → get_or (elements value words place (length out)) i (value 0) ≡ value (word_at words at)
  element_at i at h e =
      get_or-map value (wides (length out) (drop place words)) i 0
      ∙ ap value (get_d_wides (length out) i (drop place words) h
      ∙ ap₂ (λ (a b : ℕ). a + b * 2 ^ 32) (from (2 * i) at (omega arith)) (from (2 * i + 1) (at + 1) (omega arith)))
    where
      from : (j k : ℕ) → place + j ≡ k → get_or (drop place words) j 0 ≡ get_or words k 0
      from j k q = get_or-drop place words j 0 ∙ ap (λ (l : ℕ). get_or words l 0) q

  pub stored_none : Stored value words place out 0 out
  stored_none = record { within = omega arith; same_length = refl; front = refl }

  -- a turn reads the word w and stores its value
  pub stored_more : {i at w : ℕ} {v : A} {now : List A} → Stored value words place out i now → i < length out → at ≡ place + 2 * i
      → w ≡ word_at words at → v ≡ value w → Stored value words place out (i + 1) (set now i v)
  stored_more {i} {at} {w} {v} {now} s h e p q = record {
    within = omega arith;
    same_length = length-set now i v ∙ s.same_length;
    front = ap₂ (λ (l : List A) (x : A). set l i x) s.front (q ∙ ap value p ∙ sym (element_at i at h e))
        ∙ written_more (elements value words place (length out)) out i (value 0) (rw (elements_count (length out)) h) h
        ∙ ap (λ (k : ℕ). written (elements value words place (length out)) k out) (sym (add-one i));
  }

  -- a turn reads four words, the first of them at `at`, and stores their values
  pub stored_four : {i at : ℕ} {a b c d : A} {now : List A} → Stored value words place out i now → i + 4 ≤ length out → at ≡ place + 2 * i
      → a ≡ value (word_at words at) → b ≡ value (word_at words (at + 2)) → c ≡ value (word_at words (at + 4)) → d ≡ value (word_at words (at + 6))
      → Stored value words place out (i + 4) (set (set (set (set now i a) (i + 1) b) (i + 2) c) (i + 3) d)
  stored_four {i} s h e p q r t =
      let one = stored_more s (omega arith) e refl p in
      let two = counted (i + 2) (omega arith) (stored_more one (omega arith) (omega arith) refl q) in
      let three = counted (i + 3) (omega arith) (stored_more two (omega arith) (omega arith) refl r) in
      counted (i + 4) (omega arith) (stored_more three (omega arith) (omega arith) refl t)
    where
      counted : {j : ℕ} {now : List A} (k : ℕ) → j ≡ k → Stored value words place out j now → Stored value words place out k now
      counted k e s = rw e at s

  -- all that is read
  reading : place + 2 * length out ≤ length words
      → wide_read value (length out) (drop place words) ≡ got (elements value words place (length out)) (drop (place + 2 * length out) words)
  reading enough =
      read_there value (length out) (drop place words) (rw (length-drop place words) (omega arith))
      ∙ ap (got (elements value words place (length out))) (drop-drop (2 * length out) place words)

  -- after the last turn the words are read
  pub stored-all : {i : ℕ} {now : List A} → Stored value words place out i now → length out ≤ i → place + 2 * length out ≤ length words
      → wide_read value (length out) (drop place words) ≡ got now (drop (place + 2 * length out) words)
  stored-all {i} {now} s h enough =
      let last : i ≡ length out = omega (arith, s.within) in
      let all : elements value words place (length out) ≡ now =
      sym (written_all (elements value words place (length out)) out (elements_count (length out)))
      ∙ ap (λ (k : ℕ). written (elements value words place (length out)) k out) (sym last) ∙ sym s.front in
      rw (← all) (reading enough)

  -- what stands in front of the next turn
  stored-front : {i : ℕ} {now : List A} → Stored value words place out i now → take i now ≡ elements value words place i
  stored-front {i} {now} s =
      ap (take i) s.front
      ∙ take_at (take i (elements value words place (length out))) (drop i out) i
      (length-take-le i (elements value words place (length out)) (omega (arith, s.within, elements_count (length out))))
      ∙ ap (take i) (elements_join i (length out) s.within)
      ∙ take_at (elements value words place i) (elements value words (place + 2 * i) (length out - i)) i (elements_count i)

  -- or those left are read into their own part of the output: how many they are, that their words are there, and what is read in all
  left_count : {i : ℕ} {now : List A} → Stored value words place out i now → length (mid_of i (length now - i) now) ≡ length out - i
  left_count {i} {now} s = omega (arith, mid_len i (length now) now (omega arith), s.same_length)

  pub left_enough : {i at : ℕ} {now : List A} → Stored value words place out i now → at ≡ place + 2 * i → place + 2 * length out ≤ length words
      → at + 2 * length (mid_of i (length now - i) now) ≤ length words
  left_enough s e enough = omega (arith, left_count s, s.within)

  pub stored-rest : {i at : ℕ} {now part : List A} {left : List ℕ} → Stored value words place out i now → at ≡ place + 2 * i
      → place + 2 * length out ≤ length words → wide_read value (length (mid_of i (length now - i) now)) (drop at words) ≡ got part left
      → wide_read value (length out) (drop place words) ≡ got (put_mid i (length now - i) now part) (drop (place + 2 * length out) words)
  stored-rest {i} {at} {now} {part} {left} s e enough r =
      let others : got (elements value words at (length out - i)) (drop (2 * (length out - i)) (drop at words)) ≡ got part left =
      sym (read_there value (length out - i) (drop at words) (rw (length-drop at words) (omega (arith, s.within)))) ∙ rw (left_count s) at r in
      let those : elements value words (place + 2 * i) (length out - i) ≡ part = ap (λ (j : ℕ). elements value words j (length out - i)) (sym e) ∙ cc in
      let none : drop (length now - i) (drop i now) ≡ [] = drop_of_length-le (drop i now) {i = length now - i} (rw (length-drop i now) (omega arith)) in
      rw (stored-front s, none, append-nil part, ← those, ← elements_join i (length out) s.within) (reading enough)

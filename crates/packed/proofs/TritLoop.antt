-- Filling an output with trits: what the rule gives from the bytes and words still left is what it gives from the start, and the bytes gone are
-- those it looked at.
use mathlib.Core.Path.{◌≡◌, refl, sym, ap, ap₂, ◌∙◌}
use mathlib.Core.Bool.{Bool, true, false, cond}
use mathlib.Core.List.{List, [], ◌∷◌, ◌++◌, map, append-nil, append_assoc}
use Prim.Native.Nat.{ℕ, zero, suc, ◌+◌, ◌*◌, ◌-◌, ◌/◌, ◌%◌, ◌^◌, ◌<◌, ◌≤◌, min}
use native.Mathlib.Nat.{sub-zero, zero-sub, le_of_eq}
use native.Mathlib.Numerals.{add-one}
use native.Mathlib.Omega.{arith}
use borrow.Author.Tests.{lt-ltb, le-ltb, ltb-true}
use lib.Dec.{ltb}
use mir.Val.{bool_byte}
use lib.ListN.{length, get_or, take, drop, length-map, length-append, drop_of_length-le}
use lib.Seq.{paste, take-paste, take-nil, take-append-add, take_all, drop-cons, length-paste}
use Rattle.distr.specs.Words.{Read, got, short, map_read}
use Rattle.distr.specs.Packed.{digits, split}
use Rattle.distr.specs.UniformTernary.{accepted_bytes, bytes, rejected_bytes}
use Rattle.distr.proofs.Reading.{map_read_twice, map_read_same}
use Rattle.distr.proofs.Digits.{length_digits, length-split}
use Rattle.distr.proofs.Writing.{map_append, map-take}
use Rattle.packed.specs.declared.bytes.Ended.{Ended}
use Rattle.packed.specs.Pairs.{digit_value, digit_values}
use Rattle.packed.specs.Trits.{bytes_wanted, bytes_looked, trits_from, BytesStored, ByteFitted, Looked}
use Rattle.packed.proofs.Packing.{from_front}
use Rattle.packed.proofs.Rejecting.{accepted_append, looked_from, looked_words, looked_next, looked_none, looked_front}

read_id : {A : Type 0} (r : Read A) → map_read (λ a. a) r ≡ r
unfolding map_read
read_id (got a rest) = refl
read_id short = refl

-- the first of two lists, one after the other
take_append : {A : Type 0} (n : ℕ) (xs ys : List A) → take n (xs ++ ys) ≡ take n xs ++ take (n - length xs) ys
take_append zero xs ys = ap (λ (k : ℕ). take k ys) (sym (zero-sub (length xs)))
take_append (suc n) [] ys = ap (λ (k : ℕ). take k ys) (sym (sub-zero (suc n)))
take_append (suc n) (x ∷ xs) ys = let less : suc n - suc (length xs) ≡ n - length xs = omega arith in rw less (ap (λ (l : List _). x ∷ l) (take_append n xs ys))

-- the digits of two lists, one after the other
split_append : (xs ys : List ℕ) → split 3 5 (xs ++ ys) ≡ split 3 5 xs ++ split 3 5 ys
unfolding split
split_append [] ys = refl
split_append (x ∷ xs) ys = ap (λ (l : List ℕ). digits 3 5 x ++ l) (split_append xs ys) ∙ sym (append_assoc (digits 3 5 x) (split 3 5 xs) (split 3 5 ys))

-- m accepted bytes, first from those left of a word and then from the words after it
abbrev bytes_from : List ℕ → List ℕ → ℕ → Read (List ℕ)
bytes_from left ws m = map_read (λ rest. take m (accepted_bytes left) ++ rest) (bytes ws (m - length (accepted_bytes left)))

-- no byte is left: the words alone
from_words : (ws : List ℕ) (m : ℕ) → bytes_from [] ws m ≡ bytes ws m
unfolding accepted_bytes
from_words ws m =
    ap₂ (λ (front : List ℕ) (k : ℕ). map_read (λ rest. front ++ rest) (bytes ws k)) (take-nil m) (sub-zero m)
    ∙ read_id (bytes ws m)

-- the next word's bytes
from_next : (w : ℕ) (ws : List ℕ) (m : ℕ) → bytes_from [] (w ∷ ws) (suc m) ≡ bytes_from (digits 256 4 w) ws (suc m)
unfolding bytes
from_next w ws m = from_words (w ∷ ws) (suc m)

-- no word is left
from_none : (m : ℕ) → bytes_from [] [] (suc m) ≡ short
unfolding bytes
from_none m = from_words [] (suc m)

-- enough bytes: the words stay as they are
from_enough : (left ws : List ℕ) → bytes_from left ws 0 ≡ got [] ws
unfolding bytes
from_enough left ws = ap (λ (k : ℕ). map_read (λ rest. rest) (bytes ws k)) (zero-sub (length (accepted_bytes left))) ∙ read_id (bytes ws 0) ∙ none ws
  where
    none : (vs : List ℕ) → bytes vs 0 ≡ got [] vs
    none [] = refl
    none (v ∷ vs) = refl

-- the first bytes, all wanted, and then what is left
from_bytes : (bs left ws : List ℕ) (m : ℕ)
    → bytes_from (bs ++ left) ws (length (accepted_bytes bs) + m) ≡ map_read (λ ds. accepted_bytes bs ++ ds) (bytes_from left ws m)
from_bytes bs left ws m =
    let front : List ℕ = accepted_bytes bs in
    let back : List ℕ = accepted_bytes left in
    let less : length front + m - length (front ++ back) ≡ m - length back = rw (length-append front back) (omega arith) in
    rw (accepted_append bs left)
    (ap₂ (λ (l : List ℕ) (k : ℕ). map_read (λ rest. l ++ rest) (bytes ws k)) (take-append-add front back m) less
    ∙ map_read_same (λ rest. (front ++ take m back) ++ rest) (λ rest. front ++ (take m back ++ rest)) (append_assoc front (take m back)) (bytes ws (m - length back))
    ∙ sym (map_read_twice (λ ds. front ++ ds) (λ rest. take m back ++ rest) (bytes ws (m - length back))))

digits_none : {left : ℕ} (x : ℕ) → left ≡ 0 → digits 256 left x ≡ []
unfolding digits
digits_none x z = ap (λ (k : ℕ). digits 256 k x) z

digits_more : (left x : ℕ) → 0 < left → digits 256 left x ≡ (x % 256 ∷ []) ++ digits 256 (left - 1) (x / 256)
unfolding digits
digits_more zero x h = absurd (omega arith)
digits_more (suc left) x h =
    let one_less : left ≡ suc left - 1 = omega arith in
    ap (λ (k : ℕ). x % 256 ∷ digits 256 k (x / 256)) one_less

-- Storing bytes: one, and one before others.
module _ {A : Type 0} (z : A) (pairs : List A) where
  byte_stored-by : (byte : ℕ) (t : Bool) → ltb byte 243 ≡ t → {out out' : List A} {at at' : ℕ} → at + 5 ≤ length out → at' ≡ at + 5 * bool_byte t
      → (take at out' ≡ take at out) × (byte < 243 → out' ≡ paste out at (digit_values z pairs (digits 3 5 byte)) 5) → BytesStored z pairs out at (byte ∷ []) out' at'
  unfolding accepted_bytes split
  byte_stored-by byte true e {out} {out'} {at} {at'} h r s =
      let D : List ℕ = digits 3 5 byte in
      let vs : List A = digit_values z pairs D in
      let five : length vs ≡ 5 = length-map D (digit_value z pairs) ∙ length_digits 3 5 byte in
      let room : at ≤ length out = omega arith in
      record {
        moved = rw e r;
        within = omega arith;
        holds =
            rw (e, append-nil D)
            (ap₂ take r (s.1 (ltb-true byte 243 e))
            ∙ take-paste out at vs 5 room (le_of_eq (sym five))
            ∙ ap (λ (l : List A). take at out ++ l) (take_all 5 vs (le_of_eq five)));
      }
  byte_stored-by byte false e {out} {out'} {at} {at'} h r s =
      let stays : at' ≡ at = omega arith in
      record {
        moved = rw e r;
        within = omega arith;
        holds = rw e (ap (λ (k : ℕ). take k out') stays ∙ s.0 ∙ sym (append-nil (take at out)));
      }

  pub byte_stored : (byte : ℕ) {out out' : List A} {at at' : ℕ} → at + 5 ≤ length out → at' ≡ at + 5 * bool_byte (ltb byte 243)
      → (take at out' ≡ take at out) × (byte < 243 → out' ≡ paste out at (digit_values z pairs (digits 3 5 byte)) 5) → BytesStored z pairs out at (byte ∷ []) out' at'
  byte_stored byte h r s = byte_stored-by byte (ltb byte 243) refl h r s

  pub bytes-stored : {b : ℕ} {bs : List ℕ} {out out₁ out₂ : List A} {at at₁ at₂ : ℕ} → BytesStored z pairs out at (b ∷ []) out₁ at₁
      → BytesStored z pairs out₁ at₁ bs out₂ at₂ → BytesStored z pairs out at (b ∷ bs) out₂ at₂
  bytes-stored {b} {bs} {out} {out₁} {out₂} {at} {at₁} {at₂} s t =
      let front : List ℕ = accepted_bytes (b ∷ []) in
      let back : List ℕ = accepted_bytes bs in
      let both : accepted_bytes (b ∷ bs) ≡ front ++ back = accepted_append (b ∷ []) bs in
      let here : List A = digit_values z pairs (split 3 5 front) in
      let there : List A = digit_values z pairs (split 3 5 back) in
      let m = s.moved in
      let n = t.moved in
      let v = s.within in
      let w = t.within in
      record {
        moved = rw (both, length-append front back) (omega arith);
        within = omega arith;
        holds =
            t.holds
            ∙ ap (λ (l : List A). l ++ there) s.holds
            ∙ append_assoc (take at out) here there
            ∙ ap (λ (l : List A). take at out ++ l)
            (sym (map_append (digit_value z pairs) (split 3 5 front) (split 3 5 back))
            ∙ ap (digit_values z pairs) (sym (split_append front back) ∙ ap (split 3 5) (sym both)));
      }

  -- where not all of a byte's values may have room: all of them, those that have, or none
  one_accepted : (byte : ℕ) → length (accepted_bytes (byte ∷ [])) ≤ 1
  unfolding accepted_bytes
  one_accepted byte = go (ltb byte 243)
    where
      go : (t : Bool) → length (cond t (byte ∷ []) []) ≤ 1
      go true = omega arith
      go false = omega arith

  pub fitted_whole : {byte at at' : ℕ} {out out' : List A} → 5 ≤ length out - at → BytesStored z pairs out at (byte ∷ []) out' at'
      → ByteFitted z pairs out at byte out' at'
  fitted_whole {byte} {at} {at'} {out} {out'} h s =
      let D : List ℕ = split 3 5 (accepted_bytes (byte ∷ [])) in
      let one = one_accepted byte in
      let fits : length D ≤ length out - at = omega (arith, length-split 3 5 (accepted_bytes (byte ∷ []))) in
      record {
        moved = omega (arith, s.moved);
        holds = s.holds ∙ ap (λ (ds : List ℕ). take at out ++ digit_values z pairs ds) (sym (take_all (length out - at) D fits));
      }

  pub fitted_front : (room : List A) {byte at : ℕ} {out out' part : List A} → at ≤ length out → length out - at < 5 → byte < 243
      → (byte < 243 → part ≡ paste room 0 (digit_values z pairs (digits 3 5 byte)) 5) → out' ≡ paste out at part (length out - at)
      → ByteFitted z pairs out at byte out' (length out')
  unfolding accepted_bytes split
  fitted_front room {byte} {at} {out} {out'} h less m p o =
      let D : List ℕ = digits 3 5 byte in
      let vs : List A = digit_values z pairs D in
      let count : ℕ = length out - at in
      let five : length vs ≡ 5 = length-map D (digit_value z pairs) ∙ length_digits 3 5 byte in
      let copied : out' ≡ paste out at vs count = from_front room vs out at 5 count (omega arith) (le_of_eq (sym five)) (p m) o in
      let sized : length out' ≡ length out = ap length copied ∙ length-paste out at vs count (omega arith) (omega arith) in
      let end : length out' ≡ at + count = omega arith in
      record {
        moved = rw (lt-ltb byte 243 m) (omega arith);
        holds =
            rw (lt-ltb byte 243 m, append-nil D)
            (ap₂ take end copied
            ∙ take-paste out at vs count h (omega arith)
            ∙ ap (λ (l : List A). take at out ++ l) (sym (map-take (digit_value z pairs) count D)));
      }

  pub fitted_none : {byte at : ℕ} (out : List A) → at ≤ length out → 243 ≤ byte → ByteFitted z pairs out at byte out at
  unfolding accepted_bytes split
  fitted_none {byte} {at} out h m = record {
    moved = rw (le-ltb byte 243 m) (omega arith);
    holds = rw (le-ltb byte 243 m, take-nil (length out - at)) (sym (append-nil (take at out)));
  }

module _ {A : Type 0} (z : A) (pairs : List A) (words : List ℕ) (out₀ : List A) (from place : ℕ) where
  -- what the rule gives
  abbrev Whole : Read (List A)
  Whole = trits_from z pairs out₀ from (drop place words)

  -- what is written, with the values of the digits that the bytes to come hold
  abbrev finished : ℕ → List A → List ℕ → List A
  finished at out ds = take at out ++ digit_values z pairs (take (length out₀ - at) (split 3 5 ds))

  -- what the rule gives from the bytes and words left
  abbrev Left : List A → ℕ → List ℕ → ℕ → Read (List A)
  Left out at bs next = map_read (finished at out) (bytes_from bs (drop next words) (bytes_wanted (length out₀ - at)))

  -- the bytes that it looks at there, and those before the next word
  abbrev LeftLooked : ℕ → List ℕ → ℕ → ℕ
  LeftLooked at bs next = looked_from bs (drop next words) (bytes_wanted (length out₀ - at)) + 4 * next

  -- the state of the filling: `at` values are written, `next` is the next word's place, `left` bytes are left in `rest`
  pub record TritLoop (out : List A) (at next rest left : ℕ) : Type 0 where
    pub sized : length out ≡ length out₀
    pub within : at ≤ length out₀
    pub found : next ≤ length words
    pub same : Left out at (digits 256 left rest) next ≡ Whole
    pub few : left ≤ 4
    pub looked : bytes_looked (drop place words) (length out₀ - from) + left + 4 * place ≡ LeftLooked at (digits 256 left rest) next

  pub trit_none : from ≤ length out₀ → place ≤ length words → TritLoop out₀ from place 0 0
  unfolding digits
  trit_none f h = record {
    sized = refl;
    within = f;
    found = h;
    same = ap (map_read (finished from out₀)) (from_words (drop place words) (bytes_wanted (length out₀ - from)));
    few = omega arith;
    looked = omega (arith, looked_words (drop place words) (bytes_wanted (length out₀ - from)));
  }

  -- some value is wanted, so some byte is
  wanted_more : {at : ℕ} → at < length out₀ → bytes_wanted (length out₀ - at) ≡ suc ((length out₀ - at - 1) / 5)
  wanted_more {at} h = omega arith

  -- a word is read, whatever is asked of the bytes and words left
  next_word : {B : Type 0} (F : List ℕ → List ℕ → ℕ → B) → ((w : ℕ) (ws : List ℕ) (m : ℕ) → F [] (w ∷ ws) (suc m) ≡ F (digits 256 4 w) ws (suc m))
      → {at next left : ℕ} (rest : ℕ) → at < length out₀ → left ≡ 0 → next < length words
      → F (digits 256 4 (get_or words next 0)) (drop (next + 1) words) (bytes_wanted (length out₀ - at))
      ≡ F (digits 256 left rest) (drop next words) (bytes_wanted (length out₀ - at))
  next_word F step {at} {next} rest h none l =
      let m : ℕ = (length out₀ - at - 1) / 5 in
      let w : ℕ = get_or words next 0 in
      ap₂ (λ (j k : ℕ). F (digits 256 4 w) (drop j words) k) (add-one next) (wanted_more h)
      ∙ sym (step w (drop (suc next) words) m)
      ∙ ap₂ (λ (ws : List ℕ) (k : ℕ). F [] ws k) (sym (drop-cons words next 0 l)) (sym (wanted_more h))
      ∙ ap (λ (ds : List ℕ). F ds (drop next words) (bytes_wanted (length out₀ - at))) (sym (digits_none rest none))

  pub trit_word : {out : List A} {at next rest left : ℕ} → at < length out₀ → left ≡ 0 → (next ≡ length words → ⊥) → TritLoop out at next rest left
      → TritLoop out at (next + 1) (get_or words next 0) 4
  trit_word {out} {at} {next} {rest} h none more s =
      let l : next < length words = omega (arith, s.found) in
      record {
        sized = s.sized;
        within = s.within;
        found = omega arith;
        same = ap (map_read (finished at out)) (next_word bytes_from from_next rest h none l) ∙ s.same;
        few = omega arith;
        looked = omega (arith, s.looked, next_word looked_from looked_next rest h none l);
      }

  -- bytes are taken off those left, and the values of their first digits are stored, which are all that there is room for
  left_less : (out out' : List A) (at at' next : ℕ) (bs left front : List ℕ)
      → bytes_wanted (length out₀ - at) ≡ length (accepted_bytes bs) + bytes_wanted (length out₀ - at')
      → ((ds : List ℕ) → take (length out₀ - at) (split 3 5 (accepted_bytes bs) ++ ds) ≡ front ++ take (length out₀ - at') ds)
      → take at' out' ≡ take at out ++ digit_values z pairs front → Left out' at' left next ≡ Left out at (bs ++ left) next
  left_less out out' at at' next bs left front e takes o =
      let accepted : List ℕ = accepted_bytes bs in
      let m : ℕ = bytes_wanted (length out₀ - at') in
      let ws : List ℕ = drop next words in
      let stored : (ds : List ℕ) → finished at' out' ds ≡ finished at out (accepted ++ ds) = λ ds.
      let rest : List ℕ = take (length out₀ - at') (split 3 5 ds) in
      ap (λ (l : List A). l ++ digit_values z pairs rest) o
      ∙ append_assoc (take at out) (digit_values z pairs front) (digit_values z pairs rest)
      ∙ ap (λ (l : List A). take at out ++ l)
      (sym (map_append (digit_value z pairs) front rest)
      ∙ ap (digit_values z pairs) (sym (takes (split 3 5 ds)) ∙ ap (take (length out₀ - at)) (sym (split_append accepted ds)))) in
      map_read_same (finished at' out') (λ ds. finished at out (accepted ++ ds)) stored (bytes_from left ws m)
      ∙ sym (map_read_twice (finished at out) (λ ds. accepted ++ ds) (bytes_from left ws m))
      ∙ ap (map_read (finished at out)) (sym (from_bytes bs left ws m) ∙ ap (bytes_from (bs ++ left) ws) (sym e))

  -- they were looked at, where no fewer are wanted
  looked_less : (at at' next : ℕ) (bs left : List ℕ) → bytes_wanted (length out₀ - at) ≡ length (accepted_bytes bs) + bytes_wanted (length out₀ - at')
      → length bs ≤ bytes_wanted (length out₀ - at) → LeftLooked at (bs ++ left) next ≡ length bs + LeftLooked at' left next
  looked_less at at' next bs left e h = rw e (omega (arith, looked_front bs left (drop next words) (bytes_wanted (length out₀ - at')) (rw e at h)))

  -- bytes whose digits all have room
  wanted-stored : {out out' : List A} {at at' : ℕ} (bs : List ℕ) → at + 5 * length bs ≤ length out₀ → BytesStored z pairs out at bs out' at'
      → bytes_wanted (length out₀ - at) ≡ length (accepted_bytes bs) + bytes_wanted (length out₀ - at')
  wanted-stored bs h s = omega (arith, s.moved, s.within)

  left_stored : {out out' : List A} {at at' : ℕ} (next : ℕ) (bs left : List ℕ) → at + 5 * length bs ≤ length out₀ → BytesStored z pairs out at bs out' at'
      → Left out' at' left next ≡ Left out at (bs ++ left) next
  left_stored {out} {out'} {at} {at'} next bs left h s =
      let accepted : List ℕ = accepted_bytes bs in
      let D : List ℕ = split 3 5 accepted in
      let r : ℕ = length out₀ - at' in
      let m = s.moved in
      let w = s.within in
      let long : length D ≡ length accepted * 5 = length-split 3 5 accepted in
      let front : length out₀ - at ≡ length D + r = omega arith in
      left_less out out' at at' next bs left D (wanted-stored bs h s)
      (λ ds. ap (λ (j : ℕ). take j (D ++ ds)) front ∙ take-append-add D ds r) s.holds

  -- a byte is taken off those left
  taken : {out out' : List A} {at at' next rest left : ℕ} → at < length out₀ → (left ≡ 0 → ⊥) → length out' ≡ length out₀ → at' ≤ length out₀
      → bytes_wanted (length out₀ - at) ≡ length (accepted_bytes (rest % 256 ∷ [])) + bytes_wanted (length out₀ - at')
      → Left out' at' (digits 256 (left - 1) (rest / 256)) next ≡ Left out at ((rest % 256 ∷ []) ++ digits 256 (left - 1) (rest / 256)) next
      → TritLoop out at next rest left → TritLoop out' at' next (rest / 256) (left - 1)
  taken {out} {at = at} {at' = at'} {next = next} {rest = rest} {left = left} h k e w wanted step s =
      let more : digits 256 left rest ≡ (rest % 256 ∷ []) ++ digits 256 (left - 1) (rest / 256) = digits_more left rest (omega arith) in
      record {
        sized = e;
        within = w;
        found = s.found;
        same = step ∙ ap (λ (ds : List ℕ). Left out at ds next) (sym more) ∙ s.same;
        few = omega (arith, s.few);
        looked =
            omega (
              arith,
              s.looked,
              ap (λ (ds : List ℕ). LeftLooked at ds next) more,
              looked_less at at' next (rest % 256 ∷ []) (digits 256 (left - 1) (rest / 256)) wanted (omega arith),
            );
      }

  -- of its digits as many are stored as there is room for, or it is skipped
  pub trit_byte : {out out' : List A} {at at' next rest left : ℕ} → at < length out₀ → (left ≡ 0 → ⊥) → length out' ≡ length out
      → TritLoop out at next rest left → ByteFitted z pairs out at (rest % 256) out' at' → TritLoop out' at' next (rest / 256) (left - 1)
  trit_byte {out} {out'} {at} {at'} {next} {rest} {left} h k e s b =
      let accepted : List ℕ = accepted_bytes (rest % 256 ∷ []) in
      let D : List ℕ = split 3 5 accepted in
      let r : ℕ = length out₀ - at in
      let one = one_accepted z pairs (rest % 256) in
      let m = b.moved in
      let n = s.sized in
      let long : length D ≡ length accepted * 5 = length-split 3 5 accepted in
      let less : length out₀ - at' ≡ r - length D = omega arith in
      let wanted : bytes_wanted r ≡ length accepted + bytes_wanted (length out₀ - at') = omega arith in
      taken h k (e ∙ n) (omega arith) wanted
      (left_less out out' at at' next (rest % 256 ∷ []) (digits 256 (left - 1) (rest / 256)) (take r D) wanted
      (λ ds. rw less (take_append r D ds)) (rw n at b.holds))
      s

  -- a whole word's digits are stored
  pub trit_whole : {out out' : List A} {at at' next : ℕ} → at + 20 ≤ length out₀ → next < length words → length out' ≡ length out
      → TritLoop out at next 0 0 → BytesStored z pairs out at (digits 256 4 (get_or words next 0)) out' at' → TritLoop out' at' (next + 1) 0 0
  unfolding digits
  trit_whole {out} {at = at} {at' = at'} {next = next} l k e s b =
      let w : ℕ = get_or words next 0 in
      let read = trit_word {rest = 0} (omega arith) refl (λ e. omega arith) s in
      let four : length (digits 256 4 w) ≡ 4 = length_digits 256 4 w in
      let within = b.within in
      record {
        sized = e ∙ s.sized;
        within = omega arith;
        found = omega arith;
        same =
            left_stored (next + 1) (digits 256 4 w) [] (omega arith) b
            ∙ ap (λ (ds : List ℕ). Left out at ds (next + 1)) (append-nil (digits 256 4 w))
            ∙ read.same;
        few = omega arith;
        looked =
            omega (
              arith,
              read.looked,
              ap (λ (ds : List ℕ). LeftLooked at ds (next + 1)) (append-nil (digits 256 4 w)),
              looked_less at at' (next + 1) (digits 256 4 w) [] (wanted-stored (digits 256 4 w) (omega arith) b) (omega arith),
            );
      }

  -- no byte is left: the words alone
  trit_paused : {out : List A} {at next : ℕ} → TritLoop out at next 0 0 → trits_from z pairs out at (drop next words) ≡ Whole
  unfolding digits
  trit_paused {out} {at} {next} s =
      ap (λ (n : ℕ). map_read (λ ds. take at out ++ digit_values z pairs (take (n - at) (split 3 5 ds))) (bytes (drop next words) (bytes_wanted (n - at)))) s.sized
      ∙ ap (map_read (finished at out)) (sym (from_words (drop next words) (bytes_wanted (length out₀ - at))))
      ∙ s.same

  -- a word is missing
  pub trit_short : {out : List A} {at next rest left : ℕ} → at < length out₀ → left ≡ 0 → next ≡ length words → TritLoop out at next rest left → short ≡ Whole
  unfolding map_read
  trit_short {out} {at} {next} {rest} h none l s =
      sym (ap (map_read (finished at out))
      (ap₂ (λ (ds ws : List ℕ). bytes_from ds ws (bytes_wanted (length out₀ - at))) (digits_none rest none) (drop_of_length-le words (le_of_eq (sym l)))
      ∙ ap (bytes_from [] []) (wanted_more h)
      ∙ from_none ((length out₀ - at - 1) / 5)))
      ∙ s.same

  -- all is written
  pub trit_done : {out : List A} {at next rest left : ℕ} → length out₀ ≤ at → TritLoop out at next rest left → got out (drop next words) ≡ Whole
  unfolding map_read split
  trit_done {out} {at} {next} {rest} {left} h s =
      let none : bytes_wanted (length out₀ - at) ≡ 0 = omega arith in
      let all : length out ≤ at = rw s.sized h in
      ap (λ (l : List A). got l (drop next words))
      (sym (append-nil out) ∙ ap₂ (λ (x y : List A). x ++ y) (sym (take_all at out all)) (ap (map (digit_value z pairs)) (sym (take-nil (length out₀ - at)))))
      ∙ ap (map_read (finished at out)) (sym (from_enough (digits 256 left rest) (drop next words))
      ∙ ap (bytes_from (digits 256 left rest) (drop next words)) (sym none))
      ∙ s.same

  pub looked_done : {out : List A} {at next rest left : ℕ} → length out₀ ≤ at → TritLoop out at next rest left
      → Looked (record { place = next; left = left }) words place (length out₀ - from)
  looked_done {out} {at} {next} {rest} {left} h s =
      let none : bytes_wanted (length out₀ - at) ≡ 0 = omega arith in
      let over : LeftLooked at (digits 256 left rest) next ≡ 4 * next =
      rw none (omega (arith, looked_none (digits 256 left rest) (drop next words))) in
      record { few = s.few; all = omega (arith, s.looked, over) }

-- ---- the bytes looked at, where whole words were stored from the start and the others read from there
module _ (words : List ℕ) (place : ℕ) where
  looked_paused : {A : Type 0} (z : A) (pairs : List A) (out₀ : List A) {out : List A} {at next : ℕ} → TritLoop z pairs words out₀ 0 place out at next 0 0
      → bytes_looked (drop place words) (length out₀) + 4 * place ≡ bytes_looked (drop next words) (length out - at) + 4 * next
  unfolding digits
  looked_paused z pairs out₀ {at = at} {next = next} s =
      let whole = rw (sub-zero (length out₀)) at s.looked in
      rw s.sized (omega (arith, whole, looked_words (drop next words) (bytes_wanted (length out₀ - at))))

  -- all that is said where the storing of whole words ends
  pub words-stored : {A : Type 0} (z : A) (pairs : List A) (out₀ : List A) {out : List A} {at next : ℕ} → TritLoop z pairs words out₀ 0 place out at next 0 0
      → ((at ≤ length out) × (next ≤ length words) × (trits_from z pairs out at (drop next words) ≡ trits_from z pairs out₀ 0 (drop place words)))
      × (bytes_looked (drop place words) (length out₀) + 4 * place ≡ bytes_looked (drop next words) (length out - at) + 4 * next)
  words-stored z pairs out₀ s =
      ((omega (arith, s.within, s.sized), s.found, trit_paused z pairs words out₀ 0 place s), looked_paused z pairs out₀ s)

  -- so the bytes of the words taken are those left, those accepted and those rejected
  module _ (n : ℕ) {e : Ended} (l : Looked e words place n) where
    pub taken_rejected : {k : ℕ} → k ≡ min (4 * (e.place - place) - (e.left + bytes_wanted n)) (2 ^ 64 - 1)
        → k ≡ min (rejected_bytes (drop place words) (bytes_wanted n)) (2 ^ 64 - 1)
    taken_rejected r = omega (arith, l.all)

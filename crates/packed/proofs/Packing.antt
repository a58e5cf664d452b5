-- Filling an output word by word: the digits of many words, one after the other, and the values of the first of them.
use mathlib.Core.Path.{◌≡◌, refl, sym, ap, ◌∙◌}
use mathlib.Core.List.{List, ◌++◌, map, append-nil}
use Prim.Native.Nat.{ℕ, suc, ◌+◌, ◌-◌, ◌*◌, ◌/◌, ◌<◌, ◌≤◌}
use native.Mathlib.Nat.{suc-mul, le_of_lt, le_of_eq, le_antisymm, mul-le-mul_right, lt_of_mul-lt-mul_right, div-mul-le_self, lt-div-mul-add}
use native.Mathlib.Omega.{arith}
use lib.ListN.{length, get_or, take, drop, length-drop, length-map}
use lib.Seq.{paste, length-paste, take-append-le, take-take}
use lib.Seq.{drop-cons, get_or-drop, length-take-le, drop-length}
use Rattle.distr.specs.Packed.{digits, split}
use Rattle.distr.proofs.Digits.{length_digits, length-split, drop-split, take_split}
use Rattle.distr.proofs.Writing.{written, written-paste, map_append, map-take, map-drop}
use Rattle.packed.specs.Pairs.{digit_value}
use Rattle.packed.specs.Cutting.{Cut}

-- words past those that n digits need do not matter
pub enough : (base each m n : ℕ) (ws : List ℕ) → n ≤ m * each → take n (split base each (take m ws)) ≡ take n (split base each ws)
enough base each m n ws h = ap (take n) (take_split base each m ws) ∙ take-take n (m * each) (split base each ws) h

module _ {A : Type 0} (base each : ℕ) (value : ℕ → A) (ws : List ℕ) where
  length-values : length (map value (split base each ws)) ≡ length ws * each
  length-values = length-map (split base each ws) value ∙ length-split base each ws

  -- the values from a word on begin with those of its digits
  next-values : (i count : ℕ) → i < length ws → count ≤ each
      → take count (map value (digits base each (get_or ws i 0))) ≡ take count (drop (i * each) (map value (split base each ws)))
  unfolding split
  next-values i count h k =
      let w : ℕ = get_or ws i 0 in
      let vs : List A = map value (digits base each w) in
      let rest : List ℕ = split base each (drop (suc i) ws) in
      sym (take-append-le count vs (map value rest) (rw (length-map (digits base each w) value, length_digits base each w) k))
      ∙ ap (take count) (sym (map_append value (digits base each w) rest)
      ∙ ap (λ (l : List ℕ). map value (split base each l)) (sym (drop-cons ws i 0 h))
      ∙ ap (map value) (sym (drop-split base each i ws))
      ∙ map-drop value (i * each) (split base each ws))

-- what is stored at the front of a part, and copied from there
pub from_front : {A : Type 0} (room vs out : List A) (at m count : ℕ) {part out' : List A} → count ≤ m → m ≤ length vs → part ≡ paste room 0 vs m
    → out' ≡ paste out at part count → out' ≡ paste out at vs count
from_front {A} room vs out at m count h k e f =
    let front : take count (take m vs ++ drop (0 + m) room) ≡ take count vs =
    take-append-le count (take m vs) (drop (0 + m) room) (rw (length-take-le m vs k) h) ∙ take-take count m vs h in
    f ∙ ap (λ (l : List A). take at out ++ l ++ drop (at + count) out) (ap (take count) e ∙ front)

module _ {A : Type 0} (base each : ℕ) (z : A) (pairs : List A) (words : List ℕ) (place : ℕ) (out₀ : List A) where
  abbrev values : List A
  values = map (digit_value z pairs) (split base each (drop place words))

  -- the values of the words from a place up to the next one are written, as the table of pairs has them
  pub record Filled (at next : ℕ) (out : List A) : Type 0 where
    pub cut : Cut z pairs base each
    pub whole : at ≡ (next - place) * each
    pub after : place ≤ next
    pub fits : at ≤ length out₀
    pub sized : length out ≡ length out₀
    pub holds : out ≡ written values at out₀

  abbrev stored : ℕ → List A
  stored next = map (digit_value z pairs) (digits base each (get_or words next 0))

  length-stored : (next : ℕ) → length (stored next) ≡ each
  length-stored next = length-map (digits base each (get_or words next 0)) (digit_value z pairs) ∙ length_digits base each (get_or words next 0)

  -- where a value is still wanted there is a word
  pub word-there : {at next : ℕ} {out : List A} → length out₀ ≤ (length words - place) * each → at < length out₀ → Filled at next out → next < length words
  word-there {at} {next} h l s =
      let w = s.whole in
      let p = s.after in
      let less : next - place < length words - place = lt_of_mul-lt-mul_right each (omega arith) in
      omega arith

  -- the words that have room whole: before their end there is room for one more, and at it for no other
  module _ {at next : ℕ} {out : List A} (s : Filled at next out) where
    pub room_more : next < place + length out₀ / each → at + each ≤ length out₀
    room_more h =
        let p = s.after in
        let turn : suc (next - place) ≤ length out₀ / each = omega arith in
        omega (arith, s.whole, suc-mul (next - place) each, mul-le-mul_right each turn, div-mul-le_self (length out₀) each)

    pub room_less : place + length out₀ / each ≤ next → length out₀ ≤ at + each
    room_less h =
        let p = s.after in
        let all : length out₀ / each ≤ next - place = omega arith in
        omega (arith, s.whole, mul-le-mul_right each all, lt-div-mul-add {a = length out₀} s.cut.some)

  -- a word's digits, or the lowest of them, more
  filled_next : (count : ℕ) {at next : ℕ} {out out' : List A} → at + count ≤ length out₀ → next < length words → count ≤ each
      → Filled at next out → out' ≡ paste out at (stored next) count → (length out' ≡ length out₀) × (out' ≡ written values (at + count) out₀)
  filled_next count {at} {next} {out} r h k s f =
      let ws : List ℕ = drop place words in
      let value : ℕ → A = digit_value z pairs in
      let i : ℕ = next - place in
      let p = s.after in
      let n = s.sized in
      let here : place + i ≡ next = omega arith in
      let there : i < length ws = rw (length-drop place words) (omega arith) in
      let word : get_or ws i 0 ≡ get_or words next 0 = get_or-drop place words i 0 ∙ ap (λ (j : ℕ). get_or words j 0) here in
      let begins : take count (stored next) ≡ take count (drop at values) =
      ap (λ (w : ℕ). take count (map value (digits base each w))) (sym word)
      ∙ next-values base each value ws i count there k
      ∙ ap (λ (j : ℕ). take count (drop j values)) (sym s.whole) in
      let passed : at ≤ length values =
      rw (s.whole, length-values base each value ws) (mul-le-mul_right each (le_of_lt there)) in (
        ap length f ∙ length-paste out at (stored next) count (omega arith) (rw (length-stored next) k) ∙ n,
        f ∙ ap (λ (l : List A). paste l at (stored next) count) s.holds ∙ written-paste values out₀ (stored next) at count passed begins,
      )

  pub filled_more : {at next : ℕ} {out out' : List A} → at + each ≤ length out₀ → next < length words → Filled at next out
      → out' ≡ paste out at (stored next) each → Filled (at + each) (next + 1) out'
  filled_more {at} {next} r h s f =
      let p = s.after in
      let one_more : next + 1 - place ≡ suc (next - place) = omega arith in
      let more = filled_next each r h (le_of_eq refl) s f in
      record {
        cut = s.cut;
        whole = ap (λ (k : ℕ). k + each) s.whole ∙ sym (ap (λ (k : ℕ). k * each) one_more ∙ suc-mul (next - place) each);
        after = omega arith;
        fits = r;
        sized = more.0;
        holds = more.1;
      }

  all-written : {out : List A} → out ≡ written values (length out₀) out₀ → out ≡ map (digit_value z pairs) (take (length out₀) (split base each (drop place words)))
  all-written e =
      e
      ∙ ap (λ (l : List A). take (length out₀) values ++ l) (drop-length out₀)
      ∙ append-nil (take (length out₀) values)
      ∙ sym (map-take (digit_value z pairs) (length out₀) (split base each (drop place words)))

  pub filled_all : {at next : ℕ} {out : List A} → length out₀ ≤ at → Filled at next out
      → out ≡ map (digit_value z pairs) (take (length out₀) (split base each (drop place words)))
  filled_all h s = all-written (s.holds ∙ ap (λ (j : ℕ). written values j out₀) (le_antisymm s.fits h))

  -- the last word's digits, stored aside, and as many of them as there is room for
  pub filled_last : (room : List A) {at next : ℕ} {out out' part : List A} → at < length out₀ → length out₀ ≤ at + each → next < length words
      → Filled at next out → part ≡ paste room 0 (stored next) each → out' ≡ paste out at part (length out - at)
      → out' ≡ map (digit_value z pairs) (take (length out₀) (split base each (drop place words)))
  filled_last room {at} {next} {out} a b h s e f =
      let count : ℕ = length out₀ - at in
      let end : at + count ≡ length out₀ = omega arith in
      let all : each ≤ length (stored next) = le_of_eq (sym (length-stored next)) in
      let last = filled_next count (omega arith) h (omega arith) s (from_front room (stored next) out at each count (omega arith) all e (rw s.sized at f)) in
      all-written (last.1 ∙ ap (λ (j : ℕ). written values j out₀) end)

-- Reading the numbers of a text into a room, token by token: what stands there and what is still to come are together what is wanted.
use mathlib.Core.Path.{◌≡◌, refl, sym, ap, ◌∙◌}
use mathlib.Core.Bool.{Bool, true, false}
use mathlib.Core.List.{List, [], ◌∷◌, ◌++◌, append-nil}
use Prim.Native.Nat.{ℕ, zero, suc, ◌+◌, ◌-◌, ◌<◌, ◌≤◌}
use native.Mathlib.Nat.{sub-zero}
use native.Mathlib.Numerals.{add-one}
use native.Mathlib.Omega.{arith}
use borrow.Author.Tests.{not-true, lt-ltb, le-ltb}
use lib.Dec.{ltb}
use lib.ListN.{length, get_or, take, drop, set, length-set, length-drop, take-append-drop, drop_of_length-le}
use lib.Seq.{take-suc-set, append_snoc, drop-set-lt, drop-drop, get_or-drop, length-take-le}
use Rattle.residue_text.specs.declared.scan.Kind.TheVariants.{NoSpace}
use Rattle.residue_text.specs.Tokens.{is_space, sought, before, tokens}
use Rattle.decimal.specs.Decimal.{front}
use Rattle.residue_text.specs.Numbers.{is_number, value_of, number_of, numbers_of, numbers_in, numbers_read}
use Rattle.residue_text.specs.declared.numbers.Numbers.{Numbers}
use Rattle.std.proofs.Common.{cond, Option, Some, None}
use Rattle.residue_text.proofs.Scanning.{before_stops}
use Rattle.residue_text.proofs.Splitting.{tokens_none, tokens_skip, tokens-next}

-- ---- the numbers of tokens: where they end, and one more
numbers_full : (most : ℕ) (ts : List (List ℕ)) → numbers_of 0 most ts ≡ []
unfolding numbers_of
numbers_full most ts = refl

numbers_none : (room most : ℕ) → numbers_of room most [] ≡ []
unfolding numbers_of
numbers_none zero most = refl
numbers_none (suc room) most = refl

numbers-bad : (room most : ℕ) (t : List ℕ) (ts : List (List ℕ)) → is_number most t ≡ false → numbers_of room most (t ∷ ts) ≡ []
unfolding numbers_of
numbers-bad zero most t ts e = refl
numbers-bad (suc room) most t ts e = rw e

numbers_more : (room most : ℕ) (t : List ℕ) (ts : List (List ℕ)) → is_number most t ≡ true
    → numbers_of (suc room) most (t ∷ ts) ≡ value_of t ∷ numbers_of room most ts
unfolding numbers_of
numbers_more room most t ts e = rw e

-- what reading a token handed back says of it
number-none : (most : ℕ) (t : List ℕ) → number_of most t ≡ None → is_number most t ≡ false
number-none most t e = go (is_number most t) e
  where
    go : (b : Bool) → cond b (Some (value_of t)) None ≡ None → b ≡ false
    go true e = cc
    go false e = refl

number-some : (most : ℕ) (t : List ℕ) (v : ℕ) → number_of most t ≡ Some v → (is_number most t ≡ true) × (v ≡ value_of t)
number-some most t v e = go (is_number most t) e
  where
    go : (b : Bool) → cond b (Some (value_of t)) None ≡ Some v → (b ≡ true) × (v ≡ value_of t)
    go true e = (refl, cc)
    go false e = (cc, cc)

module _ (text : List ℕ) where
  -- past spaces stands the end, or a byte that is no space
  pub space_passed : (from at : ℕ) → at ≡ from + before (sought NoSpace) (drop from text) → at < length text → is_space (get_or text at 0) ≡ false
  space_passed from at e h =
      let here : before (sought NoSpace) (drop from text) < length (drop from text) = omega (arith, length-drop from text) in
      rw (e, ← get_or-drop from text (before (sought NoSpace) (drop from text)) 0) (not-true _ (before_stops (sought NoSpace) (drop from text) here))

  -- the token that begins at a byte which is no space, up to its end
  pub token_here : (at end : ℕ) → at < length text → is_space (get_or text at 0) ≡ false → end ≡ at + before is_space (drop at text)
      → tokens (drop at text) ≡ take (end - at) (drop at text) ∷ tokens (drop end text)
  token_here at end h s e =
      let size : before is_space (drop at text) ≡ end - at = omega arith in
      tokens-next text at h s ∙ rw (← e, size)

module _ (most : ℕ) (text room₀ : List ℕ) where
  -- the numbers that are wanted
  abbrev pub wanted : List ℕ
  wanted = numbers_in most text room₀

  -- the first `count` of them stand in the room, and the text is read up to `at`
  pub record Held (count at : ℕ) (room : List ℕ) : Type 0 where
    pub all : wanted ≡ take count room ++ numbers_of (length room₀ - count) most (tokens (drop at text))
    pub counted : length (tokens text) ≡ count + length (tokens (drop at text))
    pub behind : drop count room ≡ drop count room₀
    pub fits : count ≤ length room₀
    pub same : length room ≡ length room₀

  pub held_first : Held 0 0 room₀
  held_first = record { all = rw sub-zero; counted = omega arith; behind = refl; fits = omega arith; same = refl }

  pub held_skip : (count from at : ℕ) (room : List ℕ) → at ≡ from + before (sought NoSpace) (drop from text) → Held count from room → Held count at room
  held_skip count from at room e h =
      let left : tokens (drop at text) ≡ tokens (drop from text) =
      rw (e, ← drop-drop (before (sought NoSpace) (drop from text)) from text) (tokens_skip (drop from text)) in
      record { all = rw left h.all; counted = rw left h.counted; behind = h.behind; fits = h.fits; same = h.same }

  -- what is promised of the answer and of the room at the end
  abbrev pub Took : Numbers → List ℕ → Type 0
  Took read room = (read ≡ numbers_read wanted text) × ((room ≡ front wanted room₀) × (read.count ≤ length room₀))

  abbrev Ended : ℕ → Bool → List ℕ → Type 0
  Ended count more room = Took (record { count = count; more = more }) room

  held-end : (count at : ℕ) (room : List ℕ) (more : Bool) → Held count at room → numbers_of (length room₀ - count) most (tokens (drop at text)) ≡ []
      → more ≡ ltb count (count + length (tokens (drop at text)))
      → Ended count more room
  held-end count at room more h none e =
      let all : wanted ≡ take count room = h.all ∙ rw none (append-nil (take count room)) in
      let size : length wanted ≡ count = ap length all ∙ length-take-le count room (omega (arith, h.fits, h.same)) in (
        rw (size, h.counted, e),
        (rw (size, all, ← h.behind, take-append-drop), h.fits),
      )

  -- the text is at its end
  pub held_out : (count at : ℕ) (room : List ℕ) → length text ≤ at → Held count at room → Ended count false room
  held_out count at room l h =
      let none : tokens (drop at text) ≡ [] = rw (drop_of_length-le text l) tokens_none in
      held-end count at room false h (rw none (numbers_none (length room₀ - count) most))
      (sym (le-ltb count (count + length (tokens (drop at text))) (omega (arith, ap length none))))

  module _ (count at end : ℕ) (room : List ℕ) (n : Option ℕ) (inside : at < length text) (clear : is_space (get_or text at 0) ≡ false)
      (ends : end ≡ at + before is_space (drop at text)) (is : n ≡ number_of most (take (end - at) (drop at text))) (h : Held count at room) where
    left : tokens (drop at text) ≡ take (end - at) (drop at text) ∷ tokens (drop end text)
    left = token_here text at end inside clear ends

    more_left : true ≡ ltb count (count + length (tokens (drop at text)))
    more_left = sym (lt-ltb count (count + length (tokens (drop at text))) (omega (arith, ap length left)))

    -- there is no room for the token, or it is no number, or it is one more
    pub held_full : count ≡ length room₀ → Ended count true room
    held_full full =
        let none : length room₀ - count ≡ 0 = omega arith in
        held-end count at room true h (rw none (numbers_full most (tokens (drop at text)))) more_left

    pub held-bad : n ≡ None → Ended count true room
    held-bad none =
        held-end count at room true h (rw left (numbers-bad (length room₀ - count) most _ _ (number-none most _ (sym is ∙ none)))) more_left

    pub held_more : count < length room₀ → (v : ℕ) → n ≡ Some v → Held (count + 1) end (set room count v)
    held_more l v some =
        let number = number-some most (take (end - at) (drop at text)) v (sym is ∙ some) in
        let good = number.0 in
        let value = number.1 in
        let less : length room₀ - count ≡ suc (length room₀ - (count + 1)) = omega arith in
        let within : count < length room = omega (arith, h.same) in
        record {
          all = h.all ∙ rw (
            left,
            less,
            numbers_more (length room₀ - (count + 1)) most (take (end - at) (drop at text)) (tokens (drop end text)) good,
            ← value,
            add-one count,
            take-suc-set room count v within,
            append_snoc,
          );
          counted = omega (arith, h.counted, ap length left);
          behind =
              rw (add-one count, drop-set-lt (suc count) room count v (omega arith))
              (rw (← add-one count, ← drop-drop 1 count room, h.behind, drop-drop));
          fits = omega arith;
          same = length-set room count v ∙ h.same;
        }

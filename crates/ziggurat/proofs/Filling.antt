-- Filling an output with one reading after the other: what is left to read, put behind what is stored, is the whole; words not used are passed over.
use mathlib.Core.Path.{◌≡◌, refl, sym, ap, ◌∙◌}
use mathlib.Core.Bool.{Bool, true, false, cond}
use mir.Val.{bool_byte}
use mathlib.Core.List.{List, ◌∷◌, ◌++◌, map, append-nil}
use Prim.Native.Nat.{ℕ, suc, ◌+◌, ◌-◌, ◌<◌, ◌≤◌}
use native.Mathlib.Nat.{le_refl, sub-zero}
use native.Mathlib.Numerals.{add-one}
use native.Mathlib.Omega.{arith}
use lib.ListN.{length, take, drop, set, length-set}
use lib.Seq.{take-set-le, take-suc-set, take_all, append_snoc}
use lib.IntN.{ℤ}
use Rattle.distr.specs.Words.{Read, got, short, map_read, bind_read, many}
use Rattle.distr.specs.Skipped.{passed_after, passed_many}

module _ {A : Type 0} (put : ℤ → A) (one : List ℕ → Read ℤ) (words : List ℕ) (place : ℕ) (out₀ : List A) where
  -- what the output is to hold, with the words left then
  abbrev pub Whole : Read (List A)
  Whole = map_read (map put) (many one (length out₀) (drop place words))

  pub record Filled (i at : ℕ) (out : List A) : Type 0 where
    pub fits : i ≤ length out₀
    pub sized : length out ≡ length out₀
    pub within : at ≤ length words
    pub same : map_read (λ cs. take i out ++ map put cs) (many one (length out₀ - i) (drop at words)) ≡ Whole

  pub filled_none : place ≤ length words → Filled 0 place out₀
  filled_none h = record { fits = omega arith; sized = refl; within = h; same = rw (sub-zero (length out₀)) }

  -- one more reading: there, or short
  next : (i : ℕ) (ws : List ℕ) → i < length out₀
      → many one (length out₀ - i) ws ≡ bind_read (one ws) (λ a rest. map_read (λ rs. a ∷ rs) (many one (length out₀ - (i + 1)) rest))
  unfolding many
  next i ws h =
      let left : length out₀ - i ≡ suc (length out₀ - (i + 1)) = omega arith in
      rw left

  -- a turn stores what was read, and counts it where it passed: what is not counted is written over, and is read again from later words on
  pub filled_turn : (i at later : ℕ) (out : List A) (a : A) (v : ℤ) (passed : Bool) → i < length out₀ → Filled i at out
      → one (drop at words) ≡ cond passed (got v (drop later words)) (one (drop later words)) → later ≤ length words → a ≡ put v
      → Filled (i + bool_byte passed) later (set out i a)
  unfolding bind_read map_read
  filled_turn i at later out a v true h f e k s = record {
    fits = omega arith;
    sized = length-set out i a ∙ f.sized;
    within = k;
    same = moved (many one (length out₀ - (i + 1)) (drop later words)) ∙ (rw (next i (drop at words) h, e) at f.same);
  }
    where
      stored : (cs : List ℤ) → take (i + 1) (set out i a) ++ map put cs ≡ take i out ++ (put v ∷ map put cs)
      stored cs = rw (s, add-one i, take-suc-set out i (put v) (omega (arith, f.sized))) (append_snoc (take i out) (put v) (map put cs))

      moved : (r : Read (List ℤ)) → map_read (λ cs. take (i + 1) (set out i a) ++ map put cs) r
          ≡ map_read (λ cs. take i out ++ map put cs) (map_read (λ cs. v ∷ cs) r)
      moved (got cs rest) = ap (λ (l : List A). got l rest) (stored cs)
      moved short = refl
  filled_turn i at later out a v false h f e k s =
      let none : i + 0 ≡ i = omega arith in
      rw none
      (record {
        fits = f.fits;
        sized = length-set out i a ∙ f.sized;
        within = k;
        same = rw (take-set-le i out i a (le_refl i), next i (drop later words) h, ← e, ← next i (drop at words) h) f.same;
      })

  pub filled_short : (i at : ℕ) (out : List A) → i < length out₀ → Filled i at out → one (drop at words) ≡ short → Whole ≡ short
  unfolding bind_read map_read
  filled_short i at out h f e = sym f.same ∙ rw (next i (drop at words) h, e)

  pub filled_all : (i at : ℕ) (out : List A) → length out₀ ≤ i → Filled i at out → Whole ≡ got out (drop at words)
  unfolding many map_read
  filled_all i at out k f =
      let none : length out₀ - i ≡ 0 = omega arith in
      sym (rw none at f.same) ∙ ap (λ (l : List A). got l (drop at words)) (append-nil (take i out) ∙ take_all i out (omega (arith, f.sized)))

-- each reading passes over so many words as `passed` counts, and uses the others that it takes: the words on the way to a place are those that
-- were used, and those that the whole passes over less what is left to pass over
module _ {A : Type 0} (one : List ℕ → Read A) (passed : List ℕ → ℕ) (words : List ℕ) (n : ℕ) where
  pub record Counted (i at used : ℕ) : Type 0 where
    pub below : used ≤ at
    pub same : at + passed_many one passed (n - i) (drop at words) ≡ used + passed_many one passed n words

  pub counted_none : Counted 0 0 0
  counted_none = record { below = omega arith; same = rw (sub-zero n) }

  -- a turn takes what it passes over and what it uses; the reading ends there, or goes on from the later words
  pub counted-turn : (i at later used over more : ℕ) (v : A) (ends : Bool) → i < n → Counted i at used
      → one (drop at words) ≡ cond ends (got v (drop later words)) (one (drop later words))
      → passed (drop at words) ≡ over + cond ends 0 (passed (drop later words)) → later ≡ at + over + more
      → Counted (i + bool_byte ends) later (used + more)
  unfolding passed_many passed_after
  counted-turn i at later used over more v true h f e p k =
      let left : n - i ≡ suc (n - (i + 1)) = omega arith in
      record { below = omega (arith, f.below); same = omega (arith, p, k, rw (left, e) at f.same) }
  counted-turn i at later used over more v false h f e p k =
      let left : n - i ≡ suc (n - i - 1) = omega arith in
      let none : n - (i + 0) ≡ suc (n - i - 1) = omega arith in
      record { below = omega (arith, f.below); same = rw none (omega (arith, p, k, rw (left, e) at f.same)) }

  pub counted-all : (i at used : ℕ) → n ≤ i → Counted i at used → at - used ≡ passed_many one passed n words
  unfolding passed_many
  counted-all i at used h f =
      let none : n - i ≡ 0 = omega arith in
      omega (arith, f.below, rw none at f.same)

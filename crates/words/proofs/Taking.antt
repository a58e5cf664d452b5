-- What a caller learns of the words from what the functions hand back.
use mathlib.Core.Path.{◌≡◌, refl, ap, ◌∙◌}
use mathlib.Core.List.{List, [], ◌∷◌}
use Rattle.std.specs.Prelude.{Option, Some, None}
use Prim.Native.Nat.{ℕ, suc, ◌+◌, ◌-◌, ◌<◌, ◌≤◌}
use native.Mathlib.Omega.{arith}
use lib.ListN.{length, drop, length-drop}
use lib.Seq.{drop-drop}
use Rattle.distr.specs.Words.{Read, got, short, word, choose}
use Rattle.distr.specs.Skipped.{passed_over}
use Rattle.distr.proofs.Reading.{short-not-got, chose}
use Rattle.words.specs.declared.Taken.{Taken}
use Rattle.words.specs.Reading.{taken}
use Rattle.words.proofs.Places.{place_of}

-- the reading r at place i gave v and leaves the words from p on
pub record Took (ws : List ℕ) (i : ℕ) (r : Read ℕ) (v p : ℕ) : Type 0 where
  pub reads : r ≡ got v (drop p ws)
  pub later : i < p
  pub within : p ≤ length ws

pub taken-short : (count skipped : ℕ) (r : Read ℕ) → None ≡ taken count skipped r → r ≡ short
unfolding taken
taken-short count skipped (got v rest) e =
    let no : ◌≡◌ {A = Option Taken} None (Some (record { value = v; place = count - length rest; skipped = skipped })) = e in cc
taken-short count skipped short e = refl

-- a reading that succeeds leaves the words after the first m of those that were left
abbrev Passes : List ℕ → List ℕ → Type 0
Passes xs rest = (m : ℕ) × (0 < m) × (m ≤ length xs) × (rest ≡ drop m xs)

word_passes : (v : ℕ) (xs rest : List ℕ) → word xs ≡ got v rest → Passes xs rest
unfolding word
word_passes v [] rest e = absurd (short-not-got e)
word_passes v (x ∷ xs) rest e = let same : got x xs ≡ got v rest = e in (1, omega arith, omega arith, cc)

choice_passes : (k v : ℕ) (xs rest : List ℕ) → choose k xs ≡ got v rest → Passes xs rest
choice_passes k v xs rest e = let c = chose k xs v rest e in (suc c.passed, omega arith, c.there, c.left)

module _ (ws : List ℕ) (i : ℕ) {t : Taken} where
  took : (skipped : ℕ) (r : Read ℕ) → ((w : ℕ) (rest : List ℕ) → r ≡ got w rest → Passes (drop i ws) rest) → Some t ≡ taken (length ws) skipped r
      → Took ws i r t.value t.place
  unfolding taken
  took skipped (got w rest) passes e =
      let l = passes w rest refl in
      let same : Some t ≡ Some (record { value = w; place = length ws - length rest; skipped = skipped }) = e in
      let value : t.value ≡ w = cc in
      let left : rest ≡ drop (i + l.0) ws = l.3 ∙ drop-drop l.0 i ws in
      let inside : i + l.0 ≤ length ws = omega (arith, length-drop i ws, l.1, l.2) in
      let place : t.place ≡ length ws - length rest = cc in
      let there : t.place ≡ i + l.0 = place ∙ ap (λ (x : List ℕ). length ws - length x) left ∙ place_of ws (i + l.0) inside in
      record { reads = rw (value, there) (ap (got w) left); later = omega (arith, l.1, there); within = omega (arith, inside, there) }
  took skipped short passes e = let no : Some t ≡ None = e in let z : ◌≡◌ {A = ℕ} 0 1 = cc in absurd (omega arith)

  pub took_word : Some t ≡ taken (length ws) 0 (word (drop i ws)) → Took ws i (word (drop i ws)) t.value t.place
  took_word = took 0 (word (drop i ws)) (λ w rest. word_passes w (drop i ws) rest)

  pub took_choice : (k : ℕ) → Some t ≡ taken (length ws) (passed_over k (drop i ws)) (choose k (drop i ws))
      → Took ws i (choose k (drop i ws)) t.value t.place
  took_choice k = took (passed_over k (drop i ws)) (choose k (drop i ws)) (λ w rest. choice_passes k w (drop i ws) rest)

  -- what is chosen among k is below k
  pub chosen-below : (k : ℕ) → Some t ≡ taken (length ws) (passed_over k (drop i ws)) (choose k (drop i ws)) → t.value < k
  chosen-below k e = (chose k (drop i ws) t.value (drop t.place ws) (took_choice k e).reads).below

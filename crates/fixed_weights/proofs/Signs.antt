-- A sign and a place: the lowest of the signs at hand and a choice, with a word of 32 signs read first where none are left.
use mathlib.Core.Path.{◌≡◌, refl, sym, ◌∙◌}
use mathlib.Core.List.{List}
use Prim.Native.Nat.{ℕ, zero, suc, ◌-◌, ◌/◌, ◌%◌, ◌<◌, ◌≤◌}
use native.Mathlib.Nat.{mod-lt}
use native.Mathlib.Omega.{arith}
use lib.ListN.{length, drop}
use Rattle.std.specs.Prelude.{Option, Some, None}
use Rattle.distr.specs.Words.{Read, got, short, map_read, bind_read, word, choose}
use Rattle.distr.specs.Skipped.{passed_over}
use Rattle.words.specs.declared.Taken.{Taken}
use Rattle.words.specs.Reading.{taken}
use Rattle.words.proofs.Taking.{took_word, took_choice, chosen-below, taken-short}
use Rattle.fixed_weights.specs.declared.choices.Signing.{Signing}
use Rattle.fixed_weights.specs.Inserting.{SignAndPlace, lowest_sign_and_place, sign_and_place, signing}

-- the choice decides: a sign with what was chosen, and the signs left
abbrev pub signed_choice : ℕ → ℕ → Taken → Signing
signed_choice w left t = record { bit = w % 2; selected = t.value; signs = record { word = w / 2; left = left - 1 }; place = t.place }

module _ (count w left : ℕ) where
  abbrev with_sign : ℕ → SignAndPlace
  with_sign s = record { bit = w % 2; chosen = s; rest = w / 2; fewer = left - 1 }

  with_choice : (j : ℕ) (r : Read ℕ) (t : Taken) → Some t ≡ taken count j r → Some (signed_choice w left t) ≡ signing count (map_read with_sign r)
  unfolding taken signing map_read
  with_choice j (got v rest) t e =
      let same : Some t ≡ Some (record { value = v; place = count - length rest; skipped = j }) = e in
      let value : t.value ≡ v = cc in
      let place : t.place ≡ count - length rest = cc in
      rw (value, place)
  with_choice j short t e = let no : ◌≡◌ {A = Option Taken} (Some t) None = e in cc

-- with a sign at hand
module _ (words : List ℕ) (place w left k : ℕ) where
  pub lowest_some : (t : Taken) → Some t ≡ taken (length words) (passed_over k (drop place words)) (choose k (drop place words))
      → Some (signed_choice w left t) ≡ signing (length words) (lowest_sign_and_place k w left (drop place words))
  unfolding lowest_sign_and_place
  lowest_some = with_choice (length words) w left (passed_over k (drop place words)) (choose k (drop place words))

  pub lowest_none : None ≡ taken (length words) (passed_over k (drop place words)) (choose k (drop place words))
      → None ≡ signing (length words) (lowest_sign_and_place k w left (drop place words))
  unfolding lowest_sign_and_place signing map_read
  lowest_none e = rw (taken-short (length words) (passed_over k (drop place words)) (choose k (drop place words)) e)

-- with none at hand a word is read
module _ (words : List ℕ) (place w k left : ℕ) where
  pub sign_held : (r : Option Signing) → (left ≡ 0 → ⊥) → r ≡ signing (length words) (lowest_sign_and_place k w left (drop place words))
      → r ≡ signing (length words) (sign_and_place k w left (drop place words))
  unfolding sign_and_place
  sign_held r = by_left left
    where
      by_left : (m : ℕ) → (m ≡ 0 → ⊥) → r ≡ signing (length words) (lowest_sign_and_place k w m (drop place words))
          → r ≡ signing (length words) (sign_and_place k w m (drop place words))
      by_left zero ne e = absurd (ne refl)
      by_left (suc m) ne e = e

  module _ (none : left ≡ 0) where
    pub sign_refilled : (t : Taken) (r : Option Signing) → Some t ≡ taken (length words) 0 (word (drop place words))
        → r ≡ signing (length words) (lowest_sign_and_place k t.value 32 (drop t.place words)) → r ≡ signing (length words) (sign_and_place k w left (drop place words))
    unfolding sign_and_place bind_read
    sign_refilled t r e d = rw (none, (took_word words place e).reads) d

    pub sign_missing : None ≡ taken (length words) 0 (word (drop place words))
        → None ≡ signing (length words) (sign_and_place k w left (drop place words))
    unfolding sign_and_place bind_read signing
    sign_missing e = rw (none, taken-short (length words) 0 (word (drop place words)) e)

-- what a caller learns where a sign and a place are handed back
pub signing_short : (count : ℕ) (r : Read SignAndPlace) → None ≡ signing count r → r ≡ short
unfolding signing
signing_short count (got c rest) e =
    let no : ◌≡◌ {A = Option Signing} None (Some (record { bit = c.bit; selected = c.chosen; signs = record { word = c.rest; left = c.fewer }; place = count - length rest })) = e in cc
signing_short count short e = refl

pub record Drew (words : List ℕ) (k : ℕ) (reading : Read SignAndPlace) (s : Signing) : Type 0 where
  pub reads : reading ≡ got (record { bit = s.bit; chosen = s.selected; rest = s.signs.word; fewer = s.signs.left }) (drop s.place words)
  pub is-bit : s.bit < 2
  pub below : s.selected < k
  pub within : s.place ≤ length words

module _ (words : List ℕ) (k : ℕ) (s : Signing) where
  of_choice : (w left j : ℕ) (r : Read ℕ) → Some s ≡ signing (length words) (map_read (with_sign (length words) w left) r)
      → (t : Taken) × (Some t ≡ taken (length words) j r) × (s ≡ signed_choice w left t)
  unfolding taken signing map_read
  of_choice w left j (got v rest) e =
      let t : Taken = record { value = v; place = length words - length rest; skipped = j } in
      let same : Some s ≡ Some (signed_choice w left t) = e in
      (t, refl, cc)
  of_choice w left j short e = let no : ◌≡◌ {A = Option Signing} (Some s) None = e in cc

  drew_choice : (place w left : ℕ) (t : Taken) → Some t ≡ taken (length words) (passed_over k (drop place words)) (choose k (drop place words))
      → s ≡ signed_choice w left t → Drew words k (lowest_sign_and_place k w left (drop place words)) s
  unfolding lowest_sign_and_place map_read
  drew_choice place w left t chosen same =
      let took = took_choice words place k chosen in
      rw same
      (record { reads = rw took.reads; is-bit = mod-lt w {m = 2} (omega arith); below = chosen-below words place k chosen; within = took.within })

  drew_lowest : (place w left : ℕ) → Some s ≡ signing (length words) (lowest_sign_and_place k w left (drop place words))
      → Drew words k (lowest_sign_and_place k w left (drop place words)) s
  unfolding lowest_sign_and_place
  drew_lowest place w left e =
      let o = of_choice w left (passed_over k (drop place words)) (choose k (drop place words)) e in
      drew_choice place w left o.0 o.1 o.2

  drew_anew : (place : ℕ) (x : Read ℕ) → word (drop place words) ≡ x
      → Some s ≡ signing (length words) (bind_read x (λ new left. lowest_sign_and_place k new 32 left))
      → Drew words k (bind_read x (λ new left. lowest_sign_and_place k new 32 left)) s
  unfolding bind_read taken signing
  drew_anew place (got v left) r e =
      let t : Taken = record { value = v; place = length words - length left; skipped = 0 } in
      let same : got v left ≡ got v (drop t.place words) = sym r ∙ (took_word words place {t = t} (rw r)).reads in
      let from : left ≡ drop t.place words = cc in
      let d = drew_lowest t.place v 32 (rw (← from) e) in
      record { reads = rw from d.reads; is-bit = d.is-bit; below = d.below; within = d.within }
  drew_anew place short r e = let no : ◌≡◌ {A = Option Signing} (Some s) None = e in cc

  pub drew : (place w left : ℕ) → Some s ≡ signing (length words) (sign_and_place k w left (drop place words))
      → Drew words k (sign_and_place k w left (drop place words)) s
  unfolding sign_and_place
  drew place w zero e = drew_anew place (word (drop place words)) refl e
  drew place w (suc left) e =
      let d = drew_lowest place w (suc left) e in
      record { reads = d.reads; is-bit = d.is-bit; below = d.below; within = d.within }

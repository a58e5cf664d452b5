-- How many words signs inserted take: one for each choice, one for each 32 signs, and those that the choices pass over.
use mathlib.Core.Path.{◌≡◌, refl, sym, ap, ◌∙◌}
use mathlib.Core.List.{List, [], ◌∷◌}
use Prim.Native.Nat.{ℕ, zero, suc, ◌+◌, ◌-◌, ◌/◌, ◌%◌}
use native.Mathlib.Omega.{arith}
use lib.ListN.{length}
use Rattle.distr.specs.Words.{Read, got, short, map_read, bind_read, word, choose}
use Rattle.distr.specs.Packed.{digits}
use Rattle.distr.specs.Skipped.{passed_over, passed_after}
use Rattle.distr.specs.Insertion.{count_up, signs, passed_signed}
use Rattle.distr.proofs.Reading.{short-not-got}
use Rattle.distr.proofs.Skipping.{choice_counts}
use Rattle.fixed_weights.specs.Inserting.{lowest_sign_and_place, sign_and_place, inserted_at, insert_signs}
use Rattle.fixed_weights.proofs.Inserting.{bind_map, length_inserted}

pub length_count : (a m : ℕ) → length (count_up a m) ≡ m
unfolding count_up
length_count a zero = refl
length_count a (suc m) = ap suc (length_count (suc a) m)

-- the words of signs that m insertions read where `left` signs are at hand
abbrev pub sign_words : ℕ → ℕ → ℕ
sign_words m left = (m - left + 31) / 32

-- signs inserted: a step with a sign at hand, the lowest bit of w, after which it is by `later`
module _ {A : Type 0} (value : ℕ → A) (m : ℕ) (later : (w left : ℕ) (xs ys : List A) (ws rest : List ℕ)
    → insert_signs value m w left xs ws ≡ got ys rest
    → length ws ≡ m + sign_words m left + passed_signed (count_up (suc (length xs)) m) (digits 2 left w) ws + length rest) where
  sign_counts : (w left : ℕ) (xs ys : List A) (ws rest : List ℕ)
      → bind_read (lowest_sign_and_place (suc (length xs)) w (suc left) ws) (λ c after.
      insert_signs value m c.rest c.fewer (inserted_at (value c.bit) xs c.chosen) after) ≡ got ys rest
      → length ws ≡ suc m + sign_words m left + (passed_over (suc (length xs)) ws + passed_after (choose (suc (length xs)) ws) (λ s after.
      passed_signed (count_up (suc (suc (length xs))) m) (digits 2 left (w / 2)) after)) + length rest
  unfolding lowest_sign_and_place bind_read passed_after
  sign_counts w left xs ys ws rest e = by_choice (choose (suc (length xs)) ws) refl (sym (bind_map _ (choose (suc (length xs)) ws) _) ∙ e)
    where
      by_choice : (r : Read ℕ) → choose (suc (length xs)) ws ≡ r
          → bind_read r (λ s after. insert_signs value m (w / 2) (suc left - 1) (inserted_at (value (w % 2)) xs s) after) ≡ got ys rest
          → length ws ≡ suc m + sign_words m left + (passed_over (suc (length xs)) ws + passed_after r (λ s after.
          passed_signed (count_up (suc (suc (length xs))) m) (digits 2 left (w / 2)) after)) + length rest
      by_choice (got s after) c f =
          let less : suc left - 1 ≡ left = omega arith in
          let rest-counted = later (w / 2) left (inserted_at (value (w % 2)) xs s) ys after rest (rw less at f) in
          omega (arith, choice_counts (suc (length xs)) ws s after c, rw (length_inserted (value (w % 2)) xs s) at rest-counted)
      by_choice short c f = absurd (short-not-got f)

pub insert_signs_count : {A : Type 0} (value : ℕ → A) (m w left : ℕ) (xs ys : List A) (ws rest : List ℕ)
    → insert_signs value m w left xs ws ≡ got ys rest
    → length ws ≡ m + sign_words m left + passed_signed (count_up (suc (length xs)) m) (digits 2 left w) ws + length rest
unfolding insert_signs sign_and_place bind_read map_read word signs count_up digits passed_signed passed_after
insert_signs_count value zero w left xs ys ws rest e = let same : got xs ws ≡ got ys rest = e in let l : ws ≡ rest = cc in omega (arith, ap length l)
insert_signs_count value (suc m) w zero xs ys [] rest e = absurd (short-not-got e)
insert_signs_count value (suc m) w zero xs ys (x ∷ ws) rest e = omega (arith, sign_counts value m (insert_signs_count value m) x 31 xs ys ws rest e)
insert_signs_count value (suc m) w (suc left) xs ys ws rest e = omega (arith, sign_counts value m (insert_signs_count value m) w left xs ys ws rest e)

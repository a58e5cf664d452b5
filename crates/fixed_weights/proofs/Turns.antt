-- A loop that inserts, over any kind of value: what is read from the words left now is what is read from those left at first.
use mathlib.Core.Path.{◌≡◌, refl, sym, ap, ◌∙◌}
use mathlib.Core.List.{List, ◌∷◌}
use Prim.Native.Nat.{ℕ, suc, ◌+◌, ◌-◌, ◌<◌, ◌≤◌}
use native.Mathlib.Numerals.{add-one}
use native.Mathlib.Omega.{arith}
use lib.ListN.{length, get_or, take, drop, set, replicate, length-set}
use lib.Seq.{length-take-le}
use Rattle.std.specs.Prelude.{Some, None}
use Rattle.distr.specs.Words.{Read, got, choose}
use Rattle.distr.specs.Skipped.{passed_over}
use Rattle.words.specs.declared.Taken.{Taken}
use Rattle.words.specs.Reading.{taken}
use Rattle.words.proofs.Taking.{took_choice, chosen-below, taken-short}
use Rattle.fixed_weights.specs.Inserting.{inserted_at, insert_all, stopped}
use Rattle.fixed_weights.proofs.Inserting.{stored-insertion, insert_next, insert_short}

module _ {A : Type 0} (words : List ℕ) (n : ℕ) (goal : Read (List A)) where
  -- the values below i are there, the words are read up to `at`, and `rest` is what is still to do
  pub record Turn (rest : List A → List ℕ → Read (List A)) (i at : ℕ) (out : List A) : Type 0 where
    pub size : length out ≡ n
    pub within : at ≤ length words
    pub reading : rest (take i out) (drop at words) ≡ goal

  -- a chosen place is copied to i, and a value takes its place
  pub turn_next : (rest : List A → List ℕ → Read (List A)) (i at : ℕ) (out : List A) → Turn rest i at out
      → (later : List A → List ℕ → Read (List A)) (s next : ℕ) (v : A) → i < n → s < i + 1 → next ≤ length words
      → rest (take i out) (drop at words) ≡ later (inserted_at v (take i out) s) (drop next words)
      → Turn later (i + 1) next (set (set out i (get_or out s v)) s v)
  turn_next rest i at out now later s next v h l w e = record {
    size = simp length-set now.size;
    within = w;
    reading = rw (add-one i)
        (ap (λ (t : List A). later t (drop next words)) (stored-insertion out i s v v (omega (arith, now.size)) (omega arith))
        ∙ sym e ∙ now.reading);
  }

-- copies of a value inserted up to `end`
module _ {A : Type 0} (words : List ℕ) (start end : ℕ) (v : A) (place : ℕ) (first : List A) where
  abbrev pub all_copies : Read (List A)
  all_copies = insert_all (replicate (end - start) v) (take start first) (drop place words)

  abbrev pub Copying : ℕ → ℕ → List A → Type 0
  Copying i at out = Turn words (length first) all_copies (insert_all (replicate (end - i) v)) i at out

  pub copying_first : place ≤ length words → Copying start place first
  copying_first h = record { size = refl; within = h; reading = refl }

  module _ (i at : ℕ) (out : List A) (now : Copying i at out) where
    pub copying_done : end ≤ i → i ≤ end → stopped (Some at) (take end out) words ≡ all_copies
    unfolding stopped insert_all
    copying_done h l =
        let there : end ≡ i = omega arith in
        let none : end - i ≡ 0 = omega arith in
        ap (λ (k : ℕ). got (take k out) (drop at words)) there ∙ rw none at now.reading

    module _ (more : i < end) (room : end ≤ length first) where
      one_more : insert_all (replicate (end - i) v) (take i out) (drop at words) ≡ insert_all (v ∷ replicate (end - suc i) v) (take i out) (drop at words)
      one_more =
          let more-left : end - i ≡ suc (end - suc i) = omega arith in
          ap (λ (k : ℕ). insert_all (replicate k v) (take i out) (drop at words)) more-left

      choice : choose (suc (length (take i out))) (drop at words) ≡ choose (i + 1) (drop at words)
      choice =
          let size : length (take i out) ≡ i = length-take-le i out (omega (arith, now.size)) in
          rw (size, add-one i)

      pub copying_short : (xs : List A) → None ≡ taken (length words) (passed_over (i + 1) (drop at words)) (choose (i + 1) (drop at words))
          → stopped None xs words ≡ all_copies
      unfolding stopped
      copying_short xs e =
          sym (insert_short v (replicate (end - suc i) v) (take i out) (drop at words) (choice ∙ taken-short (length words) _ _ e))
          ∙ sym one_more ∙ now.reading

      module _ (t : Taken) (chosen : Some t ≡ taken (length words) (passed_over (i + 1) (drop at words)) (choose (i + 1) (drop at words))) where
        pub copying_place : t.value < length out
        copying_place = omega (arith, now.size, chosen-below words at (i + 1) chosen)

        pub copying_next : Copying (i + 1) t.place (set (set out i (get_or out t.value v)) t.value v)
        copying_next =
            let took = took_choice words at (i + 1) chosen in
            turn_next words (length first) all_copies _ i at out now (insert_all (replicate (end - (i + 1)) v)) t.value t.place v (omega arith)
            (chosen-below words at (i + 1) chosen) took.within
            (rw (add-one i) (one_more ∙ insert_next v (replicate (end - suc i) v) (take i out) (drop at words) t.value (drop t.place words) (choice ∙ took.reads)))

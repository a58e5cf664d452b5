-- Signs inserted at chosen places: the rule of a fixed ternary weight, and the loop that inserts them. What is read from the words left now, and from the
-- signs at hand, is what is read from the words left at first.
use mathlib.Core.Path.{◌≡◌, refl, sym, ap, ◌∙◌}
use mathlib.Core.List.{List, [], ◌∷◌, map}
use Prim.Native.Nat.{ℕ, zero, suc, ◌+◌, ◌-◌, ◌/◌, ◌%◌, ◌<◌, ◌≤◌}
use native.Mathlib.Numerals.{add-one}
use native.Mathlib.Omega.{arith}
use lib.ListN.{length, get_or, take, drop, set, replicate, length-replicate, length-map}
use lib.Seq.{take_all, length-take-le}
use lib.IntN.{ℤ, pos}
use Rattle.std.specs.Prelude.{Some, None}
use Rattle.distr.specs.Words.{Read, got, map_read, bind_read, word, choose}
use Rattle.distr.specs.Rule.{read_by}
use Rattle.distr.specs.Packed.{digits, minus_one, sign_value}
use Rattle.distr.specs.Insertion.{count_up, inserted, signs, choose_signed, insert_signed, signed_insertion}
use Rattle.distr.proofs.Reading.{map_read_twice, map_read_same}
use Rattle.distr.proofs.Writing.{map-replicate, take-replicate}
use Rattle.fixed_weights.specs.declared.choices.Signing.{Signing}
use Rattle.fixed_weights.specs.Inserting.{lowest_sign_and_place, sign_and_place, signing, inserted_at, insert_signs, stopped}
use Rattle.fixed_weights.proofs.Inserting.{map_bind, bind_same, bind_bind, bind_map, length_inserted, map-inserted}
use Rattle.fixed_weights.proofs.Turns.{Turn, turn_next}
use Rattle.fixed_weights.proofs.Signs.{Drew, drew, signing_short}

-- the rule's insertion with signs is this one: a step with a sign at hand, the lowest bit of w, after which it is by `later`
module _ (m : ℕ) (later : (w left : ℕ) (xs : List ℤ) (ws : List ℕ)
    → map_read (λ ds. insert_signed ds xs) (choose_signed (count_up (suc (length xs)) m) (digits 2 left w) ws) ≡ insert_signs sign_value m w left xs ws) where
  rule_sign : (w left : ℕ) (xs : List ℤ) (ws : List ℕ)
      → map_read (λ ds. insert_signed ds xs) (bind_read (choose (suc (length xs)) ws) (λ s rest.
      map_read (λ ds. w % 2 ∷ s ∷ ds) (choose_signed (count_up (suc (suc (length xs))) m) (digits 2 left (w / 2)) rest)))
      ≡ bind_read (lowest_sign_and_place (suc (length xs)) w (suc left) ws) (λ c rest.
      insert_signs sign_value m c.rest c.fewer (inserted_at (sign_value c.bit) xs c.chosen) rest)
  unfolding lowest_sign_and_place insert_signed inserted inserted_at
  rule_sign w left xs ws =
      let less : suc left - 1 ≡ left = omega arith in
      map_bind (λ (ds : List ℕ). insert_signed ds xs) (choose (suc (length xs)) ws) _
      ∙ bind_same (choose (suc (length xs)) ws) _ _ (λ s rest.
      map_read_twice (λ (ds : List ℕ). insert_signed ds xs) (λ (ds : List ℕ). w % 2 ∷ s ∷ ds) (choose_signed (count_up (suc (suc (length xs))) m) (digits 2 left (w / 2)) rest)
      ∙ ap (λ (k : ℕ). map_read (λ (ds : List ℕ). insert_signed ds (inserted (sign_value (w % 2)) xs s)) (choose_signed (count_up (suc k) m) (digits 2 left (w / 2)) rest))
      (sym (length_inserted (sign_value (w % 2)) xs s))
      ∙ later (w / 2) left (inserted_at (sign_value (w % 2)) xs s) rest
      ∙ ap (λ (f : ℕ). insert_signs sign_value m (w / 2) f (inserted_at (sign_value (w % 2)) xs s) rest) (sym less))
      ∙ sym (bind_map _ (choose (suc (length xs)) ws) _)

pub rule-signs : (m w left : ℕ) (xs : List ℤ) (ws : List ℕ)
    → map_read (λ ds. insert_signed ds xs) (choose_signed (count_up (suc (length xs)) m) (digits 2 left w) ws) ≡ insert_signs sign_value m w left xs ws
unfolding map_read bind_read choose_signed count_up insert_signed insert_signs sign_and_place signs digits
rule-signs zero w left xs ws = refl
rule-signs (suc m) w zero xs ws =
    map_bind (λ (ds : List ℕ). insert_signed ds xs) (map_read (digits 2 32) (word ws)) _
    ∙ bind_map (digits 2 32) (word ws) _
    ∙ bind_same (word ws) _ _ (λ new rest. rule_sign m (rule-signs m) new 31 xs rest)
    ∙ sym (bind_bind (word ws) _ _)
rule-signs (suc m) w (suc left) xs ws = rule_sign m (rule-signs m) w left xs ws

-- insertion of signs does not look at the values
signs_held : {A : Type 0} (val : ℤ → A) (m w left : ℕ) (xs : List ℤ) (ws : List ℕ)
    → map_read (map val) (insert_signs sign_value m w left xs ws) ≡ insert_signs (λ b. val (sign_value b)) m w left (map val xs) ws
unfolding map_read insert_signs
signs_held val zero w left xs ws = refl
signs_held val (suc m) w left xs ws =
    rw (length-map xs val)
    (map_bind (map val) (sign_and_place (suc (length xs)) w left ws) _
    ∙ bind_same (sign_and_place (suc (length xs)) w left ws) _ _ (λ c rest.
    signs_held val m c.rest c.fewer (inserted_at (sign_value c.bit) xs c.chosen) rest
    ∙ ap (λ t. insert_signs (λ b. val (sign_value b)) m c.rest c.fewer t rest) (map-inserted val (sign_value c.bit) xs c.chosen)))

-- of an output that holds each coefficient by `val`, what stands for the sign b
sign_element : {A : Type 0} (val : ℤ → A) (b : ℕ) {minus one : A} (d : A) → b < 2 → minus ≡ val minus_one → one ≡ val (pos 1)
    → get_or (minus ∷ one ∷ []) b d ≡ val (sign_value b)
sign_element val zero d l m o = m
sign_element val (suc zero) d l m o = o
sign_element val (suc (suc b)) d l m o = absurd (omega arith)

module _ {A : Type 0} (hold : List ℤ → List A) (val : ℤ → A) (words : List ℕ) (n weight : ℕ) where
  abbrev pub all_signs : Read (List A)
  all_signs = map_read hold (read_by (signed_insertion weight n) words)

  -- the signs still to be inserted at index i, `left` of them at hand, the lowest bits of w
  abbrev still : ℕ → ℕ → ℕ → List A → List ℕ → Read (List A)
  still i w left = insert_signs (λ b. val (sign_value b)) (n - i) w left

  abbrev pub SignTurn : ℕ → ℕ → ℕ → ℕ → List A → Type 0
  SignTurn i at w left out = Turn words n all_signs (still i w left) i at out

  pub signs_insert : ((cs : List ℤ) → hold cs ≡ map val cs)
      → all_signs ≡ insert_signs (λ b. val (sign_value b)) weight 0 0 (replicate (n - weight) (val (pos 0))) words
  unfolding digits
  signs_insert each =
      let xs : List ℤ = replicate (n - weight) (pos 0) in
      map_read_same hold (map val) each _
      ∙ ap (λ (k : ℕ). map_read (map val) (map_read (λ ds. insert_signed ds xs) (choose_signed (count_up (suc k) weight) [] words)))
      (sym (length-replicate (n - weight) (pos 0)))
      ∙ ap (map_read (map val)) (rule-signs weight 0 0 xs words)
      ∙ signs_held val weight 0 0 xs words
      ∙ ap (λ (ys : List A). insert_signs (λ b. val (sign_value b)) weight 0 0 ys words) (map-replicate val (n - weight) (pos 0))

  pub signs_first : ((cs : List ℤ) → hold cs ≡ map val cs) → {z : A} {out : List A} → z ≡ val (pos 0) → out ≡ replicate n z → weight ≤ n
      → SignTurn (n - weight) 0 0 0 out
  signs_first each {z} {out} zeros filled room =
      let all : n - (n - weight) ≡ weight = omega arith in
      record {
        size = ap length filled ∙ length-replicate n z;
        within = omega arith;
        reading = rw all
            (ap (λ (t : List A). insert_signs (λ b. val (sign_value b)) weight 0 0 t words)
            (ap (take (n - weight)) filled ∙ take-replicate (n - weight) n z (omega arith) ∙ ap (replicate (n - weight)) zeros)
            ∙ sym (signs_insert each));
      }

  module _ (i at w left : ℕ) (out : List A) (now : SignTurn i at w left out) where
    pub signs_done : n ≤ i → stopped (Some at) out words ≡ all_signs
    unfolding stopped insert_signs
    signs_done h =
        let none : n - i ≡ 0 = omega arith in
        ap (λ (t : List A). got t (drop at words)) (sym (take_all i out (omega (arith, now.size)))) ∙ rw none at now.reading

    module _ (more : i < n) where
      one_more : still i w left (take i out) (drop at words)
          ≡ bind_read (sign_and_place (i + 1) w left (drop at words)) (λ c rest. still (suc i) c.rest c.fewer (inserted_at (val (sign_value c.bit)) (take i out) c.chosen) rest)
      unfolding insert_signs
      one_more =
          let size : length (take i out) ≡ i = length-take-le i out (omega (arith, now.size)) in
          let more-left : n - i ≡ suc (n - suc i) = omega arith in
          rw (more-left, size, add-one i)

      pub signs_short : (xs : List A) → None ≡ signing (length words) (sign_and_place (i + 1) w left (drop at words)) → stopped None xs words ≡ all_signs
      unfolding stopped bind_read
      signs_short xs e =
          sym (rw (signing_short (length words) (sign_and_place (i + 1) w left (drop at words)) e) at one_more) ∙ now.reading

      module _ (s : Signing) (chosen : Some s ≡ signing (length words) (sign_and_place (i + 1) w left (drop at words))) where
        drawn : Drew words (i + 1) (sign_and_place (i + 1) w left (drop at words)) s
        drawn = drew words (i + 1) s at w left chosen

        pub sign_bit : s.bit < 2
        sign_bit = drawn.is-bit

        pub sign_place : s.selected < length out
        sign_place = omega (arith, now.size, drawn.below)

        pub signs_next : (d : A) {minus one : A} {later : List A} → minus ≡ val minus_one → one ≡ val (pos 1) → let v = get_or (minus ∷ one ∷ []) s.bit d in
            later ≡ set (set out i (get_or out s.selected v)) s.selected v → SignTurn (i + 1) s.place s.signs.word s.signs.left later
        unfolding bind_read
        signs_next d {minus} {one} m o stored =
            let v : A = get_or (minus ∷ one ∷ []) s.bit d in
            rw stored
            (turn_next words n all_signs _ i at out now (still (i + 1) s.signs.word s.signs.left) s.selected s.place v (omega arith) drawn.below drawn.within
            (rw (add-one i, sign_element val s.bit d sign_bit m o) (rw drawn.reads at one_more)))

-- Fields of bytes: what writing one leaves behind, and what reading one hands back.
use Rattle.std.proofs.Common.{◌≡◌, ℕ, ◌*◌, ◌/◌, ◌%◌, ◌<◌, ◌≤◌, Bool, true, false, cond, not, ◌||◌, eqb, ltb, List, [], ◌∷◌, ◌++◌, length, get_or, take, set, sym, refl, ap, ◌∙◌, arith, length-append, take_at, ltb-false, eq-eqb, ne_eqb, eqb-true}
use Rattle.std.proofs.lemmas.Bool.{not-false}
use Rattle.distr.proofs.Reading.{or_false}
use Rattle.desk_cases.specs.Hexadecimal.{hex, shown, all_digits, bytes_in, unfit, is_field, Read}
use Rattle.desk_cases.proofs.Hexadecimal.{hex-length, bytes-length}

-- a front of so many elements, and what a caller that takes it has to know
abbrev pub Front : List ℕ → ℕ → List ℕ → Type 0
Front front count text = (take count text ≡ front) × ((count ≤ length text) × (count ≡ length (take count text)))

pub fronted : (front rest : List ℕ) (count : ℕ) → length front ≡ count → Front front count (front ++ rest)
fronted front rest count h = (take_at front rest count h, (omega (arith, length-append front rest), rw (take_at front rest count h) (sym h)))

pub no_bytes : (bytes text : List ℕ) → length bytes ≡ 0 → 0 < length text → Front (shown bytes) 1 (set text 0 45)
unfolding shown
no_bytes [] [] e h = absurd (omega arith)
no_bytes [] (t ∷ text) e h = (refl, (omega arith, refl))
no_bytes (b ∷ bytes) text e h = absurd (omega arith)

shown-some : (bytes : List ℕ) → (length bytes ≡ 0 → ⊥) → shown bytes ≡ hex bytes
unfolding shown
shown-some [] h = absurd (h refl)
shown-some (b ∷ bytes) h = refl

pub some_bytes : (bytes front rest : List ℕ) → (length bytes ≡ 0 → ⊥) → front ≡ hex bytes → Front (shown bytes) (2 * length bytes) (front ++ rest)
some_bytes bytes front rest h e = rw (shown-some bytes h, e) (fronted (hex bytes) rest (2 * length bytes) (hex-length bytes))

single_none : (text : List ℕ) → length text ≡ 1 → bytes_in text ≡ []
unfolding bytes_in
single_none [] h = refl
single_none (c ∷ []) h = refl
single_none (c ∷ d ∷ text) h = absurd (omega arith)

either_none : (b : Bool) → ◌≡◌ {A = List ℕ} [] (cond b [] [])
either_none true = refl
either_none false = refl

pub pairs : (most : ℕ) (text : List ℕ) → unfit most text ≡ false → (length text ≡ 2 * (length text / 2)) × (length text / 2 ≤ most)
pairs most text fit =
    let both = or_false (eqb (length text / 2) 0 || not (eqb (length text % 2) 0)) (ltb most (length text / 2)) fit in
    let even = or_false (eqb (length text / 2) 0) (not (eqb (length text % 2) 0)) both.0 in
    (omega (arith, eqb-true (length text % 2) 0 (not-false (eqb (length text % 2) 0) even.1)), ltb-false _ _ both.1)

module _ (text room : List ℕ) where
  read_none : is_field (length room) text ≡ false → Read text (length room) false 0 room
  read_none e = record { judged = sym e; bytes = rw e; inside = omega arith; counted = refl }

  pub read_one : length text ≡ 1 → Read text (length room) (eqb (get_or text 0 0) 45) 0 room
  unfolding is_field
  read_one h = record {
    judged = rw (eq-eqb (length text) 1 h);
    bytes = rw (single_none text h) (either_none (is_field (length room) text));
    inside = omega arith;
    counted = refl;
  }

  module _ (several : length text ≡ 1 → ⊥) where
    pub read_unfit : unfit (length room) text ≡ true → Read text (length room) false 0 room
    unfolding is_field
    read_unfit e = read_none (rw (ne_eqb (length text) 1 several, e))

    module _ (fit : unfit (length room) text ≡ false) where
      pub read_other : all_digits text ≡ false → Read text (length room) false 0 room
      unfolding is_field
      read_other e = read_none (rw (ne_eqb (length text) 1 several, fit, e))

      pub read_all : (front rest : List ℕ) → all_digits text ≡ true → front ≡ bytes_in text → Read text (length room) true (length text / 2) (front ++ rest)
      unfolding is_field
      read_all front rest e f =
          let count : length front ≡ length text / 2 = ap length f ∙ bytes-length (length text / 2) text (pairs (length room) text fit).0 in
          let whole = fronted front rest (length text / 2) count in
          record {
            judged = rw (ne_eqb (length text) 1 several, fit, e);
            bytes = rw (ne_eqb (length text) 1 several, fit, e) (whole.0 ∙ f);
            inside = whole.1.0;
            counted = whole.1.1;
          }

-- The answers of a CRT draw: its refusals in their order, the empty output, and what the rules settle; and the encoded centered binomial.
use mathlib.Core.Path.{◌≡◌, refl, sym, ap, ◌∙◌}
use mathlib.Core.Bool.{Bool, true, false, not, cond, ◌&&◌, ◌||◌}
use mathlib.Core.List.{List, [], ◌∷◌, ◌++◌, map, append-nil}
use Prim.Native.Nat.{ℕ, ◌*◌, ◌-◌, ◌^◌, ◌<◌, ◌≤◌}
use native.Mathlib.Omega.{arith}
use borrow.Author.Tests.{eqb-true, ltb-false, lt-ltb, le-ltb, eq-eqb, ne_eqb}
use lib.Dec.{leb, ltb, eqb}
use lib.ListN.{length, drop}
use lib.IntN.{ℤ}
use Rattle.distr.specs.Distribution.{Distr, Tables, coefficients}
use Rattle.distr.specs.Encoding.{encode, rows}
use Rattle.distr.specs.Making.{refuse, largest}
use Rattle.distr.specs.Numbers.{first_of, past_end, state_numbers, crt_numbers, serves_crt, shape_number, too_long, modulus_number, moduli_numbers, table_number, layer_index, table_index}
use Rattle.distr.specs.Draw.{Outcome, settled, judged, drawn, naming, crt_draw}
use Rattle.draw_laws.proofs.Joining.{first-before, first-within, first_after, refused}
use Rattle.draw_laws.proofs.Small.{first_below, refuse-below}

-- The numbers of a CRT output and of its moduli.
abbrev pub layout_numbers : ℕ → ℕ → ℕ → List ℕ → List ℕ
layout_numbers most n count moduli = shape_number n count (length moduli) ∷ too_long n ∷ moduli_numbers most moduli

-- they and those of the state are small
moduli-small : (most : ℕ) (moduli : List ℕ) → first_of (moduli_numbers most moduli) < 30
unfolding first_of moduli_numbers
moduli-small most [] = omega arith
moduli-small most (q ∷ moduli) =
    first_below (refuse (eqb q 0) 10) (modulus_number most q ∷ moduli_numbers most moduli) (refuse-below (eqb q 0) 10 (omega arith))
    (first_below (refuse (leb q most) 9) (moduli_numbers most moduli) (refuse-below (leb q most) 9 (omega arith)) (moduli-small most moduli))

pub layout_small : (made : Bool) (word_count place most n count : ℕ) (moduli : List ℕ)
    → first_of (state_numbers made word_count place ++ layout_numbers most n count moduli) < 30
layout_small made word_count place most n count moduli =
    let bad = not (eqb n (count * length moduli)) || ltb (2 ^ 64 - 1) (count * length moduli) in
    first_below (refuse (not made) 21) (past_end word_count place ∷ layout_numbers most n count moduli) (refuse-below (not made) 21 (omega arith))
    (first_below (past_end word_count place) (layout_numbers most n count moduli) (refuse-below (ltb word_count place) 22 (omega arith))
    (first_below (refuse bad 11) (too_long n ∷ moduli_numbers most moduli) (refuse-below bad 11 (omega arith))
    (first_below (too_long n) (moduli_numbers most moduli) (refuse-below (ltb 65536 n) 6 (omega arith)) (moduli-small most moduli))))

-- what such numbers say, where none refuses
pub record Layout (most n count : ℕ) (moduli : List ℕ) : Type 0 where
  pub shape : n ≡ count * length moduli
  pub few : n ≤ 65536
  pub above : first_of (moduli_numbers most moduli) ≡ 0

pub layout_passed : (most n count : ℕ) (moduli : List ℕ) → first_of (layout_numbers most n count moduli) ≡ 0 → Layout most n count moduli
unfolding first_of
layout_passed most n count moduli = go (eqb n (count * length moduli)) (ltb (2 ^ 64 - 1) (count * length moduli)) (ltb 65536 n) refl refl
  where
    go : (same large long : Bool) → eqb n (count * length moduli) ≡ same → ltb 65536 n ≡ long
        → first_of (refuse (not same || large) 11 ∷ refuse long 6 ∷ moduli_numbers most moduli) ≡ 0 → Layout most n count moduli
    go true false false e f z = record { shape = eqb-true n (count * length moduli) e; few = ltb-false 65536 n f; above = z }
    go true false true e f z = absurd (omega arith)
    go true true long e f z = absurd (omega arith)
    go false large long e f z = absurd (omega arith)

-- 11, or not
pub shape_good : (n count rows : ℕ) → n < 2 ^ 64 → eqb n (count * rows) ≡ true → shape_number n count rows ≡ 0
shape_good n count rows h e =
    let whole : n ≡ count * rows = eqb-true n (count * rows) e in
    rw (e, le-ltb (2 ^ 64 - 1) (count * rows) (omega arith))

pub shape_bad : (n count rows : ℕ) → eqb n (count * rows) ≡ false → shape_number n count rows ≡ 11
shape_bad n count rows e = rw e

same_either : {A : Type 0} (b : Bool) (x y z : A) → x ≡ z → y ≡ z → cond b x y ≡ z
same_either true x y z e f = e
same_either false x y z e f = f

module _ (d : Distr) (tables : Tables) (count : ℕ) (moduli words : List ℕ) (place : ℕ) (out : List ℕ) where
  numbers : Bool → List ℕ
  numbers made = state_numbers (made && serves_crt d) (length words) place ++ crt_numbers d tables (length out) count moduli

  -- the draw without the index that goes with its number
  pub crt_plain : Bool → Outcome ℕ
  crt_plain made =
      cond (eqb (length out) 0) (judged (first_of (numbers made)) place out (record { number = 0; place = place; index = 0; output = out }))
      (drawn (rows moduli) (numbers made) words place out count (coefficients d count tables))

  pub crt_named : (made : Bool) → naming (table_index d tables) (crt_plain made) ≡ crt_draw made d tables count moduli words place out
  unfolding crt_draw crt_plain numbers
  crt_named made = refl

  -- a first number above 0 is the answer, whether or not the output is empty
  crt_refused : (made : Bool) {k : ℕ} → first_of (numbers made) ≡ k → 0 < k
      → crt_plain made ≡ record { number = k; place = place; index = 0; output = out }
  unfolding crt_plain
  crt_refused made {k} e h =
      same_either (eqb (length out) 0) _ _ _ (refused (numbers made) place out _ e h) (refused (numbers made) place out _ e h)

  -- 21: a sampler that making never gives, or a distribution that CRT draws do not serve
  pub crt_unmade : (made : Bool) → (made && serves_crt d) ≡ false
      → crt_draw made d tables count moduli words place out ≡ record { number = 21; place = place; index = 0; output = out }
  unfolding first_of numbers layer_index
  crt_unmade made e = sym (crt_named made) ∙ ap (naming (table_index d tables)) (crt_refused made (rw e) (omega arith))

  module _ (serves : serves_crt d ≡ true) where
    -- 22
    pub crt_past_end : length words < place → crt_plain true ≡ record { number = 22; place = place; index = 0; output = out }
    unfolding first_of numbers
    crt_past_end h = crt_refused true (rw (serves, lt-ltb (length words) place h)) (omega arith)

    module _ (here : place ≤ length words) where
      -- the numbers of the layout decide, and then the tables'
      passed : first_of (numbers true) ≡ first_of (layout_numbers (largest d) (length out) count moduli ++ (table_number d tables ∷ []))
      unfolding first_of numbers
      passed = rw (serves, le-ltb (length words) place here)

      -- 11, 6, 10 or 9
      pub crt_layout : 0 < first_of (layout_numbers (largest d) (length out) count moduli)
          → crt_plain true
          ≡ record { number = first_of (layout_numbers (largest d) (length out) count moduli); place = place; index = 0; output = out }
      crt_layout h = crt_refused true (passed ∙ first-within (layout_numbers (largest d) (length out) count moduli) (table_number d tables ∷ []) h) h

      module _ (good : first_of (layout_numbers (largest d) (length out) count moduli) ≡ 0) where
        last-number : first_of (numbers true) ≡ table_number d tables
        unfolding first_of
        last-number =
            passed ∙ first_after (layout_numbers (largest d) (length out) count moduli) (table_number d tables ∷ []) good
            ∙ first-before (table_number d tables) [] refl

        -- 12, 13, or 30 to 32
        pub crt_table : 0 < table_number d tables
            → crt_plain true ≡ record { number = table_number d tables; place = place; index = 0; output = out }
        crt_table h = crt_refused true last-number h

        module _ (table : table_number d tables ≡ 0) where
          -- an empty output succeeds and reads nothing
          pub crt_empty : length out ≡ 0
              → crt_plain true ≡ record { number = 0; place = place; index = 0; output = out }
          unfolding crt_plain judged
          crt_empty e = rw (last-number, table, eq-eqb (length out) 0 e)

          -- another is what the rules settle
          pub crt_settled : 0 < length out
              → crt_plain true
              ≡ settled (rows moduli) (length words) place count (coefficients d count tables (drop place words))
          unfolding crt_plain judged
          crt_settled h = rw (last-number, table, ne_eqb (length out) 0 (λ e. omega arith))

-- the row of one modulus
pub rows-one : (q : ℕ) (cs : List ℤ) → rows (q ∷ []) cs ≡ map (encode q) cs
unfolding rows
rows-one q cs = append-nil (map (encode q) cs)

-- The number of a CRT draw: the shape is judged first, and the order of the rest is that of any draw.
use Rattle.std.proofs.Common.{◌≡◌, ℕ, zero, suc, ◌*◌, ◌^◌, ◌<◌, true, false, eqb, List, [], ◌∷◌, length, refl, ◌∙◌}
use Rattle.distr.specs.Numbers.{first_of, past_end, shape_number, too_long, moduli_numbers}
use Rattle.draw_laws.proofs.Joining.{first_alone}
use Rattle.draw_laws.proofs.Crt.{shape_good, shape_bad}

-- the first of a list's numbers may stand for the list
last-joined : (a b : ℕ) (ns : List ℕ) → first_of (a ∷ b ∷ first_of ns ∷ []) ≡ first_of (a ∷ b ∷ ns)
unfolding first_of
last-joined zero zero ns = first_alone (first_of ns)
last-joined zero (suc b) ns = refl
last-joined (suc a) b ns = refl

-- 0 is not too long, and 11 comes before all that follows
shape-first : (a : ℕ) (ns : List ℕ) → first_of (a ∷ too_long 0 ∷ 11 ∷ []) ≡ first_of (a ∷ 11 ∷ ns)
unfolding first_of
shape-first zero ns = refl
shape-first (suc a) ns = refl

-- a number that does not refuse may stand before others
nothing-between : (a : ℕ) (ns : List ℕ) → first_of (a ∷ ns) ≡ first_of (a ∷ 0 ∷ ns)
unfolding first_of
nothing-between zero ns = refl
nothing-between (suc a) ns = refl

module _ (words place n count largest : ℕ) (moduli : List ℕ) {k : ℕ} where
  pub crt_shaped : n < 2 ^ 64 → eqb n (count * length moduli) ≡ true → {own : ℕ} → own ≡ first_of (moduli_numbers largest moduli)
      → k ≡ first_of (past_end words place ∷ too_long n ∷ own ∷ [])
      → k ≡ first_of (past_end words place ∷ shape_number n count (length moduli) ∷ too_long n ∷ moduli_numbers largest moduli)
  crt_shaped h shaped own told =
      told
      ∙ rw (own, shape_good n count (length moduli) h shaped)
      (last-joined (past_end words place) (too_long n) (moduli_numbers largest moduli) ∙ nothing-between (past_end words place) _)

  pub crt_shapeless : eqb n (count * length moduli) ≡ false → k ≡ first_of (past_end words place ∷ too_long 0 ∷ 11 ∷ [])
      → k ≡ first_of (past_end words place ∷ shape_number n count (length moduli) ∷ too_long n ∷ moduli_numbers largest moduli)
  crt_shapeless shaped told = told ∙ rw (shape_bad n count (length moduli) shaped) (shape-first (past_end words place) _)

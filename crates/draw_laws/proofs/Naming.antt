-- A draw with the index that goes with its number (02 [6]), where numbers below 30 go with 0: a draw that none of 30 to 32 refuses has index 0.
use mathlib.Core.Path.{◌≡◌, refl, sym, ap, ◌∙◌}
use mathlib.Core.Bool.{Bool, true, false, cond}
use mathlib.Core.List.{List, [], ◌∷◌}
use Prim.Native.Nat.{ℕ, zero, suc, ◌<◌}
use native.Mathlib.Omega.{arith}
use borrow.Author.Tests.{ne_eqb, eqb-true, eqb-false}
use lib.Dec.{ltb, eqb}
use lib.ListN.{length, drop}
use lib.IntN.{ℤ}
use Rattle.distr.specs.Words.{Read, got, short}
use Rattle.distr.specs.Constants.{output_limit}
use Rattle.distr.specs.Making.{refuse}
use Rattle.distr.specs.Numbers.{first_of, past_end, too_long}
use Rattle.distr.specs.Draw.{Outcome, settled, judged, naming, read_draw}
use Rattle.draw_laws.proofs.Joining.{first_alone}
use Rattle.draw_laws.proofs.Small.{first_below, refuse-below}

-- a draw's number is small where its own is
pub draw-small : (count place n own : ℕ) → own < 30 → first_of (past_end count place ∷ too_long n ∷ own ∷ []) < 30
unfolding first_of
draw-small count place n own small =
    first_below (past_end count place) (too_long n ∷ own ∷ []) (refuse-below (ltb count place) 22 (omega arith))
    (first_below (too_long n) (own ∷ []) (refuse-below (ltb output_limit n) 6 (omega arith)) (first_below own [] small (omega arith)))

-- and one that is not its own is 22 or 6
draw-other : (count place n own : ℕ) → (first_of (past_end count place ∷ too_long n ∷ own ∷ []) ≡ own → ⊥)
    → first_of (past_end count place ∷ too_long n ∷ own ∷ []) < 30
unfolding first_of
draw-other count place n own = go (ltb count place) (ltb output_limit n)
  where
    go : (past long : Bool) → (first_of (refuse past 22 ∷ refuse long 6 ∷ own ∷ []) ≡ own → ⊥) → first_of (refuse past 22 ∷ refuse long 6 ∷ own ∷ []) < 30
    go true long other = omega arith
    go false true other = omega arith
    go false false other = absurd (other (first_alone own))

-- so the index is that of the draw's own number where this refuses it, else 0
pub draw-index : (index : ℕ → ℕ) → ((k : ℕ) → k < 30 → index k ≡ 0) → (count place n own : ℕ) {k : ℕ}
    → k ≡ first_of (past_end count place ∷ too_long n ∷ own ∷ []) → cond (eqb k own) (index own) 0 ≡ index k
draw-index index none count place n own {k} e = go (eqb k own) refl
  where
    go : (b : Bool) → eqb k own ≡ b → cond b (index own) 0 ≡ index k
    go true t = ap index (sym (eqb-true k own t))
    go false t = sym (none k (rw e (draw-other count place n own (λ same. eqb-false k own t (e ∙ same)))))

module _ {A : Type 0} (index : ℕ → ℕ) where
  -- a number that refuses goes with 0, and what it refuses has its own index
  pub judged-naming : (k place : ℕ) (out : List A) (x : Outcome A) → (0 < k → index k ≡ 0)
      → judged k place out (naming index x) ≡ naming index (judged k place out x)
  unfolding judged
  judged-naming zero place out x none = refl
  judged-naming (suc k) place out x none =
      rw (ne_eqb (suc k) 0 (λ e. omega arith))
      (ap (λ (i : ℕ). record { number = suc k; place = place; index = i; output = out }) (sym (none (omega arith))))

  module _ (none : (k : ℕ) → k < 30 → index k ≡ 0) where
    -- a refusal by a small number
    pub refusal-named : (k place : ℕ) (out : List A) → k < 30
        → ◌≡◌ {A = Outcome A} (record { number = k; place = place; index = 0; output = out }) (record { number = k; place = place; index = index k; output = out })
    refusal-named k place out small = ap (λ (i : ℕ). record { number = k; place = place; index = i; output = out }) (sym (none k small))

    -- what was read
    pub settled-named : (write : List ℤ → List A) (count place n : ℕ) (read : Read (List ℤ))
        → settled write count place n read ≡ naming index (settled write count place n read)
    unfolding settled
    settled-named write count place n (got cs rest) = refusal-named 0 _ _ (omega arith)
    settled-named write count place n short = refusal-named 23 _ _ (omega arith)

    -- a whole draw whose own number is small
    pub read_named : (write : List ℤ → List A) (own : ℕ) (rules : List ℕ → Read (List ℤ)) (words : List ℕ) (place : ℕ) (out : List A) → own < 30
        → read_draw write own rules words place out ≡ naming index (read_draw write own rules words place out)
    read_named write own rules words place out small =
        let k = first_of (past_end (length words) place ∷ too_long (length out) ∷ own ∷ []) in
        ap (judged k place out) (settled-named write (length words) place (length out) (rules (drop place words)))
        ∙ judged-naming k place out _ (λ some. none k (draw-small (length words) place (length out) own small))

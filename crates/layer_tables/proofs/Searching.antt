-- A search for the first wrong entry: while none is found, the first from here on is the first of all.
use mathlib.Core.Path.{◌≡◌, sym, ap, ◌∙◌}
use mathlib.Core.Bool.{Bool, true, false, not, not-not, cond, ◌&&◌, ◌||◌, and-true, or-true}
use mathlib.Core.List.{List, [], ◌∷◌}
use Prim.Native.Nat.{ℕ, suc, ◌+◌, ◌-◌, ◌<◌, ◌≤◌}
use native.Mathlib.Numerals.{add-one}
use native.Mathlib.Omega.{arith}
use borrow.Author.Tests.{not-true, not-false, lt-ltb, le-ltb}
use Rattle.std.proofs.Common.{Some, None}
use Rattle.std.specs.List.{position_or_len}
use Rattle.layer_tables.specs.Fault.{wrong_at}
use native.Mathlib.Nat.{add-zero, zero-add}
use lib.Dec.{eqb, eqb-suc-suc}
use lib.ListN.{length, get_or}
use lib.Ieee.{Float}
use Rattle.distr.specs.Constants.{literal}
use Rattle.distr.specs.Layered.{in_unit}
use Rattle.distr.specs.FirstWrong.{Asked, curve_asked, right, first_not, first_wrong}
use Rattle.distr.proofs.FirstWrong.{get_d_there}

-- none of the first i entries is wrong
abbrev pub Searched : (ℕ → Bool) → ℕ → ℕ → Type 0
Searched right n i = (i ≤ n) × (first_not right i (n - i) ≡ first_not right 0 n)

-- `test` is what the code makes of the entry at i
module _ (right : ℕ → Bool) (n : ℕ) where
  turn : (i : ℕ) → i < n → first_not right i (n - i) ≡ cond (right i) (first_not right (i + 1) (n - (i + 1))) i
  unfolding first_not
  turn i h =
      let more : n - i ≡ suc (n - (i + 1)) = omega arith in
      rw (more, add-one i)

  pub searched_none : Searched right n 0
  searched_none =
      let same : n - 0 ≡ n = omega arith in
      (omega arith, rw same)

  pub searched_more : (i : ℕ) (test : Bool) → not test ≡ false → test ≡ right i → i < n → Searched right n i → Searched right n (i + 1)
  searched_more i test t e h s = (omega arith, sym (rw (← e, not-false test t) at (turn i h)) ∙ s.1)

  pub searched_found : (i : ℕ) (test : Bool) → not test ≡ true → test ≡ right i → i < n → Searched right n i → Some i ≡ wrong_at n (first_not right 0 n)
  searched_found i test t e h s =
      let found : i ≡ first_not right 0 n = sym (rw (← e, not-true test t) at (turn i h)) ∙ s.1 in
      rw (← found, lt-ltb i n h)

  pub searched_all : (i : ℕ) → n ≤ i → Searched right n i → None ≡ wrong_at n (first_not right 0 n)
  unfolding first_not
  searched_all i h s =
      let none : n - i ≡ 0 = omega arith in
      let last : n ≡ i = omega arith in
      let same : n ≡ first_not right 0 n = last ∙ rw none at s.1 in
      rw (← same, le-ltb n n (omega arith))

-- the code's tests of an entry are those of the definition; `d` stands for a missing one in the code
module _ {A : Type 0} (asked : Asked A) (none d : A) (xs : List A) where
  pub entry : (before i : ℕ) → before ≡ i - 1 → i < length xs
      → asked.each (get_or xs i d) && (not (eqb i 0) || asked.first (get_or xs i d)) && (eqb i 0 || asked.next (get_or xs before d) (get_or xs i d))
      && (not (eqb (i + 1) (length xs)) || asked.last (get_or xs i d))
      ≡ right asked none xs i
  entry before i e h =
      rw (e, get_d_there xs i d none h, get_d_there xs (i - 1) d none (omega arith))
      (start (asked.each x) (eqb i 0) (asked.first x) (asked.next (get_or xs (i - 1) none) x) (not (eqb (i + 1) (length xs)) || asked.last x))
    where
      x : A
      x = get_or xs i none

      start : (a b f g z : Bool) → a && (not b || f) && (b || g) && z ≡ a && cond b f g && z
      start a true f g z = rw (and-true (a && f))
      start a false f g z = rw (and-true a)

-- of a curve value nothing is asked but its range
pub value_entry : (d : Float) (ps : List Float) (i : ℕ) → i < length ps → in_unit (get_or ps i d) ≡ right curve_asked (literal 0 1) ps i
value_entry d ps i h =
    ap in_unit (get_d_there ps i d (literal 0 1) h) ∙ alone (in_unit (get_or ps i (literal 0 1))) (eqb i 0) (not (eqb (i + 1) (length ps)))
  where
    alone : (a b z : Bool) → a ≡ a && cond b true true && (z || true)
    alone a true z = rw (or-true z, and-true (a && true), and-true a)
    alone a false z = rw (or-true z, and-true (a && true), and-true a)

-- the first entry of a list that a test finds, as the first index that is not right
search_list : {A : Type 0} (test : A → Bool) (none : A) (good : ℕ → Bool) (xs : List A) (i : ℕ)
    → ((k : ℕ) → k < length xs → good (i + k) ≡ not (test (get_or xs k none))) → first_not good i (length xs) ≡ i + position_or_len test xs
unfolding first_not
search_list test none good [] i h = omega arith
search_list test none good (x ∷ xs) i h =
    let here : good i ≡ not (test x) = rw add-zero at (h 0 (omega arith)) in
    rw here
    (go (test x)
    (search_list test none good xs (suc i) (λ k l.
    let same : i + suc k ≡ suc i + k = omega arith in
    rw same at (h (suc k) (omega arith)))))
  where
    go : (b : Bool) → first_not good (suc i) (length xs) ≡ suc i + position_or_len test xs
        → cond (not b) (first_not good (suc i) (length xs)) i ≡ i + cond (not b) (1 + position_or_len test xs) 0
    go true later = omega arith
    go false later = omega (arith, later)

pub first_value : (ps : List Float) → position_or_len (λ p. not (in_unit p)) ps ≡ first_wrong curve_asked (literal 0 1) ps
first_value ps =
    sym
    (search_list (λ p. not (in_unit p)) (literal 0 1) (right curve_asked (literal 0 1) ps) ps 0 (λ k h.
    let same : 0 + k ≡ k = omega arith in
    rw same (sym (value_entry (literal 0 1) ps k h) ∙ sym (not-not (in_unit (get_or ps k (literal 0 1))))))
    ∙ zero-add (position_or_len (λ p. not (in_unit p)) ps))

-- a length less one
pub one_more : (n m : ℕ) → 0 < n → eqb (n - 1) m ≡ eqb n (m + 1)
one_more n m h =
    let back : suc (n - 1) ≡ n = omega arith in
    sym (eqb-suc-suc (n - 1) m) ∙ rw (back, add-one m)

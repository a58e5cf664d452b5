-- `compare::agrees` compares the index, the number, the place, both sums and what follows them.
use Rattle.std.proofs.Common.{◌≡◌, ℕ, ◌-◌, ◌<◌, ◌≤◌, false, ◌&&◌, eqb, List, [], ◌∷◌, length, get_or, take, drop, sym, refl, ap, ◌∙◌, arith, length-drop, take_all, eq-eqb, ne_eqb}
use mathlib.Core.Bool.{and_assoc, and-false}
use Rattle.rust_answers.specs.Answer.{same, shown, answer_line}
use Rattle.rust_answers.proofs.compare.agrees.Goals as goal

-- a list that is too short is not the same
short : (s r : List ℕ) (n p w b : ℕ) → length s < 4 → same s (n ∷ p ∷ w ∷ b ∷ r) ≡ false
unfolding same
short [] r n p w b h = refl
short (x ∷ []) r n p w b h = and-false (eqb x n)
short (x ∷ y ∷ []) r n p w b h = ap (λ t. eqb x n && t) (and-false (eqb y p)) ∙ and-false (eqb x n)
short (x ∷ y ∷ z ∷ []) r n p w b h =
    ap (λ t. eqb x n && (eqb y p && t)) (and-false (eqb z w)) ∙ ap (λ t. eqb x n && t) (and-false (eqb y p)) ∙ and-false (eqb x n)
short (x ∷ y ∷ z ∷ u ∷ s) r n p w b h = absurd (omega arith)

-- the first four numbers, and what follows
joined : (s r : List ℕ) (n p w b : ℕ) → 4 ≤ length s
    → ((((eqb (get_or s 0 0) n && eqb (get_or s 1 0) p) && eqb (get_or s 2 0) w) && eqb (get_or s 3 0) b) && same (drop 4 s) r)
    ≡ same s (n ∷ p ∷ w ∷ b ∷ r)
unfolding same
joined [] r n p w b h = absurd (omega arith)
joined (x ∷ []) r n p w b h = absurd (omega arith)
joined (x ∷ y ∷ []) r n p w b h = absurd (omega arith)
joined (x ∷ y ∷ z ∷ []) r n p w b h = absurd (omega arith)
joined (x ∷ y ∷ z ∷ u ∷ s) r n p w b h =
    and_assoc ((eqb x n && eqb y p) && eqb z w) (eqb u b) (same s r)
    ∙ and_assoc (eqb x n && eqb y p) (eqb z w) (eqb u b && same s r)
    ∙ and_assoc (eqb x n) (eqb y p) (eqb z w && (eqb u b && same s r))

none : (t : List ℕ) → eqb (length t) 0 ≡ same t []
unfolding same
none [] = refl
none (x ∷ t) = ne_eqb (length (x ∷ t)) 0 (λ e. omega arith)

tail : (s : List ℕ) → take (length s - 4) (drop 4 s) ≡ drop 4 s
tail s = take_all (length s - 4) (drop 4 s) (simp length-drop (omega arith))

pub returns-then-stored-lt4 : goal.returns-then-stored-lt4
unfolding answer_line
returns-then-stored-lt4 c =
    let a = c.args in
    rw (eq-eqb a.index 0 c.if-index-ne0.false)
    (sym (short a.stored.now _ a.number a.place a.skipped_words a.skipped_bytes c.if-stored-lt4.true))

pub returns-then-number-ne0 : goal.returns-then-number-ne0
unfolding answer_line
returns-then-number-ne0 c =
    let a = c.args in
    let s = a.stored.now in
    rw (eq-eqb a.index 0 c.if-index-ne0.false, ne_eqb a.number 0 c.if-number-ne0.true, tail s, none (drop 4 s))
    (joined s [] a.number a.place a.skipped_words a.skipped_bytes c.if-stored-lt4.false)

pub returns : goal.returns
unfolding answer_line
returns c =
    let a = c.args in
    let s = a.stored.now in
    rw (eq-eqb a.index 0 c.if-index-ne0.false, eq-eqb a.number 0 c.if-number-ne0.false, c.is_shown.ensures, tail s)
    (joined s (shown a.offset a.output.now) a.number a.place a.skipped_words a.skipped_bytes c.if-stored-lt4.false)

-- `compare::agrees` compares the number, how many coefficients follow it, and the output.
use Rattle.std.proofs.Common.{◌≡◌, ℕ, ◌-◌, ◌<◌, false, cond, ◌&&◌, eqb, List, [], ◌∷◌, length, get_or, take, drop, refl, arith, length-drop, take_all, eq-eqb, ne_eqb}
use Rattle.c_answers.specs.Answer.{expected as expected_at, all_below, agreeing}
use Rattle.c_answers.proofs.compare.agrees.Goals as goal
use Rattle.c_answers.proofs.compare.agrees.Goals.{then-number-eq0, else-number-eq0}

-- nothing is stored
none : (s : List ℕ) (number : ℕ) (output : List ℕ) → length s ≡ 0 → false ≡ agreeing s number output
unfolding agreeing
none [] number output h = refl
none (n ∷ s) number output h = absurd (omega arith)

-- a number is stored, and what follows it
some : (s : List ℕ) (number count : ℕ) (output : List ℕ) → 0 < length s → count ≡ cond (eqb number 0) (length output) 0
    → ((eqb (get_or s 0 0) number && eqb (length (drop 1 s)) count)
    && all_below (length output) (λ i. eqb (get_or output i 0) (expected_at (drop 1 s) number i)))
    ≡ agreeing s number output
unfolding agreeing
some [] number count output h e = absurd (omega arith)
some (n ∷ s) number count output h e = rw e

tail : (s : List ℕ) → take (length s - 1) (drop 1 s) ≡ drop 1 s
tail s = take_all (length s - 1) (drop 1 s) (simp length-drop (omega arith))

pub returns-then-stored-eq0 : goal.returns-then-stored-eq0
returns-then-stored-eq0 c = none c.args.stored.now _ _ c.if-stored-eq0.true

pub returns : goal.returns
returns c =
    let s = c.args.stored.now in
    let output = c.args.output.now in
    let counted : c.if-number-eq0.count ≡ cond (eqb c.args.number 0) (length output) 0 =
    elim c.if-number-eq0.branch [ then-number-eq0 w ↦ rw (eq-eqb _ _ w.if-number-eq0.true) w.count-is | else-number-eq0 w ↦ rw (ne_eqb _ _ w.if-number-eq0.false) w.count-is ] in
    rw (c.is_expected.ensures, tail s) (some s c.args.number c.if-number-eq0.count output (omega arith) counted)

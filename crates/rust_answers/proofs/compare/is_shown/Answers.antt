-- `compare::is_shown` compares a short output whole, and another by its digest.
use Rattle.std.proofs.Common.{ℕ, [], ◌∷◌, ap, ◌∙◌, le-leb}
use Rattle.std.proofs.lemmas.Bool.{lt-leb}
use Rattle.rust_answers.specs.Answer.{same, shown}
use Rattle.rust_answers.proofs.compare.is_shown.Goals as goal

pub returns-then-output-le-SHOWN : goal.returns-then-output-le-SHOWN
unfolding shown
returns-then-output-le-SHOWN c = rw (le-leb _ _ c.if-output-le-SHOWN.true) c.same.ensures

pub returns : goal.returns
unfolding shown
returns c =
    rw (lt-leb _ _ c.if-output-le-SHOWN.false)
    (c.same-2.ensures ∙ ap (λ (d : ℕ). same c.args.stored.now (d ∷ [])) c.digest.ensures)

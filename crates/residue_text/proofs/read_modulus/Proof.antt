-- `read_modulus` reads one number into a room of one, which holds 0 where none is read.
use mathlib.Core.Path.{ap}
use borrow.Author.Rules.{rules}
use Rattle.distr.specs.Constants.{report_modulus_limit}
use Rattle.residue_text.specs.Tokens.{tokens}
use Rattle.residue_text.specs.Numbers.{numbers_of}
use Rattle.residue_text.specs.Input.{modulus_of}
use Rattle.residue_text.specs.declared.numbers.Numbers.{Numbers}
use Rattle.residue_text.proofs.Inputs.{front-first}
use Rattle.residue_text.proofs.read_modulus.Statement.{statement}
use Rattle.residue_text.proofs.read_modulus.Tie as tie

returns : tie.Need-returns
unfolding modulus_of
returns c =
    let told = c.before.read_numbers-read.ensures in
    let line = c.before.before.before.before.args.line.now in
    (rw told.1.0 (front-first (numbers_of 1 report_modulus_limit (tokens line))), ap (λ (n : Numbers). n.more) told.0)

pub read_modulus_spec : {M : Type 1} → statement M
read_modulus_spec = tie.close (tie.spec (λ c. search rules) (λ c κs. search rules) (λ c. search rules) returns)

-- `reply::copy_patterns` fills the values front to back: after i turns the first i stand for the first i coefficients.
use mathlib.Core.Path.{◌≡◌, refl, ap, ◌∙◌}
use mathlib.Core.Bool.{true}
use Prim.Native.Nat.{◌≤◌, ◌-◌}
use native.Mathlib.Numerals.{add-one}
use native.Mathlib.Omega.{arith}
use mir.Syntax.{w64}
use mir.Val.{SFits}
use mir.Facts.{to_z-of_z}
use lib.ListN.{length, get_or, take, length-set}
use lib.Seq.{take_all}
use lib.IntN.{pos}
use Rattle.little_endian.specs.Patterns.{value_of, values_of}
use Rattle.little_endian.proofs.Patterns.{fits_64, value_back}
use Rattle.sheet.proofs.Patterns.{copied_more}
use Rattle.sheet.proofs.reply.copy_patterns.Statement.{statement}
use Rattle.sheet.proofs.reply.copy_patterns.Tie as tie

abbrev invariant-loop-i : tie.invariant-loop-i
invariant-loop-i values₀ coefficients n i₀ values i = (i ≤ n) × (length values ≡ n) × (values_of true (take i values) ≡ take i coefficients)

abbrev decreases-loop-i : tie.decreases-loop-i
decreases-loop-i values₀ coefficients n i₀ values i = n - i

loop-again : tie.Need-loop-i-preserved invariant-loop-i decreases-loop-i
loop-again c =
    let test = c.before.before in
    let loop = test.before.loop-i in
    let start = test.before.before.before in
    let cs = start.args.coefficients.now in
    let fits : SFits w64 (get_or cs loop.i (pos 0)) = record { sfits = c.before.pattern-arg-1.given } in
    let v = get_or cs loop.i (pos 0) in
    let stands = ap (value_of true) (rw (to_z-of_z fits) at c.pattern.ensures) ∙ value_back v (fits_64 v fits) in (
      omega arith,
      simp length-set loop.invariant.1,
      rw (add-one loop.i)
          (copied_more loop.values cs loop.i c.pattern.result (omega arith) (omega (arith, start.requires)) stands loop.invariant.2),
    )

returns : tie.Need-returns invariant-loop-i decreases-loop-i
returns c =
    let loop = c.before.loop-i in
    let start = c.before.before.before in
    let cs = start.args.coefficients.now in
    rw (take_all loop.i loop.values (omega arith), take_all loop.i cs (omega (arith, start.requires))) at loop.invariant.2

pub copy_patterns_spec : {M : Type 1} → statement M
copy_patterns_spec =
    tie.close
    (tie.spec invariant-loop-i decreases-loop-i (λ c. (omega arith, refl, refl)) (λ c. omega arith) (λ c. omega arith) (λ c κs. tt) (λ c. omega arith)
    (λ c. omega arith) (λ c. omega arith) (λ c. omega arith) loop-again (λ c. c.before.loop-i.invariant.1) returns)

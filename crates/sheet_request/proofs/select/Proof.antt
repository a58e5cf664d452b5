-- `select` goes by the kind as the definition does.
use native.Mathlib.Omega.{arith}
use borrow.Author.Tests.{le-leb, lt-leb}
use Rattle.draw_laws.proofs.Selecting.{past_kinds}
use Rattle.sheet_request.specs.Request.{known_kind, kind_distr}
use Rattle.sheet_request.proofs.select.Statement.{statement}
use Rattle.sheet_request.proofs.select.Tie as tie

returns-11 : tie.Need-returns-in-0-2
unfolding known_kind
returns-11 c =
    let kind = c.before.args.kind in
    let past = past_kinds 9 kind c.in-0.in-0-own.rest in
    rw (le-leb 1 kind (omega (arith, past)), lt-leb kind 9 past)

pub select_spec : {M : Type 1} → statement M
select_spec =
    tie.close
    (tie.spec (λ c. unfold known_kind kind_distr in rw c.in-1.is) (λ c. unfold known_kind kind_distr in rw c.in-2.is)
    (λ c. unfold known_kind kind_distr in rw c.in-3.is) (λ c. unfold known_kind kind_distr in rw c.in-4.is)
    (λ c. unfold known_kind kind_distr in rw c.in-5.is) (λ c. unfold known_kind kind_distr in rw c.in-6.is)
    (λ c. unfold known_kind kind_distr in rw c.in-7.is) (λ c. unfold known_kind kind_distr in rw c.in-8.is)
    (λ c. unfold known_kind kind_distr in rw c.in-9.is) (λ c. unfold known_kind kind_distr in rw c.in-0.in-0-own.keys10) returns-11)

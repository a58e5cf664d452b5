-- `make_secret` hands back the refusal of making, or the method of the sampler that is made.
use borrow.Author.Rules.{rules}
use Rattle.std.proofs.Common.{sym}
use Rattle.secret_key_sampler.proofs.Made.{made-refused, made-method_of}
use Rattle.any_sampler.proofs.Making.{secret_few}
use Rattle.any_sampler.proofs.make_secret.Goals as goal

pub check_making-requires : goal.check_making-requires
check_making-requires c = rw (made-refused c.args.distr c.try_new-made.ensures) (secret_few c.args.distr)

pub returns-in_err-check_making : goal.returns-in_err-check_making
returns-in_err-check_making c = rw (← made-refused c.args.distr c.try_new-made.ensures) (search rules)

pub returns : goal.returns
returns c =
    made-method_of c.args.distr c.try_new-made.ensures (sym (rw c.in_ok-check_making.was at c.check_making.ensures)) _ c.prepared.ensures

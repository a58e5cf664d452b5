-- `page::write_line` stores the ten characters of the line.
use Rattle.std.proofs.Common.{◌≡◌, ℕ, List, [], ◌∷◌, ◌∙◌, arith}
use Rattle.distr.specs.Packed.{digits}
use Rattle.distr.proofs.Writing.{sets-all}
use Rattle.trit_page.specs.Page.{line_of}
use Rattle.trit_page.proofs.page.write_line.Goals as goal

pub returns : goal.returns
unfolding line_of digits
returns c =
    let line : List ℕ = c.digit.result ∷ 32 ∷ c.digit-2.result ∷ 32 ∷ c.digit-3.result ∷ 32 ∷ c.digit-4.result ∷ 32 ∷ c.digit-5.result ∷ 10 ∷ [] in
    let right : line ≡ line_of (digits 3 5 c.args.byte) = cc in
    sets-all c.args.line.now line (omega arith) ∙ right

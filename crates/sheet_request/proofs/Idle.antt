-- A question over zeros that does not succeed keeps its place and leaves zeros.
use Prim.Native.Nat.{ℕ}
use mathlib.Core.Path.{◌≡◌, refl, ap, ◌∙◌}
use mathlib.Core.Bool.{Bool, true, false, cond}
use mathlib.Core.List.{List, map}
use lib.Dec.{eqb}
use lib.ListN.{replicate, length-replicate}
use lib.IntN.{ℤ, pos}
use Rattle.distr.specs.Constants.{invalid_sheet}
use Rattle.distr.specs.Distribution.{Distr}
use Rattle.distr.specs.Making.{making_number}
use Rattle.distr.specs.Draw.{Outcome, writes, no_tables, signed_draw, encoded_draw, at_once}
use Rattle.distr.proofs.Writing.{map-replicate}
use Rattle.draw_laws.proofs.Idle.{Idle, judged_idle, signed_idle, encoded_idle}
use Rattle.sheet_request.specs.Request.{known_kind, kind_distr, as_values, values_draw, question}

module _ (words : List ℕ) (place n : ℕ) where
  abbrev zeros : List ℤ
  zeros = replicate n (pos 0)

  -- residues too
  values_left : (o : Outcome ℕ) → Idle place (replicate n 0) o → Idle place zeros (as_values zeros o)
  values_left o idle never = ((idle never).0, go (writes o.number))
    where
      go : (b : Bool) → cond b (map pos o.output) zeros ≡ zeros
      go true = ap (map pos) (idle never).1 ∙ map-replicate pos n 0
      go false = refl

  values_idle : (d : Distr) (modulus : ℕ) → Idle place zeros (values_draw d modulus words place zeros)
  unfolding values_draw
  values_idle d modulus = rw (length-replicate n (pos 0)) (go (eqb modulus 0))
    where
      go : (b : Bool)
          → Idle place zeros
          (cond b (signed_draw true d no_tables words place zeros) (as_values zeros (encoded_draw true d no_tables modulus words place (replicate n 0))))
      go true = signed_idle no_tables words place n d
      go false = values_left (encoded_draw true d no_tables modulus words place (replicate n 0)) (encoded_idle no_tables words place n modulus d)

  pub question_idle : (kind a b modulus : ℕ) → Idle place zeros (question kind a b modulus words place zeros)
  unfolding question
  question_idle kind a b modulus = go (known_kind kind)
    where
      d : Distr
      d = kind_distr kind a b

      go : (known : Bool)
          → Idle place zeros
          (cond known (at_once d place zeros (values_draw d modulus words place zeros)) (record { number = invalid_sheet; place = place; index = 0; output = zeros }))
      go true = judged_idle place zeros (making_number d) (values_draw d modulus words place zeros) (values_idle d modulus)
      go false = λ never. (refl, refl)

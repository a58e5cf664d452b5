-- A question goes by its output's length alone: over another output of that length it has the same number, place and coefficients, and leaves that output
-- where it writes nothing.
use Prim.Native.Nat.{ℕ}
use native.Mathlib.Omega.{arith}
use mathlib.Core.Path.{◌≡◌, refl, ap}
use mathlib.Core.Bool.{Bool, true, false, cond}
use mathlib.Core.List.{List, map}
use lib.Dec.{eqb}
use lib.ListN.{length, replicate}
use lib.IntN.{ℤ, pos}
use Rattle.distr.specs.Constants.{invalid_sheet}
use Rattle.distr.specs.Distribution.{Distr}
use Rattle.distr.specs.Making.{making_number}
use Rattle.distr.specs.Draw.{Outcome, held_over, no_tables, signed_draw, encoded_draw, at_once, writes}
use Rattle.draw_laws.proofs.Small.{making-below}
use Rattle.draw_laws.proofs.Held.{judged-held, signed-held}
use Rattle.sheet_request.specs.Request.{known_kind, kind_distr, as_values, values_draw, question}

-- residues in one output and in another
values-over : (o : Outcome ℕ) (out out' : List ℤ) → as_values out' o ≡ held_over (λ cs. cs) out' (as_values out o)
values-over o out out' = ap (λ (l : List ℤ). record { number = o.number; place = o.place; index = o.index; output = l }) (go (writes o.number))
  where
    go : (b : Bool) → cond b (map pos o.output) out' ≡ cond b (cond b (map pos o.output) out) out'
    go true = refl
    go false = refl

module _ (words : List ℕ) (place : ℕ) (out out' : List ℤ) (e : length out' ≡ length out) where
  values-held : (d : Distr) (modulus : ℕ) → values_draw d modulus words place out' ≡ held_over (λ cs. cs) out' (values_draw d modulus words place out)
  unfolding values_draw
  values-held d modulus = go (eqb modulus 0)
    where
      go : (b : Bool)
          → cond b (signed_draw true d no_tables words place out') (as_values out' (encoded_draw true d no_tables modulus words place (replicate (length out') 0)))
          ≡ held_over (λ cs. cs) out'
          (cond b (signed_draw true d no_tables words place out) (as_values out (encoded_draw true d no_tables modulus words place (replicate (length out) 0))))
      go true = signed-held d no_tables words place out out' e
      go false = rw e (values-over (encoded_draw true d no_tables modulus words place (replicate (length out) 0)) out out')

  pub question-held : (kind a b modulus : ℕ)
      → question kind a b modulus words place out' ≡ held_over (λ cs. cs) out' (question kind a b modulus words place out)
  unfolding question
  question-held kind a b modulus = go (known_kind kind)
    where
      d : Distr
      d = kind_distr kind a b

      go : (known : Bool)
          → cond known (at_once d place out' (values_draw d modulus words place out')) (record { number = invalid_sheet; place = place; index = 0; output = out' })
          ≡ held_over (λ cs. cs) out'
          (cond known (at_once d place out (values_draw d modulus words place out)) (record { number = invalid_sheet; place = place; index = 0; output = out }))
      go true =
          let small = making-below d in
          judged-held (λ cs. cs) (making_number d) place out out' _ _ (λ e. omega arith) (λ z. values-held d modulus)
      go false = refl

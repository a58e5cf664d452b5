-- Bits that stand for coefficients.
use mathlib.Core.Path.{◌≡◌, sym}
use mathlib.Core.Bool.{Bool, true, false}
use mathlib.Core.List.{List, [], ◌∷◌}
use Prim.Native.Nat.{ℕ, suc, ◌^◌, ◌<◌, ◌-◌}
use native.Mathlib.Omega.{arith}
use borrow.Author.Tests.{ltb-true}
use lib.ListN.{length, get_or, take, set}
use lib.Seq.{take-suc, take-suc-set}
use lib.IntN.{ℤ, pos}
use Rattle.distr.proofs.Writing.{map_append}
use Rattle.little_endian.specs.Patterns.{is_minus, value_of, values_of}

pub minus_above : (signed : Bool) (bits : ℕ) → is_minus signed bits ≡ true → 0 < bits
minus_above true bits e = omega (arith, ltb-true (2 ^ 63 - 1) bits e)
minus_above false bits e = let no : false ≡ true = e in let z : ◌≡◌ {A = ℕ} 0 1 = cc in absurd (omega arith)

-- one more coefficient as bits
pub copied_more : (us : List ℕ) (vs : List ℤ) (i u : ℕ) → i < length us → i < length vs → value_of true u ≡ get_or vs i (pos 0)
    → values_of true (take i us) ≡ take i vs → values_of true (take (suc i) (set us i u)) ≡ take (suc i) vs
copied_more us vs i u h k e so_far =
    rw (take-suc-set us i u h, map_append (value_of true) (take i us) (u ∷ []), so_far, e) (sym (take-suc vs i (pos 0) k))

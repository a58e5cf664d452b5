-- The test of a size, by division: whether so many bytes are n items of `each` bytes.
use mathlib.Core.Path.{◌≡◌, ap}
use mathlib.Core.Bool.{Bool, false, not, ◌||◌}
use Prim.Native.Nat.{ℕ, ◌*◌, ◌/◌, ◌%◌, ◌<◌}
use native.Mathlib.Nat.{div-add-mod}
use native.Mathlib.Omega.{arith}
use borrow.Author.Tests.{eqb-true, not-false}
use lib.Dec.{eqb}
use Rattle.distr.proofs.Reading.{or_false}

module _ (size n each : ℕ) (some : 0 < each) where
  abbrev misfit : Bool
  misfit = not (eqb (size / each) n) || not (eqb (size % each) 0)

  pub fitting : misfit ≡ false → size ≡ each * n
  fitting e =
      let parts = or_false (not (eqb (size / each) n)) (not (eqb (size % each) 0)) e in
      let q = eqb-true (size / each) n (not-false (eqb (size / each) n) parts.0) in
      let r = eqb-true (size % each) 0 (not-false (eqb (size % each) 0) parts.1) in
      omega (arith, div-add-mod size each, ap (λ (k : ℕ). each * k) q)

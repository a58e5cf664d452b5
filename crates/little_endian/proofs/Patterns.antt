-- A coefficient as 64 bits, and back.
use mathlib.Core.Path.{◌≡◌, refl, ap, ap₂}
use mathlib.Core.Bool.{Bool, true, false}
use mathlib.Core.List.{List, [], ◌∷◌, map}
use Prim.Native.Nat.{ℕ, suc, ◌^◌, ◌<◌, ◌-◌}
use native.Mathlib.Omega.{arith}
use mir.Syntax.{w64}
use mir.Val.{SFits}
use borrow.Author.Tests.{lt-ltb, le-ltb}
use lib.Dec.{ltb}
use lib.ListN.{get_or}
use lib.IntN.{ℤ, pos, negsuc}
use Rattle.distr.specs.Encoding.{encode}
use Rattle.little_endian.specs.Patterns.{value_of}
use Rattle.little_endian.specs.OneToOne.{Is64}

-- a coefficient that a slice holds is one of 64 bits
pub fits_64 : (v : ℤ) → SFits w64 v → Is64 v
fits_64 (pos n) f = f.sfits
fits_64 (negsuc n) f = f.sfits

-- ---- there and back

pub encode-below : (v : ℤ) → Is64 v → encode (2 ^ 64) v < 2 ^ 64
encode-below (pos n) h = omega arith
encode-below (negsuc n) h = omega arith

pub value_back : (v : ℤ) → Is64 v → value_of true (encode (2 ^ 64) v) ≡ v
unfolding value_of
value_back (pos n) h = rw (le-ltb (2 ^ 63 - 1) n (omega arith))
value_back (negsuc n) h = rw (lt-ltb (2 ^ 63 - 1) (2 ^ 64 - suc n) (omega arith)) (ap negsuc (omega arith))

pub bits_back : (x : ℕ) → x < 2 ^ 64 → encode (2 ^ 64) (value_of true x) ≡ x
unfolding value_of
bits_back x h = go (ltb (2 ^ 63 - 1) x) refl
  where
    go : (b : Bool) → ltb (2 ^ 63 - 1) x ≡ b → encode (2 ^ 64) (value_of true x) ≡ x
    go true e = rw e (omega arith)
    go false e = rw e

pub values_back : (cs : List ℤ) → ((i : ℕ) → Is64 (get_or cs i (pos 0))) → map (value_of true) (map (encode (2 ^ 64)) cs) ≡ cs
values_back [] h = refl
values_back (c ∷ cs) h = ap₂ ◌∷◌ (value_back c (h 0)) (values_back cs (λ i. h (suc i)))

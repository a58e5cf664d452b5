-- Residues written by the encoding of −1.
use mathlib.Core.Path.{◌≡◌, refl}
use mathlib.Core.List.{List, map}
use Prim.Native.Nat.{ℕ, ◌-◌}
use native.Mathlib.Omega.{arith}
use lib.IntN.{ℤ, pos, negsuc}
use Rattle.distr.specs.Encoding.{encode, encode_with}
use Rattle.distr.proofs.Writing.{map_ext}

-- −1 as modulus − 1
pub encode_with_lem : (q : ℕ) (cs : List ℤ) → map (encode_with (q - 1)) cs ≡ map (encode q) cs
encode_with_lem q cs = map_ext (encode_with (q - 1)) (encode q) same cs
  where
    same : (c : ℤ) → encode_with (q - 1) c ≡ encode q c
    same (pos m) = refl
    same (negsuc m) = omega arith

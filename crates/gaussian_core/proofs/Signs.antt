-- A signed integer by its test for being negative: its magnitude out of its bits.
use Rattle.std.proofs.Common.{◌≡◌, ℕ, suc, ◌-◌, ◌^◌, ◌<◌, ◌≤◌, true, false, T, ℤ, pos, negsuc, nat_abs, arith, to_z-of_z, w64, SFits, to_z, of_z}
use mir.Facts.{to_z_pos}
use lib.Dec.{leb-suc-zero}
use lib.Signed.{lt_z, non_neg}

-- the bits of a negative number, each turned over, are its magnitude less one
pub record Turned (v : ℤ) : Type 0 where
  pub below : T (non_neg v) → ⊥
  pub some : 0 < nat_abs v
  pub small : nat_abs v ≤ 2 ^ 63
  pub bits : to_z w64 (18446744073709551615 - of_z w64 v) ≡ pos (nat_abs v - 1)

turned_bits : (v : ℤ) → SFits w64 v → lt_z v (pos 0) ≡ true → Turned v
turned_bits (pos n) f e = let no : false ≡ true = rw leb-suc-zero at e in let z : ◌≡◌ {A = ℕ} 0 1 = cc in absurd (omega arith)
turned_bits (negsuc n) f e =
    let back : 18446744073709551615 - (2 ^ 64 - suc n) ≡ n = omega (arith, f.sfits) in
    let before : suc n - 1 ≡ n = omega arith in
    record { below = λ h. h; some = omega arith; small = omega (arith, f.sfits); bits = rw (back, before) (to_z_pos w64 f.sfits) }

not_negative : (v : ℤ) → lt_z v (pos 0) ≡ false → T (non_neg v)
not_negative (pos n) e = tt
not_negative (negsuc n) e = let no : true ≡ false = e in let z : ◌≡◌ {A = ℕ} 0 1 = cc in absurd (omega arith)

-- the same by the test that the code makes, on the bits
module _ (v : ℤ) (fits : SFits w64 v) where
  pub turned : lt_z (to_z w64 (of_z w64 v)) (pos 0) ≡ true → Turned v
  turned e = turned_bits v fits (rw (to_z-of_z fits) at e)

  pub above : lt_z (to_z w64 (of_z w64 v)) (pos 0) ≡ false → T (non_neg v)
  above e = not_negative v (rw (to_z-of_z fits) at e)

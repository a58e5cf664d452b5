-- Residues made of native ones, for any width: by a sum that wraps, and that they are the residues of the coefficient.
use Rattle.std.proofs.Common.{◌≡◌, ℕ, suc, ◌+◌, ◌-◌, ◌*◌, ◌/◌, ◌%◌, ◌<◌, ◌≤◌, Bool, true, false, cond, ltb, ℤ, pos, negsuc, nat_abs, refl, ◌∙◌, add-zero, mod-eq_of_lt, mul-zero, mul-one, arith, ltb-false, ltb-true, le-ltb, lt-ltb}
use native.Mathlib.Nat.{mod-eq-sub-mod, div-eq_of_lt, div-eq_of_lt-le}
use Rattle.distr.specs.Encoding.{encode, encode_with}
use Rattle.crt.specs.Rows.{wrapping_at, from_native_at}

module _ (half modulus : ℕ) where
  -- a top bit that is not set, and one that is
  unset : (w : ℕ) → w < half → modulus * (w / half) ≡ 0
  unset w h = rw (div-eq_of_lt h) (mul-zero modulus)

  top_set : (w : ℕ) → half ≤ w → w < 2 * half → modulus * (w / half) ≡ modulus
  top_set w h k = rw (div-eq_of_lt-le {k = 1} half {m = w} (omega arith) (omega arith)) (mul-one modulus)

  wrapped : (w : ℕ) → modulus < 2 * half → w < 2 * half → (w + modulus) % (2 * half) ≡ wrapping_at half w modulus
  wrapped w h k = go (ltb (w + modulus) (2 * half)) refl
    where
      go : (t : Bool) → ltb (w + modulus) (2 * half) ≡ t → (w + modulus) % (2 * half) ≡ cond t (w + modulus) (w + modulus - 2 * half)
      go true e = mod-eq_of_lt (ltb-true (w + modulus) (2 * half) e)
      go false e = let above : 2 * half ≤ w + modulus = ltb-false (w + modulus) (2 * half) e in mod-eq-sub-mod above ∙ mod-eq_of_lt (omega arith)

  -- the top bit decides whether the modulus is added
  pub added : (w : ℕ) → modulus < 2 * half → w < 2 * half → (w + modulus * (w / half)) % (2 * half) ≡ from_native_at half modulus w
  unfolding from_native_at
  added w h k = go (ltb w half) refl
    where
      go : (t : Bool) → ltb w half ≡ t → (w + modulus * (w / half)) % (2 * half) ≡ cond t w (wrapping_at half w modulus)
      go true e = rw (unset w (ltb-true w half e), add-zero w) (mod-eq_of_lt k)
      go false e = rw (top_set w (ltb-false w half e) k) (wrapped w h k)

  -- "−m becomes modulus − m, zero stays 0", by way of 2 half − m
  pub from_native_encode : (a : ℤ) → nat_abs a < half → nat_abs a ≤ modulus → from_native_at half modulus (encode_with (2 * half - 1) a) ≡ encode modulus a
  unfolding from_native_at
  from_native_encode (pos m) h k = rw (lt-ltb m half h)
  from_native_encode (negsuc m) h k =
      let w : ℕ = 2 * half - 1 - m in
      let value : w + modulus - 2 * half ≡ modulus - suc m = omega arith in
      rw (le-ltb w half (omega arith), le-ltb (w + modulus) (2 * half) (omega arith)) value

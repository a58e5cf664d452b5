-- A coefficient becomes its residue, alone and in the place where it stands in an output.
use mathlib.Core.Path.{◌≡◌, refl, sym, ap, ◌∙◌}
use mathlib.Core.Bool.{true, false}
use mathlib.Core.List.{List, ◌++◌, map}
use Prim.Native.Nat.{ℕ, suc, ◌+◌, ◌-◌, ◌<◌}
use native.Mathlib.Numerals.{add-one}
use native.Mathlib.Omega.{arith}
use mir.Syntax.{w64}
use mir.Val.{SFits, of_z, to_z}
use mir.Facts.{to_z-of_z}
use borrow.Author.Tests.{le-leb}
use lib.ListN.{length, get_or, drop, take, set, length-map, get_or-map}
use lib.Seq.{drop-cons, get_or_at, length-take-le}
use lib.IntN.{ℤ, pos, negsuc, nat_abs}
use lib.Signed.{le_z}
use Rattle.distr.specs.Encoding.{encode}
use Rattle.distr.proofs.Writing.{written, written_more}

-- one that is not negative stays
plain_value : (q : ℕ) (c : ℤ) → le_z (pos 0) c ≡ true → c ≡ pos (encode q c)
plain_value q (pos m) e = refl
plain_value q (negsuc m) e = let no : false ≡ true = e in let z : ◌≡◌ {A = ℕ} 0 1 = cc in absurd (omega arith)

-- a negative one is the modulus less its magnitude
minus_value : (q : ℕ) (c : ℤ) → le_z (pos 0) c ≡ false → q - nat_abs c ≡ encode q c
minus_value q (pos m) e = let no : true ≡ false = sym (le-leb 0 m (omega arith)) ∙ e in let z : ◌≡◌ {A = ℕ} 0 1 = cc in absurd (omega arith)
minus_value q (negsuc m) e = refl

-- the same by the test that the code makes, on the bits
module _ (q : ℕ) (c : ℤ) (fits : SFits w64 c) where
  pub plain : le_z (pos 0) (to_z w64 (of_z w64 c)) ≡ true → to_z w64 (of_z w64 c) ≡ pos (encode q c)
  plain e = to_z-of_z fits ∙ plain_value q c (rw (to_z-of_z fits) at e)

  pub minus : le_z (pos 0) (to_z w64 (of_z w64 c)) ≡ false → {size : ℕ} → size ≡ nat_abs (to_z w64 (of_z w64 c)) → q - size ≡ encode q c
  minus e s = rw (s, to_z-of_z fits) (minus_value q c (rw (to_z-of_z fits) at e))

-- an element is read before it is made another: one more of them is made
pub made_more : {A : Type 0} (f : A → A) (out now : List A) (i : ℕ) (d v : A) → now ≡ written (map f out) i out → i < length out → v ≡ f (get_or now i d)
    → set now i v ≡ written (map f out) (i + 1) out
made_more {A} f out now i d v so_far h e =
    let all : length (map f out) ≡ length out = length-map out f in
    let unread : get_or now i d ≡ get_or out i d =
    ap (λ (l : List A). get_or l i d) so_far
    ∙ ap (λ (l : List A). get_or (take i (map f out) ++ l) i d) (drop-cons out i d h)
    ∙ get_or_at (take i (map f out)) (get_or out i d) (drop (suc i) out) d i (length-take-le i (map f out) (omega arith)) in
    ap (λ (l : List A). set l i v) so_far
    ∙ ap (set (written (map f out) i out) i) (e ∙ ap f unread ∙ sym (get_or-map f out i d))
    ∙ written_more (map f out) out i (f d) (omega arith) h
    ∙ ap (λ (k : ℕ). written (map f out) k out) (sym (add-one i))

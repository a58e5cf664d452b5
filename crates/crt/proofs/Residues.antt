-- The rows made from native residues are the rows of residues of the coefficients, where these are within each modulus, for any width.
use Rattle.std.proofs.Common.{◌≡◌, ℕ, suc, ◌-◌, ◌*◌, ◌<◌, ◌≤◌, List, [], ◌∷◌, ◌++◌, map, length, get_or, replicate, ℤ, pos, sym, refl, ap, ◌∙◌, ap₂, suc-le-suc, zero-lt-suc, add_comm, mul-zero, mul-suc, arith, eq-eqb}
use lib.ListN.{replicate-append-replicate}
use Rattle.distr.specs.Encoding.{encode, encode_with, rows}
use Rattle.distr.proofs.Writing.{map-replicate}
use Rattle.draw_laws.proofs.Bounds.{Within}
use Rattle.crt.specs.Rows.{from_native_at, native_rows_at, last_row, spread_at}
use Rattle.crt.proofs.Native.{from_native_encode}

-- all magnitudes are at most a number below the top bit, and that at most each modulus
module _ (half most : ℕ) (h : most < half) where
  row-encode : (modulus : ℕ) (cs : List ℤ) → Within most cs → most ≤ modulus
      → map (from_native_at half modulus) (map (encode_with (2 * half - 1)) cs) ≡ map (encode modulus) cs
  row-encode modulus [] few k = refl
  row-encode modulus (a ∷ cs) few k =
      let first = few 0 (zero-lt-suc (length cs)) in
      ap₂ (λ (x : ℕ) (xs : List ℕ). x ∷ xs) (from_native_encode half modulus a (omega arith) (omega arith))
      (row-encode modulus cs (λ i j. few (suc i) (suc-le-suc j)) k)

  rows-encode : (moduli : List ℕ) (cs : List ℤ) → Within most cs → ((j : ℕ) → j < length moduli → most ≤ get_or moduli j 0)
      → native_rows_at half moduli (map (encode_with (2 * half - 1)) cs) ≡ rows moduli cs
  unfolding native_rows_at rows
  rows-encode [] cs few k = refl
  rows-encode (modulus ∷ moduli) cs few k =
      ap₂ (λ (a b : List ℕ). a ++ b) (row-encode modulus cs few (k 0 (zero-lt-suc (length moduli))))
      (rows-encode moduli cs few (λ j l. k (suc j) (suc-le-suc l)))

  -- the rows spread from a last row of native residues
  pub spread-encode : (out : List ℕ) (count : ℕ) (moduli : List ℕ) (cs : List ℤ) → length out ≡ count * length moduli
      → last_row out count ≡ map (encode_with (2 * half - 1)) cs → Within most cs → ((j : ℕ) → j < length moduli → most ≤ get_or moduli j 0)
      → spread_at half out count moduli ≡ rows moduli cs
  unfolding spread_at
  spread-encode out count moduli cs shape e few k =
      rw (eq-eqb (length out) (count * length moduli) shape) (ap (native_rows_at half moduli) e ∙ rows-encode moduli cs few k)

-- a row of zeros for each modulus
pub rows-zero : (moduli : List ℕ) (count : ℕ) → rows moduli (replicate count (pos 0)) ≡ replicate (count * length moduli) 0
unfolding rows
rows-zero [] count = ap (λ (k : ℕ). replicate k 0) (sym (mul-zero count))
rows-zero (modulus ∷ moduli) count =
    ap₂ (λ (a b : List ℕ). a ++ b) (map-replicate (encode modulus) count (pos 0)) (rows-zero moduli count)
    ∙ replicate-append-replicate count (count * length moduli) 0
    ∙ ap (λ (k : ℕ). replicate k 0) (add_comm count (count * length moduli) ∙ sym (mul-suc count (length moduli)))

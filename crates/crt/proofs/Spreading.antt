-- Making the rows one after the other, for any width, each from the last one, which stays as it was until its own turn.
use Rattle.std.proofs.Common.{◌≡◌, ℕ, ◌+◌, ◌-◌, ◌*◌, ◌<◌, ◌≤◌, Bool, true, false, eqb, List, [], ◌∷◌, ◌++◌, map, length, get_or, take, drop, sym, refl, ap, ◌∙◌, ap₂, append_assoc, append-nil, mul-le-mul_right, suc-mul, mul_comm, add_comm, zero-mul, add-one, arith, length-append, length-drop, drop_of_length-le, length-take-le, take_all, take-suc, drop-drop, take_at, eq-eqb, eqb-true}
use lib.ListN.{length-map}
use lib.Seq.{drop-append-add, paste}
use Rattle.crt.specs.Rows.{from_native_at, native_rows_at, last_row, spread_at}
use Rattle.crt.proofs.Shape.{row_inside}

length-rows : (half : ℕ) (moduli ws : List ℕ) → length (native_rows_at half moduli ws) ≡ length moduli * length ws
unfolding native_rows_at
length-rows half [] ws = sym (zero-mul (length ws))
length-rows half (modulus ∷ moduli) ws =
    length-append (map (from_native_at half modulus) ws) (native_rows_at half moduli ws)
    ∙ ap₂ (λ (a b : ℕ). a + b) (length-map ws (from_native_at half modulus)) (length-rows half moduli ws)
    ∙ add_comm (length ws) (length moduli * length ws)
    ∙ sym (suc-mul (length moduli) (length ws))

-- one row more, at the end
rows_snoc : (half : ℕ) (moduli : List ℕ) (modulus : ℕ) (ws : List ℕ) → native_rows_at half (moduli ++ (modulus ∷ [])) ws ≡ native_rows_at half moduli ws ++ map (from_native_at half modulus) ws
unfolding native_rows_at
rows_snoc half [] modulus ws = append-nil (map (from_native_at half modulus) ws)
rows_snoc half (m ∷ moduli) modulus ws =
    ap (λ (l : List ℕ). map (from_native_at half m) ws ++ l) (rows_snoc half moduli modulus ws)
    ∙ sym (append_assoc (map (from_native_at half m) ws) (native_rows_at half moduli ws) (map (from_native_at half modulus) ws))

module _ (half : ℕ) (out₀ : List ℕ) (count : ℕ) (moduli : List ℕ) (shape : length out₀ ≡ count * length moduli) where
  -- the first i rows are made
  pub record Spread (i : ℕ) (out : List ℕ) : Type 0 where
    pub holds : out ≡ native_rows_at half (take i moduli) (last_row out₀ count) ++ drop (i * count) out₀

  pub spread_none : Spread 0 out₀
  unfolding native_rows_at
  spread_none = record { holds = ap (λ (k : ℕ). drop k out₀) (sym (zero-mul count)) }

  module _ {i : ℕ} {out : List ℕ} (s : Spread i out) where
    length-made : i < length moduli → length (native_rows_at half (take i moduli) (last_row out₀ count)) ≡ i * count
    length-made h =
        let room : i * count + count ≤ length out₀ = row_inside (length out₀) count (length moduli) i shape h in
        let wide : length (last_row out₀ count) ≡ count = length-drop (length out₀ - count) out₀ ∙ omega arith in
        length-rows half (take i moduli) (last_row out₀ count) ∙ ap₂ (λ (a b : ℕ). a * b) (length-take-le i moduli (omega arith)) wide

    -- what is behind the rows made
    behind : i < length moduli → (k : ℕ) → i * count ≤ k → drop k out ≡ drop k out₀
    behind h k le =
        let p : List ℕ = native_rows_at half (take i moduli) (last_row out₀ count) in
        let there : length p ≡ i * count = length-made h in
        let far : length p + (k - i * count) ≡ k = omega arith in
        let same : i * count + (k - i * count) ≡ k = omega arith in
        ap (drop k) s.holds
        ∙ ap (λ (j : ℕ). drop j (p ++ drop (i * count) out₀)) (sym far)
        ∙ drop-append-add p (drop (i * count) out₀) (k - i * count)
        ∙ drop-drop (k - i * count) (i * count) out₀
        ∙ ap (λ (j : ℕ). drop j out₀) same

    pub spread_more : {at : ℕ} {out' : List ℕ} → i < length moduli → length out ≡ length out₀ → at ≡ i * count
        → out' ≡ paste out at (map (from_native_at half (get_or moduli i 0)) (drop (length out₀ - count) out)) (length out - (length out₀ - count))
        → Spread (i + 1) out'
    spread_more {at} {out'} h same start e =
        let ws : List ℕ = last_row out₀ count in
        let modulus : ℕ = get_or moduli i 0 in
        let p : List ℕ = native_rows_at half (take i moduli) ws in
        let last : ℕ = length out₀ - count in
        let room : i * count + count ≤ length out₀ = row_inside (length out₀) count (length moduli) i shape h in
        let wide : length (map (from_native_at half modulus) ws) ≡ length out - last = length-map ws (from_native_at half modulus) ∙ length-drop last out₀ ∙ omega arith in
        let next : i * count + (length out - last) ≡ (i + 1) * count = omega (arith, suc-mul i count, ap (λ (k : ℕ). k * count) (add-one i)) in
        let front : take (i * count) out ≡ p =
        ap (take (i * count)) s.holds ∙ take_at p (drop (i * count) out₀) (i * count) (length-made h) in
        let made : take (length out - last) (map (from_native_at half modulus) (drop last out)) ≡ map (from_native_at half modulus) ws =
        ap (λ (l : List ℕ). take (length out - last) (map (from_native_at half modulus) l)) (behind h last (omega arith))
        ∙ take_all (length out - last) (map (from_native_at half modulus) ws) (omega arith) in
        let rest : drop (i * count + (length out - last)) out ≡ drop ((i + 1) * count) out₀ =
        behind h (i * count + (length out - last)) (omega arith) ∙ ap (λ (k : ℕ). drop k out₀) next in
        let taken : take (i + 1) moduli ≡ take i moduli ++ (modulus ∷ []) = ap (λ (k : ℕ). take k moduli) (add-one i) ∙ take-suc moduli i 0 h in
        record {
          holds =
              e
              ∙ ap (λ (k : ℕ). paste out k (map (from_native_at half modulus) (drop last out)) (length out - last)) start
              ∙ ap₂ (λ (a b : List ℕ). a ++ b) (ap₂ (λ (a b : List ℕ). a ++ b) front made) rest
              ∙ ap (λ (l : List ℕ). l ++ drop ((i + 1) * count) out₀) (sym (ap (λ (l : List ℕ). native_rows_at half l ws) taken ∙ rows_snoc half (take i moduli) modulus ws));
        }

  pub spread-all : {i : ℕ} {out : List ℕ} → Spread i out → length moduli ≤ i → out ≡ spread_at half out₀ count moduli
  unfolding spread_at
  spread-all {i} {out} s h =
      let ws : List ℕ = last_row out₀ count in
      let none : drop (i * count) out₀ ≡ [] =
      drop_of_length-le out₀ {i = i * count} (rw (shape, mul_comm count (length moduli)) (mul-le-mul_right count h)) in
      rw (eq-eqb (length out₀) (count * length moduli) shape)
      (s.holds
      ∙ ap₂ (λ (a b : List ℕ). native_rows_at half a ws ++ b) (take_all i moduli h) none
      ∙ append-nil (native_rows_at half moduli ws))

-- an output of another shape, and one for no modulus, are left as they are
pub spread-other : (half : ℕ) (out : List ℕ) (count : ℕ) (moduli : List ℕ) → eqb (length out) (count * length moduli) ≡ false → out ≡ spread_at half out count moduli
unfolding spread_at
spread-other half out count moduli e = rw e

pub spread_no_moduli : (half : ℕ) (out : List ℕ) (count : ℕ) (moduli : List ℕ) → length moduli ≡ 0 → out ≡ spread_at half out count moduli
spread_no_moduli half out count moduli none = go (eqb (length out) (count * length moduli)) refl
  where
    go : (b : Bool) → eqb (length out) (count * length moduli) ≡ b → out ≡ spread_at half out count moduli
    go true e =
        let shape : length out ≡ count * length moduli = eqb-true (length out) (count * length moduli) e in
        spread-all half out count moduli shape (spread_none half out count moduli shape) (omega arith)
    go false e = spread-other half out count moduli e

-- The end of a CRT draw: its cases, and that a last row which the rules settle gives the whole output that they settle.
use Rattle.std.proofs.Common.{◌≡◌, ℕ, ◌-◌, ◌*◌, ◌<◌, List, map, length, replicate, ℤ, sym, refl, ap, ◌∙◌, le_of_lt, arith, eq-eqb, ne_eqb}
use Rattle.distr.specs.Words.{Read, got, short}
use Rattle.distr.specs.Encoding.{encode_with, rows}
use Rattle.distr.specs.Numbers.{first_of, moduli_numbers}
use Rattle.distr.specs.Draw.{Outcome, settled}
use Rattle.draw_laws.proofs.Bounds.{Within}
use Rattle.crt.specs.Rows.{last_row, finished_at}
use Rattle.crt.proofs.Moduli.{moduli-above}
use Rattle.crt.proofs.Residues.{spread-encode, rows-zero}

-- a draw whose last row was refused by another number than 0 and 23 leaves the output
pub finished-kept : (half : ℕ) (out : List ℕ) (count : ℕ) (moduli : List ℕ) (number place index : ℕ) {after : List ℕ} → (number ≡ 0 → ⊥) → (number ≡ 23 → ⊥)
    → after ≡ out → ◌≡◌ {A = Outcome ℕ} (record { number = number; place = place; index = index; output = after }) (finished_at half out count moduli number place index)
finished-kept half out count moduli number place index e f h = rw (ne_eqb number 0 e, ne_eqb number 23 f, h)

same_outcome : {m n p q i j : ℕ} {a b : List ℕ} → m ≡ n → p ≡ q → i ≡ j → a ≡ b
    → ◌≡◌ {A = Outcome ℕ} (record { number = m; place = p; index = i; output = a }) (record { number = n; place = q; index = j; output = b })
same_outcome e f g h = rw (e, f, g, h)

-- The last row as the rules settle it in native residues: the whole output is as they settle it, in rows of residues, if all
-- magnitudes are at most a number below the top bit that the moduli were tested against.
pub finished-settled : (half : ℕ) (out : List ℕ) (count : ℕ) (moduli : List ℕ) (number at index most words place : ℕ) (read : Read (List ℤ))
    → length out ≡ count * length moduli → most < half → first_of (moduli_numbers most moduli) ≡ 0
    → ((cs : List ℤ) (rest : List ℕ) → read ≡ got cs rest → Within most cs)
    → ◌≡◌ {A = Outcome ℕ} (record { number = number; place = at; index = index; output = last_row out count }) (settled (map (encode_with (2 * half - 1))) words place count read)
    → finished_at half out count moduli number at index ≡ settled (rows moduli) words place count read
unfolding settled
finished-settled half out count moduli number at index most words place (got cs rest) shape h passed within e =
    let none : number ≡ 0 = ap (λ (o : Outcome ℕ). o.number) e in
    rw (eq-eqb number 0 none)
    (same_outcome none (ap (λ (o : Outcome ℕ). o.place) e) (ap (λ (o : Outcome ℕ). o.index) e)
    (spread-encode half most h out count moduli cs shape (ap (λ (o : Outcome ℕ). o.output) e) (within cs rest refl)
    (λ j k. le_of_lt (moduli-above most moduli passed j k))))
finished-settled half out count moduli number at index most words place short shape h passed within e =
    let lacking : number ≡ 23 = ap (λ (o : Outcome ℕ). o.number) e in
    rw (ne_eqb number 0 (λ z. omega arith), eq-eqb number 23 lacking)
    (same_outcome lacking (ap (λ (o : Outcome ℕ). o.place) e) (ap (λ (o : Outcome ℕ). o.index) e) (ap (λ (k : ℕ). replicate k 0) shape ∙ sym (rows-zero moduli count)))

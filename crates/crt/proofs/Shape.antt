-- When a length is that of a CRT output, and where its rows end.
use Rattle.std.proofs.Common.{◌≡◌, ℕ, ◌+◌, ◌*◌, ◌<◌, ◌≤◌, sym, ap, ◌∙◌, mul-le-mul_right, suc-mul, mul_comm, add-one}

-- row i ends within the output
pub row_inside : (n count rows i : ℕ) → n ≡ count * rows → i < rows → i * count + count ≤ n
row_inside n count rows i e h = rw (← suc-mul i count, e, mul_comm count rows) (mul-le-mul_right count h)

-- and the next one starts there
pub next_row : (count i : ℕ) {at : ℕ} → at ≡ i * count → at + count ≡ (i + 1) * count
next_row count i e = ap (λ (k : ℕ). k + count) e ∙ sym (suc-mul i count) ∙ ap (λ (k : ℕ). k * count) (sym (add-one i))

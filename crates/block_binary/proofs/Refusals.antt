-- What is known where nothing refuses a block-binary draw: a size that divides the length, and neither of them 0.
use mathlib.Core.Path.{◌≡◌, sym, ap, ◌∙◌}
use mathlib.Core.Bool.{not}
use mathlib.Core.List.{List}
use Prim.Native.Nat.{ℕ, zero, suc, ◌*◌, ◌/◌, ◌%◌, ◌<◌, ◌≤◌}
use native.Mathlib.Nat.{mod-zero, div-add-mod'}
use native.Mathlib.Omega.{arith}
use borrow.Author.Tests.{eqb-true, eqb-false, not-false}
use lib.Dec.{eqb}
use lib.ListN.{length, drop}
use lib.IntN.{ℤ}
use Rattle.distr.specs.declared.secret_key_distr.BlockOccupancy.{BlockOccupancy}
use Rattle.distr.specs.Blocks.{categories, block_binary}
use Rattle.distr.specs.Constants.{output_limit}
use Rattle.distr.specs.Numbers.{bad_blocks}
use Rattle.distr.specs.Draw.{Outcome, settled, rule_draw}
use Rattle.distr.proofs.Reading.{or_false}
use Rattle.distr.proofs.Drawing.{not-refused}
use Rattle.numbers.proofs.Refusing.{draw_number, number_by, number_passed, rule-refused, rule-passed}
use Rattle.block_binary.proofs.Filling.{wanted}

pub record Accepted (count place n size : ℕ) : Type 0 where
  pub within : place ≤ count
  pub some : 0 < size
  pub whole : n % size ≡ 0
  pub small : size ≤ output_limit

-- a divisor of a number that is not 0
divides : (size n : ℕ) → (n ≡ 0 → ⊥) → n % size ≡ 0 → (0 < size) × (size ≤ n)
divides zero n ne e = absurd (ne (sym (mod-zero n) ∙ e))
divides (suc p) n ne e = (omega arith, go (n / suc p) (omega (arith, div-add-mod' n (suc p), e)))
  where
    go : (q : ℕ) → q * suc p ≡ n → suc p ≤ n
    go zero f = absurd (ne (omega arith))
    go (suc q) f = omega arith

-- j is the number of the blocks, and k the first number that refuses the draw
pub accepted : (count place n size : ℕ) {j k : ℕ} → j ≡ bad_blocks size n → k ≡ draw_number count place n j → k ≡ 0 → Accepted count place n size
accepted count place n size {j} own told z =
    let good = number_passed count place n (bad_blocks size n) (number_by count place n j (bad_blocks size n) own told) z in
    let d = or_false (eqb n 0) (not (eqb (n % size) 0)) (not-refused _ 7 good.2) in
    let whole = eqb-true (n % size) 0 (not-false (eqb (n % size) 0) d.1) in
    let size-good = divides size n (eqb-false n 0 d.0) whole in
    record { within = good.0; some = size-good.0; whole = whole; small = omega (arith, size-good.1, good.1) }

module _ {A : Type 0} (write : List ℤ → List A) (words : List ℕ) (place size : ℕ) (occupancy : BlockOccupancy) (out : List A) {j k : ℕ}
    (own : j ≡ bad_blocks size (length out)) (told : k ≡ draw_number (length words) place (length out) j) where
  abbrev promised : Outcome A
  promised = rule_draw write (bad_blocks size (length out)) (block_binary size occupancy (length out)) words place out

  number : k ≡ draw_number (length words) place (length out) (bad_blocks size (length out))
  number = number_by (length words) place (length out) j (bad_blocks size (length out)) own told

  pub refused : (k ≡ 0 → ⊥) → record { number = k; place = place; index = 0; output = out } ≡ promised
  refused = rule-refused write (bad_blocks size (length out)) words place out number (block_binary size occupancy (length out))

  -- what the blocks give is the draw
  pub drawn : k ≡ 0 → {choices : ℕ} → choices ≡ categories size occupancy → {o : Outcome A}
      → o ≡ settled write (length words) place (length out) (wanted size choices (length out) (drop place words)) → o ≡ promised
  drawn z same s =
      s ∙ ap (λ (i : ℕ). settled write (length words) place (length out) (wanted size i (length out) (drop place words))) same
      ∙ rule-passed write (bad_blocks size (length out)) words place out number (block_binary size occupancy (length out)) z

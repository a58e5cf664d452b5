-- The sums of a block, and of blocks one after the other: what they are, and that they fit.
use Rattle.std.proofs.Common.{◌≡◌, ℕ, suc, ◌+◌, ◌*◌, ◌/◌, ◌%◌, ◌^◌, ◌<◌, ◌≤◌, true, List, [], length, get_or, take, sym, refl, ap, ◌∙◌, le_trans, lt_of_le_of_lt, mul-le-mul_right, mod-eq_of_lt, mul-le-mul, mul-zero, mul-add, arith, lit<, lit≤, length-take-le, ◌++◌, append_assoc, length-append}
use Rattle.stats.specs.declared.sums.BlockSums.{BlockSums}
use Rattle.stats.specs.declared.sums.Totals.{Totals}
use Rattle.stats.specs.declared.wide.Halves.{Halves}
use Rattle.stats.specs.Centered.{all_below}
use Rattle.stats.specs.Sums.{value_of, total, above_half, size_of, residue_sums, block_sums, squares_from, TotalsOf, FitsTotals}
use Rattle.stats.proofs.Totals.{total_append, total_more, total-most}
use Rattle.distr.proofs.Reading.{both_true}
use Rattle.stats.proofs.Below.{below_append, below_parts}
use Rattle.stats.proofs.Centering.{at_most-few, size-most}
use Rattle.stats.proofs.Squares.{squares_from_lem}
use Rattle.stats.proofs.Carrying.{high-few}

-- a number of at most 2^120 has a high half far below 2^64
pub halves_fit : (h : Halves) {n : ℕ} → value_of h ≡ n → n ≤ 2 ^ 120 → h.high < 2 ^ 60
halves_fit h e l = high-few h.high h.low (2 ^ 60) (rw e (lt_of_le_of_lt l (lit< tt)))

-- Sums of n residues of a modulus of at most 2^53.
pub record Small (n : ℕ) (s : BlockSums) : Type 0 where
  pub residues : s.residues ≤ n * 2 ^ 53
  pub negatives : s.negatives ≤ n * 1
  pub upper : s.upper ≤ n * 2 ^ 52
  pub cross : s.cross ≤ n * 2 ^ 52
  pub lower : s.lower ≤ n * 2 ^ 52

module _ (modulus : ℕ) (m : modulus ≤ 2 ^ 53) where
  -- the parts of a magnitude
  module _ (r : ℕ) (h : r < modulus) where
    pub upper-few : size_of modulus r / 2 ^ 26 ≤ 2 ^ 26
    upper-few = omega (arith, size-most modulus r h)

    -- it has no more than 32 bits
    pub upper-bits : size_of modulus r / 2 ^ 26 % 2 ^ 32 ≡ size_of modulus r / 2 ^ 26
    upper-bits = mod-eq_of_lt (omega (arith, upper-few))

    lower-few : size_of modulus r % 2 ^ 26 ≤ 2 ^ 26
    lower-few = omega arith

    pub residue_small : Small 1 (residue_sums modulus r)
    unfolding residue_sums
    residue_small = record {
      residues = omega arith;
      negatives = at_most-few (suc (modulus / 2)) r;
      upper = mul-le-mul upper-few upper-few;
      cross = mul-le-mul upper-few lower-few;
      lower = mul-le-mul lower-few lower-few;
    }

  pub block-small : (rs : List ℕ) → all_below modulus rs ≡ true → Small (length rs) (block_sums modulus rs)
  unfolding block_sums
  block-small rs below = record {
    residues = total-most _ modulus (2 ^ 53) rs (λ r h. omega (arith, (residue_small r h).residues)) below;
    negatives = total-most _ modulus 1 rs (λ r h. omega (arith, (residue_small r h).negatives)) below;
    upper = total-most _ modulus (2 ^ 52) rs (λ r h. omega (arith, (residue_small r h).upper)) below;
    cross = total-most _ modulus (2 ^ 52) rs (λ r h. omega (arith, (residue_small r h).cross)) below;
    lower = total-most _ modulus (2 ^ 52) rs (λ r h. omega (arith, (residue_small r h).lower)) below;
  }

-- A block that is being summed.
module _ (modulus : ℕ) (rs : List ℕ) where
  -- the first i residues are summed
  pub record Summed (i : ℕ) (s : BlockSums) : Type 0 where
    pub sums : s ≡ block_sums modulus (take i rs)

  pub summed_none : Summed 0 (record { residues = 0; negatives = 0; upper = 0; cross = 0; lower = 0 })
  unfolding block_sums total
  summed_none = record { sums = refl }

  -- one residue more
  pub summed_more : {i : ℕ} {s o : BlockSums} → i < length rs → Summed i s → o ≡ residue_sums modulus (get_or rs i 0)
      → Summed (i + 1) (record {
        residues = s.residues + o.residues;
        negatives = s.negatives + o.negatives;
        upper = s.upper + o.upper;
        cross = s.cross + o.cross;
        lower = s.lower + o.lower;
      })
  unfolding block_sums
  summed_more {i} h w e =
      record {
        sums =
            rw (
              w.sums,
              e,
              total_more (λ r. (residue_sums modulus r).residues) rs i h,
              total_more (λ r. (residue_sums modulus r).negatives) rs i h,
              total_more (λ r. (residue_sums modulus r).upper) rs i h,
              total_more (λ r. (residue_sums modulus r).cross) rs i h,
              total_more (λ r. (residue_sums modulus r).lower) rs i h,
            );
      }

  -- the sums of a block fit, and one residue more fits
  pub summed_small : modulus ≤ 2 ^ 53 → all_below modulus rs ≡ true → {i : ℕ} {s : BlockSums} → i ≤ length rs → Summed i s → Small i s
  summed_small m below {i} h w =
      rw w.sums (rw (length-take-le i rs h) at (block-small modulus m (take i rs) (below_parts modulus i rs below).0))

-- Blocks one after the other.
module _ (modulus : ℕ) (rs : List ℕ) where
  -- a block more
  totals_more : (block : List ℕ) {s t : Totals} {b : BlockSums} → TotalsOf modulus rs s → b ≡ block_sums modulus block
      → value_of t.residues ≡ value_of s.residues + b.residues
      → value_of t.moduli ≡ value_of s.moduli + modulus * b.negatives
      → value_of t.squares ≡ value_of s.squares + squares_from b → TotalsOf modulus (rs ++ block) t
  unfolding block_sums residue_sums
  totals_more block {s} {t} {b} w e p q r =
      record {
        residues = p ∙ rw (w.residues, e, total_append (λ x. x) rs block);
        moduli =
            q
            ∙ rw (w.moduli, e, total_append (above_half modulus) rs block)
            (sym (mul-add modulus (total (above_half modulus) rs) (total (above_half modulus) block)));
        squares = r ∙ rw (w.squares, e, total_append (λ x. size_of modulus x * size_of modulus x) rs block, squares_from_lem modulus block);
      }

  pub totals_none : {s : Totals} → value_of s.residues ≡ 0 → value_of s.moduli ≡ 0 → value_of s.squares ≡ 0 → TotalsOf modulus [] s
  unfolding total
  totals_none p q r = record { residues = p; moduli = rw mul-zero q; squares = r }

  -- how large the sums are
  module _ (m : modulus ≤ 2 ^ 53) (below : all_below modulus rs ≡ true) (n : length rs ≤ 65536) where
    residues-most : total (λ r. r) rs ≤ 2 ^ 69
    residues-most = le_trans (total-most (λ r. r) modulus (2 ^ 53) rs (λ r h. omega arith) below) (omega arith)

    moduli-most : modulus * total (above_half modulus) rs ≤ 2 ^ 69
    moduli-most =
        mul-le-mul {m₂ = 65536} m (le_trans (total-most (above_half modulus) modulus 1 rs (λ r h. at_most-few (suc (modulus / 2)) r) below) (omega arith))

    pub squares-most : total (λ r. size_of modulus r * size_of modulus r) rs ≤ 2 ^ 120
    squares-most =
        let size : (r : ℕ) → r < modulus → size_of modulus r ≤ 2 ^ 52 = λ r h. omega (arith, size-most modulus r h) in
        le_trans (total-most (λ r. size_of modulus r * size_of modulus r) modulus (2 ^ 104) rs (λ r h. mul-le-mul (size r h) (size r h)) below)
        (mul-le-mul_right (2 ^ 104) n)

    -- so their high halves are far below 2^64
    pub totals_fit : {s : Totals} → TotalsOf modulus rs s → FitsTotals s
    totals_fit {s} w = record {
      residues = halves_fit s.residues w.residues (le_trans residues-most (lit≤ tt));
      moduli = halves_fit s.moduli w.moduli (le_trans moduli-most (lit≤ tt));
      squares = halves_fit s.squares w.squares squares-most;
    }

-- the modulus once for each negative residue of a block
pub block-moduli : (modulus : ℕ) (rs : List ℕ) → modulus ≤ 2 ^ 53 → all_below modulus rs ≡ true → length rs ≤ 1024
    → modulus * (block_sums modulus rs).negatives < 2 ^ 64
block-moduli modulus rs m below n =
    lt_of_le_of_lt (mul-le-mul {m₂ = 1024} m (omega (arith, (block-small modulus m rs below).negatives))) (lit< tt)

-- Residues of which the first are summed, block by block, and `rest` are left.
pub record Chunked (modulus : ℕ) (rs rest : List ℕ) (s : Totals) : Type 0 where
  pub done : List ℕ
  pub parts : rs ≡ done ++ rest
  pub sums : TotalsOf modulus done s

module _ (modulus : ℕ) (rs : List ℕ) where
  pub chunked_none : {s : Totals} → value_of s.residues ≡ 0 → value_of s.moduli ≡ 0 → value_of s.squares ≡ 0 → Chunked modulus rs rs s
  chunked_none p q r = record { done = []; parts = refl; sums = totals_none modulus rs p q r }

  module _ {rest : List ℕ} {s : Totals} (c : Chunked modulus rs rest s) (m : modulus ≤ 2 ^ 53) (below : all_below modulus rs ≡ true) where
    both : (all_below modulus c.done ≡ true) × (all_below modulus rest ≡ true)
    both = both_true _ _ (sym (below_append modulus c.done rest) ∙ ap (all_below modulus) (sym c.parts) ∙ below)

    pub chunked_fit : length rs ≤ 65536 → FitsTotals s
    chunked_fit n = totals_fit modulus c.done m both.0 (omega (arith, ap length c.parts, length-append c.done rest)) c.sums

    -- the next block is cut off
    module _ (block left : List ℕ) (cut : rest ≡ block ++ left) where
      pub chunk-below : all_below modulus block ≡ true
      chunk-below = (both_true _ (all_below modulus left) (sym (below_append modulus block left) ∙ ap (all_below modulus) (sym cut) ∙ both.1)).0

      pub chunked_more : {t : Totals} {b : BlockSums} → b ≡ block_sums modulus block
          → value_of t.residues ≡ value_of s.residues + b.residues
          → value_of t.moduli ≡ value_of s.moduli + modulus * b.negatives
          → value_of t.squares ≡ value_of s.squares + squares_from b → Chunked modulus rs left t
      chunked_more e p q r = record {
        done = c.done ++ block;
        parts = c.parts ∙ ap (λ (l : List ℕ). c.done ++ l) cut ∙ sym (append_assoc c.done block left);
        sums = totals_more modulus c.done block c.sums e p q r;
      }

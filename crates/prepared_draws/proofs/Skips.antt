-- What a CRT draw by a method skips: what the one row that is drawn skips, and nothing where the output is empty.
use mathlib.Core.Path.{◌≡◌, refl, sym, ap, ◌∙◌}
use mathlib.Core.Bool.{Bool, true, false, not, cond, true≢false}
use mathlib.Core.List.{List}
use Prim.Native.Nat.{ℕ, ◌-◌}
use native.Mathlib.Omega.{arith}
use borrow.Author.Tests.{eqb-true, eqb-false, not-false}
use borrow.Rule.Slice.PartMut.{mid_of}
use lib.Dec.{eqb, leb}
use lib.ListN.{length, drop}
use Rattle.distr.specs.Constants.{cumulative_limit}
use Rattle.distr.specs.Skipped.{Skipped, nothing, passed_many}
use Rattle.distr.specs.Answers.{reported}
use Rattle.distr.specs.Distribution.{Distr, Tables}
use Rattle.distr.specs.Draw.{crt_skips}
use Rattle.distr.proofs.Drawing.{first-passed, not-refused}
use Rattle.draw_laws.proofs.Crt.{Layout, layout_passed}
use Rattle.methods.specs.declared.SamplingMethod.{SamplingMethod}
use Rattle.methods.specs.declared.SamplingMethod.TheVariants.{UniformBinary, Binary, SparseTernary, UniformTernary, Ternary, Empty}
use Rattle.methods.specs.declared.SamplingMethod.TheVariants.{FixedHammingWeightBinary, BlockBinary, Gaussian, CenteredBinomial}
use Rattle.methods.specs.declared.SamplingMethod.TheVariants.{FixedHammingWeightTernary, FixedCompositionTernary}
use Rattle.methods.specs.Method.{magnitude_of}
use Rattle.methods.specs.Keys.{is_served}
use Rattle.method_draws.specs.Drawing.{prepared_method, method_skips}
use Rattle.method_draws.proofs.Drawing.{prepared-skips}
use Rattle.crt.specs.Rows.{last_row}
use Rattle.prepared_draws.specs.Drawing.{crt_number, crt_skips_by}
use Rattle.prepared_draws.proofs.Answers.{lent_row, length-row, row_fits}
use Rattle.prepared_draws.proofs.Rows.{ternary_apart, blocks_apart}

-- a method that CRT draws do not serve is none that they serve
other : {A : Type 0} (m : SamplingMethod) → is_served m ≡ false → is_served m ≡ true → A
other m apart served = absurd (true≢false (sym served ∙ apart))

-- no coefficients skip nothing
none_skipped : (m : SamplingMethod) (tables : Tables) (ws : List ℕ) → is_served m ≡ true → method_skips m tables 0 ws ≡ nothing
unfolding method_skips passed_many
none_skipped UniformBinary tables ws served = other UniformBinary refl served
none_skipped (Binary t) tables ws served = other (Binary t) refl served
none_skipped SparseTernary tables ws served = other SparseTernary refl served
none_skipped UniformTernary tables ws served = other UniformTernary refl served
none_skipped (Ternary s) tables ws served = other (Ternary s) (ternary_apart s) served
none_skipped (FixedHammingWeightBinary h) tables ws served = other (FixedHammingWeightBinary h) refl served
none_skipped (BlockBinary size occupancy) tables ws served = other (BlockBinary size occupancy) (blocks_apart size occupancy) served
none_skipped (FixedHammingWeightTernary h) tables ws served = other (FixedHammingWeightTernary h) refl served
none_skipped (FixedCompositionTernary minus ones) tables ws served = other (FixedCompositionTernary minus ones) refl served
none_skipped (Gaussian parameters) tables ws served = go (leb parameters.maximum_magnitude cumulative_limit)
  where
    go : (b : Bool) → cond b nothing nothing ≡ nothing
    go true = refl
    go false = refl
none_skipped (CenteredBinomial parameters) tables ws served = refl
none_skipped Empty tables ws served = other Empty refl served

module _ (m : SamplingMethod) (tables : Tables) (count : ℕ) (moduli words : List ℕ) (place : ℕ) (out : List ℕ) {k : ℕ}
    (e : k ≡ crt_number m (length words) place (length out) count moduli) (z : k ≡ 0) where
  -- where no number refuses, the method is served, and the output has the shape of its rows
  admitted : (is_served m ≡ true) × Layout (magnitude_of m) (length out) count moduli
  unfolding crt_number
  admitted =
      let state = first-passed _ _ (sym e ∙ z) in (
        not-false (is_served m) (not-refused (not (is_served m)) 20 state.0),
        layout_passed (magnitude_of m) (length out) count moduli (first-passed _ _ state.1).1,
      )

  row-skips : (ws : List ℕ) → method_skips m tables (length (last_row out count)) ws ≡ crt_skips_by m tables count (length out) ws
  unfolding crt_skips_by
  row-skips ws = go (eqb (length out) 0) refl
    where
      drawing : {n : ℕ} → length (last_row out count) ≡ n → method_skips m tables (length (last_row out count)) ws ≡ method_skips m tables n ws
      drawing l = ap (λ (n : ℕ). method_skips m tables n ws) l

      go : (b : Bool) → eqb (length out) 0 ≡ b
          → method_skips m tables (length (last_row out count)) ws ≡ cond b nothing (method_skips m tables count ws)
      go true none =
          drawing (length-row out count ∙ omega (arith, eqb-true (length out) 0 none)) ∙ none_skipped m tables ws admitted.0
      go false some =
          let fits = row_fits (length out) count (length moduli) admitted.1.shape (omega (arith, eqb-false (length out) 0 some)) in
          drawing (length-row out count ∙ omega (arith, fits))

  -- so what is reported of the row that was lent is what is reported of the draw
  pub crt_reports : {last : ℕ} → last ≡ length out - count → (number : ℕ) {s : Skipped}
      → s ≡ reported number (method_skips m tables (length (mid_of last (length out - last) out)) (drop place words))
      → s ≡ reported number (crt_skips_by m tables count (length out) (drop place words))
  crt_reports l number said =
      said
      ∙ ap (reported number)
      (ap (λ (row : List ℕ). method_skips m tables (length row) (drop place words)) (lent_row out count l) ∙ row-skips (drop place words))

-- The method that is prepared for a distribution skips what the distribution skips.
pub crt_skips_of : (tables : Tables) (count n : ℕ) (ws : List ℕ) (d : Distr)
    → crt_skips_by (prepared_method d) tables count n ws ≡ crt_skips d count tables n ws
unfolding crt_skips_by crt_skips
crt_skips_of tables count n ws d = ap (λ (s : Skipped). cond (eqb n 0) nothing s) (prepared-skips tables count ws d)

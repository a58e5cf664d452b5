-- Residues of one modulus by a prepared method: what is asked of them, and that they are those of the distribution for which the method was prepared. A
-- centered binomial's are a CRT draw of one row.
use mathlib.Core.Path.{◌≡◌, refl, sym, ap, ◌∙◌}
use mathlib.Core.Bool.{Bool, true, false, cond, ◌&&◌}
use mathlib.Core.List.{List, [], ◌∷◌, ◌++◌, map}
use Prim.Native.Nat.{ℕ, zero, suc, ◌*◌, ◌-◌, ◌^◌, ◌<◌, ◌≤◌}
use native.Mathlib.Nat.{mul-one}
use native.Mathlib.Omega.{arith}
use borrow.Author.Tests.{eq-eqb, eqb-true, eqb-false, ne_eqb, ltb-false, leb-false}
use lib.Dec.{eqb, leb}
use lib.ListN.{length, drop, replicate, length-drop}
use lib.IntN.{ℤ, pos}
use Rattle.distr.specs.declared.secret_key_distr.SecretKeyDistr.{SecretKeyDistr}
use Rattle.distr.specs.declared.secret_key_distr.SecretKeyDistr.TheVariants as Secret
use Rattle.distr.specs.declared.secret_key_distr.BlockOccupancy.TheVariants.{AtMostOne, ExactlyOne}
use Rattle.distr.specs.declared.error_distribution.ErrorDistribution.TheVariants as Error
use Rattle.distr.specs.Words.{Read, got, map_read, many}
use Rattle.distr.specs.Thresholds.{threshold}
use Rattle.distr.specs.Distribution.{Distr, secret, error, Tables, on_deviation, error_rule, rule, coefficients}
use Rattle.distr.specs.Encoding.{encode, encode_with, rows}
use Rattle.distr.specs.Constants.{modulus_zero}
use Rattle.distr.specs.Making.{refuse, largest, making_number}
use Rattle.distr.specs.Numbers.{first_of, past_end, too_long, state_numbers, length_number, modulus_number, moduli_numbers, crt_numbers, serves_crt, table_number, table_index}
use Rattle.distr.specs.Draw.{Outcome, settled, judged, drawn, naming, crt_draw, residue_draw, encoded_draw}
use Rattle.distr.proofs.FirstWrong.{layer_unnamed}
use Rattle.distr.proofs.Drawing.{first-passed, not-refused}
use Rattle.ternary.specs.declared.ternary.TernaryValue.TheVariants.{MinusOne, Zero, One}
use Rattle.ternary.specs.declared.ternary.TernaryEnds.{TernaryEnds}
use Rattle.ternary.specs.declared.ternary.TernaryEnds.TheVariants.{Constant, Nonzero, General}
use Rattle.ternary.specs.Sampler.{sampler_of}
use Rattle.draw_laws.proofs.Joining.{first_after, settled_same}
use Rattle.draw_laws.proofs.Small.{first_below, refuse-below, length-below}
use Rattle.draw_laws.proofs.Naming.{draw-small, refusal-named}
use Rattle.draw_laws.proofs.Writes.{encode_with_lem}
use Rattle.draw_laws.proofs.Crt.{rows-one, shape_good}
use Rattle.draw_laws.proofs.Sampled.{sampled, residues-sampled, distribution_number, sampled-refused, sampled-drawn}
use Rattle.methods.specs.declared.SamplingMethod.{SamplingMethod}
use Rattle.methods.specs.declared.SamplingMethod.TheVariants.{Ternary}
use Rattle.methods.specs.Method.{magnitude_of, length_of}
use Rattle.methods.specs.Keys.{is_binomial}
use Rattle.secret_key_method.specs.Method.{prepared}
use Rattle.error_method.specs.Method.{prepared as prepared_error}
use Rattle.method_draws.specs.Drawing.{prepared_method, method_draw}
use Rattle.method_draws.proofs.Drawing.{prepared-draw, prepared-magnitude, prepared-length}
use Rattle.prepared_draws.specs.Drawing.{residue_numbers, encoded_by}
use Rattle.prepared_draws.proofs.Served.{no_elements}

-- a number that does not refuse, among others
first_skip : (ks ns : List ℕ) → first_of (ks ++ (0 ∷ ns)) ≡ first_of (ks ++ ns)
unfolding first_of
first_skip [] ns = refl
first_skip (zero ∷ ks) ns = first_skip ks ns
first_skip (suc k ∷ ks) ns = refl

-- two answers that are the same where no number refuses
same_where_zero : {A : Type 0} (n place : ℕ) (out : List A) (x y : Outcome A) → (n ≡ 0 → x ≡ y) → judged n place out x ≡ judged n place out y
unfolding judged
same_where_zero n place out x y h = go (eqb n 0) refl
  where
    go : (b : Bool) → eqb n 0 ≡ b → judged n place out x ≡ judged n place out y
    go true e = rw (h (eqb-true n 0 e))
    go false e = rw e

-- residues that nothing is asked of: their length is good, and their modulus is above the largest magnitude
module _ (m : SamplingMethod) (n q : ℕ) (z : first_of (residue_numbers m n q) ≡ 0) where
  pub residues_fit : length_of m n ≡ 0
  residues_fit = (first-passed (length_of m n) _ z).0

  pub residues-above : 0 < q
  residues-above =
      let after = first-passed (refuse (is_binomial m && eqb q 0) modulus_zero) _ (first-passed (length_of m n) _ z).1 in
      let last = first-passed (modulus_number (magnitude_of m) q) [] after.1 in
      omega (arith, leb-false q (magnitude_of m) (not-refused (leb q (magnitude_of m)) 8 last.0))

-- a number that is asked for refuses, whether or not others go before it
pub asked_refuses : (a b j : ℕ) → (j ≡ 0 → ⊥) → {k : ℕ} → k ≡ first_of (a ∷ b ∷ j ∷ []) → k ≡ 0 → ⊥
asked_refuses a b j never e z =
    never (first-passed j [] (first-passed b _ (first-passed a _ (sym e ∙ z)).1).1).0

-- the answers of the draw, as the code tries them
module _ (m : SamplingMethod) (tables : Tables) (q : ℕ) (words : List ℕ) (place : ℕ) (out : List ℕ) {j : ℕ} (e : j ≡ first_of (residue_numbers m (length out) q)) where
  pub encoded_asked : (j ≡ 0 → ⊥) → {number : ℕ} → number ≡ first_of (past_end (length words) place ∷ too_long (length out) ∷ j ∷ [])
      → record { number = number; place = place; index = 0; output = out } ≡ encoded_by m tables q words place out
  unfolding encoded_by
  encoded_asked never n = rw (n, ← e, ne_eqb j 0 never)

  pub encoded_drawn : j ≡ 0 → {o : Outcome ℕ} → o ≡ method_draw (map (encode_with (q - 1))) m tables words place out → o ≡ encoded_by m tables q words place out
  unfolding encoded_by
  encoded_drawn z d = rw (← e, z) d

-- no words are read for no coefficients
binomial_none : (eta : ℕ) (tables : Tables) (ws : List ℕ) → coefficients (error (Error.CenteredBinomial eta)) 0 tables ws ≡ got [] ws
unfolding on_deviation coefficients rule error_rule map_read many
binomial_none eta tables ws = refl

-- a key's method is no centered binomial's
ternary_plain : (s : TernaryEnds) → is_binomial (Ternary s) ≡ false
ternary_plain (Constant MinusOne) = refl
ternary_plain (Constant Zero) = refl
ternary_plain (Constant One) = refl
ternary_plain (Nonzero N) = refl
ternary_plain (General N E) = refl

secret_plain : (d : SecretKeyDistr) → is_binomial (prepared d) ≡ false
unfolding prepared
secret_plain Secret.UniformBinary = refl
secret_plain (Secret.Binary p) = refl
secret_plain Secret.SparseTernary = refl
secret_plain Secret.UniformTernary = refl
secret_plain (Secret.Ternary minus plus) = ternary_plain (sampler_of (threshold minus) (threshold plus))
secret_plain (Secret.FixedHammingWeightBinary h) = refl
secret_plain (Secret.BlockBinary size AtMostOne) = refl
secret_plain (Secret.BlockBinary size ExactlyOne) = refl
secret_plain (Secret.FixedHammingWeightTernary h) = refl
secret_plain (Secret.FixedCompositionTernary minus ones) = refl
secret_plain (Secret.Gaussian deviation) = refl

-- what is asked of a distribution's residues refuses by a small number
pub asked_below : (d : Distr) (n q : ℕ) → first_of (residue_numbers (prepared_method d) n q) < 22
unfolding first_of
asked_below d n q =
    let m = prepared_method d in
    first_below (length_of m n) (refuse (is_binomial m && eqb q 0) modulus_zero ∷ modulus_number (magnitude_of m) q ∷ []) (rw (prepared-length d n) (length-below d n))
    (first_below (refuse (is_binomial m && eqb q 0) modulus_zero) (modulus_number (magnitude_of m) q ∷ []) (refuse-below (is_binomial m && eqb q 0) modulus_zero (omega arith))
    (first_below (modulus_number (magnitude_of m) q) [] (refuse-below (leb q (magnitude_of m)) 9 (omega arith)) (omega arith)))

-- where the length is good and nothing is asked, the tables' number is left
number_left : (d : Distr) (tables : Tables) (n : ℕ) → length_number d n ≡ 0 → (asked : List ℕ) → first_of asked ≡ 0
    → distribution_number d tables n ≡ first_of (asked ++ (table_number d tables ∷ []))
unfolding first_of
number_left d tables n long asked none = rw long (sym (first_after asked (table_number d tables ∷ []) none))

module _ (tables : Tables) (q : ℕ) (words : List ℕ) (place : ℕ) (out : List ℕ) (fits : length out < 2 ^ 64) where
  -- one row has the shape of its output, so its numbers are those of its residues
  row-numbers : (eta : ℕ)
      → first_of (state_numbers (true && serves_crt (error (Error.CenteredBinomial eta))) (length words) place
      ++ crt_numbers (error (Error.CenteredBinomial eta)) tables (length out) (length out) (q ∷ []))
      ≡ first_of (past_end (length words) place ∷ too_long (length out) ∷ refuse (eqb q 0) modulus_zero ∷ modulus_number eta q ∷ 0 ∷ [])
  unfolding first_of serves_crt largest moduli_numbers table_number on_deviation
  row-numbers eta =
      rw (shape_good (length out) (length out) 1 fits (eq-eqb (length out) (length out * 1) (sym (mul-one (length out)))))
      (first_skip (past_end (length words) place ∷ []) (too_long (length out) ∷ refuse (eqb q 0) modulus_zero ∷ modulus_number eta q ∷ 0 ∷ []))

  -- an empty row reads nothing and keeps its place
  row_empty : (eta : ℕ) → length out ≡ 0 → (later : List ℕ) → first_of (past_end (length words) place ∷ later) ≡ 0
      → record { number = 0; place = place; index = 0; output = out }
      ≡ settled (map (encode q)) (length words) place (length out) (coefficients (error (Error.CenteredBinomial eta)) (length out) tables (drop place words))
  unfolding settled
  row_empty eta none later z =
      let here : place ≤ length words = ltb-false (length words) place (not-refused _ 21 (first-passed (past_end (length words) place) later z).0) in
      let back : length words - (length words - place) ≡ place = omega arith in
      let read : coefficients (error (Error.CenteredBinomial eta)) (length out) tables (drop place words) ≡ got [] (drop place words) =
      ap (λ (n : ℕ). coefficients (error (Error.CenteredBinomial eta)) n tables (drop place words)) none ∙ binomial_none eta tables (drop place words) in
      rw (read, length-drop, back, no_elements out none)

  -- so the CRT draw of one row is a draw of residues
  row-sampled : (eta : ℕ)
      → naming (table_index (error (Error.CenteredBinomial eta)) tables)
      (sampled (map (encode q)) (0 ∷ refuse (eqb q 0) modulus_zero ∷ modulus_number eta q ∷ []) (error (Error.CenteredBinomial eta)) tables words place out)
      ≡ crt_draw true (error (Error.CenteredBinomial eta)) tables (length out) (q ∷ []) words place out
  unfolding crt_draw table_number on_deviation
  row-sampled eta = ap (naming (table_index d tables)) plain_row
    where
      d : Distr
      d = error (Error.CenteredBinomial eta)

      asked : List ℕ
      asked = state_numbers (true && serves_crt d) (length words) place ++ crt_numbers d tables (length out) (length out) (q ∷ [])

      number : ℕ
      number = first_of (past_end (length words) place ∷ too_long (length out) ∷ refuse (eqb q 0) modulus_zero ∷ modulus_number eta q ∷ 0 ∷ [])

      read : Read (List ℤ)
      read = coefficients (error (Error.CenteredBinomial eta)) (length out) tables (drop place words)

      go : (b : Bool) → eqb (length out) 0 ≡ b
          → judged number place out (settled (map (encode q)) (length words) place (length out) read)
          ≡ cond b (judged number place out (record { number = 0; place = place; index = 0; output = out }))
          (judged number place out (settled (rows (q ∷ [])) (length words) place (length out) read))
      go true e = same_where_zero number place out _ _ (λ z. sym (row_empty eta (eqb-true (length out) 0 e) _ z))
      go false e =
          ap (judged number place out)
          (settled_same (map (encode q)) (rows (q ∷ [])) words place out read (λ cs _ _. sym (rows-one q cs)) (sym (rows-one q (replicate (length out) (pos 0)))))

      plain_row : sampled (map (encode q)) (0 ∷ refuse (eqb q 0) modulus_zero ∷ modulus_number eta q ∷ []) d tables words place out
          ≡ cond (eqb (length out) 0) (judged (first_of asked) place out (record { number = 0; place = place; index = 0; output = out }))
          (drawn (rows (q ∷ [])) asked words place out (length out) (coefficients d (length out) tables))
      plain_row =
          rw (row-numbers eta, first_skip (past_end (length words) place ∷ too_long (length out) ∷ []) (refuse (eqb q 0) modulus_zero ∷ modulus_number eta q ∷ 0 ∷ []))
          (go (eqb (length out) 0) refl)

  -- residues of any other distribution are asked for their length and their modulus
  plain_sampled : (d : Distr) → is_binomial (prepared_method d) ≡ false
      → naming (table_index d tables) (sampled (map (encode q)) (residue_numbers (prepared_method d) (length out) q) d tables words place out)
      ≡ residue_draw true d tables q words place out
  plain_sampled d plain =
      rw (
        plain,
        prepared-length d (length out),
        prepared-magnitude d,
        first_skip (past_end (length words) place ∷ too_long (length out) ∷ length_number d (length out) ∷ []) (modulus_number (largest d) q ∷ table_number d tables ∷ []),
      )
      (residues-sampled d tables q words place out)

  residues_asked : (d : Distr)
      → naming (table_index d tables) (sampled (map (encode q)) (residue_numbers (prepared_method d) (length out) q) d tables words place out)
      ≡ encoded_draw true d tables q words place out
  unfolding encoded_draw prepared_method prepared_error
  residues_asked (secret d) = plain_sampled (secret d) (secret_plain d)
  residues_asked (error (Error.Gaussian deviation)) = plain_sampled (error (Error.Gaussian deviation)) refl
  residues_asked (error (Error.CenteredBinomial eta)) = row-sampled eta

  -- The residues by a prepared method are those of its distribution.
  pub encoded_of : (d : Distr) → making_number d ≡ 0 → encoded_by (prepared_method d) tables q words place out ≡ encoded_draw true d tables q words place out
  unfolding encoded_by
  encoded_of d z = go (eqb asked 0) refl
    where
      m : SamplingMethod
      m = prepared_method d

      asked : ℕ
      asked = first_of (residue_numbers m (length out) q)

      go : (b : Bool) → eqb asked 0 ≡ b
          → cond b (method_draw (map (encode_with (q - 1))) m tables words place out)
          (record { number = first_of (past_end (length words) place ∷ too_long (length out) ∷ asked ∷ []); place = place; index = 0; output = out })
          ≡ encoded_draw true d tables q words place out
      go true e =
          let none = eqb-true asked 0 e in
          let long : length_number d (length out) ≡ 0 = sym (prepared-length d (length out)) ∙ residues_fit m (length out) q none in
          prepared-draw (map (encode_with (q - 1))) tables words place out d z
          ∙ ap (naming (table_index d tables))
          (sampled-drawn (map (encode q)) (residue_numbers m (length out) q) d tables words place out (map (encode_with (q - 1))) (encode_with_lem q)
          (number_left d tables (length out) long (residue_numbers m (length out) q) none))
          ∙ residues_asked d
      go false e =
          refusal-named (table_index d tables) (layer_unnamed (largest d) tables.layers) _ place out
          (draw-small (length words) place (length out) asked (omega (arith, asked_below d (length out) q)))
          ∙ ap (naming (table_index d tables))
          (sampled-refused (map (encode q)) (residue_numbers m (length out) q) d tables words place out refl (eqb-false asked 0 e) refl)
          ∙ residues_asked d

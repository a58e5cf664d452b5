-- Residues in an output of signed numbers: the coefficients that are drawn there, each made its residue, are the values of the residues drawn.
use mathlib.Core.Path.{◌≡◌, refl, sym, ap, ◌∙◌}
use mathlib.Core.Bool.{Bool, true, false, cond}
use mathlib.Core.List.{List, [], ◌∷◌, map}
use Prim.Native.Nat.{ℕ, ◌-◌, ◌^◌, ◌<◌}
use native.Mathlib.Omega.{arith}
use borrow.Author.Tests.{eqb-false, ne_eqb}
use lib.Dec.{ltb, eqb}
use lib.ListN.{length, drop, replicate, length-replicate}
use lib.IntN.{ℤ, pos}
use Rattle.std.specs.Prelude.{Result}
use Rattle.distr.specs.declared.answer.Answer.{Answer}
use Rattle.distr.specs.declared.refusal.Refusal.{Refusal}
use Rattle.distr.specs.Refusals.{Makes as Prepares}
use Rattle.distr.specs.Words.{Read, got, short}
use Rattle.distr.specs.Constants.{output_limit, output_too_long, out_of_words}
use Rattle.distr.specs.Encoding.{encode, encode_with}
use Rattle.distr.specs.Distribution.{Distr, coefficients, skips_of}
use Rattle.distr.specs.Making.{making_number}
use Rattle.distr.specs.Numbers.{first_of, past_end, too_long, length_number, table_number, table_index}
use Rattle.distr.specs.Draw.{Outcome, outcome, settled, judged, naming, drawn, held_over, no_tables, encoded_draw}
use Rattle.distr.proofs.Writing.{map-replicate, map-map}
use Rattle.draw_laws.proofs.Small.{Enough, refuse-below, first_either, length-below, table_apart, state_apart}
use Rattle.draw_laws.proofs.Held.{drawn-held}
use Rattle.draw_laws.proofs.Sampled.{distribution_number}
use Rattle.draw_laws.proofs.Writes.{encode_with_lem}
use Rattle.methods.specs.declared.SamplingMethod.{SamplingMethod}
use Rattle.method_draws.specs.Drawing.{prepared_method, method_draw, method_skips}
use Rattle.method_draws.proofs.Drawing.{prepared-draw, prepared-skips}
use Rattle.prepared_draws.specs.Drawing.{prepared_draw, prepared_skips, residue_numbers, encoded_by}
use Rattle.prepared_draws.proofs.Calls.{Answered, by-making}
use Rattle.prepared_draws.proofs.Residues.{asked_below, asked_refuses, encoded_of}
use Rattle.any_sampler.specs.declared.AnyDistr.{AnyDistr}
use Rattle.any_sampler.specs.Either.{any_number, any_method, any_at_once, any_skips}
use Rattle.any_sampler.proofs.Drawing.{by_either}
use Rattle.sheet_request.specs.Request.{as_values}

-- An outcome after a pass over its output, which is made where the draw succeeded.
abbrev pub passed : (List ℤ → List ℤ) → Outcome ℤ → Outcome ℤ
passed pass o = record { number = o.number; place = o.place; index = o.index; output = cond (eqb o.number 0) (pass o.output) o.output }

-- A pass that keeps zeros is a way of writing: it is made where the draw succeeded, zeros are left as they are, and so is what was refused.
module _ (pass write : List ℤ → List ℤ) (same : (cs : List ℤ) → pass cs ≡ write cs) where
  settled-passed : (word_count place n : ℕ) (read : Read (List ℤ)) → write (replicate n (pos 0)) ≡ replicate n (pos 0)
      → passed pass (settled (λ cs. cs) word_count place n read) ≡ settled write word_count place n read
  unfolding settled
  settled-passed word_count place n (got cs rest) z = rw (same cs)
  settled-passed word_count place n short z = rw z

  judged-passed : (k place : ℕ) (out : List ℤ) (x y : Outcome ℤ) → passed pass x ≡ y → passed pass (judged k place out x) ≡ judged k place out y
  unfolding judged
  judged-passed k place out x y e = go (eqb k 0) refl
    where
      go : (b : Bool) → eqb k 0 ≡ b
          → passed pass (cond b x (record { number = k; place = place; index = 0; output = out })) ≡ cond b y (record { number = k; place = place; index = 0; output = out })
      go true t = e
      go false t = rw t

  passed-drawn : (numbers words : List ℕ) (place : ℕ) (out : List ℤ) (n : ℕ) (rules : List ℕ → Read (List ℤ))
      → write (replicate n (pos 0)) ≡ replicate n (pos 0)
      → passed pass (drawn (λ cs. cs) numbers words place out n rules) ≡ drawn write numbers words place out n rules
  passed-drawn numbers words place out n rules z =
      judged-passed (first_of numbers) place out _ _ (settled-passed (length words) place n (rules (drop place words)) z)

-- Every coefficient as the value of its residue.
abbrev pub residues_of : ℕ → List ℤ → List ℤ
residues_of q cs = map (λ (c : ℤ). pos (encode q c)) cs

module _ (q : ℕ) (words : List ℕ) (place : ℕ) (out : List ℤ) where
  abbrev zeros : List ℕ
  zeros = replicate (length out) 0

  zeros-length : length zeros ≡ length out
  zeros-length = length-replicate (length out) 0

  -- what is drawn by a method: 22, 6 and what is asked of residues, or the coefficients, which a pass then makes residues
  unfoldable pub values_by : SamplingMethod → Outcome ℤ
  values_by method =
      let asked = first_of (residue_numbers method (length out) q) in
      cond (eqb asked 0) (passed (residues_of q) (method_draw (λ cs. cs) method no_tables words place out))
      (record { number = first_of (past_end (length words) place ∷ too_long (length out) ∷ asked ∷ []); place = place; index = 0; output = out })

  -- the residues, written as their values
  write : List ℤ → List ℤ
  write cs = map pos (map (encode_with (q - 1)) cs)

  same-residues : (cs : List ℤ) → residues_of q cs ≡ write cs
  unfolding write
  same-residues cs = sym (ap (map pos) (encode_with_lem q cs) ∙ map-map pos (encode q) cs)

  zeros-kept : (n : ℕ) → write (replicate n (pos 0)) ≡ replicate n (pos 0)
  unfolding write
  zeros-kept n = ap (map pos) (map-replicate (encode_with (q - 1)) n (pos 0)) ∙ map-replicate pos n 0

  module _ (d : Distr) where
    abbrev method : SamplingMethod
    method = prepared_method d

    -- 22, 6 and another number that is no lack of words
    numbers-enough : (own : ℕ) → Enough own → Enough (first_of (past_end (length words) place ∷ too_long (length out) ∷ own ∷ []))
    unfolding first_of
    numbers-enough own enough =
        state_apart true (length words) place (too_long (length out) ∷ own ∷ [])
        (first_either Enough (too_long (length out)) (own ∷ []) (λ e. omega (arith, refuse-below {most = 22} (ltb output_limit (length out)) output_too_long (omega arith)))
        (first_either Enough own [] enough (λ e. omega arith)))

    own-enough : Enough (distribution_number d no_tables (length out))
    unfolding first_of
    own-enough =
        first_either Enough (length_number d (length out)) (table_number d no_tables ∷ []) (λ e. omega (arith, length-below d (length out)))
        (first_either Enough (table_number d no_tables) [] (table_apart d no_tables).1 (λ e. omega arith))

    drawn-values : making_number d ≡ 0
        → passed (residues_of q) (method_draw (λ cs. cs) method no_tables words place out)
        ≡ held_over (map pos) out (method_draw (map (encode_with (q - 1))) method no_tables words place zeros)
    unfolding write
    drawn-values z =
        let numbers : List ℕ = past_end (length words) place ∷ too_long (length out) ∷ distribution_number d no_tables (length out) ∷ [] in
        ap (passed (residues_of q)) (prepared-draw (λ cs. cs) no_tables words place out d z)
        ∙ ap (naming (table_index d no_tables))
        (passed-drawn (residues_of q) write same-residues numbers words place out (length out) (coefficients d (length out) no_tables) (zeros-kept (length out))
        ∙ drawn-held (map pos) (map (encode_with (q - 1))) numbers words place zeros out (length out) (coefficients d (length out) no_tables)
        (numbers-enough _ own-enough))
        ∙ ap (held_over (map pos) out)
        (sym (rw zeros-length at (prepared-draw (map (encode_with (q - 1))) no_tables words place zeros d z)))

    values_encoded : making_number d ≡ 0 → values_by method ≡ as_values out (encoded_by method no_tables q words place zeros)
    unfolding values_by encoded_by
    values_encoded z = rw zeros-length (go (eqb asked 0) refl)
      where
        asked : ℕ
        asked = first_of (residue_numbers method (length out) q)

        number : ℕ
        number = first_of (past_end (length words) place ∷ too_long (length out) ∷ asked ∷ [])

        go : (b : Bool) → eqb asked 0 ≡ b
            → cond b (passed (residues_of q) (method_draw (λ cs. cs) method no_tables words place out)) (record { number = number; place = place; index = 0; output = out })
            ≡ as_values out
            (cond b (method_draw (map (encode_with (q - 1))) method no_tables words place zeros) (record { number = number; place = place; index = 0; output = zeros }))
        go true e = drawn-values z
        go false e =
            let small = asked_below d (length out) q in
            rw (
              ne_eqb number 0 (asked_refuses _ _ asked (eqb-false asked 0 e) refl),
              ne_eqb number out_of_words (numbers-enough asked (λ n. omega arith)),
            )

    -- by the method that is prepared for a distribution they are the values of its residues
    values_of : length out < 2 ^ 64 → making_number d ≡ 0 → values_by method ≡ as_values out (encoded_draw true d no_tables q words place zeros)
    values_of few z =
        values_encoded z ∙ ap (as_values out) (encoded_of no_tables q words place zeros (rw zeros-length few) d z)

  -- so they are for a distribution of either kind, which reports what it skips
  pub any_values : (p : Result SamplingMethod Refusal) (x : AnyDistr) → Prepares (any_number x) (any_method x) p → length out < 2 ^ 64
      → {r : Answer} {after : List ℤ}
      → Answered r after (prepared_draw p place out values_by) (prepared_skips p (λ m. method_skips m no_tables (length out) (drop place words)))
      → Answered r after (any_at_once x place out (λ (d : Distr). as_values out (encoded_draw true d no_tables q words place zeros)))
      (any_skips x (λ (d : Distr). skips_of d (length out) no_tables (drop place words)))
  any_values p x e few =
      by_either no_tables words place p x e out values_by (λ d. as_values out (encoded_draw true d no_tables q words place zeros))
      (λ m. method_skips m no_tables (length out) (drop place words)) (λ d. skips_of d (length out) no_tables (drop place words))
      (λ d f. by-making d no_tables words place p f out values_by _ (λ m. method_skips m no_tables (length out) (drop place words)) _
      (values_of d few) (prepared-skips no_tables (length out) (drop place words) d))

  -- the answers of the draw by a method, as the code tries them
  module _ (m : SamplingMethod) {j : ℕ} (e : j ≡ first_of (residue_numbers m (length out) q)) where
    pub values_asked : (j ≡ 0 → ⊥) → {number : ℕ} → number ≡ first_of (past_end (length words) place ∷ too_long (length out) ∷ j ∷ [])
        → record { number = number; place = place; index = 0; output = out } ≡ values_by m
    unfolding values_by
    values_asked never n = rw (n, ← e, ne_eqb j 0 never)

    pub values-drawn : j ≡ 0 → (r : Answer) {now after : List ℤ}
        → outcome r now ≡ method_draw (λ cs. cs) m no_tables words place out
        → after ≡ cond (eqb r.number 0) (residues_of q now) now → outcome r after ≡ values_by m
    unfolding values_by
    values-drawn z r said done = rw (← e, z, done) (ap (passed (residues_of q)) said)

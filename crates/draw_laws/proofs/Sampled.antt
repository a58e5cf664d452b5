-- The draw of a sampler that making gives, signed or of residues: 22, 6, then what is asked of the length and the modulus, then the tables'
-- number. A signed draw is one of residues that asks nothing of a modulus. Either is what a method draws that draws as its distribution does.
use mathlib.Core.Path.{◌≡◌, refl, sym, ◌∙◌, ap}
use mathlib.Core.Bool.{true, false}
use mathlib.Core.List.{List, [], ◌∷◌, ◌++◌, map}
use Prim.Native.Nat.{ℕ, zero, suc, ◌<◌}
use native.Mathlib.Omega.{arith}
use lib.ListN.{length, drop, replicate}
use lib.IntN.{ℤ, pos}
use Rattle.distr.specs.declared.error_distribution.ErrorDistribution.TheVariants.{CenteredBinomial, Gaussian}
use Rattle.distr.specs.Constants.{never_made}
use Rattle.distr.specs.Distribution.{Distr, secret, error, Tables, coefficients}
use Rattle.distr.specs.Encoding.{encode}
use Rattle.distr.specs.Making.{largest}
use Rattle.distr.specs.Numbers.{first_of, past_end, too_long, length_number, modulus_number, table_number, layer_index, table_index}
use Rattle.distr.specs.Draw.{Outcome, judged, drawn, naming, read_draw, signed_draw, residue_draw, encoded_draw}
use Rattle.draw_laws.proofs.Joining.{first_alone, first-within, refused, settled_same}
use Rattle.draw_laws.proofs.Crt.{crt_unmade}

-- The distribution's number, of the length or of its tables; and what its rule draws by that number, for a caller that has no sampler.
abbrev pub distribution_number : Distr → Tables → ℕ → ℕ
distribution_number d tables n = first_of (length_number d n ∷ table_number d tables ∷ [])

abbrev pub distribution_draw : {A : Type 0} → (List ℤ → List A) → Distr → Tables → List ℕ → ℕ → List A → Outcome A
distribution_draw write d tables words place out =
    read_draw write (distribution_number d tables (length out)) (coefficients d (length out) tables) words place out

-- The draw of a sampler that making gives.
abbrev pub sampled : {A : Type 0} → (List ℤ → List A) → List ℕ → Distr → Tables → List ℕ → ℕ → List A → Outcome A
sampled write asked d tables words place out =
    drawn write (past_end (length words) place ∷ too_long (length out) ∷ (asked ++ (table_number d tables ∷ []))) words place out
    (length out) (coefficients d (length out) tables)

-- a last number that is the first of further ones, and one above 0
first-last : (ks ns : List ℕ) → first_of (ks ++ (first_of ns ∷ [])) ≡ first_of (ks ++ ns)
unfolding first_of
first-last [] ns = first_alone (first_of ns)
first-last (zero ∷ ks) ns = first-last ks ns
first-last (suc k ∷ ks) ns = refl

last_some : (ks : List ℕ) (k : ℕ) → 0 < k → 0 < first_of (ks ++ (k ∷ []))
unfolding first_of
last_some [] zero h = h
last_some [] (suc k) h = h
last_some (zero ∷ ks) k h = last_some ks k h
last_some (suc j ∷ ks) k h = omega arith

module _ {A : Type 0} (write : List ℤ → List A) (asked : List ℕ) (d : Distr) (tables : Tables) (words : List ℕ) (place : ℕ) (out : List A) where
  before : List ℕ
  before = past_end (length words) place ∷ too_long (length out) ∷ []

  rest : List ℕ
  rest = asked ++ (table_number d tables ∷ [])

  -- what is asked refuses the draw, by j, after 22 and 6
  pub sampled-refused : {j number : ℕ} → j ≡ first_of asked → (j ≡ 0 → ⊥) → number ≡ first_of (past_end (length words) place ∷ too_long (length out) ∷ j ∷ [])
      → record { number = number; place = place; index = 0; output = out } ≡ sampled write asked d tables words place out
  unfolding before rest
  sampled-refused {j} e never n =
      let some : 0 < first_of asked = omega arith in
      let numbers : first_of (before ++ rest) ≡ first_of (before ++ (j ∷ [])) =
      sym (first-last before rest) ∙ ap (λ (i : ℕ). first_of (before ++ (i ∷ []))) (first-within asked (table_number d tables ∷ []) some ∙ sym e) in
      rw n (sym (refused (before ++ rest) place out _ numbers (last_some before j (omega arith))))

  -- or what is asked comes to no other number than the distribution's, and both write the same
  pub sampled-drawn : (write' : List ℤ → List A) → ((cs : List ℤ) → write' cs ≡ write cs)
      → distribution_number d tables (length out) ≡ first_of (asked ++ (table_number d tables ∷ []))
      → distribution_draw write' d tables words place out ≡ sampled write asked d tables words place out
  unfolding before rest
  sampled-drawn write' h e =
      rw (e, first-last before rest)
      (ap (judged (first_of (before ++ rest)) place out)
      (settled_same write' write words place out (coefficients d (length out) tables (drop place words)) (λ cs _ _. h cs) (h (replicate (length out) (pos 0)))))

-- the numbers of a signed draw and of residues
pub signed-sampled : (d : Distr) (tables : Tables) (words : List ℕ) (place : ℕ) (out : List ℤ)
    → naming (table_index d tables) (sampled (λ cs. cs) (length_number d (length out) ∷ []) d tables words place out) ≡ signed_draw true d tables words place out
unfolding signed_draw first_of
signed-sampled d tables words place out = refl

pub residues-sampled : (d : Distr) (tables : Tables) (q : ℕ) (words : List ℕ) (place : ℕ) (out : List ℕ)
    → naming (table_index d tables) (sampled (map (encode q)) (length_number d (length out) ∷ modulus_number (largest d) q ∷ []) d tables words place out)
    ≡ residue_draw true d tables q words place out
unfolding first_of
residues-sampled d tables q words place out = refl

-- 21
pub signed_unmade : (d : Distr) (tables : Tables) (words : List ℕ) (place : ℕ) (out : List ℤ)
    → record { number = never_made; place = place; index = 0; output = out } ≡ signed_draw false d tables words place out
unfolding signed_draw first_of judged layer_index
signed_unmade d tables words place out = refl

pub encoded_unmade : (d : Distr) (tables : Tables) (q : ℕ) (words : List ℕ) (place : ℕ) (out : List ℕ)
    → record { number = never_made; place = place; index = 0; output = out } ≡ encoded_draw false d tables q words place out
unfolding encoded_draw first_of judged layer_index
encoded_unmade (secret d) tables q words place out = refl
encoded_unmade (error (Gaussian deviation)) tables q words place out = refl
encoded_unmade (error (CenteredBinomial eta)) tables q words place out =
    sym (crt_unmade (error (CenteredBinomial eta)) tables (length out) (q ∷ []) words place out false refl)

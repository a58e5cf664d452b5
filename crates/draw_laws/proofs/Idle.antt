-- A draw over zeros that does not succeed keeps its place and leaves zeros: 23 writes them, and every other number leaves what was there.
use mathlib.Core.Path.{◌≡◌, refl, ap, ◌∙◌}
use mathlib.Core.Bool.{Bool, true, false, cond, ◌&&◌}
use mathlib.Core.List.{List, [], ◌∷◌, ◌++◌, map}
use Prim.Native.Nat.{ℕ}
use lib.Dec.{eqb}
use lib.ListN.{length, drop, replicate, length-replicate}
use lib.IntN.{ℤ, pos}
use Rattle.distr.specs.declared.error_distribution.ErrorDistribution.TheVariants.{CenteredBinomial, Gaussian}
use Rattle.distr.specs.Words.{Read, got, short}
use Rattle.distr.specs.Distribution.{Distr, secret, error, Tables, coefficients}
use Rattle.distr.specs.Encoding.{encode, rows}
use Rattle.distr.specs.Numbers.{first_of, state_numbers, crt_numbers, serves_crt}
use Rattle.distr.specs.Draw.{Outcome, settled, judged, drawn, signed_draw, crt_draw, encoded_draw}
use Rattle.distr.proofs.Writing.{map-replicate}
use Rattle.draw_laws.proofs.Crt.{rows-one}

abbrev pub Idle : {A : Type 0} → ℕ → List A → Outcome A → Type 0
Idle place out o = (o.number ≡ 0 → ⊥) → (o.place ≡ place) × (o.output ≡ out)

module _ {A : Type 0} (place : ℕ) (out : List A) where
  pub judged_idle : (k : ℕ) (x : Outcome A) → Idle place out x → Idle place out (judged k place out x)
  unfolding judged
  judged_idle k x h = go (eqb k 0)
    where
      go : (b : Bool) → Idle place out (cond b x (record { number = k; place = place; index = 0; output = out }))
      go true = h
      go false = λ never. (refl, refl)

  settled_idle : (write : List ℤ → List A) (word_count n : ℕ) → write (replicate n (pos 0)) ≡ out → (read : Read (List ℤ))
      → Idle place out (settled write word_count place n read)
  unfolding settled
  settled_idle write word_count n e (got cs rest) = λ never. absurd (never refl)
  settled_idle write word_count n e short = λ never. (refl, e)

  drawn_idle : (write : List ℤ → List A) (numbers words : List ℕ) (n : ℕ) (rules : List ℕ → Read (List ℤ)) → write (replicate n (pos 0)) ≡ out
      → Idle place out (drawn write numbers words place out n rules)
  drawn_idle write numbers words n rules e = judged_idle (first_of numbers) _ (settled_idle write (length words) n e (rules (drop place words)))

module _ (tables : Tables) (words : List ℕ) (place n : ℕ) where
  pub signed_idle : (d : Distr) → Idle place (replicate n (pos 0)) (signed_draw true d tables words place (replicate n (pos 0)))
  unfolding signed_draw
  signed_idle d =
      let zeros = replicate n (pos 0) in
      drawn_idle place zeros (λ cs. cs) _ words (length zeros) (coefficients d (length zeros) tables)
      (ap (λ (k : ℕ). replicate k (pos 0)) (length-replicate n (pos 0)))

  module _ (modulus : ℕ) where
    abbrev zeros : List ℕ
    zeros = replicate n 0

    residues-zero : map (encode modulus) (replicate (length zeros) (pos 0)) ≡ zeros
    residues-zero = map-replicate (encode modulus) (length zeros) (pos 0) ∙ ap (λ (k : ℕ). replicate k 0) (length-replicate n 0)

    residue_idle : (d : Distr) (numbers : List ℕ)
        → Idle place zeros (drawn (map (encode modulus)) numbers words place zeros (length zeros) (coefficients d (length zeros) tables))
    residue_idle d numbers = drawn_idle place zeros (map (encode modulus)) numbers words (length zeros) (coefficients d (length zeros) tables) residues-zero

    pub encoded_idle : (d : Distr) → Idle place zeros (encoded_draw true d tables modulus words place zeros)
    unfolding encoded_draw crt_draw
    encoded_idle (secret d) = residue_idle (secret d) _
    encoded_idle (error (Gaussian deviation)) = residue_idle (error (Gaussian deviation)) _
    encoded_idle (error (CenteredBinomial eta)) = go (eqb (length zeros) 0)
      where
        d : Distr
        d = error (CenteredBinomial eta)

        numbers : List ℕ
        numbers = state_numbers (true && serves_crt d) (length words) place ++ crt_numbers d tables (length zeros) (length zeros) (modulus ∷ [])

        go : (b : Bool)
            → Idle place zeros
            (cond b (judged (first_of numbers) place zeros (record { number = 0; place = place; index = 0; output = zeros }))
            (drawn (rows (modulus ∷ [])) numbers words place zeros (length zeros) (coefficients d (length zeros) tables)))
        go true = judged_idle place zeros (first_of numbers) _ (λ never. absurd (never refl))
        go false =
            drawn_idle place zeros (rows (modulus ∷ [])) numbers words (length zeros) (coefficients d (length zeros) tables)
            (rows-one modulus (replicate (length zeros) (pos 0)) ∙ residues-zero)

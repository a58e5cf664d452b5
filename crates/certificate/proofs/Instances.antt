-- The claims speak of something: requests that 01 accepts, lists inside a distribution, words that carry a draw list, byte strings.
use mathlib.Core.Path.{◌≡◌, refl}
use mathlib.Core.Bool.{true}
use mathlib.Core.Logic.{inl, inr}
use mathlib.Core.List.{List, [], ◌∷◌}
use Prim.Native.Nat.{ℕ, ◌-◌, ◌^◌}
use lib.Dec.{lit≤}
use lib.ListN.{replicate}
use lib.IntN.{pos}
use lib.Ieee.{round, mul, lt}
use Rattle.distr.specs.declared.secret_key_distr.SecretKeyDistr.{SecretKeyDistr}
use Rattle.distr.specs.declared.secret_key_distr.SecretKeyDistr.TheVariants.{FixedCompositionTernary, Gaussian}
use Rattle.distr.specs.Words.{map_read, bind_read, choose, choose_each, are_words}
use Rattle.distr.specs.Packed.{minus_one}
use Rattle.distr.specs.Insertion.{count_up, fixed_composition}
use Rattle.distr.specs.Constants.{literal}
use Rattle.distr.specs.Gaussian.{never_falls}
use Rattle.distr.specs.Distribution.{secret, Tables, on_deviation}
use Rattle.distr.specs.Making.{making_number, secret_number}
use Rattle.distr.specs.Numbers.{first_of, length_number, table_number}
use Rattle.counts.specs.Inside.{tally, every, inside_secret, inside}
use Rattle.counts.specs.Formula.{product_of, binomial}
use Rattle.counts.specs.DrawLists.{Carries, Exactly}
use Rattle.secret_key_sampler.specs.declared.SecretKeySampler.{SecretKeySampler}
use Rattle.secret_key_sampler.specs.Sampler.{is_made, making}
use Rattle.certificate.specs.Polynomials.{ReachesPolynomial}
use Rattle.certificate.specs.Certificate.{Accepted, Demand3}
use Rattle.certificate.proofs.Certificate.{certificate}

-- a request of n coefficients by a distribution: its sampler is made, and demand 3 is stated of it
abbrev Request : SecretKeyDistr → ℕ → Tables → Type 0
Request d n tables =
    (s : SecretKeySampler)
    × (making d ≡ record { number = 0; sampler = s })
    × Accepted (is_made s) (secret s.distr) n tables.bounds
    × Demand3 (is_made s) (secret s.distr) n tables.bounds

-- tables for a deviation of 0.75, whose support is 9
abbrev tables : Tables
tables = record {
  bounds = 0 ∷ 1 ∷ 2 ∷ 3 ∷ 4 ∷ 5 ∷ 6 ∷ 7 ∷ 8 ∷ 9 ∷ (2 ^ 64 - 1) ∷ [];
  layers = record { endpoints = []; heights = []; curve = [] };
}

composition : Request (FixedCompositionTernary 1 1) 4 tables
unfolding making_number secret_number first_of length_number table_number on_deviation
composition = certificate.secret_keys.requests_exist (FixedCompositionTernary 1 1) 4 tables refl refl tt

gaussian : Request (Gaussian (literal 3 4)) 2 tables
unfolding making_number secret_number first_of length_number table_number on_deviation never_falls round mul lt
gaussian = certificate.secret_keys.requests_exist (Gaussian (literal 3 4)) 2 tables refl refl tt

inside_composition : inside (secret (FixedCompositionTernary 1 1)) 4 (pos 1 ∷ pos 0 ∷ pos 0 ∷ minus_one ∷ []) ≡ true
unfolding inside inside_secret every tally
inside_composition = refl

carried : Carries (fixed_composition 1 1 4) (0 ∷ 0 ∷ []) 0 (0 ∷ 0 ∷ []) []
unfolding map_read bind_read choose choose_each are_words count_up
carried = record { are_words = tt; good_place = lit≤ tt; reads = refl }

-- with eta 2 the polynomial of 0s alone is reached by C(4, 2) byte strings for each coefficient, that of 2s alone by the one string of bytes 0x33, and
-- with eta 3 that of −1s by C(6, 2) for each
zeros : Exactly (List ℕ) (6 ^ 256) (ReachesPolynomial 2 (replicate 256 0))
unfolding every product_of binomial
zeros = (certificate.polynomials 2 (inl refl)).exactly (replicate 256 (pos 0)) tt

twos : Exactly (List ℕ) 1 (ReachesPolynomial 2 (replicate 256 2))
unfolding every product_of binomial
twos = (certificate.polynomials 2 (inl refl)).exactly (replicate 256 (pos 2)) tt

minus_ones : Exactly (List ℕ) (15 ^ 256) (ReachesPolynomial 3 (replicate 256 3328))
unfolding every product_of binomial
minus_ones = (certificate.polynomials 3 (inr refl)).exactly (replicate 256 minus_one) tt

-- Demand 3, whole: the record `Certificate` below is the claim, and the term `certificate` of proofs/Certificate is its proof. What it counts stands in
-- the specs of `counts`: draw lists, which coefficient lists are inside a distribution, the formula. The rules stand in the specs of `distr`, and what the
-- contracts of the code promise stands in CallPromises. The count of 02 [3], of byte strings, is a claim of the same record; it stands in Polynomials.
use Rattle.std.specs.Prelude.{ℕ, ◌/◌, ◌^◌, ◌≤◌, ◌<◌, ◌≡◌, ◌⊎◌, Bool, not, cond, List, ◌∷◌, T, length, drop, ℤ, Option, Result}
use Rattle.distr.specs.declared.answer.Answer.{Answer}
use Rattle.distr.specs.declared.refusal.Refusal.{Refusal}
use Rattle.distr.specs.declared.secret_key_distr.SecretKeyDistr.{SecretKeyDistr}
use Rattle.distr.specs.declared.secret_key_distr.SecretKeyDistr.TheVariants.{FixedCompositionTernary}
use Rattle.distr.specs.declared.error_distribution.ErrorDistribution.{ErrorDistribution}
use Rattle.distr.specs.Contract.{Contract}
use Rattle.distr.specs.Words.{got, choose}
use Rattle.distr.specs.Distribution.{Distr, secret, error, Tables, on_deviation, is_layered, rule}
use Rattle.distr.specs.Making.{making_number}
use Rattle.distr.specs.Numbers.{first_of, signed_numbers}
use Rattle.distr.specs.Draw.{Outcome, Meets}
use Rattle.counts.specs.DrawLists.{in_box, Carries, Exactly}
use Rattle.counts.specs.Inside.{inside}
use Rattle.counts.specs.Formula.{formula}
use Rattle.words.specs.declared.Taken.{Taken}
use Rattle.words.proofs.uniform_below.Reads as uniform-below
use Rattle.poly_cbd.proofs.sample_poly_cbd.Reads as sample-poly-cbd
use Rattle.secret_key_sampler.specs.declared.SecretKeySampler.{SecretKeySampler}
use Rattle.secret_key_sampler.specs.Sampler.{is_made, making}
use Rattle.secret_key_sampler.proofs.SecretKeySampler.try_new.Reads as secret-key-try-new
use Rattle.secret_key_sampler.proofs.SecretKeySampler.sample_signed_to.Reads as secret-key-sample-signed-to
use Rattle.error_sampler.specs.declared.ErrorSampler.{ErrorSampler}
use Rattle.error_sampler.specs.Sampler.{is_made as is_made_error, making as making_error}
use Rattle.error_sampler.proofs.ErrorSampler.try_new.Reads as error-try-new
use Rattle.error_sampler.proofs.ErrorSampler.sample_signed_to.Reads as error-sample-signed-to
use Rattle.certificate.specs.Polynomials.{PolynomialsCounted}
use Rattle.certificate.specs.CallPromises.{SignedArguments, SignedCall, ChoiceArguments, BoundedChoice, CbdArguments, CbdCall}

-- ---- a request and its calls

-- "A request is a sampler of any distribution but the layered Gaussian, a length n, and the table if one is used." A Gaussian uses the bounds, another
-- distribution no table: a call is for the request if a Gaussian is lent these bounds, whatever else is lent, and any call is where d is no Gaussian.
abbrev pub CallFor : Distr → List ℕ → Tables → Type 0
CallFor d bounds tables = on_deviation d (λ deviation. tables.bounds) bounds ≡ bounds

-- "It is accepted if only 22 and 23 can still refuse its signed draw." `made` says whether making gives the sampler, d is its distribution;
-- `Meets` says what a call does.
pub record Accepted (made : Bool) (d : Distr) (n : ℕ) (bounds : List ℕ) : Type 0 where
  pub not_layered : T (not (is_layered d))
  pub every_call : (tables : Tables) (words : List ℕ) (place : ℕ) (out : List ℤ) (o : Outcome ℤ)
      → CallFor d bounds tables → length out ≡ n → Meets made d tables words place out o
      → (o.number ≡ 0) ⊎ (o.number ≡ 22) ⊎ (o.number ≡ 23)

-- The request's draw lists.
abbrev pub DrawList : Distr → ℕ → List ℕ → List ℕ → Type 0
DrawList d n bounds ds = T (in_box (rule d n bounds).ranges ds)

-- "The draw list reaches a coefficient list if some words carry it and every call of a `sample_signed_to` for the request, on any words and place that
-- carry it and into any output of length n, gives 0 and the place where the rules stop, and writes that list, the one the rules give."
pub record Reaches (made : Bool) (d : Distr) (n : ℕ) (bounds ds : List ℕ) (cs : List ℤ) : Type 0 where
  pub some_words : (words : List ℕ) × (place : ℕ) × (rest : List ℕ) × Carries (rule d n bounds) words place ds rest
  pub every_call : (tables : Tables) (words : List ℕ) (place : ℕ) (rest : List ℕ) (out : List ℤ) (o : Outcome ℤ)
      → CallFor d bounds tables → Carries (rule d n bounds) words place ds rest → length out ≡ n → Meets made d tables words place out o
      → (o.number ≡ 0) × (o.place ≤ length words) × (drop o.place words ≡ rest) × (o.output ≡ cs)
  pub rules_give : (rule d n bounds).decode ds ≡ cs

-- A draw list of the request that reaches cs.
abbrev pub Reaching : Bool → Distr → ℕ → List ℕ → List ℤ → List ℕ → Type 0
Reaching made d n bounds cs ds = DrawList d n bounds ds × Reaches made d n bounds ds cs

-- ---- the claims

-- Demand 3 for one request.
pub record Demand3 (made : Bool) (d : Distr) (n : ℕ) (bounds : List ℕ) : Type 0 where
  -- "For every coefficient list inside the distribution, exactly as many of the request's draw lists reach it as the formula in document 01 gives, and
  -- none reach one outside the distribution."
  pub exactly : (cs : List ℤ) → Exactly (List ℕ) (cond (inside d n cs) (formula d n bounds cs) 0) (Reaching made d n bounds cs)
  -- "For every draw list there are words that carry it."
  pub carried : (ds : List ℕ) → DrawList d n bounds ds → (words : List ℕ) × (place : ℕ) × (rest : List ℕ) × Carries (rule d n bounds) words place ds rest
  -- And words carry nothing but draw lists of the request.
  pub nothing_else : (words : List ℕ) (place : ℕ) (ds rest : List ℕ) → Carries (rule d n bounds) words place ds rest → DrawList d n bounds ds

-- Demand 3 for a sampler S of the distributions D: `distr` is a sampler's distribution, `is_made` says whether making gives the sampler, and `Made d s`
-- that making d gives number 0 and the sampler s.
pub record ForSampler (S D : Type 0) (kind : D → Distr) (distr : S → D) (is_made : S → Bool) (Made : D → S → Type 0) : Type 0 where
  -- "Take any accepted request for signed output by any distribution but the layered Gaussian."
  pub every_request : (s : S) (n : ℕ) (bounds : List ℕ)
      → Accepted (is_made s) (kind (distr s)) n bounds → Demand3 (is_made s) (kind (distr s)) n bounds
  -- There are such requests: wherever the distribution is not the layered Gaussian and neither making it nor the length nor the table is refused.
  pub requests_exist : (d : D) (n : ℕ) (tables : Tables)
      → making_number (kind d) ≡ 0 → first_of (signed_numbers (kind d) tables n) ≡ 0 → T (not (is_layered (kind d)))
      → (s : S) × Made d s × Accepted (is_made s) (kind (distr s)) n tables.bounds × Demand3 (is_made s) (kind (distr s)) n tables.bounds

-- In a choice among k the word w gives r, whatever words follow.
abbrev pub Gives : ℕ → ℕ → ℕ → Type 0
Gives k r w = (ws : List ℕ) → choose k (w ∷ ws) ≡ got r ws

-- The word w is skipped.
abbrev pub Skips : ℕ → ℕ → Type 0
Skips k w = (ws : List ℕ) → choose k (w ∷ ws) ≡ choose k ws

-- "A bounded choice among k values gives each of them for exactly the whole part of 2^32/k words and skips all other words."
pub record FairChoice (k : ℕ) : Type 0 where
  pub each : (r : ℕ) → r < k → Exactly ℕ (2 ^ 32 / k) (λ w. (w < 2 ^ 32) × Gives k r w)
  pub others : (w : ℕ) → w < 2 ^ 32 → ((r : ℕ) → r < k → Gives k r w → ⊥) → Skips k w

-- ---- demand 3, and that it is about this code

pub record Certificate : Type 1 where
  pub secret_keys : ForSampler SecretKeySampler SecretKeyDistr secret (λ s. s.distr) is_made (λ d s. making d ≡ record { number = 0; sampler = s })
  pub errors : ForSampler ErrorSampler ErrorDistribution error (λ s. s.distribution) is_made_error (λ d s. making_error d ≡ record { number = 0; sampler = s })
  -- "So any two keys of one fixed composition are reached by equally many draw lists."
  pub compositions : (s : SecretKeySampler) (minus ones n : ℕ) (bounds : List ℕ) (cs cs' : List ℤ)
      → let d = FixedCompositionTernary minus ones in
      s.distr ≡ d → Accepted (is_made s) (secret d) n bounds → T (inside (secret d) n cs) → T (inside (secret d) n cs')
      → (N : ℕ) × Exactly (List ℕ) N (Reaching (is_made s) (secret d) n bounds cs) × Exactly (List ℕ) N (Reaching (is_made s) (secret d) n bounds cs')
  -- "And for every k from 1 to 2^32, a bounded choice among k values gives each of them …"
  pub choices : (k : ℕ) → 1 ≤ k → k ≤ 2 ^ 32 → FairChoice k
  -- 02 [3]: "A polynomial with centered coefficients v is reached by the product of C(2eta, eta+v) byte strings", of eta 2 and 3.
  pub polynomials : (eta : ℕ) → (eta ≡ 2) ⊎ (eta ≡ 3) → PolynomialsCounted eta
  -- the signed draws
  pub secret_key_draws : Contract 6 (SignedArguments SecretKeySampler) Answer (SignedCall is_made (λ s. secret s.distr))
      secret-key-sample-signed-to.Pre secret-key-sample-signed-to.Post
  pub error_draws : Contract 6 (SignedArguments ErrorSampler) Answer (SignedCall is_made_error (λ s. error s.distribution))
      error-sample-signed-to.Pre error-sample-signed-to.Post
  -- making
  pub secret_key_making : Contract 0 (SecretKeyDistr × Unit {0}) _ (λ before answer after. answer ≡ making before.0)
      secret-key-try-new.Pre secret-key-try-new.Post
  pub error_making : Contract 0 (ErrorDistribution × Unit {0}) _ (λ before answer after. answer ≡ making_error before.0)
      error-try-new.Pre error-try-new.Post
  -- the bounded choice
  pub bounded_choice : Contract 1 ChoiceArguments (Option Taken) BoundedChoice uniform-below.Pre uniform-below.Post
  -- the byte form
  pub polynomial_draws : Contract 2 CbdArguments (Result (Unit {0}) Refusal) CbdCall sample-poly-cbd.Pre sample-poly-cbd.Post

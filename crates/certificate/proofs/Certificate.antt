-- Demand 3: the proof of specs/Certificate.
use mathlib.Core.Path.{◌≡◌, refl, sym, subst, ◌∙◌}
use mathlib.Core.Bool.{Bool, cond}
use mathlib.Core.List.{List}
use Prim.Native.Nat.{ℕ}
use lib.Dec.{T}
use lib.IntN.{ℤ}
use borrow.Author.Tests.{eq-eqb}
use Rattle.distr.specs.declared.secret_key_distr.SecretKeyDistr.TheVariants.{FixedCompositionTernary}
use Rattle.distr.specs.Distribution.{Distr, secret}
use Rattle.distr.specs.Making.{secret_number, making_number}
use Rattle.distr.proofs.Reading.{T_true}
use Rattle.counts.specs.DrawLists.{Exactly}
use Rattle.counts.specs.Inside.{inside}
use Rattle.counts.specs.Formula.{formula, secret_formula}
use Rattle.counts.proofs.Choices.{choice_each, choice_others}
use Rattle.draw_laws.proofs.Making.{Makes, good, good-number, prepared_sampler, prepared-good, making}
use Rattle.secret_key_sampler.proofs.Made.{makes}
use Rattle.error_sampler.proofs.Made.{makes as error-makes}
use Rattle.certificate.specs.Certificate.{Accepted, Demand3, Reaching, ForSampler, Certificate}
use Rattle.certificate.proofs.Reached.{demand_3, accepted}
use Rattle.certificate.proofs.Polynomials.{polynomials-counted}

-- a sampler of either kind: what is made passes its test, so its requests are accepted
module _ {D M S R : Type 0} (k : Makes D M S R) where
  for_sampler : ForSampler S D k.kind k.distr_of (good k) (λ d s. making k d ≡ k.made 0 s)
  for_sampler = record {
    every_request = every;
    requests_exist = λ d n tables z numbers no_layers.
        let s = prepared_sampler k d in
        let judged : k.judge d ≡ 0 = sym (k.judges d) ∙ z in
        let ok : Accepted (good k s) (k.kind (k.distr_of s)) n tables.bounds =
        subst (λ (e : D). Accepted (good k s) (k.kind e) n tables.bounds) (sym (k.distr_of_lem d (k.prepared d)))
        (subst (λ (b : Bool). Accepted b (k.kind d) n tables.bounds) (sym (T_true (good k s) (prepared-good k d judged)))
        (accepted (k.kind d) n tables numbers no_layers)) in
        (s, rw (eq-eqb (k.judge d) 0 judged), ok, every s n tables.bounds ok);
  }
    where
      every : (s : S) (n : ℕ) (bounds : List ℕ) → Accepted (good k s) (k.kind (k.distr_of s)) n bounds → Demand3 (good k s) (k.kind (k.distr_of s)) n bounds
      every s n bounds ok = demand_3 (good k s) (k.kind (k.distr_of s)) n bounds (good-number k s) ok

-- the formula's number of draw lists reach a list inside the distribution
inside-exactly : (made : Bool) (d : Distr) (n : ℕ) (bounds : List ℕ) (cs : List ℤ) → Demand3 made d n bounds → T (inside d n cs)
    → Exactly (List ℕ) (formula d n bounds cs) (Reaching made d n bounds cs)
inside-exactly made d n bounds cs all i =
    subst (λ (b : Bool). Exactly (List ℕ) (cond b (formula d n bounds cs) 0) (Reaching made d n bounds cs)) (T_true (inside d n cs) i) (all.exactly cs)

-- a composition is always made, and its formula is the same for every list
compositions : (made : Bool) (minus ones n : ℕ) (bounds : List ℕ) (cs cs' : List ℤ)
    → let d = secret (FixedCompositionTernary minus ones) in
    Accepted made d n bounds → T (inside d n cs) → T (inside d n cs')
    → (N : ℕ) × Exactly (List ℕ) N (Reaching made d n bounds cs) × Exactly (List ℕ) N (Reaching made d n bounds cs')
unfolding formula secret_formula making_number secret_number
compositions made minus ones n bounds cs cs' ok i i' =
    let d = secret (FixedCompositionTernary minus ones) in
    let all = demand_3 made d n bounds (λ t. refl) ok in
    (formula d n bounds cs, inside-exactly made d n bounds cs all i, inside-exactly made d n bounds cs' all i')

pub certificate : Certificate
certificate = record {
  secret_keys = for_sampler makes;
  errors = for_sampler error-makes;
  compositions = λ s minus ones n bounds cs cs' e. compositions (good makes s) minus ones n bounds cs cs';
  choices = λ k l u. record { each = choice_each k l; others = λ w h. choice_others k l w };
  polynomials = polynomials-counted;
  secret_key_draws = (λ κs before. refl, λ κs before answer after. refl);
  error_draws = (λ κs before. refl, λ κs before answer after. refl);
  secret_key_making = (λ κs before. refl, λ κs before made after. refl);
  error_making = (λ κs before. refl, λ κs before made after. refl);
  bounded_choice = (λ κs before. refl, λ κs before answer after. refl);
  polynomial_draws = (λ κs before. refl, λ κs before number after. refl);
}

-- Making, over any kind of sampler: which samplers making gives (number 21), what such a sampler keeps, and that a call which makes one and
-- draws by it answers the number of making where that is not 0, else the draw of the sampler that is made.
use Prim.Native.Nat.{ℕ}
use mathlib.Core.Path.{◌≡◌, refl, sym, ◌∙◌, ap, subst}
use mathlib.Core.Bool.{Bool, true, false, cond, not, ◌&&◌}
use mathlib.Core.List.{List, [], ◌∷◌}
use lib.Dec.{T, eqb, eqb→eq}
use borrow.Author.Tests.{eqb-true, eq-eqb, ne_eqb, not-true, not-false}
use Rattle.std.specs.Prelude.{Result}
use Rattle.distr.specs.declared.refusal.Refusal.{Refusal}
use Rattle.distr.specs.Refusals.{Makes as Prepares}
use Rattle.distr.specs.Distribution.{Distr}
use Rattle.distr.specs.Draw.{Outcome, judged}
use Rattle.distr.specs.Making.{making_number, refuse, largest}
use Rattle.distr.specs.Numbers.{first_of, modulus_number}
use Rattle.distr.specs.Constants.{never_made}
use Rattle.distr.proofs.Reading.{T_true, and_left, and_right}
use Rattle.draw_laws.proofs.Joining.{first_alone}

-- A kind of sampler: samplers S hold a distribution D and the method M that is prepared for it, and making hands them back with a number, as R.
pub record Makes (D M S R : Type 0) : Type 0 where
  -- a distribution: which of 01 it is, the number of making it, and its method
  pub kind : D → Distr
  pub judge : D → ℕ
  pub prepared : D → M
  -- a method: its largest magnitude, whether its floats are values of f64, and whether it has the key of another
  pub magnitude : M → ℕ
  pub fits : M → Bool
  pub same : M → M → Bool
  -- a sampler, with its parts, and the empty one
  pub holding : D → M → S
  pub distr_of : S → D
  pub method_of : S → M
  pub empty : S
  -- what making hands back, with its parts
  pub made : ℕ → S → R
  pub number : R → ℕ
  pub sampler : R → S
  pub judges : (d : D) → making_number (kind d) ≡ judge d
  pub prepared-magnitude : (d : D) → magnitude (prepared d) ≡ largest (kind d)
  -- a method with the key of a prepared one is that one, which has its own key
  pub same-prepared : (m : M) (d : D) → judge d ≡ 0 → T (fits m) → T (fits (prepared d)) → T (same m (prepared d)) → m ≡ prepared d
  pub prepared-same : (d : D) → judge d ≡ 0 → same (prepared d) (prepared d) ≡ true
  pub distr_of_lem : (d : D) (m : M) → distr_of (holding d m) ≡ d
  pub method_of_lem : (d : D) (m : M) → method_of (holding d m) ≡ m
  pub whole : (s : S) → holding (distr_of s) (method_of s) ≡ s
  pub number_of : (n : ℕ) (s : S) → number (made n s) ≡ n
  pub sampler_of_lem : (n : ℕ) (s : S) → sampler (made n s) ≡ s

-- what counts where a number is 0, judged by a number that is the same: two values count as one if they are the same for the number 0
pub judged-same : {M P : Type 0} (hold : ℕ → M → P) (none : M) (n k : ℕ) (m other : M) → n ≡ k → (k ≡ 0 → m ≡ other)
    → hold n (cond (eqb n 0) m none) ≡ hold k (cond (eqb k 0) other none)
judged-same hold none n k m other e h = rw e (go (eqb k 0) refl)
  where
    go : (b : Bool) → eqb k 0 ≡ b → hold k (cond (eqb k 0) m none) ≡ hold k (cond (eqb k 0) other none)
    go true t = rw (h (eqb-true k 0 t))
    go false t = rw t

-- a test that comes first hides what stands for the value where it does not count
tested_first : {A : Type 0} (b : Bool) (test : A → Bool) (x none : A) → (b && test (cond b x none)) ≡ (b && test x)
tested_first true test x none = refl
tested_first false test x none = refl

module _ {D M S R : Type 0} (k : Makes D M S R) where
  -- The test of a sampler: its distribution is accepted, and its method has the key of the one prepared for it.
  abbrev pub good : S → Bool
  good s = eqb (k.judge (k.distr_of s)) 0 && k.same (k.method_of s) (k.prepared (k.distr_of s))

  -- The floats of a sampler are values of f64, as they are in every sampler that code can hold.
  abbrev pub fitting : S → Bool
  fitting s = k.fits (k.method_of s) && k.fits (k.prepared (k.distr_of s))

  abbrev pub prepared_sampler : D → S
  prepared_sampler d = k.holding d (k.prepared d)

  -- the number of making, with the sampler prepared for the distribution or the empty one
  abbrev pub making : D → R
  making d = cond (eqb (k.judge d) 0) (k.made 0 (prepared_sampler d)) (k.made (k.judge d) k.empty)

  -- A sampler that passes the test: its distribution is accepted, its method is the one prepared for it, and the magnitude that it keeps is
  -- its distribution's largest.
  module _ (s : S) where
    pub good_accepted : T (good s) → k.judge (k.distr_of s) ≡ 0
    good_accepted h = eqb→eq (k.judge (k.distr_of s)) 0 (and_left (eqb (k.judge (k.distr_of s)) 0) _ h)

    pub good-number : T (good s) → making_number (k.kind (k.distr_of s)) ≡ 0
    good-number h = k.judges (k.distr_of s) ∙ good_accepted h

    pub good-method : T (fitting s) → T (good s) → k.method_of s ≡ k.prepared (k.distr_of s)
    good-method f h =
        let mine = k.fits (k.method_of s) in
        let wanted = k.fits (k.prepared (k.distr_of s)) in
        k.same-prepared (k.method_of s) (k.distr_of s) (good_accepted h) (and_left mine wanted f) (and_right mine wanted f)
        (and_right (eqb (k.judge (k.distr_of s)) 0) _ h)

    pub good-magnitude : T (fitting s) → T (good s) → k.magnitude (k.method_of s) ≡ largest (k.kind (k.distr_of s))
    good-magnitude f h = ap k.magnitude (good-method f h) ∙ k.prepared-magnitude (k.distr_of s)

    -- "A sampler that making never gives": one that passes is made from some distribution, and one that is made passes (given-good).
    pub good-given : T (fitting s) → T (good s) → (d : D) × (making d ≡ k.made 0 s)
    good-given f h =
        (k.distr_of s, rw (good_accepted h) (ap (k.made 0) (ap (k.holding (k.distr_of s)) (sym (good-method f h)) ∙ k.whole s)))

    -- A draw by the sampler: 21 where making never gives it, else the draw by its method, which is the one prepared for its distribution.
    pub tested_draw : T (fitting s) → {A : Type 0} (place : ℕ) (out : List A) (draw : M → Outcome A) (answer : Bool → Outcome A)
        → record { number = never_made; place = place; index = 0; output = out } ≡ answer false
        → (making_number (k.kind (k.distr_of s)) ≡ 0 → draw (k.prepared (k.distr_of s)) ≡ answer true)
        → judged (refuse (not (good s)) never_made) place out (draw (k.method_of s)) ≡ answer (good s)
    unfolding judged
    tested_draw f place out draw answer unmade made = go (good s) refl
      where
        go : (b : Bool) → good s ≡ b → judged (refuse (not b) never_made) place out (draw (k.method_of s)) ≡ answer b
        go true e = ap draw (good-method f (rw e tt)) ∙ made (good-number (rw e tt))
        go false e = unmade

    -- What a test told, said of the sampler: by it 21 comes before one number more, and before what a draw answers.
    module _ {told : Bool} (e : told ≡ good s) where
      pub is-good : not told ≡ false → T (good s)
      is-good h = rw (sym e ∙ not-false told h) tt

      pub unmade_answer : {A : Type 0} (answer : Bool → A) → not told ≡ true → answer false ≡ answer (good s)
      unmade_answer answer h = rw (sym e ∙ not-true told h)

      pub made-answer : {A : Type 0} (answer : Bool → A) → not told ≡ false → answer true ≡ answer (good s)
      made-answer answer h = rw (sym e ∙ not-false told h)

      pub unmade_first : (j : ℕ) → not told ≡ true → never_made ≡ first_of (refuse (not (good s)) never_made ∷ j ∷ [])
      unfolding first_of
      unmade_first j h = unmade_answer (λ b. first_of (refuse (not b) never_made ∷ j ∷ [])) h

      pub made-next : (j : ℕ) → not told ≡ false → j ≡ first_of (refuse (not (good s)) never_made ∷ j ∷ [])
      unfolding first_of
      made-next j h = sym (first_alone j) ∙ made-answer (λ b. first_of (refuse (not b) never_made ∷ j ∷ [])) h

      pub modulus_validated : (q : ℕ) → T (fitting s)
          → first_of (refuse (not told) never_made ∷ modulus_number (k.magnitude (k.method_of s)) q ∷ [])
          ≡ first_of (refuse (not (good s)) never_made ∷ modulus_number (largest (k.kind (k.distr_of s))) q ∷ [])
      unfolding first_of
      modulus_validated q f = rw e (go (good s) refl)
        where
          go : (b : Bool) → good s ≡ b
              → first_of (refuse (not b) never_made ∷ modulus_number (k.magnitude (k.method_of s)) q ∷ [])
              ≡ first_of (refuse (not b) never_made ∷ modulus_number (largest (k.kind (k.distr_of s))) q ∷ [])
          go true g = rw (good-magnitude f (rw g tt))
          go false g = refl

  pub prepared-good : (d : D) → k.judge d ≡ 0 → T (good (prepared_sampler d))
  prepared-good d z = rw (k.distr_of_lem d (k.prepared d), k.method_of_lem d (k.prepared d), z, k.prepared-same d z) tt

  -- What a distribution prepares, a number and a method that counts where the number is 0: comparing a method with it, and making of it.
  pub good_test : (none : M) (s : S)
      → (eqb (k.judge (k.distr_of s)) 0 && k.same (k.method_of s) (cond (eqb (k.judge (k.distr_of s)) 0) (k.prepared (k.distr_of s)) none)) ≡ good s
  good_test none s = tested_first (eqb (k.judge (k.distr_of s)) 0) (k.same (k.method_of s)) (k.prepared (k.distr_of s)) none

  module _ (d : D) (n : ℕ) (e : n ≡ k.judge d) where
    pub makes_sampler : (none m : M) → m ≡ cond (eqb (k.judge d) 0) (k.prepared d) none → n ≡ 0 → k.made 0 (k.holding d m) ≡ making d
    makes_sampler none m h z = let zero : k.judge d ≡ 0 = sym e ∙ z in rw (h, zero)

    pub makes_none : (n ≡ 0 → ⊥) → k.made n k.empty ≡ making d
    makes_none z = rw e (let some : eqb (k.judge d) 0 ≡ false = ne_eqb _ _ (rw e at z) in rw some)

  module _ (d : D) where
    module _ (m : R) (h : m ≡ making d) where
      number-made : k.number m ≡ k.judge d
      number-made = go (eqb (k.judge d) 0) refl
        where
          go : (b : Bool) → eqb (k.judge d) 0 ≡ b → k.number m ≡ k.judge d
          go true e = ap k.number (rw e at h) ∙ k.number_of 0 (prepared_sampler d) ∙ sym (eqb-true (k.judge d) 0 e)
          go false e = ap k.number (rw e at h) ∙ k.number_of (k.judge d) k.empty

      sampler_made : k.number m ≡ 0 → k.sampler m ≡ prepared_sampler d
      sampler_made z = ap k.sampler (rw (eq-eqb (k.judge d) 0 (sym number-made ∙ z)) at h) ∙ k.sampler_of_lem 0 (prepared_sampler d)

      good-made : k.number m ≡ 0 → T (good (k.sampler m))
      good-made z = rw (sampler_made z) (prepared-good d (sym number-made ∙ z))

      pub call_number : k.number m ≡ making_number (k.kind d)
      call_number = number-made ∙ sym (k.judges d)

      -- what the sampler that is made draws by: its method passes, and is the one prepared
      pub call_made : k.number m ≡ 0 → (good (k.sampler m) ≡ true) × (k.method_of (k.sampler m) ≡ k.prepared d)
      call_made z = (T_true (good (k.sampler m)) (good-made z), ap k.method_of (sampler_made z) ∙ k.method_of_lem d (k.prepared d))

      -- so what its test prepares is what making comes to: the number of making, or the method prepared for the distribution
      pub call_prepares : k.number m ≡ 0 → (r : Result M Refusal) → Prepares (refuse (not (good (k.sampler m))) never_made) (k.method_of (k.sampler m)) r
          → Prepares (making_number (k.kind d)) (k.prepared d) r
      call_prepares z r p = let made = call_made z in rw (← call_number, z) (rw (made.0, made.1) at p)

    pub given-good : (s : S) → making d ≡ k.made 0 s → T (good s)
    given-good s h = subst (λ (t : S). T (good t)) (k.sampler_of_lem 0 s) (good-made (k.made 0 s) (sym h) (k.number_of 0 s))

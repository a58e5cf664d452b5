-- Demand 3 for a request, from the count of its draw lists and the predicate that the contracts of the signed draws cite.
use mathlib.Core.Path.{◌≡◌, refl, sym, ap, subst, ◌∙◌}
use mathlib.Core.Logic.{◌⊎◌, inl, inr, ⊎_elim}
use mathlib.Core.Bool.{Bool, true, false, not, cond}
use mathlib.Core.List.{List, [], ◌∷◌, ◌++◌}
use Prim.Native.Nat.{ℕ, zero, suc, ◌-◌, ◌≤◌, ◌<◌}
use native.Mathlib.Omega.{arith}
use borrow.Author.Tests.{le-ltb}
use lib.Dec.{T, leb, ltb, eqb-suc-zero}
use lib.ListN.{length, drop, replicate, length-replicate}
use lib.IntN.{ℤ, pos}
use lib.Ieee.{Float}
use Rattle.distr.specs.declared.secret_key_distr.SecretKeyDistr.TheVariants.{UniformBinary, Binary, SparseTernary, UniformTernary, Ternary, FixedHammingWeightBinary, BlockBinary, FixedHammingWeightTernary, FixedCompositionTernary, Gaussian}
use Rattle.distr.specs.declared.error_distribution.ErrorDistribution.TheVariants.{CenteredBinomial, Gaussian as ErrorGaussian}
use Rattle.distr.specs.Words.{Read, got, short, map_read}
use Rattle.distr.specs.Rule.{Rule, read_by}
use Rattle.distr.specs.Constants.{cumulative_limit}
use Rattle.distr.specs.Gaussian.{support, cumulative_table, cumulative}
use Rattle.distr.specs.Distribution.{Distr, secret, error, Tables, on_deviation, is_layered, gaussian_read, coefficients, rule, secret_rule, error_rule}
use Rattle.distr.specs.Making.{refuse, making_number}
use Rattle.distr.specs.Numbers.{first_of, too_long, length_number, layer_index, gaussian_table, table_number, table_index, state_numbers, signed_numbers}
use Rattle.distr.specs.Draw.{Outcome, settled, judged, naming, signed_draw, no_tables}
use Rattle.draw_laws.proofs.Small.{Apart, below_apart, signed_apart}
use Rattle.counts.specs.DrawLists.{Carries}
use Rattle.counts.specs.Inside.{inside}
use Rattle.counts.specs.Formula.{formula}
use Rattle.counts.proofs.Exact.{Counted, exactly_as}
use Rattle.counts.proofs.Requests.{what_passed, requests_counted}
use Rattle.certificate.specs.Certificate.{CallFor, Accepted, DrawList, Reaches, Demand3}
use Rattle.certificate.proofs.Tails.{stops}

-- ---- a call for the request lends the request's table: no other table enters the draw

-- the request's own table, and no layers
abbrev lending : List ℕ → Tables
lending bounds = record { bounds = bounds; layers = no_tables.layers }

-- what both parts of a choice by distribution give
either : {A : Type 0} (d : Distr) (a : A) → on_deviation d (λ deviation. a) a ≡ a
unfolding on_deviation
either (secret UniformBinary) a = refl
either (secret (Binary p)) a = refl
either (secret SparseTernary) a = refl
either (secret UniformTernary) a = refl
either (secret (Ternary minus plus)) a = refl
either (secret (FixedHammingWeightBinary h)) a = refl
either (secret (BlockBinary size occupancy)) a = refl
either (secret (FixedHammingWeightTernary h)) a = refl
either (secret (FixedCompositionTernary minus ones)) a = refl
either (secret (Gaussian deviation)) a = refl
either (error (ErrorGaussian deviation)) a = refl
either (error (CenteredBinomial eta)) a = refl

-- the number of the tables, and the coefficients
record Alike (d : Distr) (bounds : List ℕ) (tables : Tables) : Type 0 where
  number : table_number d tables ≡ table_number d (lending bounds)
  reading : (n : ℕ) (ws : List ℕ) → coefficients d n tables ws ≡ read_by (rule d n bounds) ws

by-table : {A : Type 0} (b : Bool) (x y : A) → T (not (not b)) → cond b x y ≡ x
by-table true x y t = refl
by-table false x y t = absurd t

gaussian_number_lem : (M : ℕ) (bounds : List ℕ) (tables : Tables) → T (not (not (leb M cumulative_limit))) → tables.bounds ≡ bounds
    → gaussian_table M tables ≡ gaussian_table M (lending bounds)
gaussian_number_lem M bounds tables t e =
    by-table (leb M cumulative_limit) _ _ t ∙ ap (λ (b : List ℕ). refuse (not (cumulative_table M b)) 12) e
    ∙ sym (by-table (leb M cumulative_limit) (refuse (not (cumulative_table M bounds)) 12) _ t)

gaussian_reading : (deviation : Float) (bounds : List ℕ) (tables : Tables) → T (not (not (leb (support deviation) cumulative_limit)))
    → tables.bounds ≡ bounds → (n : ℕ) (ws : List ℕ)
    → gaussian_read deviation (support deviation) tables n ws ≡ read_by (cumulative (support deviation) bounds n) ws
gaussian_reading deviation bounds tables t e n ws =
    by-table (leb (support deviation) cumulative_limit) _ _ t ∙ ap (λ (b : List ℕ). read_by (cumulative (support deviation) b n) ws) e

alike : (d : Distr) (bounds : List ℕ) (tables : Tables) → T (not (is_layered d)) → CallFor d bounds tables → Alike d bounds tables
unfolding coefficients table_number on_deviation rule secret_rule error_rule
alike (secret UniformBinary) bounds tables t e = record { number = refl; reading = λ n ws. refl }
alike (secret (Binary p)) bounds tables t e = record { number = refl; reading = λ n ws. refl }
alike (secret SparseTernary) bounds tables t e = record { number = refl; reading = λ n ws. refl }
alike (secret UniformTernary) bounds tables t e = record { number = refl; reading = λ n ws. refl }
alike (secret (Ternary minus plus)) bounds tables t e = record { number = refl; reading = λ n ws. refl }
alike (secret (FixedHammingWeightBinary h)) bounds tables t e = record { number = refl; reading = λ n ws. refl }
alike (secret (BlockBinary size occupancy)) bounds tables t e = record { number = refl; reading = λ n ws. refl }
alike (secret (FixedHammingWeightTernary h)) bounds tables t e = record { number = refl; reading = λ n ws. refl }
alike (secret (FixedCompositionTernary minus ones)) bounds tables t e = record { number = refl; reading = λ n ws. refl }
alike (secret (Gaussian deviation)) bounds tables t e =
    record { number = gaussian_number_lem (support deviation) bounds tables t e; reading = gaussian_reading deviation bounds tables t e }
alike (error (ErrorGaussian deviation)) bounds tables t e =
    record { number = gaussian_number_lem (support deviation) bounds tables t e; reading = gaussian_reading deviation bounds tables t e }
alike (error (CenteredBinomial eta)) bounds tables t e = record { number = refl; reading = λ n ws. refl }

-- so no number but 21 and 22 tells two calls for a request apart
same_numbers : (d : Distr) (bounds : List ℕ) (tables : Tables) (n : ℕ) → T (not (is_layered d)) → CallFor d bounds tables
    → first_of (signed_numbers d tables n) ≡ first_of (signed_numbers d (lending bounds) n)
same_numbers d bounds tables n t e =
    ap (λ (k : ℕ). first_of (too_long n ∷ length_number d n ∷ k ∷ [])) (alike d bounds tables t e).number

-- ---- accepted by every call that meets the contract: neither its length nor its table is refused

-- the answer of a call on no words at all, whatever else refuses it
refused : (k : ℕ) (place : ℕ) (out : List ℤ) (given : Outcome ℤ) → 0 < k → (judged k place out given).number ≡ k
unfolding judged
refused zero place out given h = omega arith
refused (suc k) place out given h = rw (eqb-suc-zero k)

no_refusal : (k : ℕ) (place : ℕ) (out : List ℤ) (given : Outcome ℤ) → Apart k
    → (((judged k place out given).number ≡ 0) ⊎ ((judged k place out given).number ≡ 22) ⊎ ((judged k place out given).number ≡ 23)) → k ≡ 0
no_refusal zero place out given h a = refl
no_refusal (suc k) place out given h a =
    let e : (judged (suc k) place out given).number ≡ suc k = refused (suc k) place out given (omega arith) in
    ⊎_elim (λ z. omega arith) (λ b. ⊎_elim (λ z. absurd (h.0 (sym e ∙ z))) (λ z. absurd (h.1 (sym e ∙ z))) b) a

-- the numbers of a call on no words: 21 for a sampler that is not made, else those of the request
numbers_of : Bool → Distr → Tables → ℕ → ℕ
numbers_of made d tables n = first_of (state_numbers made 0 0 ++ signed_numbers d tables n)

numbers_apart : (made : Bool) (d : Distr) (tables : Tables) (n : ℕ) → Apart (numbers_of made d tables n)
unfolding numbers_of first_of
numbers_apart true d tables n = signed_apart d tables n
numbers_apart false d tables n = below_apart (omega arith)

numbers-zero : (made : Bool) (d : Distr) (tables : Tables) (n : ℕ) → numbers_of made d tables n ≡ 0 → T made × (first_of (signed_numbers d tables n) ≡ 0)
unfolding numbers_of first_of
numbers-zero true d tables n e = (tt, e)
numbers-zero false d tables n e = omega arith

-- a sampler that is made and a good place pass 21 and 22
state_zero : (made : Bool) (word_count place : ℕ) (ns : List ℕ) → T made → place ≤ word_count → first_of (state_numbers made word_count place ++ ns) ≡ first_of ns
unfolding first_of
state_zero true word_count place ns t h = rw (le-ltb word_count place h)
state_zero false word_count place ns t h = absurd t

judged-settled : (k place word_count n : ℕ) (out : List ℤ) (given : Read (List ℤ)) (cs : List ℤ) (rest : List ℕ) → k ≡ 0 → given ≡ got cs rest
    → judged k place out (settled (λ x. x) word_count place n given) ≡ record { number = 0; place = word_count - length rest; index = 0; output = cs }
unfolding judged settled
judged-settled k place word_count n out given cs rest e f = rw (e, f)

module _ (made : Bool) (d : Distr) (n : ℕ) (bounds : List ℕ) (is_made : T made → making_number d ≡ 0) (ok : Accepted made d n bounds) where
  ρ : Rule
  ρ = rule d n bounds

  -- the request passes 21, 6, 7 or 8, and 12
  passes : T made × (first_of (signed_numbers d (lending bounds) n) ≡ 0)
  unfolding numbers_of signed_draw
  passes =
      let out = replicate n (pos 0) in
      let same_length : length out ≡ n = length-replicate n (pos 0) in
      let answer = ok.every_call (lending bounds) [] 0 out (signed_draw made d (lending bounds) [] 0 out) (either d bounds) same_length refl in
      numbers-zero made d (lending bounds) n
      (subst (λ (m : ℕ). numbers_of made d (lending bounds) m ≡ 0) same_length
      (no_refusal (numbers_of made d (lending bounds) (length out)) 0 out _ (numbers_apart made d (lending bounds) (length out)) answer))

  all-counted : Counted ρ (inside d n) (formula d n bounds)
  unfolding ρ
  all-counted = requests_counted d n (lending bounds) (what_passed d n (lending bounds) (is_made passes.0) ok.not_layered passes.1)

  -- a call on words that carry a draw list answers 0, the place where the rules stop, and what the draw list decodes to
  answered : (tables : Tables) (words : List ℕ) (place : ℕ) (ds rest : List ℕ) (out : List ℤ)
      → CallFor d bounds tables → Carries ρ words place ds rest → length out ≡ n
      → signed_draw made d tables words place out ≡ record { number = 0; place = length words - length rest; index = 0; output = ρ.decode ds }
  unfolding signed_draw layer_index ρ map_read
  answered tables words place ds rest out f c e =
      ap (naming (table_index d tables))
      (judged-settled (first_of (state_numbers made (length words) place ++ signed_numbers d tables (length out))) place (length words) (length out) out
      (coefficients d (length out) tables (drop place words)) (ρ.decode ds) rest
      (state_zero made (length words) place (signed_numbers d tables (length out)) passes.0 c.good_place
      ∙ ap (λ (m : ℕ). first_of (signed_numbers d tables m)) e ∙ same_numbers d bounds tables n ok.not_layered f ∙ passes.1)
      (ap (λ (m : ℕ). coefficients d m tables (drop place words)) e
      ∙ (alike d bounds tables ok.not_layered f).reading n (drop place words) ∙ ap (map_read ρ.decode) c.reads))

  -- a draw list reaches what it decodes to
  reaches : (ds : List ℕ) → DrawList d n bounds ds → Reaches made d n bounds ds (ρ.decode ds)
  unfolding ρ
  reaches ds b =
      let w = all-counted.carried ds b in
      record {
        some_words = (w.0, 0, w.1, w.2);
        every_call = λ tables words place rest out o f c e m.
            let done = m ∙ answered tables words place ds rest out f c e in
            let stop = stops d n bounds words place ds rest c.reads in
            let at = sym (ap (λ (x : Outcome ℤ). x.place) done) in (
              ap (λ (x : Outcome ℤ). x.number) done,
              subst (λ (p : ℕ). p ≤ length words) at stop.0,
              subst (λ (p : ℕ). drop p words ≡ rest) at stop.1,
              ap (λ (x : Outcome ℤ). x.output) done,
            );
        rules_give = refl;
      }

  -- demand 3 for the request
  pub demand_3 : Demand3 made d n bounds
  unfolding ρ
  demand_3 = record {
    exactly = λ cs.
        exactly_as (all-counted.exactly cs)
        (λ ds p. (p.0, subst (λ (x : List ℤ). Reaches made d n bounds ds x) p.1 (reaches ds p.0)))
        (λ ds p. (p.0, p.1.rules_give));
    carried = λ ds b. let w = all-counted.carried ds b in (w.0, 0, w.1, w.2);
    nothing_else = all-counted.boxed;
  }

-- ---- a request that neither making nor its length nor its table refuses is accepted

settled-number : (word_count place n : ℕ) (given : Read (List ℤ))
    → ((settled (λ x. x) word_count place n given).number ≡ 0) ⊎ ((settled (λ x. x) word_count place n given).number ≡ 22) ⊎ ((settled (λ x. x) word_count place n given).number ≡ 23)
unfolding settled
settled-number word_count place n (got cs rest) = inl refl
settled-number word_count place n short = inr (inr refl)

answer-number : (past : Bool) (ns : List ℕ) (place word_count n : ℕ) (out : List ℤ) (given : Read (List ℤ)) → first_of ns ≡ 0
    → let o = judged (first_of (refuse past 22 ∷ ns)) place out (settled (λ x. x) word_count place n given) in
    (o.number ≡ 0) ⊎ (o.number ≡ 22) ⊎ (o.number ≡ 23)
unfolding judged first_of
answer-number true ns place word_count n out given e = inr (inl refl)
answer-number false ns place word_count n out given e = rw e (settled-number word_count place n given)

pub accepted : (d : Distr) (n : ℕ) (tables : Tables) → first_of (signed_numbers d tables n) ≡ 0 → T (not (is_layered d)) → Accepted true d n tables.bounds
unfolding signed_draw first_of
accepted d n tables z no_layers = record {
  not_layered = no_layers;
  every_call = λ lent words place out o f e m.
      subst (λ (x : Outcome ℤ). (x.number ≡ 0) ⊎ (x.number ≡ 22) ⊎ (x.number ≡ 23)) (sym m)
      (answer-number (ltb (length words) place) (signed_numbers d lent (length out)) place (length words) (length out) out
      (coefficients d (length out) lent (drop place words))
      (ap (λ (k : ℕ). first_of (signed_numbers d lent k)) e ∙ same_numbers d tables.bounds lent n no_layers f
      ∙ sym (same_numbers d tables.bounds tables n no_layers (either d tables.bounds)) ∙ z));
}

-- A plan as a rule: the plan of a composition is 01's composition, and the plan of a binary weight is 01's binary weight. What a plan's insertions read
-- is what its rule reads.
use mathlib.Core.Path.{◌≡◌, refl, sym, ap, ap₂, ◌∙◌}
use mathlib.Core.Bool.{Bool, true, false, cond, ◌&&◌}
use mathlib.Core.List.{List, ◌++◌, append-nil, map}
use Prim.Native.Nat.{ℕ, suc, ◌+◌, ◌-◌, ◌≤◌}
use native.Mathlib.Omega.{arith}
use lib.Dec.{leb}
use lib.ListN.{length, replicate, take, drop, length-append, length-replicate}
use lib.Seq.{take_all}
use lib.IntN.{ℤ, pos}
use Rattle.std.specs.Prelude.{Option, Some, None}
use Rattle.distr.specs.Words.{Read, map_read, bind_read, choose_each}
use Rattle.distr.specs.Rule.{Rule, read_by}
use Rattle.distr.specs.Insertion.{count_up, insert_each, insertion, fixed_composition, fixed_binary_weight}
use Rattle.distr.proofs.Reading.{map_read_same}
use Rattle.distr.proofs.Writing.{map_append, map-replicate, take-replicate}
use Rattle.ternary.specs.Sampler.{value_of}
use Rattle.fixed_weights.specs.declared.plans.Plan.{Plan}
use Rattle.fixed_weights.specs.Plans.{composition_plan, binary_plan, planned, plan_rule}
use Rattle.fixed_weights.specs.Inserting.{insert_all, stopped}
use Rattle.fixed_weights.proofs.Inserting.{rule_inserts, map_insert, insert_append}
use Rattle.fixed_weights.proofs.Turns.{all_copies}

-- a plan that has room among n values and is the plan of a rule
pub record Planned (rule : Rule) (n : ℕ) (p : Plan) : Type 0 where
  pub room : planned p ≤ n
  pub same : plan_rule p n ≡ rule

-- of the plan and of the rule that a test picks
by_test : (b : Bool) {n : ℕ} {p q : Plan} {r s : Rule} → Planned r n p → Planned s n q → Planned (cond b r s) n (cond b p q)
by_test true h l = h
by_test false h l = l

pub composition_planned : (minus ones n : ℕ) → minus + ones ≤ n → Planned (fixed_composition minus ones n) n (composition_plan minus ones n)
composition_planned minus ones n h =
    let zeros : ℕ = n - (minus + ones) in
    by_test (leb minus zeros && leb ones zeros) (record { room = omega arith; same = refl })
    (by_test (leb ones minus) (record { room = omega arith; same = refl }) (record { room = omega arith; same = refl }))

pub binary_planned : (h n : ℕ) → h ≤ n → Planned (fixed_binary_weight h n) n (binary_plan h n)
binary_planned h n l =
    by_test (leb h (n - h))
    (record { room = omega arith; same = ap (λ (vs : List ℤ). insertion (pos 0) vs n) (append-nil (replicate h (pos 1))) })
    (record { room = omega arith; same = ap (λ (vs : List ℤ). insertion (pos 1) vs n) (append-nil (replicate (n - h) (pos 0))) })

-- the coefficients that a plan inserts
abbrev pub plan_values : Plan → List ℤ
plan_values p = replicate p.firsts (value_of p.first) ++ replicate p.seconds (value_of p.second)

pub length-plan_values : (p : Plan) → length (plan_values p) ≡ planned p
length-plan_values p = simp (length-append, length-replicate)

-- what is inserted by a plan into an output that holds each coefficient by `val`
module _ {A : Type 0} {hold : List ℤ → List A} {val : ℤ → A} (each : (cs : List ℤ) → hold cs ≡ map val cs) (p : Plan) (words : List ℕ) where
  plan_inserts : (n : ℕ)
      → insert_all (replicate p.firsts (val (value_of p.first)) ++ replicate p.seconds (val (value_of p.second))) (replicate (n - planned p) (val (value_of p.fill))) words
      ≡ map_read hold (read_by (plan_rule p n) words)
  plan_inserts n =
      let values : List ℤ = plan_values p in
      let left : ℕ = n - length values in
      let xs : List ℤ = replicate left (value_of p.fill) in
      let held : map val values ≡ replicate p.firsts (val (value_of p.first)) ++ replicate p.seconds (val (value_of p.second)) =
      map_append val (replicate p.firsts (value_of p.first)) (replicate p.seconds (value_of p.second))
      ∙ ap₂ (λ (a b : List A). a ++ b) (map-replicate val p.firsts (value_of p.first)) (map-replicate val p.seconds (value_of p.second)) in
      let filled : map val xs ≡ replicate (n - planned p) (val (value_of p.fill)) =
      map-replicate val left (value_of p.fill) ∙ ap (λ (k : ℕ). replicate (n - k) (val (value_of p.fill))) (length-plan_values p) in
      sym
      (map_read_same hold (map val) each _
      ∙ ap (λ (k : ℕ). map_read (map val) (map_read (λ ss. insert_each values ss xs) (choose_each (count_up (suc k) (length values)) words)))
      (sym (length-replicate left (value_of p.fill)))
      ∙ ap (map_read (map val)) (rule_inserts values xs words)
      ∙ map_insert val values xs words
      ∙ ap₂ (λ (vs ys : List A). insert_all vs ys words) held filled)

  -- copies of the first value were inserted, and copies of the second follow where no word was missing
  module _ {first fill : A} {filled : List A} {n : ℕ} (e : first ≡ val (value_of p.first)) (g : fill ≡ val (value_of p.fill))
      (all : filled ≡ replicate n fill) (room : planned p ≤ n) where
    abbrev split : ℕ
    split = n - p.seconds

    abbrev firsts : Read (List A)
    firsts = all_copies words (split - p.firsts) split first 0 filled

    two_runs : bind_read firsts (λ ys rest. insert_all (replicate p.seconds (val (value_of p.second))) ys rest) ≡ map_read hold (read_by (plan_rule p n) words)
    two_runs =
        let some : split - (split - p.firsts) ≡ p.firsts = omega arith in
        let begun : split - p.firsts ≡ n - planned p = omega arith in
        let start : take (split - p.firsts) filled ≡ replicate (n - planned p) (val (value_of p.fill)) =
        ap (take (split - p.firsts)) all ∙ take-replicate (split - p.firsts) n fill (omega arith) ∙ ap₂ (λ (k : ℕ) (v : A). replicate k v) begun g in
        sym (insert_append (replicate (split - (split - p.firsts)) first) (replicate p.seconds (val (value_of p.second))) (take (split - p.firsts) filled) words)
        ∙ rw (some, start, e) (plan_inserts n)

    pub plan_short : (xs ys : List A) → stopped None xs words ≡ firsts → stopped None ys words ≡ map_read hold (read_by (plan_rule p n) words)
    unfolding stopped bind_read
    plan_short xs ys r = rw (← r) at two_runs

    pub plan_done : (next : ℕ) (r : Option ℕ) (xs last : List A) {second : A} → second ≡ val (value_of p.second) → stopped (Some next) xs words ≡ firsts
        → length last ≡ n → stopped r (take n last) words ≡ insert_all (replicate (n - split) second) xs (drop next words)
        → stopped r last words ≡ map_read hold (read_by (plan_rule p n) words)
    unfolding stopped bind_read
    plan_done next r xs last f d size l =
        let some : n - split ≡ p.seconds = omega arith in
        ap (λ (t : List A). stopped r t words) (sym (take_all n last (omega arith))) ∙ rw (some, f) at l ∙ rw (← d) at two_runs

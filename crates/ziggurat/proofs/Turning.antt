-- A filling loop, turn by turn: what a try makes of the output and of the words left, over any element type.
use mathlib.Core.Path.{◌≡◌, refl, sym, ap, ◌∙◌}
use mathlib.Core.Bool.{Bool, true, false, cond}
use mathlib.Core.List.{List, map}
use mathlib.Core.Logic.{◌⊎◌, inl, inr}
use Prim.Native.Nat.{ℕ, ◌+◌, ◌-◌, ◌*◌, ◌^◌, ◌<◌, ◌≤◌}
use native.Mathlib.Nat.{add-zero}
use native.Mathlib.Omega.{arith}
use mir.Syntax.{w64}
use mir.Val.{Fits, bool_byte}
use lib.Dec.{T, eqb}
use lib.ListN.{length, get_or, drop, set, replicate}
use lib.IntN.{ℤ, pos}
use lib.Ieee.{Float, nan}
use Rattle.distr.specs.Words.{Read, got, short}
use Rattle.distr.specs.Constants.{output_limit, out_of_words}
use Rattle.distr.specs.Gaussian.{with_sign}
use Rattle.distr.specs.Skipped.{skipped_words}
use Rattle.distr.specs.Layered.{Layers, layer_tables, zero_threshold, judge, layered_one, layered, passed_try, passed_one, passed_layered}
use Rattle.distr.specs.declared.answer.Answer.{Answer}
use Rattle.distr.specs.Answers.{refusal, refusal_at, success_after, sums, reported}
use Rattle.distr.specs.Numbers.{layer_number, layer_index}
use Rattle.distr.specs.Draw.{Outcome, outcome, naming, settled}
use Rattle.distr.specs.declared.gaussian_parameters.GaussianParameters.{GaussianParameters}
use Rattle.distr.specs.declared.threshold.Threshold.{Threshold}
use Rattle.distr.proofs.Reading.{map_read_same}
use Rattle.distr.proofs.Writing.{map-replicate}
use Rattle.distr.proofs.FirstWrong.{layer-good, layer_unnamed}
use Rattle.distr.proofs.Drawing.{settled-got, settled-short}
use Rattle.distr.proofs.Skipping.{reports_words}
use Rattle.draw_laws.proofs.Naming.{settled-named, draw-index}
use Rattle.layer_tables.specs.Fault.{Fault, layer_fault}
use Rattle.numbers.proofs.Refusing.{draw_number, number_by, number_passed, read_refused, read_passed}
use Rattle.words.specs.Reading.{threshold_value}
use Rattle.words.proofs.Places.{lent_from, lent-all, lent-place}
use Rattle.ziggurat.specs.declared.sampling.Trial.{Trial}
use Rattle.std.proofs.Common.{Option, Some, None}
use Rattle.ziggurat.specs.declared.sampling.Attempt.{Attempt}
use Rattle.ziggurat.specs.Tables.{tables, layer_sizes, layered_draw}
use Rattle.ziggurat.specs.Sampling.{OnTables, zero_over, judge_edge, edge_words, Ready, Lacks, unproposed, unjudged, Attempts}
use Rattle.ziggurat.proofs.LayerTables.{sizes}
use Rattle.ziggurat.proofs.ZeroThreshold.{first-there, zero-made}
use Rattle.ziggurat.proofs.Filling.{Filled, filled_none, filled_turn, filled_short, filled_all, Counted, counted_none, counted-turn, counted-all}
use Rattle.ziggurat.proofs.Passing.{on-tables, judge_sides, edge_lacks}
use Rattle.ziggurat.proofs.Trying.{none_proposed, none_judged, one-judged, passed-judged}

module _ {A : Type 0} (write : List ℤ → List A) (parameters : GaussianParameters) (endpoints : List ℕ) (heights curve : List Float)
    (words : List ℕ) (place : ℕ) (out₀ : List A) where
  abbrev t : Layers
  t = tables endpoints heights curve

  abbrev one : List ℕ → Read ℤ
  one = layered_one parameters.standard_deviation t

  abbrev draw : Outcome A
  draw = layered_draw write parameters t words place out₀

  -- the tables are good, the threshold is that of zero, the output is not too long, what is settled is the draw, so much of the output is
  -- filled, each element by `put`, and so many words were used
  pub record Turning (put : ℤ → A) (zero : Threshold) (from : List ℕ) (i at used : ℕ) (out : List A) : Type 0 where
    pub each : (cs : List ℤ) → write cs ≡ map put cs
    pub good : T (layer_tables parameters.maximum_magnitude t)
    pub threshold : threshold_value zero ≡ zero_threshold t
    pub limited : length out₀ ≤ output_limit
    pub begins : place ≤ length words
    pub part : from ≡ lent_from words place
    pub draws : settled write (length words) place (length out₀) (layered parameters.standard_deviation t (length out₀) from) ≡ draw
    pub filled : Filled put one from 0 out₀ i at out
    pub counted : Counted one (passed_one parameters.standard_deviation t) from (length out₀) i at used

  -- The tables' number, the index that goes with a number, and the draw without the index.
  abbrev own : ℕ
  own = layer_number parameters.maximum_magnitude t

  abbrev index : ℕ → ℕ
  index = layer_index parameters.maximum_magnitude t

  none_named : (k : ℕ) → k < 30 → index k ≡ 0
  none_named = layer_unnamed parameters.maximum_magnitude t

  -- before the loop: the number is the first that refuses, 13 or 30 to 32 by the tables
  module _ {fault : Fault} {number : ℕ} (judged : fault ≡ layer_fault parameters.maximum_magnitude t)
      (numbered : number ≡ draw_number (length words) place (length out₀) fault.number) where
    by-tables : number ≡ draw_number (length words) place (length out₀) own
    by-tables = number_by (length words) place (length out₀) fault.number own (ap (λ (f : Fault). f.number) judged) numbered

    pub draw_refused : {answer : Answer} {at : ℕ} → (number ≡ 0 → ⊥) → at ≡ cond (eqb number fault.number) fault.index 0
        → answer ≡ refusal_at number place at → outcome answer out₀ ≡ draw
    draw_refused some f e =
        let named : cond (eqb number fault.number) fault.index 0 ≡ index number =
        ap (λ (x : Fault). cond (eqb number x.number) x.index 0) judged
        ∙ draw-index index none_named (length words) place (length out₀) own by-tables in
        rw e
        (ap (λ (i : ℕ). record { number = number; place = place; index = i; output = out₀ }) (f ∙ named)
        ∙ ap (naming index) (read_refused write own words place out₀ by-tables (layered parameters.standard_deviation t (length out₀)) some))

    module _ (none : number ≡ 0) where
      passed : (place ≤ length words) × (length out₀ ≤ output_limit) × T (layer_tables parameters.maximum_magnitude t)
      passed =
          let all = number_passed (length words) place (length out₀) own by-tables none in
          (all.0, all.1, layer-good parameters.maximum_magnitude t all.2)

      -- the place is one of the words', also in bytes
      pub place_within : place ≤ length words
      place_within = passed.0

      pub place_bytes : length words * 4 < 2 ^ 63 → Fits w64 (place * 4)
      place_bytes room = record { fits = omega (arith, place_within) }

      pub heights_there : 0 < length heights
      heights_there = first-there parameters.maximum_magnitude t passed.2

      pub turning_none : {put : ℤ → A} {zero : Threshold} → ((cs : List ℤ) → write cs ≡ map put cs) → zero ≡ zero_over (get_or heights 0 nan)
          → Turning put zero (lent_from words place) 0 0 0 out₀
      turning_none {put} {zero} each e = record {
        each = each;
        good = passed.2;
        threshold = zero-made parameters.maximum_magnitude t passed.2 e;
        limited = passed.1;
        begins = passed.0;
        part = refl;
        draws = rw (lent-all words place)
            (settled-named index none_named write (length words) place (length out₀) (layered parameters.standard_deviation t (length out₀) (drop place words))
            ∙ ap (naming index) (read_passed write own words place out₀ by-tables (layered parameters.standard_deviation t (length out₀)) none));
        filled = filled_none put one (lent_from words place) 0 out₀ (omega arith);
        counted = counted_none one (passed_one parameters.standard_deviation t) (lent_from words place) (length out₀);
      }

  module _ {put : ℤ → A} {zero : Threshold} {from : List ℕ} {i at used : ℕ} {out : List A}
      (l : Turning put zero from i at used out) where
    abbrev deviation : Float
    deviation = parameters.standard_deviation

    abbrev most : ℕ
    most = parameters.maximum_magnitude

    -- what an attempt asks for
    pub turn_sizes : T (layer_sizes endpoints)
    turn_sizes = sizes most t l.good

    pub turn-within : at ≤ length from
    turn-within = l.filled.within

    -- what is left of the part is what is left of the words
    ended : length words - length (drop at from) ≡ place + at
    ended = rw l.part (lent-place words place at l.begins (rw l.part at turn-within))

    -- the loop ends where the output is full, and reports what all its choices passed over
    module _ {answer : Answer} (full : length out₀ ≤ i) (e : answer ≡ success_after (place + at) (skipped_words (at - used))) where
      pub turn_full : outcome answer out ≡ draw
      turn_full =
          rw e
          (settled-got write (length words) place (length out₀) out _ (drop at from) ended
          (map_read_same write (map put) l.each _ ∙ filled_all put one from 0 out₀ i at out full l.filled))
          ∙ l.draws

      pub turn_reports : sums answer ≡ reported answer.number (skipped_words (passed_layered deviation t (length out₀) (drop place words)))
      turn_reports =
          reports_words e
          (counted-all one (passed_one deviation t) from (length out₀) i at used full l.counted
          ∙ ap (passed_layered deviation t (length out₀)) (l.part ∙ lent-all words place))

    -- a turn: an attempt at a place of the output that is not filled yet
    module _ (more : i < length out₀) where
      pub turn-index : i < length out
      turn-index = omega (arith, l.filled.sized)

      -- where it lies in bytes, and the count after it
      pub turn-bytes : Fits w64 (i * 8)
      turn-bytes = record { fits = omega (arith, l.limited) }

      pub turn_count : (passed : Bool) → Fits w64 (i + bool_byte passed)
      turn_count true = record { fits = omega (arith, l.limited) }
      turn_count false = record { fits = omega (arith, l.limited) }

      module _ (told : Option Attempt) (attempts : Attempts endpoints (threshold_value zero) from at told) where
        lacking : Lacks endpoints (threshold_value zero) from at → one (drop at from) ≡ short
        lacking (unproposed p) = none_proposed deviation t (drop at from) (sym p.reads)
        lacking (unjudged tried p e h) =
            none_judged deviation t (drop at from) _ _ (sym p.reads)
            (judge_sides deviation most t l.good tried.layer tried.magnitude p.sound.0 (drop tried.place from)
            ∙ rw e (edge_lacks deviation t tried.layer tried.magnitude (threshold_value zero) l.threshold from tried.place p.sound.2 h))

        -- one that lacks a word leaves the whole short
        pub turn_short : {answer : Answer} {cleared : List A} → told ≡ None → answer ≡ refusal out_of_words place
            → cleared ≡ replicate (length out) (put (pos 0)) → outcome answer cleared ≡ draw
        turn_short {answer} {cleared} e a c =
            rw a
            (settled-short write (length words) place (length out₀) cleared _
            (map_read_same write (map put) l.each _ ∙ filled_short put one from 0 out₀ i at out more l.filled (lacking (rw e at attempts)))
            (c ∙ ap (λ (n : ℕ). replicate n (put (pos 0))) l.filled.sized
            ∙ sym (l.each (replicate (length out₀) (pos 0)) ∙ map-replicate put (length out₀) (pos 0))))
            ∙ l.draws

        module _ {a : Attempt} (begun : told ≡ Some a) where
          abbrev tried : Trial
          tried = a.trial

          abbrev inside : Bool
          inside = a.inside

          abbrev after : ℕ
          after = a.after

          ready : Ready endpoints (threshold_value zero) from at a
          ready = rw begun at attempts

          -- what the judging at the edge asks for
          pub edge_on : OnTables t tried.layer tried.magnitude
          edge_on = on-tables deviation most t l.good tried.layer tried.magnitude ready.reads.sound.0

          pub edge_there : inside ≡ false → tried.place + edge_words (threshold_value zero) tried.magnitude ≤ length from
          edge_there e = omega (arith, ready.within, rw e at ready.next)

          -- a try takes three words and those that its choices pass over
          passes : tried.place ≡ at + 3 + passed_try t (drop at from)
          unfolding passed_try
          passes = ready.reads.sound.1

          -- each turn takes a word
          pub turn_less : length from - after < length from - at
          turn_less = omega (arith, passes, ready.next, ready.within)

          -- and uses three and those of its judging
          pub turn_uses : (used ≤ at) × (at + 3 ≤ tried.place) × (tried.place ≤ after)
          turn_uses = (l.counted.below, omega (arith, passes), omega (arith, ready.next))

          -- how its trial came to pass or not: inside the layer above it passes, at the edge it is judged
          abbrev EdgeJudges : Bool → Type 0
          EdgeJudges r =
              judge_edge deviation t tried.layer tried.magnitude (drop tried.place from)
              ≡ got r (drop (tried.place + edge_words (threshold_value zero) tried.magnitude) from)

          abbrev Came : Bool → Type 0
          Came passed = ((inside ≡ true) × (passed ≡ true)) ⊎ ((inside ≡ false) × (r : Bool) × EdgeJudges r × (passed ≡ r))

          judged_so : (passed : Bool) → Came passed
              → judge deviation t tried.layer tried.magnitude (drop tried.place from) ≡ got passed (drop after from)
          judged_so passed came =
              judge_sides deviation most t l.good tried.layer tried.magnitude ready.reads.sound.0 (drop tried.place from)
              ∙ rw (← ready.side, ready.next) (by_side came)
            where
              by_side : Came passed
                  → cond inside (got true (drop tried.place from)) (judge_edge deviation t tried.layer tried.magnitude (drop tried.place from))
                  ≡ got passed (drop (tried.place + cond inside 0 (edge_words (threshold_value zero) tried.magnitude)) from)
              by_side (inl (e, p)) = rw (e, p, add-zero tried.place)
              by_side (inr (e, r, j, p)) = rw (e, p, j)

          read : (passed : Bool) → Came passed
              → one (drop at from) ≡ cond passed (got (with_sign tried.positive tried.magnitude) (drop after from)) (one (drop after from))
          read passed came =
              one-judged deviation t (drop at from) _ _ (sym ready.reads.reads) passed (drop after from) (judged_so passed came)

          -- a magnitude has 32 bits, so that the element stored holds the trial's coefficient
          held_so : {sign : Bool → ℕ → A} → ((positive : Bool) (m : ℕ) → m < 2 ^ 63 → sign positive m ≡ put (with_sign positive m))
              → sign tried.positive tried.magnitude ≡ put (with_sign tried.positive tried.magnitude)
          held_so law =
              let on = ready.reads.sound.0 in
              law tried.positive tried.magnitude (omega (arith, on.below, on.small))

          -- the trial is stored, and counted where it passes
          pub turn_next : {sign : Bool → ℕ → A} → ((positive : Bool) (m : ℕ) → m < 2 ^ 63 → sign positive m ≡ put (with_sign positive m))
              → (passed : Bool) → Came passed → {e : A} → e ≡ sign tried.positive tried.magnitude
              → Turning put zero from (i + bool_byte passed) after (used + (after - tried.place + 3)) (set out i e)
          turn_next law passed came {e} s = record {
            each = l.each;
            good = l.good;
            threshold = l.threshold;
            limited = l.limited;
            begins = l.begins;
            part = l.part;
            draws = l.draws;
            filled = filled_turn put one from 0 out₀ i at after out e (with_sign tried.positive tried.magnitude) passed more l.filled
                (read passed came) ready.within (s ∙ held_so law);
            counted = counted-turn one (passed_one deviation t) from (length out₀) i at after used (passed_try t (drop at from)) (after - tried.place + 3)
                (with_sign tried.positive tried.magnitude) passed more l.counted (read passed came)
                (passed-judged deviation t (drop at from) _ _ (sym ready.reads.reads) passed (drop after from) (judged_so passed came))
                (omega (arith, passes, ready.next));
          }

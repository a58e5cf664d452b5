-- A draw by its answer, over any element type and any way of writing coefficients: cleared, refused, one value throughout, read.
use mathlib.Core.Path.{◌≡◌, refl, sym, ap, ap₂, ◌∙◌}
use mathlib.Core.Bool.{Bool, true, false, cond, ◌&&◌, true≢false}
use mathlib.Core.List.{List, ◌∷◌, map}
use Prim.Native.Nat.{ℕ, zero, suc, ◌+◌, ◌*◌, ◌-◌, ◌^◌, ◌<◌, ◌≤◌}
use native.Mathlib.Omega.{arith}
use borrow.Author.Tests.{ltb-true, ltb-false, le-leb, lt-leb, ne_eqb}
use lib.Dec.{ltb, eqb}
use lib.ListN.{length, get_or, drop, replicate, length-drop}
use lib.Seq.{get_or-drop}
use lib.IntN.{ℤ, pos}
use Rattle.distr.specs.declared.answer.Answer.{Answer}
use Rattle.distr.specs.declared.refusal.Refusal.{Refusal}
use Rattle.distr.specs.Words.{got, short, map_read}
use Rattle.distr.specs.Rule.{Rule, constant, wide_words}
use Rattle.distr.specs.Numbers.{first_of}
use Rattle.distr.specs.Skipped.{Skipped, nothing}
use Rattle.distr.specs.Answers.{success, refusal, sums, reported}
use Rattle.distr.specs.Refusals.{number}
use Rattle.distr.specs.Draw.{Outcome, outcome, rule_draw}
use Rattle.distr.proofs.Reading.{wides, many-wide}
use Rattle.distr.proofs.Writing.{map-map, map-replicate}
use Rattle.distr.proofs.Drawing.{rule-got, rule-short}
use Rattle.distr.proofs.Refusals.{refuses-eqb}
use Rattle.distr.proofs.Skipping.{reports_nothing}
use Rattle.numbers.proofs.Refusing.{draw_number, number_passed, rule-refused}
use Rattle.numbers.specs.Answering.{wide_read, wide_rule, number_of, answer_by, answer_of}
use Rattle.numbers.proofs.WideNumbers.{by, draw-low, number_by, answer-enough}

-- words below 2^32 make 64-bit words, on which two values may agree alone
map-wides : {A : Type 0} (f g : ℕ → A) → ((w : ℕ) → w < 2 ^ 64 → f w ≡ g w)
    → (n : ℕ) (ws : List ℕ) → ((i : ℕ) → get_or ws i 0 < 2 ^ 32) → map f (wides n ws) ≡ map g (wides n ws)
unfolding wides
map-wides f g h zero ws b = refl
map-wides f g h (suc n) ws b =
    ap₂ (λ a as'. a ∷ as') (h (get_or ws 0 0 + get_or ws 1 0 * 2 ^ 32) (omega (arith, b 0, b 1)))
    (map-wides f g h n (drop 2 ws) (λ i. rw (get_or-drop 2 ws i 0) (b (2 + i))))

-- what is read where the words are there
pub read_there : {A : Type 0} (value : ℕ → A) (n : ℕ) (ws : List ℕ) → 2 * n ≤ length ws → wide_read value n ws ≡ got (map value (wides n ws)) (drop (2 * n) ws)
unfolding map_read
read_there value n ws h = rw (many-wide n ws, le-leb (2 * n) (length ws) h)

read_lacking : {A : Type 0} (value : ℕ → A) (n : ℕ) (ws : List ℕ) → length ws < 2 * n → wide_read value n ws ≡ short
unfolding map_read
read_lacking value n ws h = rw (many-wide n ws, lt-leb (2 * n) (length ws) h)

-- coefficients are written one by one, by f: by a word each where the draw reads, else one value throughout; the draw's own number is
-- none that clears the output
module _ {A : Type 0} (write : List ℤ → List A) (f : ℤ → A) (each : (cs : List ℤ) → write cs ≡ map f cs) (own : ℕ) (low : own < 23)
    (words : List ℕ) (place : ℕ) (out : List A) (v : ℤ) (value : ℕ → ℤ) where
  abbrev n : ℕ
  n = length out

  abbrev ws : List ℕ
  ws = drop place words

  -- the draw whose number is k
  abbrev answered : Bool → ℕ → Outcome A
  answered reads k =
      outcome (answer_by reads place n k)
      (cond (eqb k 0) (cond reads (map (λ w. f (value w)) (wides n ws)) (replicate n (f v))) (cond (eqb k 23) (replicate n (f (pos 0))) out))

  throughout : (x : ℤ) → write (replicate n x) ≡ replicate n (f x)
  throughout x = each (replicate n x) ∙ map-replicate f n x

  draw-by : (reads : Bool) → rule_draw write own (wide_rule reads v value n) words place out ≡ answered reads (number_of own reads (length words) place n)
  unfolding first_of map_read
  draw-by reads =
      go reads (draw_number (length words) place n own) (reads && ltb (length words - place) (2 * n)) refl refl
      ∙ ap (answered reads) (number_by own reads (length words) place n _ _ refl refl)
    where
      go : (r : Bool) (k : ℕ) (lacking : Bool) → k ≡ draw_number (length words) place n own → (r && ltb (length words - place) (2 * n)) ≡ lacking
          → rule_draw write own (wide_rule r v value n) words place out ≡ answered r (by k lacking)
      go r (suc k) lacking e h =
          rw (
            ne_eqb (suc k) 0 (λ q. omega arith),
            ne_eqb (suc k) 23 (λ q. omega (arith, draw-low (length words) place n own low)),
          )
          (sym (rule-refused write own words place out e (wide_rule r v value n) (λ q. omega arith)))
      go false zero true e h = absurd (true≢false (sym h))
      go false zero false e h =
          let good = number_passed (length words) place n own e refl in
          let left : length words - length ws ≡ place = simp length-drop (omega (arith, good.0)) in
          rule-got write own (constant v n) words place out good.0 good.1 good.2 (replicate n v) ws refl ∙ rw (left, throughout v)
      go true zero true e h =
          let good = number_passed (length words) place n own e refl in
          let lacks : length words - place < 2 * n = ltb-true (length words - place) (2 * n) h in
          rule-short write own (wide_words n value) words place out good.0 good.1 good.2
          (read_lacking value n ws (simp length-drop lacks))
          ∙ rw (throughout (pos 0))
      go true zero false e h =
          let good = number_passed (length words) place n own e refl in
          let there : 2 * n ≤ length words - place = ltb-false (length words - place) (2 * n) h in
          let left : length words - length (drop (2 * n) ws) ≡ place + 2 * n = simp length-drop (omega (arith, good.0)) in
          rule-got write own (wide_words n value) words place out good.0 good.1 good.2 _ _ (read_there value n ws (simp length-drop there))
          ∙ rw (left, each (map value (wides n ws)), map-map f value (wides n ws))

  -- a rule of this kind, the answer a, and what the output holds then
  module _ (rule : Rule) (reads : Bool) (kind : rule ≡ wide_rule reads v value n) (a : Answer) (e : a ≡ answer_of own reads (length words) place n)
      (final : List A) where
    by_answer : final ≡ (answered reads a.number).output → outcome a final ≡ rule_draw write own rule words place out
    by_answer q = rw (kind, e, q, e) (sym (draw-by reads))

    pub draw_cleared : a.number ≡ 23 → final ≡ replicate n (f (pos 0)) → outcome a final ≡ rule_draw write own rule words place out
    draw_cleared z q = by_answer (rw z q)

    pub draw-refused : (a.number ≡ 23 → ⊥) → (a.number ≡ 0 → ⊥) → final ≡ out → outcome a final ≡ rule_draw write own rule words place out
    draw-refused y z q = by_answer (rw (ne_eqb a.number 0 z, ne_eqb a.number 23 y) q)

    pub draw-constant : a.number ≡ 0 → reads ≡ false → final ≡ replicate n (f v) → outcome a final ≡ rule_draw write own rule words place out
    draw-constant z r q = by_answer (rw (z, r) q)

    -- by a loop that picks f of the value by each word
    pub draw_read : a.number ≡ 0 → reads ≡ true → ((i : ℕ) → get_or words i 0 < 2 ^ 32)
        → (pick : ℕ → A) → ((w : ℕ) → w < 2 ^ 64 → pick w ≡ f (value w))
        → wide_read pick n ws ≡ got final (drop (place + 2 * n) words) → outcome a final ≡ rule_draw write own rule words place out
    draw_read z r bounded pick same p =
        let enough : place + 2 * n ≤ length words = answer-enough own (length words) place n (rw r at e) z in
        let there : got (map pick (wides n ws)) (drop (2 * n) ws) ≡ got final (drop (place + 2 * n) words) =
        sym (read_there pick n ws (simp length-drop (omega arith))) ∙ p in
        let all : final ≡ map pick (wides n ws) = cc in
        by_answer
        (rw (z, r) (all ∙ map-wides pick (λ w. f (value w)) same n ws (λ i. rw (get_or-drop place words i 0) (bounded (place + i)))))

-- The same by where such a draw ends, or by its refusal; z is the zero that is written where a word is missing.
module _ {A : Type 0} (write : List ℤ → List A) (f : ℤ → A) (each : (cs : List ℤ) → write cs ≡ map f cs) {z : A} (zero-held : f (pos 0) ≡ z)
    (own : ℕ) (low : own < 23) (words : List ℕ) (place : ℕ) (out : List A) (v : ℤ) (value : ℕ → ℤ) (rule : Rule) (reads : Bool)
    (kind : rule ≡ wide_rule reads v value (length out)) where
  pub refuses_draw : (why : Refusal) {final : List A} {a : Answer} → refusal (number why) place ≡ answer_of own reads (length words) place (length out)
      → a ≡ refusal (number why) place → final ≡ cond (eqb (number why) 23) (replicate (length out) z) out
      → outcome a final ≡ rule_draw write own rule words place out
  refuses_draw why {final} {a} e is written =
      by_answer write f each own low words place out v value rule reads kind a (is ∙ e) final
      (rw (is, refuses-eqb why, zero-held) written)

  pub ends-constant : {after : ℕ} {final : List A} {a : Answer} → success after ≡ answer_of own reads (length words) place (length out)
      → a ≡ success after → reads ≡ false → final ≡ replicate (length out) (f v) → outcome a final ≡ rule_draw write own rule words place out
  ends-constant {after} {final} {a} e is r written =
      draw-constant write f each own low words place out v value rule reads kind a (is ∙ e) final (rw is refl) r written

  pub ends_read : {after : ℕ} {final : List A} {a : Answer} → success after ≡ answer_of own reads (length words) place (length out)
      → a ≡ success after → reads ≡ true → ((i : ℕ) → get_or words i 0 < 2 ^ 32)
      → wide_read (λ w. f (value w)) (length out) (drop place words) ≡ got final (drop (place + 2 * length out) words)
      → outcome a final ≡ rule_draw write own rule words place out
  ends_read {after} {final} {a} e is r bounded p =
      draw_read write f each own low words place out v value rule reads kind a (is ∙ e) final (rw is refl) r bounded (λ w. f (value w)) (λ w h. refl) p

  -- where it reads, the words are there
  pub ends-enough : {after : ℕ} → success after ≡ answer_of own reads (length words) place (length out) → reads ≡ true → place + 2 * length out ≤ length words
  ends-enough {after} e r = answer-enough own (length words) place (length out) {a = success after} (rw r at e) refl

-- the answer of a draw that skips nothing says so, whatever its number
pub answer_reports : (own : ℕ) (reads : Bool) (count place n : ℕ) {s : Skipped} {a : Answer} → a ≡ answer_of own reads count place n → s ≡ nothing
    → sums a ≡ reported a.number s
answer_reports own reads count place n {s} {a} e none = rw none (reports_nothing a (rw e))

-- Laws of a draw's answer: refused by its first number, or settled by the rules.
use mathlib.Core.Path.{◌≡◌, refl, sym, ap, ◌∙◌}
use mathlib.Core.Bool.{Bool, true, false}
use mathlib.Core.List.{List, [], ◌∷◌, ◌++◌}
use Prim.Native.Nat.{ℕ, zero, suc, ◌-◌, ◌<◌, ◌≤◌}
use native.Mathlib.Nat.{not-suc-le-zero}
use native.Mathlib.Omega.{arith}
use borrow.Author.Tests.{le-ltb, ltb-false, ne_eqb}
use lib.Dec.{ltb}
use lib.ListN.{length, drop, replicate}
use lib.IntN.{ℤ, pos}
use Rattle.distr.specs.Words.{Read, got, short, map_read}
use Rattle.distr.specs.Rule.{Rule, read_by}
use Rattle.distr.specs.Making.{refuse}
use Rattle.distr.specs.Numbers.{first_of, bad_weight}
use Rattle.distr.proofs.Reading.{short-not-got, or_false}
use Rattle.distr.specs.Draw.{Outcome, settled, judged, read_draw, rule_draw}

-- the first number decides: 0 is passed over, another stands
pub first-zero : (k : ℕ) (ns : List ℕ) → k ≡ 0 → first_of (k ∷ ns) ≡ first_of ns
unfolding first_of
first-zero k ns e = rw e

pub first_some : (k : ℕ) (ns : List ℕ) → 0 < k → first_of (k ∷ ns) ≡ k
unfolding first_of
first_some zero ns h = absurd (not-suc-le-zero h)
first_some (suc k) ns h = refl

-- the first of a list and of what follows it
pub first-joined : (xs ys : List ℕ) → first_of (first_of xs ∷ ys) ≡ first_of (xs ++ ys)
unfolding first_of
first-joined [] ys = refl
first-joined (zero ∷ xs) ys = first-joined xs ys
first-joined (suc k ∷ xs) ys = refl

-- no number refuses: the first does not, and none after it
pub first-passed : (k : ℕ) (ns : List ℕ) → first_of (k ∷ ns) ≡ 0 → (k ≡ 0) × (first_of ns ≡ 0)
unfolding first_of
first-passed zero ns e = (refl, e)
first-passed (suc k) ns e = absurd (omega arith)

-- a test that did not refuse
pub not-refused : (b : Bool) (k : ℕ) → refuse b (suc k) ≡ 0 → b ≡ false
not-refused true k e = absurd (omega arith)
not-refused false k e = refl

-- a weight that is not refused fits
pub weight_fits : (weight n : ℕ) → bad_weight weight n ≡ 0 → weight ≤ n
weight_fits weight n e = ltb-false n weight (or_false (ltb n weight) _ (not-refused _ 6 e)).0

-- what is judged by 0 is drawn, and what another number judges is left as it was
judged-zero : {A : Type 0} (k place : ℕ) (out : List A) (given : Outcome A) → k ≡ 0 → judged k place out given ≡ given
unfolding judged
judged-zero k place out given e = rw e

judged-some : {A : Type 0} (k place : ℕ) (out : List A) (given : Outcome A) → 0 < k
    → judged k place out given ≡ record { number = k; place = place; index = 0; output = out }
unfolding judged
judged-some k place out given h = rw (ne_eqb k 0 (λ e. omega arith))

-- what a reading wrote is settled: drawn up to the place after it, or short of words
module _ {A : Type 0} (write : List ℤ → List A) (count place n : ℕ) (out : List A) where
  pub settled-got : (r : Read (List ℤ)) (rest : List ℕ) {at : ℕ} → count - length rest ≡ at → map_read write r ≡ got out rest
      → record { number = 0; place = at; index = 0; output = out } ≡ settled write count place n r
  unfolding settled map_read
  settled-got (got cs left) rest p e =
      let same : got (write cs) left ≡ got out rest = e in
      let outs : write cs ≡ out = cc in
      let rests : left ≡ rest = cc in
      rw (← p, ← outs, ← rests)
  settled-got short rest p e = absurd (short-not-got e)

  pub settled-short : (r : Read (List ℤ)) → map_read write r ≡ short → out ≡ write (replicate n (pos 0))
      → record { number = 23; place = place; index = 0; output = out } ≡ settled write count place n r
  unfolding settled map_read
  settled-short (got cs left) e z = absurd (short-not-got (sym e))
  settled-short short e z = rw z

module _ {A : Type 0} (write : List ℤ → List A) (number : ℕ) (rules : List ℕ → Read (List ℤ)) (words : List ℕ) (place : ℕ) (out : List A) where
  -- neither 22 nor 6: the draw's own number decides
  passed : place ≤ length words → length out ≤ 65536
      → read_draw write number rules words place out
      ≡ judged (first_of (number ∷ [])) place out (settled write (length words) place (length out) (rules (drop place words)))
  unfolding first_of
  passed h k = rw (le-ltb (length words) place h, le-ltb 65536 (length out) k)

  -- the draw's own number
  pub read_own : place ≤ length words → length out ≤ 65536 → 0 < number → read_draw write number rules words place out ≡ record { number = number; place = place; index = 0; output = out }
  read_own h k l = passed h k ∙ rw (first_some number [] l) (judged-some number place out _ l)

  -- accepted: what the rules give is settled
  pub read_settled : place ≤ length words → length out ≤ 65536 → number ≡ 0
      → read_draw write number rules words place out ≡ settled write (length words) place (length out) (rules (drop place words))
  unfolding first_of
  read_settled h k l = passed h k ∙ judged-zero (first_of (number ∷ [])) place out _ (first-zero number [] l)

  -- enough words or not
  pub read_got : place ≤ length words → length out ≤ 65536 → number ≡ 0 → (cs : List ℤ) (rest : List ℕ) → rules (drop place words) ≡ got cs rest
      → read_draw write number rules words place out ≡ record { number = 0; place = length words - length rest; index = 0; output = write cs }
  unfolding settled
  read_got h k l cs rest e = read_settled h k l ∙ ap (settled write (length words) place (length out)) e

  pub read_short : place ≤ length words → length out ≤ 65536 → number ≡ 0 → rules (drop place words) ≡ short
      → read_draw write number rules words place out ≡ record { number = 23; place = place; index = 0; output = write (replicate (length out) (pos 0)) }
  unfolding settled
  read_short h k l e = read_settled h k l ∙ ap (settled write (length words) place (length out)) e

-- the same of a draw by one rule
module _ {A : Type 0} (write : List ℤ → List A) (number : ℕ) (rule : Rule) (words : List ℕ) (place : ℕ) (out : List A) where
  pub rule-got : place ≤ length words → length out ≤ 65536 → number ≡ 0 → (cs : List ℤ) (rest : List ℕ) → read_by rule (drop place words) ≡ got cs rest
      → rule_draw write number rule words place out ≡ record { number = 0; place = length words - length rest; index = 0; output = write cs }
  unfolding rule_draw
  rule-got = read_got write number (read_by rule) words place out

  pub rule-short : place ≤ length words → length out ≤ 65536 → number ≡ 0 → read_by rule (drop place words) ≡ short
      → rule_draw write number rule words place out ≡ record { number = 23; place = place; index = 0; output = write (replicate (length out) (pos 0)) }
  unfolding rule_draw
  rule-short = read_short write number (read_by rule) words place out

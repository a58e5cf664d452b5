-- Draws by the method that is prepared for a distribution. A call that prepares it answers the number of making where that is not 0, else the draw of
-- the distribution; a sampler answers 21 where making never gives it, else the draw of its distribution. Each reports what its distribution skips.
use mathlib.Core.Path.{◌≡◌, refl, sym, ap, ◌∙◌}
use mathlib.Core.Bool.{Bool, true, false, not}
use mathlib.Core.List.{List, [], ◌∷◌}
use Prim.Native.Nat.{ℕ, ◌^◌, ◌<◌}
use lib.Dec.{T}
use lib.ListN.{length, drop}
use lib.IntN.{ℤ}
use Rattle.std.specs.Prelude.{Result, Ok, Err}
use Rattle.distr.specs.declared.answer.Answer.{Answer}
use Rattle.distr.specs.declared.refusal.Refusal.{Refusal}
use Rattle.distr.specs.Constants.{never_made}
use Rattle.distr.specs.Refusals.{number, Makes as Prepares}
use Rattle.distr.specs.Skipped.{Skipped, nothing}
use Rattle.distr.specs.Answers.{sums, reported}
use Rattle.distr.specs.Distribution.{Distr, Tables, skips_of}
use Rattle.distr.specs.Making.{refuse, making_number}
use Rattle.distr.specs.Numbers.{length_number, table_index}
use Rattle.distr.specs.Draw.{Outcome, outcome, judged, naming, signed_draw, encoded_draw, crt_draw, crt_skips, at_once}
use Rattle.distr.proofs.Drawing.{not-refused}
use Rattle.distr.proofs.Refusals.{refuses, refuses-eqb}
use Rattle.distr.proofs.Skipping.{reports_same}
use Rattle.draw_laws.proofs.Crt.{crt_unmade}
use Rattle.draw_laws.proofs.Making.{Makes, good, fitting, good-method, is-good, tested_draw}
use Rattle.draw_laws.proofs.Sampled.{sampled-drawn, signed-sampled, signed_unmade, encoded_unmade}
use Rattle.methods.specs.declared.SamplingMethod.{SamplingMethod}
use Rattle.method_draws.specs.Drawing.{prepared_method, method_draw, method_skips}
use Rattle.method_draws.proofs.Drawing.{prepared-draw, prepared-skips}
use Rattle.prepared_draws.specs.Drawing.{prepared_draw, prepared_draw_by, prepared_skips, encoded_by, crt_by, crt_skips_by}
use Rattle.prepared_draws.proofs.Families.{crt_of}
use Rattle.prepared_draws.proofs.Residues.{encoded_of}
use Rattle.prepared_draws.proofs.Skips.{crt_skips_of}

-- What a call answers, with its output after it, and the sums that it reports.
abbrev pub Answered : {A : Type 0} → Answer → List A → Outcome A → Skipped → Type 0
Answered r after drawn skipped = (outcome r after ≡ drawn) × (sums r ≡ reported r.number skipped)

module _ {A : Type 0} (place : ℕ) (out : List A) (draw : SamplingMethod → Outcome A) where
  -- a call by what was prepared answers and reports what is drawn and skipped by another name, if that is the same where a method is drawn by, and where
  -- what refuses it has the number 0
  pub answered_by : {R : Type 0} (by : R → ℕ) (p : Result SamplingMethod R) (answer : Outcome A) (skips : SamplingMethod → Skipped) (skipped : Skipped)
      → prepared_draw_by by p place out draw ≡ answer → ((m : SamplingMethod) → p ≡ Ok m → skips m ≡ skipped)
      → ((why : R) → p ≡ Err why → by why ≡ 0 → nothing ≡ skipped)
      → {r : Answer} {after : List A} → Answered r after (prepared_draw_by by p place out draw) (prepared_skips p skips) → Answered r after answer skipped
  unfolding prepared_draw_by prepared_skips
  answered_by by (Ok m) answer skips skipped same counted none {r} said = (said.0 ∙ same, rw (counted m refl) at said.1)
  answered_by by (Err why) answer skips skipped same counted none {r} said =
      let numbered : r.number ≡ by why = ap (λ (x : Outcome A). x.number) said.0 in
      (said.0 ∙ same, reports_same r nothing skipped (λ z. none why refl (sym numbered ∙ z)) said.1)

  -- no refusal has that number
  pub answered_as : (p : Result SamplingMethod Refusal) (answer : Outcome A) (skips : SamplingMethod → Skipped) (skipped : Skipped)
      → prepared_draw p place out draw ≡ answer → ((m : SamplingMethod) → p ≡ Ok m → skips m ≡ skipped)
      → {r : Answer} {after : List A} → Answered r after (prepared_draw p place out draw) (prepared_skips p skips) → Answered r after answer skipped
  answered_as p answer skips skipped same counted = answered_by number p answer skips skipped same counted (λ why is z. absurd (refuses why z))

-- What a prepared method draws signed is the signed draw of its distribution.
pub signed_of : (tables : Tables) (words : List ℕ) (place : ℕ) (out : List ℤ) (d : Distr) → making_number d ≡ 0
    → method_draw (λ cs. cs) (prepared_method d) tables words place out ≡ signed_draw true d tables words place out
signed_of tables words place out d z =
    prepared-draw (λ cs. cs) tables words place out d z
    ∙ ap (naming (table_index d tables)) (sampled-drawn (λ cs. cs) (length_number d (length out) ∷ []) d tables words place out (λ cs. cs) (λ cs. refl) refl)
    ∙ signed-sampled d tables words place out

pub once_draw : {A : Type 0} (d : Distr) (place : ℕ) (out : List A) (draw : SamplingMethod → Outcome A) (answer : Outcome A) (p : Result SamplingMethod Refusal)
    → Prepares (making_number d) (prepared_method d) p → (making_number d ≡ 0 → draw (prepared_method d) ≡ answer)
    → prepared_draw p place out draw ≡ at_once d place out answer
unfolding judged prepared_draw_by
once_draw {A} d place out draw answer (Ok m) e h = rw (← e.0) (ap draw e.1 ∙ h (sym e.0))
once_draw {A} d place out draw answer (Err why) e h = rw (← e.0, refuses-eqb why)

-- So it is for each kind of draw, where p is what making prepares.
module _ (d : Distr) (tables : Tables) (words : List ℕ) (place : ℕ) (p : Result SamplingMethod Refusal) (e : Prepares (making_number d) (prepared_method d) p) where
  once_method : (m : SamplingMethod) → p ≡ Ok m → m ≡ prepared_method d
  once_method m is = (rw is at e).1

  pub by-making : {A : Type 0} (out : List A) (draw : SamplingMethod → Outcome A) (answer : Outcome A) (skips : SamplingMethod → Skipped)
      (skipped : Skipped) → (making_number d ≡ 0 → draw (prepared_method d) ≡ answer) → skips (prepared_method d) ≡ skipped
      → {r : Answer} {after : List A} → Answered r after (prepared_draw p place out draw) (prepared_skips p skips)
      → Answered r after (at_once d place out answer) skipped
  by-making out draw answer skips skipped same counted =
      answered_as place out draw p (at_once d place out answer) skips skipped (once_draw d place out draw answer p e same)
      (λ m is. ap skips (once_method m is) ∙ counted)

  pub once_signed : (out : List ℤ) {r : Answer} {after : List ℤ}
      → Answered r after (prepared_draw p place out (λ m. method_draw (λ cs. cs) m tables words place out))
      (prepared_skips p (λ m. method_skips m tables (length out) (drop place words)))
      → Answered r after (at_once d place out (signed_draw true d tables words place out)) (skips_of d (length out) tables (drop place words))
  once_signed out =
      by-making out (λ m. method_draw (λ cs. cs) m tables words place out) _ (λ m. method_skips m tables (length out) (drop place words)) _
      (signed_of tables words place out d) (prepared-skips tables (length out) (drop place words) d)

  pub once_encoded : (q : ℕ) (out : List ℕ) → length out < 2 ^ 64 → {r : Answer} {after : List ℕ}
      → Answered r after (prepared_draw p place out (λ m. encoded_by m tables q words place out))
      (prepared_skips p (λ m. method_skips m tables (length out) (drop place words)))
      → Answered r after (at_once d place out (encoded_draw true d tables q words place out)) (skips_of d (length out) tables (drop place words))
  once_encoded q out few =
      by-making out (λ m. encoded_by m tables q words place out) _ (λ m. method_skips m tables (length out) (drop place words)) _
      (encoded_of tables q words place out few d) (prepared-skips tables (length out) (drop place words) d)

  pub once_crt : (count : ℕ) (moduli : List ℕ) (out : List ℕ) {r : Answer} {after : List ℕ}
      → Answered r after (prepared_draw p place out (λ m. crt_by m tables count moduli words place out))
      (prepared_skips p (λ m. crt_skips_by m tables count (length out) (drop place words)))
      → Answered r after (at_once d place out (crt_draw true d tables count moduli words place out))
      (crt_skips d count tables (length out) (drop place words))
  once_crt count moduli out =
      by-making out (λ m. crt_by m tables count moduli words place out) _ (λ m. crt_skips_by m tables count (length out) (drop place words)) _
      (crt_of tables count moduli words place out d) (crt_skips_of tables count (length out) (drop place words) d)

-- A kind of sampler whose distributions have the methods of the definitions, and one sampler of it.
module _ {D S R : Type 0} (k : Makes D SamplingMethod S R) (prepares : (d : D) → prepared_method (k.kind d) ≡ k.prepared d) (s : S) (f : T (fitting k s)) where
  abbrev mine : Distr
  mine = k.kind (k.distr_of s)

  module _ (tables : Tables) (words : List ℕ) (place : ℕ) (p : Result SamplingMethod Refusal) (e : Prepares (refuse (not (good k s)) never_made) (k.method_of s) p) where
    -- a sampler that draws is one that making gives, and its method is that of its distribution
    sampler_method : (m : SamplingMethod) → p ≡ Ok m → m ≡ prepared_method mine
    sampler_method m is =
        let passed = not-refused (not (good k s)) 20 (sym (rw is at e).0) in
        (rw is at e).1 ∙ good-method k s f (is-good k s refl passed) ∙ sym (prepares (k.distr_of s))

    -- what it draws is the draw with its number
    drawn_by : {A : Type 0} (out : List A) (draw : SamplingMethod → Outcome A) (q : Result SamplingMethod Refusal)
        → Prepares (refuse (not (good k s)) never_made) (k.method_of s) q
        → prepared_draw q place out draw ≡ judged (refuse (not (good k s)) never_made) place out (draw (k.method_of s))
    unfolding judged prepared_draw_by
    drawn_by out draw (Ok m) t = rw (← t.0) (ap draw t.1)
    drawn_by out draw (Err why) t = rw (← t.0, refuses-eqb why)

    -- a draw by its method is the answer of its distribution, if a draw by the method of a distribution is the answer of that
    by_sampler : {A : Type 0} (out : List A) (draw : SamplingMethod → Outcome A) (answer : Bool → Outcome A) (skips : SamplingMethod → Skipped)
        (skipped : Skipped) → record { number = never_made; place = place; index = 0; output = out } ≡ answer false
        → (making_number mine ≡ 0 → draw (prepared_method mine) ≡ answer true) → skips (prepared_method mine) ≡ skipped
        → {r : Answer} {after : List A} → Answered r after (prepared_draw p place out draw) (prepared_skips p skips)
        → Answered r after (answer (good k s)) skipped
    by_sampler out draw answer skips skipped unmade made counted =
        answered_as place out draw p (answer (good k s)) skips skipped
        (drawn_by out draw p e
        ∙ tested_draw k s f place out draw answer unmade (λ z. ap draw (sym (prepares (k.distr_of s))) ∙ made z))
        (λ m is. ap skips (sampler_method m is) ∙ counted)

    pub sampler_signed : (out : List ℤ) {r : Answer} {after : List ℤ}
        → Answered r after (prepared_draw p place out (λ m. method_draw (λ cs. cs) m tables words place out))
        (prepared_skips p (λ m. method_skips m tables (length out) (drop place words)))
        → Answered r after (signed_draw (good k s) mine tables words place out) (skips_of mine (length out) tables (drop place words))
    sampler_signed out =
        by_sampler out (λ m. method_draw (λ cs. cs) m tables words place out) (λ b. signed_draw b mine tables words place out)
        (λ m. method_skips m tables (length out) (drop place words)) _
        (signed_unmade mine tables words place out) (signed_of tables words place out mine)
        (prepared-skips tables (length out) (drop place words) mine)

    pub sampler_encoded : (q : ℕ) (out : List ℕ) → length out < 2 ^ 64 → {r : Answer} {after : List ℕ}
        → Answered r after (prepared_draw p place out (λ m. encoded_by m tables q words place out))
        (prepared_skips p (λ m. method_skips m tables (length out) (drop place words)))
        → Answered r after (encoded_draw (good k s) mine tables q words place out) (skips_of mine (length out) tables (drop place words))
    sampler_encoded q out few =
        by_sampler out (λ m. encoded_by m tables q words place out) (λ b. encoded_draw b mine tables q words place out)
        (λ m. method_skips m tables (length out) (drop place words)) _
        (encoded_unmade mine tables q words place out) (encoded_of tables q words place out few mine)
        (prepared-skips tables (length out) (drop place words) mine)

    pub sampler_crt : (count : ℕ) (moduli : List ℕ) (out : List ℕ) {r : Answer} {after : List ℕ}
        → Answered r after (prepared_draw p place out (λ m. crt_by m tables count moduli words place out))
        (prepared_skips p (λ m. crt_skips_by m tables count (length out) (drop place words)))
        → Answered r after (crt_draw (good k s) mine tables count moduli words place out)
        (crt_skips mine count tables (length out) (drop place words))
    sampler_crt count moduli out =
        by_sampler out (λ m. crt_by m tables count moduli words place out) (λ b. crt_draw b mine tables count moduli words place out)
        (λ m. crt_skips_by m tables count (length out) (drop place words)) _
        (sym (crt_unmade mine tables count moduli words place out false refl)) (crt_of tables count moduli words place out mine)
        (crt_skips_of tables count (length out) (drop place words) mine)

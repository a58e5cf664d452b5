-- Laws of what a draw skips: the words that choices take are the words used and the words passed over; and what an answer reports of it.
use mathlib.Core.Path.{◌≡◌, refl, ap, ◌∙◌}
use mathlib.Core.Bool.{Bool, true, false, cond}
use mathlib.Core.List.{List, [], ◌∷◌}
use Prim.Native.Nat.{ℕ, suc, ◌+◌, ◌-◌, ◌^◌, min}
use native.Mathlib.Omega.{arith}
use borrow.Author.Tests.{ne_eqb, eqb-true}
use lib.Dec.{eqb}
use lib.ListN.{length, length-drop}
use Rattle.distr.specs.declared.answer.Answer.{Answer}
use Rattle.distr.specs.declared.refusal.Refusal.{Refusal}
use Rattle.distr.specs.Words.{Read, got, short, map_read, bind_read, choose, choose_each}
use Rattle.distr.specs.Skipped.{Skipped, nothing, skipped_words, skipped_bytes, passed_over, passed_after, passed_each}
use Rattle.distr.specs.Answers.{success, success_after, refusal, refusal_at, sums, reported}
use Rattle.distr.specs.Refusals.{number}
use Rattle.distr.proofs.Reading.{short-not-got, chose}
use Rattle.distr.proofs.Refusals.{refuses}

-- ---- how many words choices take

-- a choice takes one word, and those it passes over
pub choice_counts : (k : ℕ) (ws : List ℕ) (s : ℕ) (rest : List ℕ) → choose k ws ≡ got s rest → length ws ≡ suc (passed_over k ws + length rest)
choice_counts k ws s rest e =
    let c = chose k ws s rest e in
    omega (arith, c.there, c.counted, ap length c.left ∙ length-drop (suc c.passed) ws)

-- so do choices one after the other
pub each_counts : (ks ws ss rest : List ℕ) → choose_each ks ws ≡ got ss rest → length ws ≡ length ks + passed_each ks ws + length rest
unfolding choose_each passed_each passed_after bind_read map_read
each_counts [] ws ss rest e = let same : got [] ws ≡ got ss rest = e in let l : ws ≡ rest = cc in omega (arith, ap length l)
each_counts (k ∷ ks) ws ss rest e = by_choice (choose k ws) refl e (λ left more last. each_counts ks left more last)
  where
    by-rest : (s : ℕ) (left : List ℕ) (r : Read (List ℕ)) → length ws ≡ suc (passed_over k ws + length left) → map_read (λ more. s ∷ more) r ≡ got ss rest
        → ((more last : List ℕ) → r ≡ got more last → length left ≡ length ks + passed_each ks left + length last)
        → length ws ≡ suc (length ks) + (passed_over k ws + passed_each ks left) + length rest
    by-rest s left (got more last) c g later =
        let same : got (s ∷ more) last ≡ got ss rest = g in
        let l : last ≡ rest = cc in
        omega (arith, later more last refl, ap length l)
    by-rest s left short c g later = absurd (short-not-got g)

    by_choice : (r : Read ℕ) → choose k ws ≡ r → bind_read r (λ s left. map_read (λ more. s ∷ more) (choose_each ks left)) ≡ got ss rest
        → ((left more last : List ℕ) → choose_each ks left ≡ got more last → length left ≡ length ks + passed_each ks left + length last)
        → length ws ≡ suc (length ks) + (passed_over k ws + passed_after r (λ s left. passed_each ks left)) + length rest
    by_choice (got s left) c f later = by-rest s left (choose_each ks left) (choice_counts k ws s left c) f (later left)
    by_choice short c f later = absurd (short-not-got f)

-- ---- what an answer reports

-- a refusal reports zeros
pub reports_refused : (s : Skipped) {r : Answer} {k place index : ℕ} → (k ≡ 0 → ⊥) → r ≡ refusal_at k place index → sums r ≡ reported r.number s
unfolding reported
reports_refused s {r} {k} some e = rw (e, ne_eqb k 0 some)

-- a draw that skips nothing reports so, whatever its number
pub reported-nothing : (k : ℕ) → nothing ≡ reported k nothing
unfolding reported
reported-nothing k = go (eqb k 0)
  where
    go : (b : Bool) → nothing ≡ cond b (record { words = 0; bytes = min 0 (2 ^ 64 - 1) }) nothing
    go true = refl
    go false = refl

pub reports_nothing : (r : Answer) → sums r ≡ nothing → sums r ≡ reported r.number nothing
reports_nothing r e = e ∙ reported-nothing r.number

-- a success reports its words
-- A success that skipped nothing, and a refusal, report what they should.
pub success_reports : {r : Answer} {after : ℕ} {s : Skipped} → r ≡ success after → s ≡ nothing → sums r ≡ reported r.number s
success_reports {r} is none = rw none (reports_nothing r (rw is refl))

pub refusal_reports : {r : Answer} (why : Refusal) {place : ℕ} (s : Skipped) → r ≡ refusal (number why) place → sums r ≡ reported r.number s
refusal_reports {r} why {place} s is = reports_refused s (refuses why) is

pub reports_words : {r : Answer} {place k j : ℕ} → r ≡ success_after place (skipped_words k) → k ≡ j → sums r ≡ reported r.number (skipped_words j)
unfolding reported
reports_words e f = rw (e, f)

-- and its bytes, given as 2^64−1 where there are more
pub reports_bytes : (j : ℕ) {r : Answer} {place k : ℕ} → r ≡ success_after place (skipped_bytes k) → k ≡ min j (2 ^ 64 - 1)
    → sums r ≡ reported r.number (skipped_bytes j)
unfolding reported
reports_bytes j e f = rw (e, f)

-- two draws that skip the same where the call succeeds are reported alike
pub reports_same : (r : Answer) (s t : Skipped) → (r.number ≡ 0 → s ≡ t) → sums r ≡ reported r.number s → sums r ≡ reported r.number t
unfolding reported
reports_same r s t same e = e ∙ go (eqb r.number 0) refl
  where
    go : (b : Bool) → eqb r.number 0 ≡ b
        → cond b (record { words = s.words; bytes = min s.bytes (2 ^ 64 - 1) }) nothing ≡ cond b (record { words = t.words; bytes = min t.bytes (2 ^ 64 - 1) }) nothing
    go true e = ap (λ (u : Skipped). record { words = u.words; bytes = min u.bytes (2 ^ 64 - 1) }) (same (eqb-true r.number 0 e))
    go false e = refl

-- Every call of the desk changes what it may: the library's answer over zeros, which it hands out as bytes, keeps its place and leaves zeros where it is refused.
use mathlib.Core.Path.{◌≡◌, refl, ap, ◌∙◌}
use mathlib.Core.Bool.{Bool, true, false, cond}
use mathlib.Core.List.{List, ◌++◌}
use Prim.Native.Nat.{ℕ, zero, suc, ◌+◌, ◌*◌, ◌/◌, ◌^◌}
use native.Mathlib.Omega.{arith}
use borrow.Author.Tests.{ne_eqb}
use lib.Dec.{eqb}
use lib.ListN.{length, replicate, replicate-append-replicate}
use lib.IntN.{pos}
use Rattle.distr.specs.Constants.{invalid_desk_request, out_of_words}
use Rattle.distr.specs.Skipped.{nothing}
use Rattle.distr.specs.Answers.{reported}
use Rattle.distr.specs.Packed.{digits, split}
use Rattle.distr.specs.Encoding.{encode}
use Rattle.distr.specs.Making.{refuse}
use Rattle.distr.proofs.Writing.{map-replicate}
use Rattle.little_endian.specs.LittleEndian.{words_in, bytes_of}
use Rattle.sheet_request.specs.Request.{question}
use Rattle.sheet_request.proofs.Idle.{question_idle}
use Rattle.desk.specs.Desk.{bad_request, desk_number, drawn_answer, desk_draw}
use Rattle.desk.specs.Changes.{Changes, EveryCall}
use Rattle.desk.proofs.Requests.{good}

-- zeros are written as zeros
zero-digits : (n : ℕ) → split 256 8 (replicate n 0) ≡ replicate (n * 8) 0
unfolding split digits
zero-digits zero = refl
zero-digits (suc n) =
    let more : 8 + n * 8 ≡ suc n * 8 = omega arith in
    ap (λ (l : List ℕ). replicate 8 0 ++ l) (zero-digits n) ∙ replicate-append-replicate 8 (n * 8) 0 ∙ ap (λ (k : ℕ). replicate {A = ℕ} k 0) more

zero-bytes : (n : ℕ) → bytes_of (replicate n (pos 0)) ≡ replicate (n * 8) 0
zero-bytes n = ap (split 256 8) (map-replicate (encode (2 ^ 64)) n (pos 0)) ∙ zero-digits n

module _ (kind a b modulus : ℕ) (words : List ℕ) (place : ℕ) (output : List ℕ) where
  -- a request that is drawn
  drawn_changes : desk_number (length words) (length output) ≡ 0 → Changes place output (drawn_answer kind a b modulus (words_in words) place output)
  unfolding drawn_answer reported
  drawn_changes e =
      let n = length output / 8 in
      let o = question kind a b modulus (words_in words) place (replicate n (pos 0)) in
      let idle = question_idle (words_in words) place n kind a b modulus in
      let whole : n * 8 ≡ length output = omega (arith, (good (length words) (length output) e).whole_output) in
      record {
        refused = λ never. ((idle never).0, rw (ne_eqb o.number 0 never));
        short = λ z. rw z (ap bytes_of (idle (λ e. omega arith)).1 ∙ zero-bytes n ∙ ap (λ (k : ℕ). replicate {A = ℕ} k 0) whole);
        unchanged = λ never later. rw (ne_eqb o.number 0 never, ne_eqb o.number out_of_words later);
      }

pub every_call : EveryCall
unfolding desk_draw desk_number
every_call kind a b modulus words place output = go (bad_request (length words) (length output)) refl
  where
    go : (bad : Bool) → bad_request (length words) (length output) ≡ bad
        → Changes place output
        (cond (eqb (refuse bad invalid_desk_request) 0) (drawn_answer kind a b modulus (words_in words) place output)
        (record { number = refuse bad invalid_desk_request; place = place; skipped = nothing; output = output }))
    go true e = record { refused = λ never. (refl, refl); short = λ z. absurd (omega arith); unchanged = λ never later. refl }
    go false e = drawn_changes kind a b modulus words place output (rw e)

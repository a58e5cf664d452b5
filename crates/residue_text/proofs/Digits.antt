-- Reading a token digit by digit.
use mathlib.Core.Path.{◌≡◌, refl, ap, ◌∙◌}
use mathlib.Core.Bool.{Bool, true, false, ◌&&◌}
use mathlib.Core.List.{List, [], ◌∷◌}
use Prim.Native.Nat.{ℕ, suc, ◌+◌, ◌-◌, ◌*◌, ◌<◌, ◌≤◌}
use native.Mathlib.Nat.{le_refl, le_trans}
use native.Mathlib.Numerals.{add-one}
use native.Mathlib.Omega.{arith}
use borrow.Author.Tests.{leb-true, lt-leb, le-leb}
use lib.Dec.{leb}
use lib.ListN.{length, get_or, drop, drop_of_length-le}
use lib.Seq.{drop-cons}
use Rattle.std.proofs.Common.{Some, None}
use Rattle.distr.proofs.Reading.{both_true}
use Rattle.decimal.specs.Decimal.{value_from}
use Rattle.residue_text.specs.Numbers.{is_digit, all_digits, value_of, number_of}

-- a value never falls by more digits
value-le : (v : ℕ) (bs : List ℕ) → v ≤ value_from v bs
unfolding value_from
value-le v [] = le_refl v
value-le v (b ∷ bs) = le_trans (omega arith) (value-le (v * 10 + (b - 48)) bs)

pub digit-bounds : (b : ℕ) → is_digit b ≡ true → (48 ≤ b) × (b ≤ 57)
digit-bounds b e = let both = both_true (leb 48 b) (leb b 57) e in (leb-true 48 b both.0, leb-true b 57 both.1)

-- the first i bytes of the token are digits, and v is their value
pub record Judged (token : List ℕ) (i v : ℕ) : Type 0 where
  pub digits : all_digits token ≡ all_digits (drop i token)
  pub value : value_of token ≡ value_from v (drop i token)

module _ (token : List ℕ) where
  pub judged_none : Judged token 0 0
  judged_none = record { digits = refl; value = refl }

  digits_at_lem : (i : ℕ) → i < length token → all_digits (drop i token) ≡ is_digit (get_or token i 0) && all_digits (drop (suc i) token)
  unfolding all_digits
  digits_at_lem i h = rw (drop-cons token i 0 h)

  value_at : (i v : ℕ) → i < length token → value_from v (drop i token) ≡ value_from (v * 10 + (get_or token i 0 - 48)) (drop (suc i) token)
  unfolding value_from
  value_at i v h = rw (drop-cons token i 0 h)

  pub judged_more : (i v : ℕ) → i < length token → is_digit (get_or token i 0) ≡ true → Judged token i v
      → Judged token (i + 1) (v * 10 + (get_or token i 0 - 48))
  judged_more i v h e j = rw (add-one i) (record {
    digits = j.digits ∙ digits_at_lem i h ∙ ap (λ (t : Bool). t && all_digits (drop (suc i) token)) e;
    value = j.value ∙ value_at i v h;
  })

  module _ (most : ℕ) where
    not-digits : all_digits token ≡ false → number_of most token ≡ None
    not-digits e = rw e

    pub judged-bad : (i v : ℕ) → i < length token → is_digit (get_or token i 0) ≡ false → Judged token i v → number_of most token ≡ None
    judged-bad i v h e j = not-digits (j.digits ∙ digits_at_lem i h ∙ ap (λ (t : Bool). t && all_digits (drop (suc i) token)) e)

    too_large : (t : Bool) → most < value_of token → all_digits token ≡ t → number_of most token ≡ None
    too_large true h e = rw (e, lt-leb (value_of token) most h)
    too_large false h e = not-digits e

    pub judged_large : (i v : ℕ) → most < v → Judged token i v → number_of most token ≡ None
    judged_large i v h j = too_large (all_digits token) (omega (arith, value-le v (drop i token), j.value)) refl

    pub judged-all : (i v : ℕ) → length token ≤ i → v ≤ most → Judged token i v → number_of most token ≡ Some v
    unfolding all_digits value_from
    judged-all i v h l j = rw (j.digits, j.value, drop_of_length-le token h, le-leb v most l)

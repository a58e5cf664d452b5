-- Storing the digits of a number, one or two at a time: after k the output has the values of its k lowest digits from a place on.
use mathlib.Core.Path.{◌≡◌, refl, sym, ap, ap₂, ◌∙◌}
use mathlib.Core.List.{List, ◌∷◌, map}
use Prim.Native.Nat.{ℕ, suc, ◌+◌, ◌-◌, ◌*◌, ◌/◌, ◌%◌, ◌<◌, ◌≤◌}
use native.Mathlib.Nat.{sub-zero, mod-lt, mod-eq_of_lt, mul-pos, div-div-eq-div-mul}
use native.Mathlib.Numerals.{add-one}
use native.Mathlib.Omega.{arith}
use lib.ListN.{length, get_or, take, drop, set, length-map, get_or-map}
use lib.Seq.{drop-cons, take-set-le, paste, paste-zero, paste-suc}
use Rattle.distr.specs.Packed.{digits}
use Rattle.distr.proofs.Digits.{length_digits}
use Rattle.packed.specs.declared.trits.Places.{Places}
use Rattle.packed.specs.Pairs.{digit_value, Paired, pair_set}
use Rattle.packed.specs.TritTable.{divided_places}
use Rattle.packed.proofs.Pairing.{low_digit, high_digit}

-- x has the digits of w but the k lowest
abbrev pub Left : ℕ → ℕ → ℕ → ℕ → ℕ → Type 0
Left base each w k x = drop k (digits base each w) ≡ digits base (each - k) x

left_more : (base each w k x : ℕ) → k < each → Left base each w k x
    → (get_or (digits base each w) k 0 ≡ x % base) × (drop (suc k) (digits base each w) ≡ digits base (each - suc k) (x / base))
unfolding digits
left_more base each w k x h l =
    let ds : List ℕ = digits base each w in
    let e : each - k ≡ suc (each - suc k) = omega arith in
    let split : get_or ds k 0 ∷ drop (suc k) ds ≡ x % base ∷ digits base (each - suc k) (x / base) =
    sym (drop-cons ds k 0 (rw (length_digits base each w) h)) ∙ l ∙ ap (λ (n : ℕ). digits base n x) e in
    (cc, cc)

module _ {A : Type 0} (base each : ℕ) (value : ℕ → A) (out₀ : List A) (at w : ℕ) where
  -- the output and what is left of the number after k stores
  pub record Stored (k : ℕ) (out : List A) (x : ℕ) : Type 0 where
    pub holds : out ≡ paste out₀ at (map value (digits base each w)) k
    pub left : Left base each w k x

  pub stored_none : Stored 0 out₀ w
  stored_none = record { holds = paste-zero out₀ at (map value (digits base each w)); left = rw (sub-zero each) refl }

  length-values : length (map value (digits base each w)) ≡ each
  length-values = length-map (digits base each w) value ∙ length_digits base each w

  pub stored_more : {k x : ℕ} {out : List A} → k < each → at + k < length out₀ → Stored k out x
      → Stored (k + 1) (set out (at + k) (value (x % base))) (x / base)
  stored_more {k} {x} {out} h l s =
      let next = left_more base each w k x h s.left in
      let values : List A = map value (digits base each w) in
      let value_at : get_or values k (value 0) ≡ value (x % base) = get_or-map value (digits base each w) k 0 ∙ ap value next.0 in
      record {
        holds = rw (s.holds, ← value_at, add-one k) (paste-suc out₀ at values k (value 0) l (rw length-values h));
        left = rw (add-one k) next.1;
      }

-- Two digits more by a table of pairs: one digit of base².
module _ {A : Type 0} (base each : ℕ) (z : A) (pairs : List A) (out₀ : List A) (at w : ℕ) where
  -- what is known after so many pairs; the digits are looked up in the table of pairs, and the output has room for them
  pub record Pairwise (turn : ℕ) (out : List A) (x : ℕ) : Type 0 where
    pub within : 2 * turn ≤ each
    pub room : at + each ≤ length out₀
    pub paired : Paired base z pairs
    pub stored : Stored base each (digit_value z pairs) out₀ at w (2 * turn) out x

  pub pairwise_none : at + each ≤ length out₀ → Paired base z pairs → Pairwise 0 out₀ w
  pairwise_none r p = record {
    within = omega arith;
    room = r;
    paired = p;
    stored = stored_none base each (digit_value z pairs) out₀ at w;
  }

  pub pairwise_more : {turn i x : ℕ} {out out' : List A} → i ≡ at + 2 * turn → 2 * turn + 2 ≤ each → Pairwise turn out x
      → out' ≡ pair_set z pairs out i (x % (base * base) * 2) → Pairwise (turn + 1) out' (x / (base * base))
  pairwise_more {turn} {i} {x} {out} f h s o =
      let k : ℕ = 2 * turn in
      let value : ℕ → A = digit_value z pairs in
      let q : ℕ = x % (base * base) in
      let p = s.paired in
      let b = s.paired.positive in
      let r = s.room in
      let below : q < base * base = mod-lt x (mul-pos b b) in
      let first : value (x % base) ≡ get_or pairs (q * 2) z = sym (p.low q below ∙ ap value (low_digit base b x)) in
      let second : value (x / base % base) ≡ get_or pairs (q * 2 + 1) z = sym (p.high q below ∙ ap value (high_digit base b x)) in
      let after : at + (k + 1) ≡ i + 1 = omega arith in
      let both : k + 1 + 1 ≡ 2 * (turn + 1) = omega arith in
      record {
        within = omega arith;
        room = r;
        paired = p;
        stored =
            rw (o, ← both, ← first, ← second, ← after, f, ← div-div-eq-div-mul x base base)
            (stored_more base each value out₀ at w (omega arith) (omega arith) (stored_more base each value out₀ at w (omega arith) (omega arith) s.stored));
      }

  -- one digit more, the last one, which is what is left
  pub pairwise_last : {turn i x : ℕ} {out : List A} → i ≡ at + 2 * turn → 2 * turn + 1 ≡ each → x < base → Pairwise turn out x
      → set out i (digit_value z pairs x) ≡ paste out₀ at (map (digit_value z pairs) (digits base each w)) each
  pairwise_last {turn} {i} {x} {out} f h l s =
      let r = s.room in
      ap₂ (λ (j d : ℕ). set out j (digit_value z pairs d)) f (sym (mod-eq_of_lt l))
      ∙ (stored_more base each (digit_value z pairs) out₀ at w (omega arith) (omega arith) s.stored).holds
      ∙ ap (paste out₀ at (map (digit_value z pairs) (digits base each w))) h

-- what stands before a pair stays
pair_before : {A : Type 0} (z : A) (pairs out : List A) (k at i : ℕ) → k ≤ at → take k (pair_set z pairs out at i) ≡ take k out
pair_before z pairs out k at i h = take-set-le k (set out at (get_or pairs i z)) (at + 1) _ (omega arith) ∙ take-set-le k out at _ h

-- Five trits of a byte, from the places where they stand in the table of pairs: two pairs, and the last.
pub five_trits : {A : Type 0} (z : A) (pairs out₀ : List A) (at byte : ℕ) {p : Places} {out₁ out₂ : List A} → at + 5 ≤ length out₀ → Paired 3 z pairs
    → (byte < 243 → p ≡ divided_places byte)
    → out₁ ≡ pair_set z pairs out₀ at p.first → out₂ ≡ pair_set z pairs out₁ (at + 2) p.second
    → let out₃ = set out₂ (at + 4) (get_or pairs p.last z) in
    (take at out₃ ≡ take at out₀) × (byte < 243 → out₃ ≡ paste out₀ at (map (digit_value z pairs) (digits 3 5 byte)) 5)
five_trits z pairs out₀ at byte {p} {out₁} {out₂} r d same e f = (
  take-set-le at out₂ (at + 4) _ (omega arith)
      ∙ ap (take at) f
      ∙ pair_before z pairs out₁ at (at + 2) p.second (omega arith)
      ∙ ap (take at) e
      ∙ pair_before z pairs out₀ at at p.first (omega arith),
  λ b.
      let top : byte / 81 ≡ byte / 9 / 9 = omega arith in
      let two = pairwise_more 3 5 z pairs out₀ at byte {i = at} (omega arith) (omega arith) (pairwise_none 3 5 z pairs out₀ at byte r d) (rw (same b) at e) in
      let four = pairwise_more 3 5 z pairs out₀ at byte refl (omega arith) two (rw (same b) at f) in
      rw (same b, top) (pairwise_last 3 5 z pairs out₀ at byte refl refl (omega arith) four),
)

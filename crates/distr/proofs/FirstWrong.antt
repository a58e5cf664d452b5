-- The first wrong entry of a layer list (02 [6]): no entry is wrong exactly where the list is good, and no number comes exactly where all three are.
use mathlib.Core.Path.{◌≡◌, refl, subst}
use mathlib.Core.Logic.{⊎_elim}
use mathlib.Core.Bool.{Bool, true, false, not, cond, ◌&&◌, ◌||◌}
use mathlib.Core.List.{List, [], ◌∷◌}
use Prim.Native.Nat.{ℕ, zero, suc, ◌+◌, ◌-◌, ◌<◌, ◌≤◌}
use native.Mathlib.Nat.{le_refl, le_of_suc-le-suc, not-suc-le-zero, eq-or-lt_of_le}
use native.Mathlib.Omega.{arith}
use borrow.Author.Tests.{ltb-true, ltb-false, eq-eqb, ne_eqb, not-false}
use lib.Dec.{T, T_not, leb, ltb, eqb, eqb→eq, eqb_refl, eqb-suc-zero}
use lib.ListN.{length, get_or}
use lib.Ieee.{Float, lt, eq}
use lib.Ieee.Scale.{finite}
use Rattle.distr.specs.Constants.{literal}
use Rattle.distr.specs.Gaussian.{never_falls, rising}
use Rattle.distr.specs.Layered.{Layers, layer_count, all_finite, falls, in_unit, all_in_unit, height_list, curve_list, layer_tables}
use Rattle.distr.specs.FirstWrong.{Asked, endpoints_asked, heights_asked, curve_asked, right, first_not, first_wrong, wrong_endpoint, wrong_height, wrong_value, right_sizes}
use Rattle.distr.specs.Making.{refuse}
use Rattle.distr.specs.Numbers.{first_of, layer_number, layer_index}
use Rattle.distr.proofs.Reading.{and_left, and_right, and_both}
use Rattle.distr.proofs.Rising.{is-rising}

-- j is the first of `more` indices from i on that is not right, the one after them where all are
pub record First (right : ℕ → Bool) (i more j : ℕ) : Type 0 where
  pub from : i ≤ j
  pub to : j ≤ i + more
  pub earlier : (k : ℕ) → i ≤ k → k < j → T (right k)
  pub wrong : j < i + more → T (not (right j))

pub first-not : (right : ℕ → Bool) (i more : ℕ) → First right i more (first_not right i more)
unfolding first_not
first-not right i zero =
    record { from = le_refl i; to = omega arith; earlier = λ k l u. absurd (omega arith); wrong = λ h. absurd (omega arith) }
first-not right i (suc more) = go (right i) refl (first-not right (suc i) more)
  where
    go : (b : Bool) → right i ≡ b → First right (suc i) more (first_not right (suc i) more)
        → First right i (suc more) (cond b (first_not right (suc i) more) i)
    go true e x = record {
      from = omega arith;
      to = omega arith;
      earlier = λ k l u. ⊎_elim (λ p. subst (λ (j : ℕ). T (right j)) p (rw e tt)) (λ p. x.earlier k p u) (eq-or-lt_of_le l);
      wrong = λ h. x.wrong (omega arith);
    }
    go false e x = record { from = le_refl i; to = omega arith; earlier = λ k l u. absurd (omega arith); wrong = λ h. rw e tt }

-- four tests in a row, each by itself
pub four : (a b c d : Bool) → T (a && b && c && d) → T a × T b × T c × T d
four true true true d t = (tt, tt, tt, t)
four true true false d t = absurd t
four true false c d t = absurd t
four false b c d t = absurd t

all_four : (a b c d : Bool) → T a → T b → T c → T d → T (a && b && c && d)
all_four a b c d x y z w = and_both (a && b && c) d (and_both (a && b) c (and_both a b x y) z) w

-- an element that is there, whatever stands for a missing one
pub get_d_there : {A : Type 0} (xs : List A) (i : ℕ) (d e : A) → i < length xs → get_or xs i d ≡ get_or xs i e
get_d_there [] i d e h = absurd (not-suc-le-zero h)
get_d_there (x ∷ xs) zero d e h = refl
get_d_there (x ∷ xs) (suc i) d e h = get_d_there xs i d e (le_of_suc-le-suc h)

-- a list with no wrong entry, by what is asked of it
record AllRight {A : Type 0} (asked : Asked A) (none : A) (xs : List A) : Type 0 where
  each : (i : ℕ) → i < length xs → T (asked.each (get_or xs i none))
  first : 0 < length xs → T (asked.first (get_or xs 0 none))
  next : (i : ℕ) → suc i < length xs → T (asked.next (get_or xs i none) (get_or xs (suc i) none))
  last : 0 < length xs → T (asked.last (get_or xs (length xs - 1) none))

module _ {A : Type 0} (asked : Asked A) (none : A) (xs : List A) where
  -- the three tests of an entry
  abbrev own : ℕ → Bool
  own i = asked.each (get_or xs i none)

  abbrev before : ℕ → Bool
  before i = cond (eqb i 0) (asked.first (get_or xs i none)) (asked.next (get_or xs (i - 1) none) (get_or xs i none))

  abbrev end : ℕ → Bool
  end i = not (eqb (i + 1) (length xs)) || asked.last (get_or xs i none)

  later : (i : ℕ) → before (suc i) ≡ asked.next (get_or xs i none) (get_or xs (suc i) none)
  later i =
      let same : suc i - 1 ≡ i = omega arith in
      rw (eqb-suc-zero i, same)

  none_wrong : ltb (first_wrong asked none xs) (length xs) ≡ false → AllRight asked none xs
  none_wrong e = record {
    each = λ i h. and_left (own i) (before i) (two i h);
    first = λ h. and_right (own 0) (before 0) (two 0 h);
    next = λ i h. rw (later i) at (and_right (own (suc i)) (before (suc i)) (two (suc i) h));
    last = λ h.
        let n = length xs in
        let same : n - 1 + 1 ≡ n = omega arith in
        rw (eq-eqb (n - 1 + 1) n same) at (and_right (own (n - 1) && before (n - 1)) (end (n - 1)) (whole (n - 1) (omega arith)));
  }
    where
      whole : (i : ℕ) → i < length xs → T (right asked none xs i)
      whole i h =
          (first-not (right asked none xs) 0 (length xs)).earlier i (omega arith)
          (omega (arith, ltb-false (first_wrong asked none xs) (length xs) e))

      two : (i : ℕ) → i < length xs → T (own i && before i)
      two i h = and_left (own i && before i) (end i) (whole i h)

  right_none : AllRight asked none xs → ltb (first_wrong asked none xs) (length xs) ≡ false
  right_none x = go (ltb (first_wrong asked none xs) (length xs)) refl
    where
      starts : (i : ℕ) → i < length xs → T (before i)
      starts zero h = x.first h
      starts (suc i) h = rw (later i) (x.next i h)

      ends : (i : ℕ) → i < length xs → (b : Bool) → eqb (i + 1) (length xs) ≡ b → T (not b || asked.last (get_or xs i none))
      ends i h true e =
          subst (λ (k : ℕ). T (asked.last (get_or xs k none))) (omega (arith, eqb→eq (i + 1) (length xs) (rw e tt))) (x.last (omega arith))
      ends i h false e = tt

      whole : (i : ℕ) → i < length xs → T (right asked none xs i)
      whole i h =
          and_both (own i && before i) (end i) (and_both (own i) (before i) (x.each i h) (starts i h)) (ends i h (eqb (i + 1) (length xs)) refl)

      go : (b : Bool) → ltb (first_wrong asked none xs) (length xs) ≡ b → b ≡ false
      go false e = refl
      go true e =
          let j = first_wrong asked none xs in
          let h : j < length xs = ltb-true j (length xs) e in
          absurd (T_not (right asked none xs j) ((first-not (right asked none xs) 0 (length xs)).wrong (omega arith)) (whole j h))

-- tests of a list by its first element and the rest, as tests of its entries: of each, and of each and the one after it
module _ {A : Type 0} (all : List A → Bool) (none : A) where
  module _ (test : A → Bool) (nil : T (all [])) (step : (x : A) (xs : List A) → all (x ∷ xs) ≡ test x && all xs) where
    each_list : (xs : List A) → ((i : ℕ) → i < length xs → T (test (get_or xs i none))) → T (all xs)
    each_list [] f = nil
    each_list (x ∷ xs) f = rw (step x xs) (and_both (test x) (all xs) (f 0 (omega arith)) (each_list xs (λ i h. f (suc i) (omega arith))))

    list_each : (xs : List A) → T (all xs) → (i : ℕ) → i < length xs → T (test (get_or xs i none))
    list_each [] t i h = absurd (not-suc-le-zero h)
    list_each (x ∷ xs) t zero h = and_left (test x) (all xs) (rw (step x xs) at t)
    list_each (x ∷ xs) t (suc i) h = list_each xs (and_right (test x) (all xs) (rw (step x xs) at t)) i (le_of_suc-le-suc h)

  module _ (test : A → A → Bool) (nil : T (all [])) (one : (x : A) → T (all (x ∷ [])))
      (step : (x y : A) (xs : List A) → all (x ∷ y ∷ xs) ≡ test x y && all (y ∷ xs)) where
    next_list : (xs : List A) → ((i : ℕ) → suc i < length xs → T (test (get_or xs i none) (get_or xs (suc i) none))) → T (all xs)
    next_list [] f = nil
    next_list (x ∷ []) f = one x
    next_list (x ∷ y ∷ xs) f =
        rw (step x y xs) (and_both (test x y) (all (y ∷ xs)) (f 0 (omega arith)) (next_list (y ∷ xs) (λ i h. f (suc i) (omega arith))))

    list_next : (xs : List A) → T (all xs) → (i : ℕ) → suc i < length xs → T (test (get_or xs i none) (get_or xs (suc i) none))
    list_next [] t i h = absurd (not-suc-le-zero h)
    list_next (x ∷ []) t i h = absurd (not-suc-le-zero (le_of_suc-le-suc h))
    list_next (x ∷ y ∷ xs) t zero h = and_left (test x y) (all (y ∷ xs)) (rw (step x y xs) at t)
    list_next (x ∷ y ∷ xs) t (suc i) h =
        list_next (y ∷ xs) (and_right (test x y) (all (y ∷ xs)) (rw (step x y xs) at t)) i (le_of_suc-le-suc h)

-- each list with no wrong entry is a good one, and the other way round
endpoints-good : (R M : ℕ) (xs : List ℕ) → length xs ≡ R + 1 → AllRight (endpoints_asked M) 0 xs → T (rising (R + 1) M xs)
unfolding never_falls
endpoints-good R M xs e x =
    let same : R + 1 - 1 ≡ length xs - 1 = omega arith in
    all_four (eqb (length xs) (R + 1)) (eqb (get_or xs 0 1) 0) (eqb (get_or xs (R + 1 - 1) 0) M) (never_falls xs) (rw (eq-eqb (length xs) (R + 1) e) tt)
    (rw (get_d_there xs 0 1 0 (omega arith)) (x.first (omega arith))) (rw same (x.last (omega arith)))
    (next_list never_falls 0 leb tt (λ a. tt) (λ a b ys. refl) xs x.next)

good-endpoints : (R M : ℕ) (xs : List ℕ) → T (rising (R + 1) M xs) → AllRight (endpoints_asked M) 0 xs
unfolding never_falls
good-endpoints R M xs t =
    let x = is-rising (R + 1) M xs t in
    let same : length xs - 1 ≡ R + 1 - 1 = omega arith in
    record {
      each = λ i h. tt;
      first = λ h. rw x.first tt;
      next = list_next never_falls 0 leb tt (λ a. tt) (λ a b ys. refl) xs x.never_falls_lem;
      last = λ h. rw (same, x.final) (eqb_refl M);
    }

heights-good : (R : ℕ) (ys : List Float) → length ys ≡ R + 1 → AllRight heights_asked (literal 0 1) ys → T (height_list R ys)
unfolding all_finite falls
heights-good R ys e x =
    let long = eqb (length ys) (R + 1) in
    let high = lt (literal 999 1000) (get_or ys 0 (literal 0 1)) in
    let final : R ≡ length ys - 1 = omega arith in
    and_both (long && all_finite ys && falls ys && high) (eq (get_or ys R (literal 1 1)) (literal 0 1))
    (all_four long (all_finite ys) (falls ys) high (rw (eq-eqb (length ys) (R + 1) e) tt)
    (each_list all_finite (literal 0 1) finite tt (λ a bs. refl) ys x.each)
    (next_list falls (literal 0 1) (λ a b. lt b a) tt (λ a. tt) (λ a b cs. refl) ys x.next) (x.first (omega arith)))
    (rw (get_d_there ys R (literal 1 1) (literal 0 1) (omega arith), final) (x.last (omega arith)))

good-heights : (R : ℕ) (ys : List Float) → T (height_list R ys) → T (eqb (length ys) (R + 1)) × AllRight heights_asked (literal 0 1) ys
unfolding all_finite falls
good-heights R ys t =
    let long = eqb (length ys) (R + 1) in
    let high = lt (literal 999 1000) (get_or ys 0 (literal 0 1)) in
    let low = eq (get_or ys R (literal 1 1)) (literal 0 1) in
    let x = four long (all_finite ys) (falls ys) high (and_left (long && all_finite ys && falls ys && high) low t) in
    let e = eqb→eq (length ys) (R + 1) x.0 in
    let final : length ys - 1 ≡ R = omega arith in (
      x.0,
      record {
        each = list_each all_finite (literal 0 1) finite tt (λ a bs. refl) ys x.1;
        first = λ h. x.3;
        next = list_next falls (literal 0 1) (λ a b. lt b a) tt (λ a. tt) (λ a b cs. refl) ys x.2;
        last = λ h.
            rw (final, get_d_there ys R (literal 0 1) (literal 1 1) (omega arith)) (and_right (long && all_finite ys && falls ys && high) low t);
      },
    )

curve-good : (M : ℕ) (ps : List Float) → T (eqb (length ps) (M + 1)) → AllRight curve_asked (literal 0 1) ps → T (curve_list M ps)
unfolding all_in_unit
curve-good M ps t x =
    and_both (eqb (length ps) (M + 1)) (all_in_unit ps) t (each_list all_in_unit (literal 0 1) in_unit tt (λ a bs. refl) ps x.each)

good-curve : (M : ℕ) (ps : List Float) → T (curve_list M ps) → AllRight curve_asked (literal 0 1) ps
unfolding all_in_unit
good-curve M ps t = record {
  each = list_each all_in_unit (literal 0 1) in_unit tt (λ a bs. refl) ps (and_right (eqb (length ps) (M + 1)) (all_in_unit ps) t);
  first = λ h. tt;
  next = λ i h. tt;
  last = λ h. tt;
}

-- the four tests in their order: no number where none refuses, else the number of the first that does
first-number : (P : ℕ → Type 0) (a b c d : Bool) → (a ≡ false → b ≡ false → c ≡ false → d ≡ false → P 0)
    → (a ≡ true → P 13) → (b ≡ true → P 30) → (c ≡ true → P 31) → (d ≡ true → P 32)
    → P (first_of (refuse a 13 ∷ refuse b 30 ∷ refuse c 31 ∷ refuse d 32 ∷ []))
unfolding first_of
first-number P true b c d good sizes endpoint height value = sizes refl
first-number P false true c d good sizes endpoint height value = endpoint refl
first-number P false false true d good sizes endpoint height value = height refl
first-number P false false false true good sizes endpoint height value = value refl
first-number P false false false false good sizes endpoint height value = good refl refl refl refl

no_number : (a b c d : Bool) → T a → b ≡ false → c ≡ false → d ≡ false
    → first_of (refuse (not a) 13 ∷ refuse b 30 ∷ refuse c 31 ∷ refuse d 32 ∷ []) ≡ 0
unfolding first_of
no_number true b c d t p q r = rw (p, q, r)
no_number false b c d t p q r = absurd t

-- none of the three numbers of layers is that of an empty list
some-layers : (n : ℕ) → T (eqb (n - 1) 128 || eqb (n - 1) 256 || eqb (n - 1) 512) → 0 < n
some-layers zero t = absurd t
some-layers (suc n) t = omega arith

module _ (M : ℕ) (t : Layers) where
  abbrev R : ℕ
  R = layer_count t

  abbrev layers : Bool
  layers = eqb R 128 || eqb R 256 || eqb R 512

  -- the numbers that tables give, each with what it says of them
  pub layer-numbers : (P : ℕ → Type 0) → (T (layer_tables M t) → P 0) → P 13 → (wrong_endpoint M t < length t.endpoints → P 30)
      → (wrong_height t < length t.heights → P 31) → (wrong_value t < length t.curve → P 32) → P (layer_number M t)
  unfolding layer_number
  layer-numbers P good sizes endpoint height value =
      first-number P (not (right_sizes M t)) (ltb (wrong_endpoint M t) (length t.endpoints)) (ltb (wrong_height t) (length t.heights))
      (ltb (wrong_value t) (length t.curve)) (λ a b c d. good (whole a b c d)) (λ a. sizes)
      (λ b. endpoint (ltb-true (wrong_endpoint M t) (length t.endpoints) b))
      (λ c. height (ltb-true (wrong_height t) (length t.heights) c)) (λ d. value (ltb-true (wrong_value t) (length t.curve) d))
    where
      whole : not (right_sizes M t) ≡ false → ltb (wrong_endpoint M t) (length t.endpoints) ≡ false
          → ltb (wrong_height t) (length t.heights) ≡ false → ltb (wrong_value t) (length t.curve) ≡ false → T (layer_tables M t)
      whole a b c d =
          let high = eqb (length t.heights) (R + 1) in
          let wide = eqb (length t.curve) (M + 1) in
          let s : T (layers && high && wide) = rw (not-false (right_sizes M t) a) tt in
          let l : T layers = and_left layers high (and_left (layers && high) wide s) in
          let h : T high = and_right layers high (and_left (layers && high) wide s) in
          let some = some-layers (length t.endpoints) l in
          all_four layers (rising (R + 1) M t.endpoints) (height_list R t.heights) (curve_list M t.curve) l
          (endpoints-good R M t.endpoints (omega arith) (none_wrong (endpoints_asked M) 0 t.endpoints b))
          (heights-good R t.heights (eqb→eq (length t.heights) (R + 1) h) (none_wrong heights_asked (literal 0 1) t.heights c))
          (curve-good M t.curve (and_right (layers && high) wide s) (none_wrong curve_asked (literal 0 1) t.curve d))

  pub layer-good : layer_number M t ≡ 0 → T (layer_tables M t)
  layer-good =
      layer-numbers (λ n. n ≡ 0 → T (layer_tables M t)) (λ good e. good) (λ e. absurd (omega arith)) (λ h e. absurd (omega arith))
      (λ h e. absurd (omega arith)) (λ h e. absurd (omega arith))

  pub good-layer : T (layer_tables M t) → layer_number M t ≡ 0
  unfolding layer_number
  good-layer good =
      let high = eqb (length t.heights) (R + 1) in
      let wide = eqb (length t.curve) (M + 1) in
      let x = four layers (rising (R + 1) M t.endpoints) (height_list R t.heights) (curve_list M t.curve) good in
      let y = good-heights R t.heights x.2 in
      no_number (right_sizes M t) (ltb (wrong_endpoint M t) (length t.endpoints)) (ltb (wrong_height t) (length t.heights))
      (ltb (wrong_value t) (length t.curve))
      (and_both (layers && high) wide (and_both layers high x.0 y.0) (and_left wide (all_in_unit t.curve) x.3))
      (right_none (endpoints_asked M) 0 t.endpoints (good-endpoints R M t.endpoints x.1))
      (right_none heights_asked (literal 0 1) t.heights y.1) (right_none curve_asked (literal 0 1) t.curve (good-curve M t.curve x.3))

  pub layer_apart_22 : layer_number M t ≡ 22 → ⊥
  layer_apart_22 =
      layer-numbers (λ n. n ≡ 22 → ⊥) (λ h e. omega arith) (λ e. omega arith) (λ h e. omega arith) (λ h e. omega arith) (λ h e. omega arith)

  pub layer_apart_23 : layer_number M t ≡ 23 → ⊥
  layer_apart_23 =
      layer-numbers (λ n. n ≡ 23 → ⊥) (λ h e. omega arith) (λ e. omega arith) (λ h e. omega arith) (λ h e. omega arith) (λ h e. omega arith)

  -- a number below these names no index
  pub layer_unnamed : (k : ℕ) → k < 30 → layer_index M t k ≡ 0
  unfolding layer_index
  layer_unnamed k h = rw (ne_eqb k 30 (λ e. omega arith), ne_eqb k 31 (λ e. omega arith), ne_eqb k 32 (λ e. omega arith))

-- From a sum of tests over a box to the list of the draw lists that pass: `Exactly`.
use mathlib.Core.Path.{◌≡◌, refl, sym, ap, ap₂, subst, ◌∙◌}
use mathlib.Core.Logic.{◌⊎◌, inl, inr, ⊎_elim, ⊎_map}
use mathlib.Core.Bool.{Bool, true, false, cond}
use mathlib.Core.List.{List, [], ◌∷◌, ◌++◌, map}
use Prim.Native.Nat.{ℕ, zero, suc, ◌+◌, ◌<◌}
use native.Mathlib.Nat.{not-suc-le-zero, lt_irrefl, lt-suc_self, le_step, le_of_suc-le-suc, eq-or-lt_of_le}
use lib.Dec.{T, ltb, ltb→lt, lt→ltb}
use lib.ListN.{length-append, length-map}
use lib.Ieee.Fits.{and_l, and_r}
use lib.IntN.{ℤ}
use Rattle.distr.specs.Rule.{Rule}
use Rattle.counts.specs.DrawLists.{Exactly, Member, Distinct, in_box, Carries}
use Rattle.counts.proofs.Sums.{bit, sum, cnt, same_list, in_box_cons, same_list_eq, same_list_refl}

-- ---- members of lists

module _ {A : Type 0} where
  member_left : (a : A) (xs ys : List A) → Member a xs → Member a (xs ++ ys)
  unfolding Member
  member_left a [] ys m = absurd m
  member_left a (x ∷ xs) ys (inl e) = inl e
  member_left a (x ∷ xs) ys (inr m) = inr (member_left a xs ys m)

  member_right : (a : A) (xs ys : List A) → Member a ys → Member a (xs ++ ys)
  unfolding Member
  member_right a [] ys m = m
  member_right a (x ∷ xs) ys m = inr (member_right a xs ys m)

  member_cases : (a : A) (xs ys : List A) → Member a (xs ++ ys) → Member a xs ⊎ Member a ys
  unfolding Member
  member_cases a [] ys m = inr m
  member_cases a (x ∷ xs) ys (inl e) = inl (inl e)
  member_cases a (x ∷ xs) ys (inr m) = ⊎_map inr (λ n. n) (member_cases a xs ys m)

  distinct_append : (xs ys : List A) → Distinct xs → Distinct ys → ((a : A) → Member a xs → Member a ys → ⊥) → Distinct (xs ++ ys)
  unfolding Member Distinct
  distinct_append [] ys p q apart = q
  distinct_append (x ∷ xs) ys p q apart = (
    λ m. ⊎_elim p.0 (apart x (inl refl)) (member_cases x xs ys m),
    distinct_append xs ys p.1 q (λ a m n. apart a (inr m) n),
  )

module _ {A B : Type 0} (f : A → B) where
  member_map : (a : A) (xs : List A) → Member a xs → Member (f a) (map f xs)
  unfolding Member
  member_map a [] m = absurd m
  member_map a (x ∷ xs) (inl e) = inl (ap f e)
  member_map a (x ∷ xs) (inr m) = inr (member_map a xs m)

  member_unmap : (b : B) (xs : List A) → Member b (map f xs) → (a : A) × (b ≡ f a) × Member a xs
  unfolding Member
  member_unmap b [] m = absurd m
  member_unmap b (x ∷ xs) (inl e) = (x, e, inl refl)
  member_unmap b (x ∷ xs) (inr m) = let r = member_unmap b xs m in (r.0, r.1, inr r.2)

  distinct-map : (xs : List A) → ((a a' : A) → Member a xs → Member a' xs → f a ≡ f a' → a ≡ a') → Distinct xs → Distinct (map f xs)
  unfolding Member Distinct
  distinct-map [] inj p = tt
  distinct-map (x ∷ xs) inj p = (
    λ m. let r = member_unmap (f x) xs m in p.0 (subst (λ (a : A). Member a xs) (sym (inj x r.0 (inl refl) (inr r.2) r.1)) r.2),
    distinct-map xs (λ a a' m n. inj a a' (inr m) (inr n)) p.1,
  )

-- ---- how many values have a property

module _ {A : Type 0} where
  -- the same of a property that says the same
  pub exactly_as : {N : ℕ} {P Q : A → Type 0} → Exactly A N P → ((a : A) → P a → Q a) → ((a : A) → Q a → P a) → Exactly A N Q
  exactly_as x to from = record {
    members = x.members;
    distinct = x.distinct;
    size = x.size;
    sound = λ a m. to a (x.sound a m);
    complete = λ a q. x.complete a (from a q);
  }

  pub exactly_none : (P : A → Type 0) → ((a : A) → P a → ⊥) → Exactly A 0 P
  unfolding Member Distinct
  exactly_none P n = record { members = []; distinct = tt; size = refl; sound = λ a m. absurd m; complete = λ a p. n a p }

  pub exactly-one : (P : A → Type 0) (a : A) → P a → ((b : A) → P b → b ≡ a) → Exactly A 1 P
  unfolding Member Distinct
  exactly-one P a p only = record {
    members = a ∷ [];
    distinct = (λ m. m, tt);
    size = refl;
    sound = λ b m. subst P (sym (⊎_elim (λ e. e) (λ n. absurd n) m)) p;
    complete = λ b q. inl (only b q);
  }

  pub exactly_or : {M N : ℕ} {P Q : A → Type 0} → Exactly A M P → Exactly A N Q → ((a : A) → P a → Q a → ⊥)
      → Exactly A (M + N) (λ a. P a ⊎ Q a)
  exactly_or x y apart = record {
    members = x.members ++ y.members;
    distinct = distinct_append x.members y.members x.distinct y.distinct (λ a m n. apart a (x.sound a m) (y.sound a n));
    size = length-append x.members y.members ∙ ap₂ ◌+◌ x.size y.size;
    sound = λ a m. ⊎_map (x.sound a) (y.sound a) (member_cases a x.members y.members m);
    complete = λ a.
        ⊎_elim (λ p. member_left a x.members y.members (x.complete a p)) (λ q. member_right a x.members y.members (y.complete a q));
  }

  -- one property for each number below r, no two of them at once
  pub exactly-sum : (r : ℕ) (N : ℕ → ℕ) (Q : ℕ → A → Type 0) → ((d e : ℕ) (a : A) → Q d a → Q e a → d ≡ e)
      → ((d : ℕ) → Exactly A (N d) (Q d)) → Exactly A (sum r N) (λ a. (d : ℕ) × (d < r) × Q d a)
  unfolding sum
  exactly-sum zero N Q apart each = exactly_none (λ a. (d : ℕ) × (d < 0) × Q d a) (λ a p. not-suc-le-zero p.1)
  exactly-sum (suc r) N Q apart each =
      exactly_as
      (exactly_or (exactly-sum r N Q apart each) (each r)
      (λ a p q. lt_irrefl r (subst (λ (d : ℕ). d < r) (apart p.0 r a p.2 q) p.1)))
      (λ a. ⊎_elim (λ p. (p.0, le_step p.1, p.2)) (λ q. (r, lt-suc_self r, q)))
      (λ a p.
      ⊎_elim (λ e. inr (subst (λ (d : ℕ). Q d a) e p.2)) (λ l. inl (p.0, l, p.2))
      (eq-or-lt_of_le (le_of_suc-le-suc p.1)))

-- as many images under a map that keeps the values with P apart
pub exactly-map : {A B : Type 0} {N : ℕ} {P : A → Type 0} (f : A → B) → ((a a' : A) → P a → P a' → f a ≡ f a' → a ≡ a')
    → Exactly A N P → Exactly B N (λ b. (a : A) × (b ≡ f a) × P a)
exactly-map {A} {B} f inj x = record {
  members = map f x.members;
  distinct = distinct-map f x.members (λ a a' m n. inj a a' (x.sound a m) (x.sound a' n)) x.distinct;
  size = length-map x.members f ∙ x.size;
  sound = λ b m. let r = member_unmap f b x.members m in (r.0, r.1, x.sound r.0 r.2);
  complete = λ b p. subst (λ (c : B). Member c (map f x.members)) (sym p.1) (member_map f p.0 x.members (x.complete p.0 p.2));
}

-- a value that passes a test, if it does
pub exactly-bit : {A : Type 0} (a : A) (t : Bool) → Exactly A (bit t) (λ b. (b ≡ a) × T t)
exactly-bit a true = exactly-one (λ b. (b ≡ a) × T true) a (refl, tt) (λ b p. p.0)
exactly-bit a false = exactly_none (λ b. (b ≡ a) × T false) (λ b p. p.1)

-- the draw lists of a box that pass a test are exactly as many as the sum of the test over the box
pub box_exactly : (rs : List ℕ) (P : List ℕ → Bool) → Exactly (List ℕ) (cnt rs (λ ds. bit (P ds))) (λ ds. T (in_box rs ds) × T (P ds))
unfolding cnt in_box
box_exactly [] P =
    exactly_as (exactly-bit [] (P [])) (λ ds p. subst (λ (l : List ℕ). T (in_box [] l) × T (P l)) (sym p.0) (tt, p.1)) empty
  where
    empty : (ds : List ℕ) → T (in_box [] ds) × T (P ds) → (ds ≡ []) × T (P [])
    empty [] p = (refl, p.1)
    empty (d ∷ ds) p = absurd p.0
box_exactly (r ∷ rs) P =
    exactly_as
    (exactly-sum r (λ d. cnt rs (λ ds. bit (P (d ∷ ds)))) (λ d a. (ds : List ℕ) × (a ≡ d ∷ ds) × (T (in_box rs ds) × T (P (d ∷ ds))))
    (λ d e a p q. heads d e a p.0 q.0 p.1 q.1)
    (λ d. exactly-map (λ ds. d ∷ ds) (λ ds es p q e. tails d ds es e) (box_exactly rs (λ ds. P (d ∷ ds)))))
    (λ a p.
    let d = p.0 in
    let q = p.2 in
    subst (λ (l : List ℕ). T (in_box (r ∷ rs) l) × T (P l)) (sym q.1) (in_box_cons d r q.0 rs p.1 q.2.0, q.2.1))
    split
  where
    heads : (d e : ℕ) (a ds es : List ℕ) → a ≡ d ∷ ds → a ≡ e ∷ es → d ≡ e
    heads d e a ds es p q = cc

    tails : (d : ℕ) (ds es : List ℕ) → ◌≡◌ {A = List ℕ} (d ∷ ds) (d ∷ es) → ds ≡ es
    tails d ds es e = cc

    split : (a : List ℕ) → T (in_box (r ∷ rs) a) × T (P a)
        → (d : ℕ) × (d < r) × ((ds : List ℕ) × (a ≡ d ∷ ds) × (T (in_box rs ds) × T (P (d ∷ ds))))
    split [] p = absurd p.0
    split (d ∷ ds) p = (d, ltb→lt d r (and_l (ltb d r) (in_box rs ds) p.0), (ds, refl, (and_r (ltb d r) (in_box rs ds) p.0, p.1)))

-- the numbers below r that pass a test are exactly as many as the sum of the test
pub below-exactly : (r : ℕ) (P : ℕ → Bool) → Exactly ℕ (sum r (λ d. bit (P d))) (λ d. T (ltb d r) × T (P d))
below-exactly r P =
    exactly_as
    (exactly-sum r (λ d. bit (P d)) (λ d a. (a ≡ d) × T (P d)) (λ d e a p q. sym p.0 ∙ q.0) (λ d. exactly-bit d (P d)))
    (λ a p. subst (λ (d : ℕ). T (ltb d r) × T (P d)) (sym p.2.0) (lt→ltb p.0 r p.1, p.2.1))
    (λ a p. (a, ltb→lt a r p.0, (refl, p.1)))

-- the draw lists of a box that decode to cs are exactly as many as the sum of the test for cs
pub decoded_exactly : (rs : List ℕ) (decode : List ℕ → List ℤ) (cs : List ℤ) {N : ℕ} → cnt rs (λ ds. bit (same_list (decode ds) cs)) ≡ N
    → Exactly (List ℕ) N (λ ds. T (in_box rs ds) × (decode ds ≡ cs))
decoded_exactly rs decode cs e =
    subst (λ (N : ℕ). Exactly (List ℕ) N (λ ds. T (in_box rs ds) × (decode ds ≡ cs))) e
    (exactly_as (box_exactly rs (λ ds. same_list (decode ds) cs))
    (λ ds p. (p.0, same_list_eq (decode ds) cs p.1))
    (λ ds p. (p.0, rw (p.1, same_list_refl cs) tt)))

-- how many draw lists of a rule give cs
abbrev pub reached : Rule → List ℤ → ℕ
reached rule cs = cnt rule.ranges (λ ds. bit (same_list (rule.decode ds) cs))

-- The count of a rule's draw lists by what they decode to: demand 3 follows from it and the contract of the draw.
pub record Counted (ρ : Rule) (inside : List ℤ → Bool) (formula : List ℤ → ℕ) : Type 0 where
  -- exactly as many draw lists as the formula says give a list inside the distribution, and none gives one outside
  pub exactly : (cs : List ℤ) → Exactly (List ℕ) (cond (inside cs) (formula cs) 0) (λ ds. T (in_box ρ.ranges ds) × (ρ.decode ds ≡ cs))
  -- every draw list is carried by some words
  pub carried : (ds : List ℕ) → T (in_box ρ.ranges ds) → (words : List ℕ) × (rest : List ℕ) × Carries ρ words 0 ds rest
  -- and whatever is read is a draw list
  pub boxed : (words : List ℕ) (place : ℕ) (ds rest : List ℕ) → Carries ρ words place ds rest → T (in_box ρ.ranges ds)

-- a rule whose sums are the formula inside and 0 outside, whose draw lists are carried and whose readings are draw lists, is counted
pub counted : (rule : Rule) (inside : List ℤ → Bool) (formula : List ℤ → ℕ)
    → ((cs : List ℤ) → reached rule cs ≡ cond (inside cs) (formula cs) 0)
    → ((ds : List ℕ) → T (in_box rule.ranges ds) → (words : List ℕ) × (rest : List ℕ) × Carries rule words 0 ds rest)
    → ((words : List ℕ) (place : ℕ) (ds rest : List ℕ) → Carries rule words place ds rest → T (in_box rule.ranges ds))
    → Counted rule inside formula
counted rule inside formula sums carried boxed = record {
  exactly = λ cs. decoded_exactly rule.ranges rule.decode cs (sums cs);
  carried = carried;
  boxed = boxed;
}

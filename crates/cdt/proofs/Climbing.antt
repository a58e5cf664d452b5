-- The search of a cumulative table: up from a place that is not past the magnitude, until the next bound is above the word.
use mathlib.Core.Path.{◌≡◌, refl, sym, ap, ◌∙◌}
use mathlib.Core.Logic.{⊎_elim}
use mathlib.Core.Bool.{Bool, true, false, cond}
use mathlib.Core.List.{List}
use Prim.Native.Nat.{ℕ, zero, suc, ◌+◌, ◌-◌, ◌*◌, ◌/◌, ◌^◌, ◌<◌, ◌≤◌}
use native.Mathlib.Nat.{add_comm, div-add-mod', eq-or-lt_of_le}
use native.Mathlib.Numerals.{add-one}
use native.Mathlib.Omega.{arith}
use lib.Dec.{leb, ltb}
use lib.ListN.{length, get_or, drop, set, replicate, length-set, length-replicate, length-take, length-drop, drop_of_length-le}
use lib.Seq.{drop-cons, get_or-take, get_or-drop, get_or-set_same, get_or-set_other}
use lib.IntN.{ℤ}
use borrow.Author.Tests.{leb-true, leb-false, ltb-true, ltb-false, lt-ltb, le-ltb, lt-leb}
use Rattle.std.proofs.lemmas.Float.{T_from_true}
use Rattle.distr.specs.Gaussian.{cumulative_table, magnitude, with_sign, cumulative_value}
use Rattle.distr.proofs.Rising.{Rising, is-rising, Largest, largest, rises}
use Rattle.cdt.specs.declared.index.Sampled.{Sampled}
use Rattle.cdt.specs.Guided.{interval_ends, climbed, guide_at, first_step, sampled_by}

-- a place that is not the last: the search stops there, or goes on from the next
pub climb_stop : (ends : List ℕ) (word at : ℕ) → at < length ends → word < get_or ends at 0 → climbed (drop at ends) word at ≡ at
unfolding climbed
climb_stop ends word at h l = rw (drop-cons ends at 0 h, lt-ltb word (get_or ends at 0) l)

pub climb_on : (ends : List ℕ) (word at : ℕ) → at < length ends → get_or ends at 0 ≤ word
    → climbed (drop (at + 1) ends) word (at + 1) ≡ climbed (drop at ends) word at
unfolding climbed
climb_on ends word at h l = rw (add-one at, drop-cons ends at 0 h, le-ltb word (get_or ends at 0) l)

-- past the last
pub climb_end : (ends : List ℕ) (word at : ℕ) → length ends ≤ at → climbed (drop at ends) word at ≡ at
unfolding climbed
climb_end ends word at h = rw (drop_of_length-le ends {i = at} h)

-- from where the first step goes on the search comes to where it comes from the place
module _ (ends : List ℕ) (word place : ℕ) where
  on : 64 ≤ length ends → place < length ends
      → climbed (drop (first_step ends word place) ends) word (first_step ends word place) ≡ climbed (drop place ends) word place
  on m h = rw (le-ltb (length ends) 64 m, lt-leb (length ends) place h) (go (leb (get_or ends place 0) word) refl)
    where
      go : (b : Bool) → leb (get_or ends place 0) word ≡ b
          → climbed (drop (cond b (place + 1) place) ends) word (cond b (place + 1) place) ≡ climbed (drop place ends) word place
      go true t = climb_on ends word place h (leb-true (get_or ends place 0) word t)
      go false t = refl

  pub step_same : climbed (drop (first_step ends word place) ends) word (first_step ends word place) ≡ climbed (drop place ends) word place
  step_same = go (ltb (length ends) 64) refl (leb (length ends) place) refl
    where
      go : (b : Bool) → ltb (length ends) 64 ≡ b → (d : Bool) → leb (length ends) place ≡ d
          → climbed (drop (first_step ends word place) ends) word (first_step ends word place) ≡ climbed (drop place ends) word place
      go true t d u = rw t
      go false t true u = rw (t, u)
      go false t false u = on (ltb-false (length ends) 64 t) (leb-false (length ends) place u)

-- the first k entries of a guide are in, and the search for the next goes on from `place`
pub record Filling (ends guide : List ℕ) (place k : ℕ) : Type 0 where
  pub long : length guide ≡ 256
  pub most : k ≤ 256
  pub next : climbed (drop place ends) (k * 2 ^ 56) place ≡ guide_at ends k
  pub entries : (j : ℕ) → j < k → get_or guide j 0 ≡ guide_at ends j

pub filling_none : (ends guide : List ℕ) → guide ≡ replicate 256 0 → Filling ends guide 0 0
unfolding guide_at
filling_none ends guide e = record {
  long = ap length e ∙ length-replicate {A = ℕ} 256 0;
  most = omega arith;
  next = refl;
  entries = λ j h. absurd (omega arith);
}

pub filling_more : (ends guide : List ℕ) (place k : ℕ) {found : ℕ} → Filling ends guide place k → k < 256
    → found ≡ climbed (drop place ends) (k * 2 ^ 56) place → Filling ends (set guide k found) found (k + 1)
unfolding guide_at
filling_more ends guide place k {found} f h e = record {
  long = length-set guide k found ∙ f.long;
  most = omega arith;
  next = rw (add-one k, e, f.next);
  entries = λ j l. ⊎_elim (λ (p : j ≡ k). rw p (get_or-set_same guide k found 0 (omega (arith, f.long)) ∙ e ∙ f.next))
      (λ (p : j < k). get_or-set_other guide k j found 0 (λ q. omega arith) ∙ f.entries j p) (eq-or-lt_of_le (omega arith));
}

module _ (bounds : List ℕ) (top : ℕ) (t : cumulative_table top bounds ≡ true) where
  table : Rising (top + 2) (2 ^ 64 - 1) bounds
  table = is-rising (top + 2) (2 ^ 64 - 1) bounds (T_from_true (cumulative_table top bounds) t)

  table-length : length bounds ≡ top + 2
  table-length = table.long

  found : (w : ℕ) → Largest bounds top w (magnitude bounds top w)
  found w = largest bounds top w (omega (arith, table.first))

  magnitude_top : (w : ℕ) → magnitude bounds top w ≤ top
  magnitude_top w = (found w).top

  abbrev ends : List ℕ
  ends = interval_ends top bounds

  long : length ends ≡ top
  long = simp (length-take, length-drop) (omega (arith, table-length))

  -- a bound at most the word stands at the magnitude or below it
  at_most : (w j : ℕ) → j ≤ top → get_or bounds j 0 ≤ w → j ≤ magnitude bounds top w
  at_most w j h k = go (leb j (magnitude bounds top w)) refl
    where
      go : (b : Bool) → leb j (magnitude bounds top w) ≡ b → j ≤ magnitude bounds top w
      go true e = leb-true j (magnitude bounds top w) e
      go false e = absurd (omega (arith, (found w).above j (leb-false j (magnitude bounds top w) e) h))

  -- a bound above the word stands above it
  past : (w j : ℕ) → j ≤ top → w < get_or bounds j 0 → magnitude bounds top w < j
  past w j h k = go (leb j (magnitude bounds top w)) refl
    where
      go : (b : Bool) → leb j (magnitude bounds top w) ≡ b → magnitude bounds top w < j
      go true e = absurd (omega (
        arith,
        rises bounds table.never_falls_lem j (magnitude bounds top w) (leb-true j (magnitude bounds top w) e) (omega (arith, magnitude_top w, table-length)),
        (found w).reached,
      ))
      go false e = leb-false j (magnitude bounds top w) e

  -- the place below such a bound is the magnitude, and so is the top
  stopped : (w j : ℕ) → j ≤ magnitude bounds top w → j < top → w < get_or bounds (j + 1) 0 → j ≡ magnitude bounds top w
  stopped w j h l k = omega (arith, past w (j + 1) (omega arith) k)

  at_top : (w j : ℕ) → j ≤ magnitude bounds top w → top ≤ j → j ≡ magnitude bounds top w
  at_top w j h l = omega (arith, magnitude_top w)

  -- a larger word has no smaller magnitude
  grows : (v w : ℕ) → v ≤ w → magnitude bounds top v ≤ magnitude bounds top w
  grows v w h = at_most w (magnitude bounds top v) (magnitude_top v) (omega (arith, (found v).reached))

  -- from a place that is not past it the search comes to the magnitude: it stops there, or goes on
  step : (w j : ℕ) → j < top → j ≤ magnitude bounds top w → (j + 1 ≤ magnitude bounds top w → climbed (drop (j + 1) ends) w (j + 1) ≡ magnitude bounds top w)
      → climbed (drop j ends) w j ≡ magnitude bounds top w
  step w j h l on = go (ltb w (get_or bounds (j + 1) 0)) refl
    where
      end : get_or ends j 0 ≡ get_or bounds (j + 1) 0
      end = get_or-take top (drop 1 bounds) j 0 h ∙ get_or-drop 1 bounds j 0 ∙ ap (λ (i : ℕ). get_or bounds i 0) (add_comm 1 j)

      go : (b : Bool) → ltb w (get_or bounds (j + 1) 0) ≡ b → climbed (drop j ends) w j ≡ magnitude bounds top w
      go true t = climb_stop ends w j (omega (arith, long)) (rw end (ltb-true _ _ t)) ∙ stopped w j l h (ltb-true _ _ t)
      go false t =
          sym (climb_on ends w j (omega (arith, long)) (rw end (ltb-false _ _ t)))
          ∙ on (at_most w (j + 1) (omega arith) (ltb-false _ _ t))

  climb : (w m j : ℕ) → j + m ≡ top → j ≤ magnitude bounds top w → climbed (drop j ends) w j ≡ magnitude bounds top w
  climb w zero j e h = climb_end ends w j (omega (arith, long)) ∙ at_top w j h (omega arith)
  climb w (suc m) j e h = step w j (omega arith) h (climb w m (j + 1) (omega arith))

  found_from : (w j : ℕ) → j ≤ magnitude bounds top w → climbed (drop j ends) w j ≡ magnitude bounds top w
  found_from w j h = climb w (top - j) j (omega (arith, magnitude_top w)) h

  -- an entry of the guide is the magnitude of its word, and not past that of another word with its bits
  guide_entry : (k : ℕ) → guide_at ends k ≡ magnitude bounds top (k * 2 ^ 56)
  unfolding guide_at
  guide_entry zero = found_from 0 0 (omega arith)
  guide_entry (suc k) = rw (guide_entry k) (found_from (suc k * 2 ^ 56) _ (grows (k * 2 ^ 56) (suc k * 2 ^ 56) (omega arith)))

  -- the coefficient of a word, by the ends as a draw cuts them out of the table and by their guide
  module _ (guide : List ℕ) (made : (k : ℕ) → k < 256 → get_or guide k 0 ≡ guide_at (interval_ends (top + 1 - 1) bounds) k)
      (w : ℕ) (small : w < 2 ^ 64) {s : Sampled} (e : s ≡ sampled_by (interval_ends (top + 1 - 1) bounds) guide w) where
    all : top + 1 - 1 ≡ top
    all = omega arith

    start : get_or guide (w / 2 ^ 56) 0 ≤ magnitude bounds top w
    start =
        rw (made (w / 2 ^ 56) (omega arith), all, guide_entry (w / 2 ^ 56))
        (grows (w / 2 ^ 56 * 2 ^ 56) w (omega (arith, div-add-mod' w (2 ^ 56))))

    reached : s.magnitude ≡ magnitude bounds top w
    reached = rw (e, all) (found_from w (get_or guide (w / 2 ^ 56) 0) start)

    value : with_sign s.positive s.magnitude ≡ cumulative_value top bounds w
    value = rw (reached, e)

    -- as an output holds it, which holds a magnitude below 2^63 with its sign as the coefficient that it is
    pub sampled_held : {A : Type 0} (one : ℤ → A) (sign : Bool → ℕ → A) → ((positive : Bool) (m : ℕ) → m < 2 ^ 63 → sign positive m ≡ one (with_sign positive m))
        → length bounds * 8 < 2 ^ 63 → {r : A} → r ≡ sign s.positive s.magnitude → r ≡ one (cumulative_value top bounds w)
    sampled_held one sign held room q =
        q ∙ held s.positive s.magnitude (rw reached (omega (arith, magnitude_top w, table-length))) ∙ ap one value

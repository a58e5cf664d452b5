-- Laws of the list of g 0, g 1, … to g (n − 1), and of sums of numbers.
use mathlib.Core.Path.{◌≡◌, refl, sym, ap, ap₂, ◌∙◌}
use mathlib.Core.List.{List, [], ◌∷◌}
use mathlib.Core.Logic.{⊎_elim}
use Prim.Native.Nat.{ℕ, zero, suc, ◌+◌, ◌<◌, ◌≤◌}
use native.Mathlib.Nat.{le_of_suc-le-suc, eq-or-lt_of_le, not-suc-le-zero}
use native.Mathlib.Numerals.{add-one}
use native.Mathlib.Omega.{arith}
use lib.ListN.{length, get_or, set, take, drop, length-append, get_or-append}
use lib.Seq.{get_or_at, get_or-drop}
use Rattle.distr.specs.CenteredBinomial.{total}
use Rattle.distr.specs.SamplePolyCbd.{tabulate, sum_to}
use Rattle.distr.proofs.Writing.{written, written-length, written_more, written_all}

module _ {A : Type 0} (g : ℕ → A) where
  pub length-tabulate : (n : ℕ) → length (tabulate n g) ≡ n
  unfolding tabulate
  length-tabulate zero = refl
  length-tabulate (suc n) = length-append (tabulate n g) (g n ∷ []) ∙ omega (arith, length-tabulate n)

  pub get_d_tabulate : (n i : ℕ) (d : A) → i < n → get_or (tabulate n g) i d ≡ g i
  unfolding tabulate
  get_d_tabulate zero i d h = absurd (not-suc-le-zero h)
  get_d_tabulate (suc n) i d h =
      ⊎_elim
      (λ e. get_or_at (tabulate n g) (g n) [] d i (length-tabulate n ∙ sym e) ∙ ap g (sym e))
      (λ l. get_or-append (tabulate n g) (g n ∷ []) d i (omega (arith, length-tabulate n, l)) ∙ get_d_tabulate n i d l)
      (eq-or-lt_of_le (le_of_suc-le-suc h))

  -- the list as it is written, front to back, into an output of its length: none, one more, all
  abbrev pub tabulated : ℕ → ℕ → List A → List A
  tabulated n i out = written (tabulate n g) i out

  pub tabulated-length : (n i : ℕ) (out : List A) → length out ≡ n → i ≤ n → length (tabulated n i out) ≡ n
  tabulated-length n i out e h = written-length (tabulate n g) out i (omega (arith, length-tabulate n)) (omega arith) ∙ e

  pub tabulated_more : (n i : ℕ) (out now : List A) (a : A) → length out ≡ n → i < n → now ≡ tabulated n i out → a ≡ g i
      → set now i a ≡ tabulated n (i + 1) out
  tabulated_more n i out now a e h w v =
      ap₂ (λ l b. set l i b) w (v ∙ sym (get_d_tabulate n i a h))
      ∙ written_more (tabulate n g) out i a (omega (arith, length-tabulate n)) (omega arith)
      ∙ ap (λ k. tabulated n k out) (sym (add-one i))

  pub tabulated-all : (n i : ℕ) (out now : List A) → length out ≡ n → i ≡ n → now ≡ tabulated n i out → now ≡ tabulate n g
  tabulated-all n i out now e f w =
      w ∙ ap (λ k. tabulated n k out) (f ∙ sym e) ∙ written_all (tabulate n g) out (length-tabulate n ∙ sym e)

-- two sums that agree term by term
pub sum_to_ext : (n : ℕ) (g h : ℕ → ℕ) → ((j : ℕ) → j < n → g j ≡ h j) → sum_to n g ≡ sum_to n h
unfolding sum_to
sum_to_ext zero g h e = refl
sum_to_ext (suc n) g h e = ap₂ ◌+◌ (sum_to_ext n g h (λ j l. e j (omega arith))) (e n (omega arith))

-- the sum of one element more
total_more : (n : ℕ) (xs : List ℕ) → total (take (suc n) xs) ≡ total (take n xs) + get_or xs n 0
unfolding total
total_more zero [] = refl
total_more zero (x ∷ xs) = omega arith
total_more (suc n) [] = refl
total_more (suc n) (x ∷ xs) = omega (arith, total_more n xs)

-- the sum of the n elements from the k-th on; past the end they are 0
pub total-part : (n k : ℕ) (xs : List ℕ) → total (take n (drop k xs)) ≡ sum_to n (λ j. get_or xs (k + j) 0)
unfolding total sum_to
total-part zero k xs = refl
total-part (suc n) k xs = total_more n (drop k xs) ∙ ap₂ ◌+◌ (total-part n k xs) (get_or-drop k xs n 0)

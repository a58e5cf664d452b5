-- Bytes written one after the other: what two writers leave is what one writer of both leaves.
use mathlib.Core.Path.{◌≡◌, refl, ap, subst, ◌∙◌}
use mathlib.Core.List.{List, [], ◌∷◌, ◌++◌, append_assoc}
use Prim.Native.Nat.{ℕ, suc, ◌+◌, ◌<◌, ◌≤◌}
use native.Mathlib.Nat.{add-zero, add-suc, suc-add}
use native.Mathlib.Omega.{arith}
use lib.ListN.{length, set, length-set, length-append}
use lib.Seq.{sets, length-sets}
use Rattle.sheet.specs.Written.{Written}

sets_append : {A : Type 0} (l : List A) (i : ℕ) (xs ys : List A) → sets (sets l i xs) (i + length xs) ys ≡ sets l i (xs ++ ys)
sets_append l i [] ys = rw (add-zero i)
sets_append l i (x ∷ xs) ys = rw (add-suc i (length xs), ← suc-add i (length xs)) (sets_append (set l i x) (suc i) xs ys)

pub written_none : (text : List ℕ) (i : ℕ) → i ≤ length text → Written text i [] text i
written_none text i h = record { text = refl; place = omega arith; inside = h }

pub written_byte : (text : List ℕ) (i b : ℕ) → i < length text → Written text i (b ∷ []) (set text i b) (i + 1)
written_byte text i b h = record { text = refl; place = refl; inside = omega (arith, length-set text i b) }

pub written_then : {t u v : List ℕ} {i j k : ℕ} {xs ys : List ℕ} → Written t i xs u j → Written u j ys v k → Written t i (xs ++ ys) v k
written_then {t} {u} {v} {i} {j} {k} {xs} {ys} w z = record {
  text = z.text ∙ rw (w.text, w.place) (sets_append t i xs ys);
  place = omega (arith, length-append xs ys);
  inside = z.inside;
}

pub written-length : {t u : List ℕ} {i j : ℕ} {xs : List ℕ} → Written t i xs u j → length u ≡ length t
written-length {t} {u} {i} {j} {xs} w = ap length w.text ∙ length-sets t i xs

-- bytes that are equal stand there as well
pub written_same : {t u : List ℕ} {i j : ℕ} {xs ys : List ℕ} → xs ≡ ys → Written t i xs u j → Written t i ys u j
written_same {t} {u} {i} {j} e w = subst (λ (bytes : List ℕ). Written t i bytes u j) e w

module _ (before : List ℕ) (at : ℕ) (whole : List ℕ) where
  -- A text that is being written: its front stands there up to `end`, and `rest` is left.
  pub record Writing (rest text : List ℕ) (end : ℕ) : Type 0 where
    pub front : List ℕ
    pub done : Written before at front text end
    pub all : front ++ rest ≡ whole

  pub writing_none : at ≤ length before → Writing whole before at
  writing_none h = record { front = []; done = written_none before at h; all = refl }

  module _ {rest text : List ℕ} {end : ℕ} (w : Writing rest text end) where
    -- there is room for what is left
    pub writing_room : at + length whole ≤ length before → end + length rest ≤ length text
    writing_room h = omega (arith, w.done.place, written-length w.done, simp length-append at (ap length w.all))

    pub writing_more : {after xs ys : List ℕ} {last : ℕ} → rest ≡ xs ++ ys → Written text end xs after last → Writing ys after last
    writing_more {after} {xs} {ys} e z = record {
      front = w.front ++ xs;
      done = written_then w.done z;
      all = append_assoc w.front xs ys ∙ rw (← e) w.all;
    }

    pub writing_done : {after xs : List ℕ} {last : ℕ} → rest ≡ xs → Written text end xs after last → Written before at whole after last
    writing_done e z = written_same (rw (← e) w.all) (written_then w.done z)

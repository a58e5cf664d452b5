-- Making a row from the last one, element by element: what is still to be read is as it was, also where the row is the last one.
use Rattle.std.proofs.Common.{◌≡◌, ℕ, ◌+◌, ◌-◌, ◌<◌, ◌≤◌, List, map, length, get_or, drop, set, sym, ap, ◌∙◌, add-one, arith, length-drop, get_or-drop}
use lib.ListN.{length-map, get_or-map}
use lib.Seq.{paste, paste-suc, drop-paste}

module _ {A : Type 0} (f : A → A) (out₀ : List A) (at last : ℕ) (before : at ≤ last) (inside : last ≤ length out₀) where
  -- the first j elements of the row are made
  pub record Made (j : ℕ) (out : List A) : Type 0 where
    pub holds : out ≡ paste out₀ at (map f (drop last out₀)) j

  length-made : length (map f (drop last out₀)) ≡ length out₀ - last
  length-made = length-map (drop last out₀) f ∙ length-drop last out₀

  -- the element to be read next
  unread : {j : ℕ} {out : List A} (z : A) → j < length out₀ - last → Made j out → get_or out (last + j) z ≡ get_or out₀ (last + j) z
  unread {j} {out} z h s =
      let ahead : at + j + (last - at) ≡ last + j = omega arith in
      let same : drop (at + j) out ≡ drop (at + j) out₀ =
      ap (drop (at + j)) s.holds ∙ drop-paste out₀ at (map f (drop last out₀)) j (omega arith) (rw length-made (omega arith)) in
      ap (λ (k : ℕ). get_or out k z) (sym ahead)
      ∙ sym (get_or-drop (at + j) out (last - at) z)
      ∙ ap (λ (l : List A). get_or l (last - at) z) same
      ∙ get_or-drop (at + j) out₀ (last - at) z
      ∙ ap (λ (k : ℕ). get_or out₀ k z) ahead

  pub made_more : {j : ℕ} {out : List A} (z v : A) → j < length out₀ - last → Made j out → v ≡ f (get_or out (last + j) z) → Made (j + 1) (set out (at + j) v)
  made_more {j} {out} z v h s e =
      let row : List A = map f (drop last out₀) in
      let value : v ≡ get_or row j (f z) =
      e ∙ ap f (unread z h s ∙ sym (get_or-drop last out₀ j z)) ∙ sym (get_or-map f (drop last out₀) j z) in
      record {
        holds =
            ap (λ (l : List A). set l (at + j) v) s.holds
            ∙ ap (set (paste out₀ at row j) (at + j)) value
            ∙ paste-suc out₀ at row j (f z) (omega arith) (rw length-made h)
            ∙ ap (paste out₀ at row) (sym (add-one j));
      }

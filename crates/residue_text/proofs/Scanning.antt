-- How many bytes stand before the first of a kind, and what stands there.
use mathlib.Core.Path.{◌≡◌, refl, sym, ◌∙◌}
use mathlib.Core.Bool.{Bool, true, false, cond}
use mathlib.Core.List.{List, [], ◌∷◌}
use Prim.Native.Nat.{ℕ, suc, ◌+◌, ◌-◌, ◌<◌, ◌≤◌}
use native.Mathlib.Numerals.{add-one}
use native.Mathlib.Omega.{arith}
use lib.ListN.{length, get_or, take, drop, length-drop, drop_of_length-le}
use lib.Seq.{drop-cons, take_all}
use Rattle.residue_text.specs.Tokens.{is_newline, before, after_line, Lined}

module _ (p : ℕ → Bool) where
  -- the byte after those that are passed is of the kind
  pub before_stops : (bs : List ℕ) → before p bs < length bs → p (get_or bs (before p bs) 0) ≡ true
  unfolding before
  before_stops [] h = absurd (omega arith)
  before_stops (b ∷ bs) h = go (p b) refl (before_stops bs) h
    where
      go : (t : Bool) → p b ≡ t → (before p bs < length bs → p (get_or bs (before p bs) 0) ≡ true)
          → cond t 0 (suc (before p bs)) < suc (length bs)
          → p (get_or (b ∷ bs) (cond t 0 (suc (before p bs))) 0) ≡ true
      go true e stops l = e
      go false e stops l = stops (omega arith)

  -- of what is left after i bytes the first is of the kind, or it is not
  pub before_here : (bs : List ℕ) (i : ℕ) → i < length bs → p (get_or bs i 0) ≡ true → before p (drop i bs) ≡ 0
  unfolding before
  before_here bs i h e = rw (drop-cons bs i 0 h, e)

  pub before_later : (bs : List ℕ) (i : ℕ) → i < length bs → p (get_or bs i 0) ≡ false → before p (drop i bs) ≡ suc (before p (drop (suc i) bs))
  unfolding before
  before_later bs i h e = rw (drop-cons bs i 0 h, e)

  pub before-end : (bs : List ℕ) (i : ℕ) → length bs ≤ i → before p (drop i bs) ≡ 0
  unfolding before
  before-end bs i h = rw (drop_of_length-le bs h)

-- the first line by where its newline stands, and without one
pub lined_newline : (text : List ℕ) (end : ℕ) → end ≡ 0 + before is_newline text → end < length text → Lined text end (end + 1)
lined_newline text end e h =
    let same : end ≡ before is_newline text = omega arith in
    record { line = rw same; inside = omega arith; rest = rw (add-one end, same); within = omega arith }

pub lined_none : (text : List ℕ) (end : ℕ) → end ≡ 0 + before is_newline text → end ≤ length text → length text ≤ end → Lined text end end
lined_none text end e h l =
    let same : end ≡ before is_newline text = omega arith in
    let past : length text ≤ suc (before is_newline text) = omega arith in
    record { line = rw same; inside = h; rest = drop_of_length-le text l ∙ sym (drop_of_length-le text past); within = h }

-- the text after the line, as a part up to the end
pub lined_after : {text : List ℕ} {end next : ℕ} → Lined text end next → take (length text - next) (drop next text) ≡ after_line text
lined_after {text} {end} {next} l = take_all (length text - next) (drop next text) (omega (arith, length-drop next text)) ∙ l.rest

-- Bytes at the front of a room: one byte more after them.
use mathlib.Core.Path.{◌≡◌, ap, ◌∙◌}
use mathlib.Core.List.{List, [], ◌∷◌, ◌++◌, append_assoc}
use Prim.Native.Nat.{ℕ, suc, ◌+◌, ◌<◌}
use native.Mathlib.Numerals.{add-one}
use lib.ListN.{length, drop, set, length-append}
use lib.Seq.{drop-cons, set-append_seam}
use Rattle.decimal.specs.Decimal.{at_front}

pub front_more : (bytes room : List ℕ) (b : ℕ) {end : ℕ} {after : List ℕ} → length bytes < length room
    → (end, after) ≡ at_front bytes room → (end + 1, set after end b) ≡ at_front (bytes ++ (b ∷ [])) room
front_more bytes room b {end} {after} h e =
    let n = length bytes in
    let placed : set (bytes ++ drop n room) n b ≡ bytes ++ b ∷ drop (suc n) room =
    rw (drop-cons room n 0 h) (set-append_seam bytes _ _ b) in
    ap (λ p. (p.0 + 1, set p.1 p.0 b)) e
    ∙ rw (placed, length-append bytes (b ∷ []), append_assoc bytes (b ∷ []) (drop (n + 1) room), add-one n)

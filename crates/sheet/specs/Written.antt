-- What a writer of text leaves behind.
use Rattle.std.specs.Prelude.{ℕ, ◌+◌, ◌≤◌, ◌≡◌, List, length}
use Rattle.std.proofs.lemmas.List.Edits.{sets}

-- The bytes stand in the text from a place on, the rest of it is as before, and the writer hands back the place after them, which is
-- not past the text's end.
pub record Written (before : List ℕ) (at : ℕ) (bytes after : List ℕ) (end : ℕ) : Type 0 where
  pub text : after ≡ sets before at bytes
  pub place : end ≡ at + length bytes
  pub inside : end ≤ length after

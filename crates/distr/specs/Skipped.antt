-- Document 02 [1], "Words thrown away": what a draw skips, counted beside what document 01 reads.
use Rattle.std.specs.Prelude.{ℕ, zero, suc, ◌+◌, ◌*◌, ◌/◌, ◌^◌, cond, List, [], ◌∷◌, ltb}
use Rattle.distr.specs.Words.{Read, got, short, choose}

-- "The number of words a candidate skipped", and each byte rejected in uniform ternary "as a byte, in a figure of its own".
pub record Skipped : Type 0 where
  pub words : ℕ
  pub bytes : ℕ

-- A draw that neither passes over a word nor rejects a byte, and a refused call, which "reports zeros".
abbrev pub nothing : Skipped
nothing = record { words = 0; bytes = 0 }

-- A sum of words alone.
abbrev pub skipped_words : ℕ → Skipped
skipped_words k = record { words = k; bytes = 0 }

-- A sum of bytes alone.
abbrev pub skipped_bytes : ℕ → Skipped
skipped_bytes k = record { words = 0; bytes = k }

-- "Each choice among k reports the words it passed over": a word that is not below k × ⌊2^32/k⌋ is one more, the word taken is none.
unfoldable pub passed_over : ℕ → List ℕ → ℕ
passed_over k [] = 0
passed_over k (w ∷ ws) = cond (ltb w (k * (2 ^ 32 / k))) 0 (suc (passed_over k ws))

-- What is passed over after a reading, from the words left; nothing follows one that lacks a word.
unfoldable pub passed_after : {A : Type 0} → Read A → (A → List ℕ → ℕ) → ℕ
passed_after (got a rest) next = next a rest
passed_after short next = 0

-- What the choices of `choose_each` pass over.
unfoldable pub passed_each : List ℕ → List ℕ → ℕ
passed_each [] ws = 0
passed_each (k ∷ ks) ws = passed_over k ws + passed_after (choose k ws) (λ s rest. passed_each ks rest)

-- What the m readings of `many` pass over, each so many as `passed` counts.
unfoldable pub passed_many : {A : Type 0} → (List ℕ → Read A) → (List ℕ → ℕ) → ℕ → List ℕ → ℕ
passed_many one passed zero ws = 0
passed_many one passed (suc m) ws = passed ws + passed_after (one ws) (λ a rest. passed_many one passed m rest)

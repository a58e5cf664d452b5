-- Trits out of bytes, stored in an output: what is stored, what is left to read, and where the reading stopped.
use Rattle.std.specs.Prelude.{ℕ, ◌+◌, ◌*◌, ◌-◌, ◌/◌, ◌≤◌, ◌≡◌, Option, Some, None, min, List, [], ◌∷◌, ◌++◌, length, take, drop}
use Rattle.distr.specs.Words.{Read, got, short, map_read}
use Rattle.distr.specs.Packed.{split}
use Rattle.distr.specs.UniformTernary.{accepted_bytes, bytes, rejected_bytes}
use Rattle.packed.specs.declared.bytes.Ended.{Ended}
use Rattle.packed.specs.Pairs.{digit_values}

-- How many bytes k values need.
abbrev pub bytes_wanted : ℕ → ℕ
bytes_wanted k = (k + 4) / 5

-- How many bytes are looked at for k values out of the words ws: those rejected, and those accepted.
abbrev pub bytes_looked : List ℕ → ℕ → ℕ
bytes_looked ws k = rejected_bytes ws (bytes_wanted k) + bytes_wanted k

-- What the output holds in the end, where its first `at` values stand and those after them are read out of the words ws.
abbrev pub trits_from : {A : Type 0} → A → List A → List A → ℕ → List ℕ → Read (List A)
trits_from z pairs out at ws =
    map_read (λ ds. take at out ++ digit_values z pairs (take (length out - at) (split 3 5 ds))) (bytes ws (bytes_wanted (length out - at)))

-- From `at` on the values of the bytes below 243 among bs are stored, five a byte; they end before at'. What stands there is left free.
pub record BytesStored {A : Type 0} (z : A) (pairs out : List A) (at : ℕ) (bs : List ℕ) (out' : List A) (at' : ℕ) : Type 0 where
  pub moved : at' ≡ at + 5 * length (accepted_bytes bs)
  pub within : at' ≤ at + 5 * length bs
  pub holds : take at' out' ≡ take at out ++ digit_values z pairs (split 3 5 (accepted_bytes bs))

-- The same of one byte, of whose values as many are stored as there is room for.
pub record ByteFitted {A : Type 0} (z : A) (pairs out : List A) (at byte : ℕ) (out' : List A) (at' : ℕ) : Type 0 where
  pub moved : at' ≡ min (at + 5 * length (accepted_bytes (byte ∷ []))) (length out)
  pub holds : take at' out' ≡ take at out ++ digit_values z pairs (take (length out - at) (split 3 5 (accepted_bytes (byte ∷ []))))

-- The output, with the words left; or a word was missing, whatever the output holds.
abbrev pub reading : {A : Type 0} → Option Ended → List A → List ℕ → Read (List A)
reading (Some e) out words = got out (drop e.place words)
reading None out words = short

-- Each byte of the words from `place` on was looked at for the k values, but those left of the last word.
pub record Looked (e : Ended) (words : List ℕ) (place k : ℕ) : Type 0 where
  pub few : e.left ≤ 4
  pub all : bytes_looked (drop place words) k + e.left + 4 * place ≡ 4 * e.place

-- When an answer is the stored one. Signed coefficients stand on both sides modulo 2^64.
use Rattle.std.specs.Prelude.{ℕ, ◌+◌, ◌*◌, ◌%◌, ◌^◌, Bool, true, false, cond, ◌&&◌, List, [], ◌∷◌, length, ◌==◌, nat_le}

-- Whether two lists are the same.
unfoldable pub same : List ℕ → List ℕ → Bool
same [] [] = true
same [] (y ∷ ys) = false
same (x ∷ xs) [] = false
same (x ∷ xs) (y ∷ ys) = x == y && same xs ys

-- The digest with one element more, to which an offset is added modulo 2^64.
abbrev pub digest_with : ℕ → ℕ → ℕ → ℕ
digest_with offset digest element =
    (48271 * (digest % 2147483647) + (element + offset) % 2 ^ 64 % 2147483647 + 1) % 2147483647

-- The digest of an output, from that of what stands before it.
unfoldable pub digest : ℕ → ℕ → List ℕ → ℕ
digest offset d [] = d
digest offset d (x ∷ output) = digest offset (digest_with offset d x) output

-- What is stored of an output: its elements where these are 66 at most, else its digest, which starts at 1.
unfoldable pub shown : ℕ → List ℕ → List ℕ
shown offset output = cond (nat_le (length output) 66) output (digest offset 1 output ∷ [])

-- What is stored of an answer: the number, the new place, how many words and how many bytes were skipped and, for number 0, the output.
unfoldable pub answer_line : ℕ → ℕ → ℕ → ℕ → ℕ → List ℕ → List ℕ
answer_line offset number place words bytes output = number ∷ place ∷ words ∷ bytes ∷ cond (number == 0) (shown offset output) []

-- Whether a stored answer is this one. Every stored answer is one of the Rust, whose numbers name no index: 02 [6], "index 0 accompanies every other number".
abbrev pub agrees_with : List ℕ → ℕ → List ℕ → Bool
agrees_with stored index line = index == 0 && same stored line

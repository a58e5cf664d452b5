-- "Uniform ternary: bytes, lowest first, 243..255 skipped; five base-3 digits, lowest first, 0, 1, 2 giving −1, 0, 1."
use Rattle.std.specs.Prelude.{ℕ, zero, suc, ◌+◌, ◌-◌, ◌/◌, cond, List, [], ◌∷◌, ◌++◌, map, ltb, eqb, take, length, replicate, ℤ, pos}
use Rattle.distr.specs.Words.{Read, got, short, map_read}
use Rattle.distr.specs.Skipped.{skipped_bytes}
use Rattle.distr.specs.Rule.{Rule}
use Rattle.distr.specs.Packed.{digits, split, minus_one}

-- The bytes below 243, "243..255 skipped".
unfoldable pub accepted_bytes : List ℕ → List ℕ
accepted_bytes [] = []
accepted_bytes (b ∷ bs) = cond (ltb b 243) (b ∷ accepted_bytes bs) (accepted_bytes bs)

-- m accepted bytes; a word is read while some are wanted, and what is left of the last one is dropped. Where a word has more than are
-- wanted, `take` leaves the others out, and the difference, which is 0 then, ends the reading.
unfoldable pub bytes : List ℕ → ℕ → Read (List ℕ)
bytes [] zero = got [] []
bytes [] (suc m) = short
bytes (w ∷ ws) zero = got [] (w ∷ ws)
bytes (w ∷ ws) (suc m) =
    let found = accepted_bytes (digits 256 4 w) in
    map_read (λ rest. take (suc m) found ++ rest) (bytes ws (suc m - length found))

-- 02 [1], "each byte rejected in uniform ternary": those among the given bytes, up to the m-th accepted one; the bytes after it are not looked at.
unfoldable pub rejected_among : List ℕ → ℕ → ℕ
rejected_among [] m = 0
rejected_among (b ∷ bs) zero = 0
rejected_among (b ∷ bs) (suc m) = cond (ltb b 243) (rejected_among bs m) (suc (rejected_among bs (suc m)))

-- Those that `bytes` rejects while it reads m accepted ones, word after word.
unfoldable pub rejected_bytes : List ℕ → ℕ → ℕ
rejected_bytes [] m = 0
rejected_bytes (w ∷ ws) zero = 0
rejected_bytes (w ∷ ws) (suc m) =
    let found = digits 256 4 w in
    rejected_among found (suc m) + rejected_bytes ws (suc m - length (accepted_bytes found))

-- "0, 1, 2 giving −1, 0, 1."
abbrev pub trit_value : ℕ → ℤ
trit_value t = cond (eqb t 0) minus_one (pos (t - 1))

-- ⌈n/5⌉ bytes of five digits each; the digits past n are not used.
abbrev pub uniform_ternary : ℕ → Rule
uniform_ternary n = record {
  ranges = replicate ((n + 4) / 5) 243;
  draws = λ ws. bytes ws ((n + 4) / 5);
  decode = λ ds. map trit_value (take n (split 3 5 ds));
  skips = λ ws. skipped_bytes (rejected_bytes ws ((n + 4) / 5));
}

-- A rule of document 01 for a request: which draw lists it has, how they are read from the words, what they give, and what is skipped meanwhile.
use Rattle.std.specs.Prelude.{ℕ, ◌^◌, List, [], map, replicate, ℤ}
use Rattle.distr.specs.Words.{Read, got, map_read, many, wide}
use Rattle.distr.specs.Skipped.{Skipped, nothing}

-- The request's draw lists are the lists with one entry below each of `ranges`; `draws` reads one from the words left; `decode` gives the coefficients;
-- `skips` counts the words and the bytes that are skipped while `draws` reads.
pub record Rule : Type 0 where
  pub ranges : List ℕ
  pub draws : List ℕ → Read (List ℕ)
  pub decode : List ℕ → List ℤ
  pub skips : List ℕ → Skipped

-- The coefficients that a rule gives from the words left.
abbrev pub read_by : Rule → List ℕ → Read (List ℤ)
read_by rule ws = map_read rule.decode (rule.draws ws)

-- "Gives a constant without reading."
abbrev pub constant : ℤ → ℕ → Rule
constant v n = record { ranges = []; draws = λ ws. got [] ws; decode = λ ds. replicate n v; skips = λ ws. nothing }

-- "n 64-bit words", each giving a coefficient of its own: `Binary`, `Ternary`, the centered binomial and the cumulative Gaussian.
abbrev pub wide_words : ℕ → (ℕ → ℤ) → Rule
wide_words n value = record { ranges = replicate n (2 ^ 64); draws = many wide n; decode = map value; skips = λ ws. nothing }

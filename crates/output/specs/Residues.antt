-- What an output of residues holds: a coefficient m from 0 on as m, and −m as the modulus less m.
use Rattle.std.specs.Prelude.{ℕ, Bool, List, map, ℤ}
use Rattle.distr.specs.Encoding.{encode_with}
use Rattle.distr.specs.Gaussian.{with_sign}
use Rattle.output.specs.declared.residues.Residues.{Residues}

-- A count; 0 is also the zero that a draw which lacks a word writes.
abbrev pub natural : ℕ → ℕ
natural n = n

-- A coefficient, and a list of them, as the output holds them.
abbrev pub held_one : Residues → ℤ → ℕ
held_one encoding c = encode_with encoding.minus_one c

abbrev pub held : Residues → List ℤ → List ℕ
held encoding cs = map (held_one encoding) cs

-- A magnitude with its sign.
abbrev pub held_sign : Residues → Bool → ℕ → ℕ
held_sign encoding positive m = held_one encoding (with_sign positive m)

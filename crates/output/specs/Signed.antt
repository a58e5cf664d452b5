-- What a signed output holds: the coefficients themselves.
use Rattle.std.specs.Prelude.{ℕ, ◌^◌, Bool, cond, List, ltb, ℤ, pos}
use Rattle.distr.specs.Gaussian.{with_sign}
use Rattle.output.specs.declared.signed.Signed.{Signed}

-- A count; 0 is also the zero that a draw which lacks a word writes.
abbrev pub natural : ℕ → ℤ
natural n = pos n

-- A coefficient, and a list of them, as the output holds them.
abbrev pub held_one : Signed → ℤ → ℤ
held_one encoding c = c

abbrev pub held : Signed → List ℤ → List ℤ
held encoding cs = cs

-- A magnitude with its sign, where an i64 holds both signs of it.
abbrev pub held_sign : Signed → Bool → ℕ → ℤ
held_sign encoding positive m = cond (ltb m (2 ^ 63)) (with_sign positive m) (natural 0)

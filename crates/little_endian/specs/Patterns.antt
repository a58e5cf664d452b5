-- Numbers as 64 bits: a signed one as its residue modulo 2^64, −m as 2^64 − m, and one without a sign as itself.
use Rattle.std.specs.Prelude.{ℕ, ◌-◌, ◌^◌, Bool, cond, ◌&&◌, List, map, ltb, ℤ, pos, negsuc}

-- Signed bits from 2^63 on are those of a negative number.
abbrev pub is_minus : Bool → ℕ → Bool
is_minus signed bits = signed && ltb (2 ^ 63 - 1) bits

-- What bits stand for.
unfoldable pub value_of : Bool → ℕ → ℤ
value_of signed bits = cond (is_minus signed bits) (negsuc (2 ^ 64 - 1 - bits)) (pos bits)

abbrev pub values_of : Bool → List ℕ → List ℤ
values_of signed bits = map (value_of signed) bits

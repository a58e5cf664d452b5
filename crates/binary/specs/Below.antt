-- One 64-bit word an element, 1 or 0 by one end: what the loops do.
use Rattle.std.specs.Prelude.{ℕ, ◌+◌, ◌*◌, ◌/◌, Bool, ltb}
use mir.Val.{bool_byte}

-- 1 for a word below an end, else 0.
unfoldable pub one_below : ℕ → ℕ → ℕ
one_below end w = bool_byte (ltb w end)

-- An end with its last bit given apart.
abbrev pub end_of : ℕ → Bool → ℕ
end_of below odd = below / 2 * 2 + bool_byte odd

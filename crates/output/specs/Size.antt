-- How large an element is.
use Rattle.std.specs.Prelude.{◌≤◌}
use Rattle.std.specs.Mem.{type_size}
use denote.RattleType.{RattleType}

-- A value of the type takes eight bytes at most.
abbrev pub AtMostWord : RattleType → Type 0
AtMostWord R = type_size R ≤ 8

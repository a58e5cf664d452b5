-- 02 [5], "A printed table of trits": the table, how the constant keeps it, and where it says that the trits of a byte stand in a table of pairs.
use Rattle.std.specs.Prelude.{ℕ, zero, suc, ◌+◌, ◌*◌, ◌/◌, ◌%◌, ◌^◌, ◌<◌, ◌≡◌, cond, List, [], ◌∷◌, map, ltb, length, get_or}
use Rattle.distr.specs.Packed.{digits}
use Rattle.packed.specs.declared.trits.Places.{Places}
use Rattle.packed.specs.declared.trits.TritsBy.{TritsBy}
use Rattle.packed.specs.declared.trits.TritsBy.TheVariants.{Table, Division}

-- So many numbers, from one on.
unfoldable pub count_up : ℕ → ℕ → List ℕ
count_up from zero = []
count_up from (suc count) = from ∷ count_up (suc from) count

-- "One line for each byte from 0 to 242, its five digits lowest first": "243 groups of five digits, 1,215 numbers".
unfoldable pub trit_table : List (List ℕ)
trit_table = map (digits 3 5) (count_up 0 243)

-- The number in which the constant table keeps a group of five digits, each by its weight.
abbrev pub kept : List ℕ → ℕ
kept group = get_or group 0 0 * 2 + get_or group 1 0 * 6 + get_or group 2 0 * 512 + get_or group 3 0 * 1536 + get_or group 4 0 * 131072

-- The constant table.
unfoldable pub kept_table : List ℕ
kept_table = map kept trit_table

-- Where a group says that its trits stand in a table of pairs: in its lowest byte the first two, in the next the second two, above them the last.
abbrev pub group_places : ℕ → Places
group_places group = record { first = group % 256; second = group / 256 % 256; last = group / 65536 }

-- The five digits that stand there, lowest first: a pair stands at twice the number below 9 that its two digits make.
abbrev pub digits_at : Places → List ℕ
digits_at places = places.first / 2 % 3 ∷ places.first / 2 / 3 ∷ places.second / 2 % 3 ∷ places.second / 2 / 3 ∷ places.last / 2 ∷ []

-- "Its rule, that each entry is the matching base-3 digit of its byte": of 243 groups, entry k of the group of a byte is digit k of that byte.
pub record TableRule (table : List ℕ) : Type 0 where
  pub groups : length table ≡ 243
  pub entries : (byte k : ℕ) → byte < 243 → k < 5 → get_or (digits_at (group_places (get_or table byte 0))) k 0 ≡ byte / 3 ^ k % 3

-- Where they stand by division. The pair of two trits is the pair of the number below 9 that they are the digits of, and the last trit is the low one of a pair.
abbrev pub divided_places : ℕ → Places
divided_places byte = record { first = byte % 9 * 2; second = byte / 9 % 9 * 2; last = byte / 81 * 2 }

-- Either way. A byte that is skipped takes the group of the byte 0.
unfoldable pub places_by : TritsBy → List ℕ → ℕ → Places
places_by Table table byte = group_places (get_or table (cond (ltb byte 243) byte 0) 0)
places_by Division table byte = divided_places byte

-- The search of a cumulative table by the ends of its intervals, and its guide by the highest eight bits of a word.
use Rattle.std.specs.Prelude.{cond, List, [], ◌∷◌, ℕ, zero, suc, ◌+◌, ◌*◌, ◌/◌, ◌%◌, ◌^◌, leb, ltb, eqb, length, get_or, take, drop}
use Rattle.cdt.specs.declared.index.Sampled.{Sampled}

-- The ends of the intervals of a table for magnitudes up to M: the bounds of 1 to M.
abbrev pub interval_ends : ℕ → List ℕ → List ℕ
interval_ends M bounds = take M (drop 1 bounds)

-- The first place whose end is above a word, from a place on; where there is none, the place after the last.
unfoldable pub climbed : List ℕ → ℕ → ℕ → ℕ
climbed [] word place = place
climbed (end ∷ ends) word place = cond (ltb word end) place (climbed ends word (suc place))

-- An entry of the guide: the place of the smallest word with those bits, sought from the entry before it on.
unfoldable pub guide_at : List ℕ → ℕ → ℕ
guide_at ends zero = climbed ends 0 0
guide_at ends (suc k) = climbed (drop (guide_at ends k) ends) (suc k * 2 ^ 56) (guide_at ends k)

-- Where the search goes on after a first comparison, which is made among 64 ends and more: one further where that end is not above the word.
abbrev pub first_step : List ℕ → ℕ → ℕ → ℕ
first_step ends word place =
    cond (ltb (length ends) 64) place (cond (leb (length ends) place) place (cond (leb (get_or ends place 0) word) (place + 1) place))

-- The coefficient of a word, its place sought from the guide's entry on: "an odd word is positive".
abbrev pub sampled_by : List ℕ → List ℕ → ℕ → Sampled
sampled_by ends guide word =
    let start = get_or guide (word / 2 ^ 56) 0 in
    record { positive = eqb (word % 2) 1; magnitude = climbed (drop start ends) word start }

-- "What a call hands back": the answer of a draw beside its output, and (02 [1]) the sums of what it skipped beside the place.
use Rattle.std.specs.Prelude.{ℕ, ◌-◌, ◌^◌, min, cond, eqb}
use Rattle.distr.specs.declared.answer.Answer.{Answer}
use Rattle.distr.specs.Skipped.{Skipped, nothing}

-- "Success is number 0 and the new place", and the sums; 02 [6]: "index 0 accompanies every other number".
abbrev pub success_after : ℕ → Skipped → Answer
success_after place s = record { number = 0; place = place; index = 0; skipped_words = s.words; skipped_bytes = s.bytes }

-- A success that skipped nothing.
abbrev pub success : ℕ → Answer
success place = success_after place nothing

-- A refusal: its number, and the place as it was ("all but 23 change neither place nor output"; "23 keeps the place"); 02 [1]: "a refused
-- call reports zeros"; 02 [6]: 30, 31 and 32 come "each together with the first index that is wrong".
abbrev pub refusal_at : ℕ → ℕ → ℕ → Answer
refusal_at number place index = record { number = number; place = place; index = index; skipped_words = 0; skipped_bytes = 0 }

-- 02 [6]: "index 0 accompanies every other number".
abbrev pub refusal : ℕ → ℕ → Answer
refusal number place = refusal_at number place 0

-- 02 [1]: a draw "hands both sums back beside the place".
abbrev pub sums : Answer → Skipped
sums answer = record { words = answer.skipped_words; bytes = answer.skipped_bytes }

-- 02 [1]: "a byte sum above 2^64−1 is given as 2^64−1", and "a refused call reports zeros", 23 included.
unfoldable pub reported : ℕ → Skipped → Skipped
reported number s = cond (eqb number 0) (record { words = s.words; bytes = min s.bytes (2 ^ 64 - 1) }) nothing

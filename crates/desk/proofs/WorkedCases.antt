-- What was worked out by hand is what the definitions give.
use mathlib.Core.Path.{◌≡◌, refl}
use mathlib.Core.List.{map}
use Rattle.distr.specs.Words.{map_read, bind_read, many, word}
use Rattle.distr.specs.Answers.{reported}
use Rattle.distr.specs.Packed.{digits, split}
use Rattle.distr.specs.Distribution.{on_deviation, secret_rule, error_rule, rule, coefficients, skips_of}
use Rattle.distr.specs.Making.{secret_number, error_number, making_number, largest}
use Rattle.distr.specs.Numbers.{first_of, length_number, table_number}
use Rattle.distr.specs.Draw.{settled, judged, signed_draw, encoded_draw}
use Rattle.little_endian.specs.LittleEndian.{u32_at, words_at}
use Rattle.sheet_request.specs.Request.{known_kind, kind_distr, values_draw, question}
use Rattle.desk.specs.Desk.{desk_number, drawn_answer, desk_draw}
use Rattle.desk.specs.Worked.{worked_numbers, worked_answers}

pub worked-numbers : map (λ c. c.given) worked_numbers ≡ map (λ c. c.stated) worked_numbers
unfolding worked_numbers desk_number
worked-numbers = refl

pub worked_answers_lem : map (λ c. c.given) worked_answers ≡ map (λ c. c.stated) worked_answers
unfolding worked_answers desk_draw drawn_answer desk_number question values_draw known_kind kind_distr signed_draw encoded_draw judged settled first_of length_number table_number making_number secret_number error_number largest coefficients on_deviation rule secret_rule error_rule skips_of reported map_read bind_read many word digits split u32_at words_at
worked_answers_lem = refl

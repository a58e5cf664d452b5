-- What was worked out by hand is what the definitions give.
use mathlib.Core.Path.{◌≡◌, refl}
use mathlib.Core.List.{map}
use Rattle.distr.specs.Numbers.{first_of}
use Rattle.distr.specs.SamplePolyCbd.{sum_to, tabulate, cbd_number, polynomial_of, sample_poly_cbd}
use Rattle.poly_cbd.specs.Worked.{worked_coefficients, worked_answers}

pub worked-coefficients : map (λ c. c.given) worked_coefficients ≡ map (λ c. c.stated) worked_coefficients
unfolding worked_coefficients sum_to
worked-coefficients = refl

pub worked_answers_lem : map (λ c. c.given) worked_answers ≡ map (λ c. c.stated) worked_answers
unfolding worked_answers sample_poly_cbd polynomial_of tabulate sum_to cbd_number first_of
worked_answers_lem = refl

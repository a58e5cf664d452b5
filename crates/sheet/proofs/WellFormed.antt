-- What is known of a sheet that is not malformed, and of the fields read from it.
use mathlib.Core.Path.{◌≡◌}
use mathlib.Core.Bool.{true, false, not, ◌||◌}
use mathlib.Core.List.{List}
use Prim.Native.Nat.{ℕ, ◌+◌, ◌*◌, ◌≤◌}
use borrow.Author.Tests.{ltb-false, not-false}
use lib.Dec.{ltb, eqb}
use lib.ListN.{length}
use Rattle.distr.proofs.Reading.{or_false}
use Rattle.distr.specs.Constants.{sheet_bytes, sheet_coefficients, sheet_words}
use Rattle.sheet_request.specs.Request.{known_kind}
use Rattle.sheet.specs.declared.fields.Fields.{Fields}
use Rattle.sheet.specs.Sheet.{fields_of, bad_fields, malformed}

pub record WellFormed (s : List ℕ) (f : Fields) : Type 0 where
  pub long : 32 ≤ length s
  pub known : known_kind f.kind ≡ true
  pub few-coefficients : f.n ≤ sheet_coefficients
  pub few_words : f.count ≤ sheet_words
  pub inside : f.offset + 4 * f.count ≤ length s

pub well_formed : (s : List ℕ) (f : Fields) → f ≡ fields_of s → malformed s ≡ false → WellFormed s f
unfolding malformed bad_fields
well_formed s f read e =
    let size = ltb (length s) 32 || ltb sheet_bytes (length s) in
    let kind = not (known_kind f.kind) in
    let kind-last = kind || not (eqb f.last 0) in
    let coefficients = ltb sheet_coefficients f.n in
    let words = ltb sheet_words f.count in
    let start = ltb f.offset 32 in
    let all = or_false size (kind-last || coefficients || words || start || ltb (length s) (f.offset + 4 * f.count)) (rw (← read) at e) in
    let to_start = or_false (kind-last || coefficients || words || start) (ltb (length s) (f.offset + 4 * f.count)) all.1 in
    let to-words = or_false (kind-last || coefficients || words) start to_start.0 in
    let to-coefficients = or_false (kind-last || coefficients) words to-words.0 in
    let to_last = or_false kind-last coefficients to-coefficients.0 in
    record {
      long = ltb-false (length s) 32 (or_false (ltb (length s) 32) (ltb sheet_bytes (length s)) all.0).0;
      known = not-false (known_kind f.kind) (or_false kind (not (eqb f.last 0)) to_last.0).0;
      few-coefficients = ltb-false sheet_coefficients f.n to_last.1;
      few_words = ltb-false sheet_words f.count to-coefficients.1;
      inside = ltb-false (length s) (f.offset + 4 * f.count) to_start.1;
    }

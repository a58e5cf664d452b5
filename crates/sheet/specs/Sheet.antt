-- "The sheet": eight little-endian u32, then words; when it is malformed, what it draws, and its answer.
use Rattle.std.specs.Prelude.{ℕ, ◌+◌, ◌*◌, Bool, not, cond, ◌||◌, List, [], ◌++◌, map, ltb, eqb, length, replicate, ℤ, pos}
use Rattle.std.proofs.lemmas.List.Edits.{sets}
use Rattle.distr.specs.Constants.{sheet_bytes, sheet_coefficients, sheet_words, invalid_sheet}
use Rattle.distr.specs.Skipped.{Skipped}
use Rattle.distr.specs.Answers.{reported}
use Rattle.distr.specs.Distribution.{skips_of}
use Rattle.distr.specs.Draw.{Outcome, no_tables, signed_at_once, encoded_at_once}
use Rattle.little_endian.specs.LittleEndian.{u32_at, words_at}
use Rattle.sheet_request.specs.Request.{known_kind, kind_distr}
use Rattle.sheet.specs.declared.fields.Fields.{Fields}
use Rattle.sheet.specs.Text.{answer_text, skipped_line, line_if}

-- "Eight little-endian u32": the i-th of them.
abbrev pub field : List ℕ → ℕ → ℕ
field s i = u32_at s (4 * i)

-- "Kind, n, A, B, word count, word offset in bytes, modulus or 0 for signed, 0."
unfoldable pub fields_of : List ℕ → Fields
fields_of s = record {
  kind = field s 0;
  n = field s 1;
  a = field s 2;
  b = field s 3;
  count = field s 4;
  offset = field s 5;
  modulus = field s 6;
  last = field s 7;
}

-- The sheet's words.
abbrev pub words_of : List ℕ → List ℕ
words_of s = words_at s (fields_of s).offset (fields_of s).count

-- "Kind or last field wrong, n over 4,096, over 8,192 words, words starting before 32 or ending past the file."
unfoldable pub bad_fields : Fields → ℕ → Bool
bad_fields f size =
    not (known_kind f.kind)
    || not (eqb f.last 0)
    || ltb sheet_coefficients f.n
    || ltb sheet_words f.count
    || ltb f.offset 32
    || ltb size (f.offset + 4 * f.count)

-- 14: "file under 32 or over 65,536 bytes", or its fields bad.
unfoldable pub malformed : List ℕ → Bool
malformed s = ltb (length s) 32 || ltb sheet_bytes (length s) || bad_fields (fields_of s) (length s)

-- Residues as coefficients.
abbrev pub residues : Outcome ℕ → Outcome ℤ
residues o = record { number = o.number; place = o.place; index = o.index; output = map pos o.output }

-- The draw that a sheet's fields ask for, on its words: the numbers of making come first, then those of the draw; "modulus or 0 for signed".
-- "Kind 9 with a modulus draws as CRT of one", as every encoded centered binomial does.
unfoldable pub fields_draw : Fields → List ℕ → Outcome ℤ
fields_draw f words =
    let d = kind_distr f.kind f.a f.b in
    cond (eqb f.modulus 0) (signed_at_once d words 0 (replicate f.n (pos 0)))
    (residues (encoded_at_once d f.modulus words 0 (replicate f.n 0)))

-- The answer of fields that are good: the draw's number, the words used, n, and the coefficients.
abbrev pub fields_text : Fields → List ℕ → List ℕ
fields_text f words =
    let o = fields_draw f words in
    answer_text o.number o.place f.n o.output

-- The whole answer of a sheet.
unfoldable pub sheet_text : List ℕ → List ℕ
sheet_text s = cond (malformed s) (answer_text invalid_sheet 0 0 []) (fields_text (fields_of s) (words_of s))

-- 02 [1]: what that draw reports of the words and bytes skipped ("a refused call reports zeros").
unfoldable pub fields_skipped : Fields → List ℕ → Skipped
fields_skipped f words = reported (fields_draw f words).number (skips_of (kind_distr f.kind f.a f.b) f.n no_tables words)

-- The third line, with 02 [1]'s sums, of fields that are good: of a success alone, since "a refusal prints number, 0, 0 alone".
abbrev pub fields_third : Fields → List ℕ → List ℕ
fields_third f words = line_if (eqb (fields_draw f words).number 0) (skipped_line (fields_skipped f words))

-- The third line of a sheet; number 14 is a refusal too.
unfoldable pub sheet_third : List ℕ → List ℕ
sheet_third s = cond (malformed s) [] (fields_third (fields_of s) (words_of s))

-- The whole answer with the third line.
abbrev pub sheet_text_with_skipped : List ℕ → List ℕ
sheet_text_with_skipped s = sheet_text s ++ sheet_third s

-- The answers of fields and of a sheet, with the third line where it is wanted.
abbrev pub fields_text_as : Bool → Fields → List ℕ → List ℕ
fields_text_as wanted f words = fields_text f words ++ line_if wanted (fields_third f words)

abbrev pub sheet_text_as : Bool → List ℕ → List ℕ
sheet_text_as wanted s = sheet_text s ++ line_if wanted (sheet_third s)

-- Bytes that hold every answer.
abbrev pub text_limit : ℕ
text_limit = 98304

-- A text that is shorter is left as it is and answered with 0; else the answer stands at its start, and the number of its bytes is handed back.
unfoldable pub answered : List ℕ → List ℕ → ℕ × List ℕ
answered s text = cond (ltb (length text) text_limit) (0, text) (length (sheet_text s), sets text 0 (sheet_text s))

-- The same of an answer with the third line.
unfoldable pub answered_with_skipped : List ℕ → List ℕ → ℕ × List ℕ
answered_with_skipped s text =
    cond (ltb (length text) text_limit) (0, text) (length (sheet_text_with_skipped s), sets text 0 (sheet_text_with_skipped s))

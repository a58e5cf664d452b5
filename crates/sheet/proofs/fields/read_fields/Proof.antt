-- `fields::read_fields` reads the eight fields of the definition, which are the first eight words.
use mathlib.Core.Path.{refl}
use borrow.Author.Rules.{rules}
use lib.ListN.{replicate}
use Rattle.little_endian.specs.LittleEndian.{words_at}
use Rattle.little_endian.proofs.Reading.{part_read}
use Rattle.sheet.specs.Sheet.{fields_of}
use Rattle.sheet.proofs.Answers.{prefix_length}
use Rattle.sheet.proofs.fields.read_fields.Statement.{statement}
use Rattle.sheet.proofs.fields.read_fields.Tie as tie

returns : tie.Need-returns
unfolding fields_of words_at
returns c =
    let read = c.read_words in
    rw (part_read c.args.sheet.now 0 8 c.requires (replicate 8 0) read.new.words refl read.ensures)

pub read_fields_spec : {M : Type 1} → statement M
read_fields_spec =
    tie.close
    (tie.spec (λ c. search rules) (λ c. prefix_length 32 c.args.sheet.now c.requires)
    (λ c κs. search rules) (λ c. search rules) (λ c. search rules) (λ c. search rules) (λ c. search rules) (λ c. search rules) (λ c. search rules)
    (λ c. search rules) (λ c. search rules) returns)

-- `answer_well_formed` writes the answer of the sheet's fields on its words, and the third line where it is wanted.
use mathlib.Core.Path.{◌≡◌, refl, sym}
use native.Mathlib.Omega.{arith}
use borrow.Author.Rules.{rules}
use lib.ListN.{length, take}
use Rattle.little_endian.proofs.Reading.{part_read}
use Rattle.sheet.proofs.Placing.{written_same}
use Rattle.sheet.proofs.WellFormed.{WellFormed, well_formed}
use Rattle.sheet.proofs.Answers.{prefix_length, sheet_text_lem}
use Rattle.sheet.proofs.answer_well_formed.Statement.{statement}
use Rattle.sheet.proofs.answer_well_formed.Tie as tie

good : (c : tie.After-read_fields-f) → WellFormed c.args.sheet.now c.read_fields-f.result
good c = well_formed _ c.read_fields-f.result c.read_fields-f.ensures c.requires.1

-- the words are as many as the fields say
sized : (c : tie.After-words_room-room) → let n = c.before.before.before.read_fields-f.result.count in n ≡ length (take n c.words_room-room.result)
sized c =
    let fields = c.before.before.before in
    prefix_length fields.read_fields-f.result.count c.words_room-room.result (omega (arith, (good fields).few_words, c.words_room-room.ensures))

reply-requires : tie.Need-reply-requires
reply-requires c κs =
    let fields = c.before.before.before.before.before.before.before.before.before.before in
    (c.requires.0, (good fields).few-coefficients, (good fields).known)

returns : tie.Need-returns
returns c =
    let sheet = c.args.sheet.now in
    let f = c.read_fields-f.result in
    written_same
    (sheet_text_lem c.args.skipped sheet f _ c.read_fields-f.ensures c.requires.1
    (part_read sheet f.offset f.count (good c.before.before.before.before.before.before.before.before.before.before.before.before.before.before).inside (take f.count c.words_room-room.result) _ (sym (sized c.before.before.before.before.before.before.before.before.before.before.before)) c.read_words.ensures))
    c.reply.ensures

pub answer_well_formed_spec : {M : Type 1} → statement M
answer_well_formed_spec =
    tie.close
    (tie.spec (λ c κs. (well_formed _ _ refl c.before.before.requires.1).long) (λ c. search rules) (λ c. search rules) (λ c κs. search rules)
    (λ c. omega (arith, (good c.before.before.before).few_words, c.words_room-room.ensures)) (λ c. sized c.before) (λ c. search rules)
    (λ c. search rules) (λ c. search rules) (λ c. search rules) (λ c. omega (arith, (good c.before.before.before.before.before).inside))
    (λ c κs. search rules) reply-requires (λ c. search rules) returns)

-- `answer_as` writes the text of the definition: a refusal for a malformed sheet, else the answer of its fields on its words.
use Rattle.std.proofs.Common.{sym, ◌∙◌}
use Rattle.sheet.proofs.Placing.{written_same}
use Rattle.sheet.proofs.Answers.{answered_long, answered-short, malformed-text}
use Rattle.sheet.proofs.answer_as.Goals as goal

pub returns-then-text-lt-TEXT_LIMIT : goal.returns-then-text-lt-TEXT_LIMIT
returns-then-text-lt-TEXT_LIMIT c =
    let a = c.args in
    let both = answered-short a.skipped a.sheet.now a.text.now c.if-text-lt-TEXT_LIMIT.true in
    record { text_after = both.0; upper_bound = both.1.0; value = both.1.1 }

pub returns-then-is_malformed : goal.returns-then-is_malformed
returns-then-is_malformed c =
    let a = c.args in
    let bad = sym c.is_malformed.ensures ∙ c.if-is_malformed.true in
    let both = answered_long a.skipped a.sheet.now a.text.now _ _ c.if-text-lt-TEXT_LIMIT.false
    (written_same (malformed-text a.skipped a.sheet.now bad) (rw c.number.ensures at c.write_refusal.ensures)) in
    record { text_after = both.0; upper_bound = both.1.0; value = both.1.1 }

pub answer_well_formed-requires : goal.answer_well_formed-requires
answer_well_formed-requires c = (c.if-text-lt-TEXT_LIMIT.false, sym c.is_malformed.ensures ∙ c.if-is_malformed.false)

pub returns : goal.returns
returns c =
    let a = c.args in
    let both = answered_long a.skipped a.sheet.now a.text.now _ _ c.if-text-lt-TEXT_LIMIT.false c.answer_well_formed.ensures in
    record { text_after = both.0; upper_bound = both.1.0; value = both.1.1 }

-- The report over what was read of a good text is not refused.
use Rattle.std.proofs.Common.{◌∙◌, ap, rules}
use Rattle.std.proofs.lemmas.List.{length-take-le}
use Rattle.residue_report.proofs.Accepting.{report_accepted}
use Rattle.residue_report.proofs.answer.Goals as goal

pub prove-unreachable-requires : goal.prove-unreachable-requires
prove-unreachable-requires g c =
    let read = c.read_input-input in
    c.if-prove.true
    (ap (λ r. r.0.number) c.residue_report-report.ensures ∙ report_accepted _ _ _ read.result read.new.limits read.new.residues _ read.ensures.residues_after (search rules) c.if-input-ne0.false read.ensures.limit_count_in_bounds (length-take-le _ _ (search rules)))

-- One test that is computed over all of the table.
use Rattle.std.proofs.Common.{refl}
use Rattle.distr.specs.Packed.{digits}
use Rattle.packed.specs.TritTable.{count_up, trit_table, kept_table}
use Rattle.packed.proofs.TritTable.{table-rule}
use Rattle.packed.proofs.trits.trit_table.Goals as goal

pub returns-clause-value : goal.returns-clause-value
unfolding count_up digits trit_table kept_table
returns-clause-value c = refl

pub returns-clause-table_rule : goal.returns-clause-table_rule
unfolding count_up digits trit_table kept_table
returns-clause-table_rule c = table-rule

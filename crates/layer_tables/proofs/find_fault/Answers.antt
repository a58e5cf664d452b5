use Rattle.layer_tables.proofs.Faults.{endpoint_fault, height_fault, value_fault}
use Rattle.layer_tables.proofs.find_fault.Goals as goal

pub returns-in-Some : goal.returns-in-Some
returns-in-Some c = search endpoint_fault

pub returns-in-Some-first_wrong_height : goal.returns-in-Some-first_wrong_height
returns-in-Some-first_wrong_height c = search height_fault

pub returns-in-Some-first_wrong_value : goal.returns-in-Some-first_wrong_value
returns-in-Some-first_wrong_value c = search value_fault

use Rattle.tora_height.proofs.Ranges.{no_fault_is_height, height_has_no_fault}
use Rattle.tora_height.proofs.ranges_are_tested.Goals as goal

pub returns-clause-accepted : goal.returns-clause-accepted
returns-clause-accepted c = height_has_no_fault

pub returns-clause-refused : goal.returns-clause-refused
returns-clause-refused c = no_fault_is_height

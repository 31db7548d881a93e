use Rattle.tora_core.proofs.RowChanges.{cleared-number, cleared-mark, clear-entry, same-up, same-told}
use Rattle.tora_core.specs.View.{cleared_row}
use Rattle.tora_core.proofs.changes.all_are_cleared.Goals as goal

pub returns-clause-up : goal.returns-clause-up
returns-clause-up c = λ v d k level. same-up (cleared_row d level) (cleared-number d level) v k

pub returns-clause-entry : goal.returns-clause-entry
returns-clause-entry c = clear-entry

pub returns-clause-told : goal.returns-clause-told
returns-clause-told c = λ v d k level. same-told (cleared_row d level) (cleared-number d level) (cleared-mark d level) v k

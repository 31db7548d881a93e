use Rattle.tora_core.proofs.RowChanges.{untold-number, untold-entry, untell-told, same-up, same-entry}
use Rattle.tora_core.specs.View.{untold_row}
use Rattle.tora_core.proofs.changes.marks_are_withdrawn.Goals as goal

pub returns-clause-up : goal.returns-clause-up
returns-clause-up c = λ v j k. same-up (untold_row j) (untold-number j) v k

pub returns-clause-entry : goal.returns-clause-entry
returns-clause-entry c = λ v j k h. same-entry (untold_row j) (untold-number j) (untold-entry j) v k h

pub returns-clause-told : goal.returns-clause-told
returns-clause-told c = untell-told

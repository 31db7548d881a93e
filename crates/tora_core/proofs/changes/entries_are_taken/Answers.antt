use Rattle.tora_core.proofs.RowChanges.{entry-number, entry-mark, same-up, same-told, take-entry}
use Rattle.tora_core.specs.View.{row_with_entry}
use Rattle.tora_core.proofs.changes.entries_are_taken.Goals as goal

pub returns-clause-up : goal.returns-clause-up
returns-clause-up c = λ v j k g. same-up (row_with_entry j g) (entry-number j g) v k

pub returns-clause-entry : goal.returns-clause-entry
returns-clause-entry c = take-entry

pub returns-clause-told : goal.returns-clause-told
returns-clause-told c = λ v j k g. same-told (row_with_entry j g) (entry-number j g) (entry-mark j g) v k

use Rattle.tora_core.proofs.RowChanges.{withdrawn-number, withdrawn-mark, withdraw-entry, same-up, same-told}
use Rattle.tora_core.specs.View.{withdrawn_row}
use Rattle.tora_core.proofs.changes.entries_are_withdrawn.Goals as goal

pub returns-clause-up : goal.returns-clause-up
returns-clause-up c = λ v d j k. same-up (withdrawn_row d j) (withdrawn-number d j) v k

pub returns-clause-entry : goal.returns-clause-entry
returns-clause-entry c = withdraw-entry

pub returns-clause-told : goal.returns-clause-told
returns-clause-told c = λ v d j k. same-told (withdrawn_row d j) (withdrawn-number d j) (withdrawn-mark d j) v k

use Rattle.tora_core.proofs.RowChanges.{erased-number, erased-mark, erase-entry, same-up, same-told}
use Rattle.tora_core.specs.View.{erased_row}
use Rattle.tora_core.proofs.changes.all_are_erased.Goals as goal

pub returns-clause-up : goal.returns-clause-up
returns-clause-up c = λ v d k. same-up (erased_row d) (erased-number d) v k

pub returns-clause-entry : goal.returns-clause-entry
returns-clause-entry c = erase-entry

pub returns-clause-told : goal.returns-clause-told
returns-clause-told c = λ v d k. same-told (erased_row d) (erased-number d) (erased-mark d) v k

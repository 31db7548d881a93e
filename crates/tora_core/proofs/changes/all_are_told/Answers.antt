use Rattle.tora_core.proofs.RowChanges.{same-up, same-entry, told-told}
use Rattle.std.proofs.Common.{refl}
use Rattle.tora_core.specs.View.{told_row}
use Rattle.tora_core.proofs.changes.all_are_told.Goals as goal

pub returns-clause-up : goal.returns-clause-up
returns-clause-up c = λ v k. same-up told_row (λ row. refl) v k

pub returns-clause-entry : goal.returns-clause-entry
returns-clause-entry c = λ v k h. same-entry told_row (λ row. refl) (λ row. refl) v k h

pub returns-clause-told : goal.returns-clause-told
returns-clause-told c = told-told

use Rattle.tora_core.proofs.RowChanges.{come-up, come-entry, come-told}
use Rattle.tora_core.proofs.changes.rows_come.Goals as goal

pub returns-clause-up : goal.returns-clause-up
returns-clause-up c = come-up

pub returns-clause-entry : goal.returns-clause-entry
returns-clause-entry c = come-entry

pub returns-clause-told : goal.returns-clause-told
returns-clause-told c = come-told

use Rattle.tora_core.proofs.RowChanges.{go-up, go-entry, go-told}
use Rattle.tora_core.proofs.changes.rows_go.Goals as goal

pub returns-clause-up : goal.returns-clause-up
returns-clause-up c = go-up

pub returns-clause-entry : goal.returns-clause-entry
returns-clause-entry c = go-entry

pub returns-clause-told : goal.returns-clause-told
returns-clause-told c = go-told

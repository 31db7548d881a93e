use Rattle.tora_core.proofs.Worked.{worked_rows}
use Rattle.tora_core.proofs.relation.worked_rows_hold.Goals as goal

pub returns : goal.returns
returns c = worked_rows

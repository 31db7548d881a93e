use Rattle.tora_core.proofs.RowChanges.{hop-none, level-none, delta-none}
use Rattle.tora_core.proofs.changes.nothing_is_found.Goals as goal

pub returns-clause-next_hop : goal.returns-clause-next_hop
returns-clause-next_hop c = hop-none

pub returns-clause-level : goal.returns-clause-level
returns-clause-level c = level-none

pub returns-clause-delta : goal.returns-clause-delta
returns-clause-delta c = delta-none

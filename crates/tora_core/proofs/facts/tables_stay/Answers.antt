use Rattle.tora_core.proofs.AfterInputs.{same-erasure, same-me, same-neighbours, same-destinations}
use Rattle.tora_core.proofs.facts.tables_stay.Goals as goal

pub returns-clause-node : goal.returns-clause-node
returns-clause-node c = same-me

pub returns-clause-erasure : goal.returns-clause-erasure
returns-clause-erasure c = same-erasure

pub returns-clause-neighbours : goal.returns-clause-neighbours
returns-clause-neighbours c = same-neighbours

pub returns-clause-destinations : goal.returns-clause-destinations
returns-clause-destinations c = same-destinations

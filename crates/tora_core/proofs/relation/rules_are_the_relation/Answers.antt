use Rattle.tora_core.proofs.ReactsOnly.{reacts-only}
use Rattle.tora_core.proofs.ReactsTotal.{reacts-some}
use Rattle.tora_core.proofs.relation.rules_are_the_relation.Goals as goal

pub returns-clause-total : goal.returns-clause-total
returns-clause-total c = reacts-some

pub returns-clause-unique : goal.returns-clause-unique
returns-clause-unique c = reacts-only

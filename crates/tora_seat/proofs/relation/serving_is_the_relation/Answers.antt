use Rattle.tora_seat.proofs.RelationHolds.{relation-holds}
use Rattle.tora_seat.proofs.RelationLeads.{relation-only}
use Rattle.tora_seat.proofs.relation.serving_is_the_relation.Goals as goal

pub returns-clause-found : goal.returns-clause-found
returns-clause-found c = relation-holds

pub returns-clause-only : goal.returns-clause-only
returns-clause-only c = relation-only

use Rattle.tora_core.proofs.AfterInputs.{has-with, has-without, put-ascending, ascending-without}
use Rattle.tora_core.proofs.facts.numbers_come_and_go.Goals as goal

pub returns-clause-put : goal.returns-clause-put
returns-clause-put c = has-with

pub returns-clause-taken : goal.returns-clause-taken
returns-clause-taken c = has-without

pub returns-clause-in_order : goal.returns-clause-in_order
returns-clause-in_order c = put-ascending

pub returns-clause-still_in_order : goal.returns-clause-still_in_order
returns-clause-still_in_order c = ascending-without

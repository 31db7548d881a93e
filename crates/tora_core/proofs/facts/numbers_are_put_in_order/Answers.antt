use Rattle.tora_core.proofs.AfterInputs.{has-ascending}
use Rattle.tora_core.proofs.NumberLemmas.{length-ascending, ascending-ascending}
use Rattle.tora_core.proofs.facts.numbers_are_put_in_order.Goals as goal

pub returns-clause-members : goal.returns-clause-members
returns-clause-members c = has-ascending

pub returns-clause-count : goal.returns-clause-count
returns-clause-count c = length-ascending

pub returns-clause-order : goal.returns-clause-order
returns-clause-order c = ascending-ascending

use Rattle.tora_core.proofs.AfterInputs.{part-has, part-ascending}
use Rattle.tora_core.proofs.facts.up_links_are_of_neighbours.Goals as goal

pub returns-clause-neighbours : goal.returns-clause-neighbours
returns-clause-neighbours c = λ core k is. part-has k core.up core.neighbours is.up

pub returns-clause-ascending : goal.returns-clause-ascending
returns-clause-ascending c = λ core is. part-ascending core.up core.neighbours is.up is.ascending_neighbours

use Rattle.tora_core.proofs.AfterInputs.{accepted-up, free-down, accepted-down, free-packet, accepted-packet, free-need, accepted-need}
use Rattle.tora_core.proofs.CoreLemmas.{free-up}
use Rattle.tora_core.proofs.facts.inputs_are_accepted.Goals as goal

pub returns-clause-link_up : goal.returns-clause-link_up
returns-clause-link_up c = λ core k. (free-up core k, λ is. accepted-up core k is.0 is.1)

pub returns-clause-link_down : goal.returns-clause-link_down
returns-clause-link_down c = λ core k. (free-down core k, λ is. accepted-down core k is.0 is.1)

pub returns-clause-packet : goal.returns-clause-packet
returns-clause-packet c = λ core k packet. (free-packet core k packet, λ is. accepted-packet core k packet is.0 is.1 is.2)

pub returns-clause-need : goal.returns-clause-need
returns-clause-need c = λ core d. (free-need core d, accepted-need core d)

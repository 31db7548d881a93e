use Rattle.tora_core.proofs.AfterInputs.{link-comes, link-goes, others-at-up, others-at-down, up-at-packet, up-at-need}
use Rattle.tora_core.proofs.facts.links_follow_inputs.Goals as goal

pub returns-clause-comes : goal.returns-clause-comes
returns-clause-comes c = link-comes

pub returns-clause-goes : goal.returns-clause-goes
returns-clause-goes c = link-goes

pub returns-clause-others_at_up : goal.returns-clause-others_at_up
returns-clause-others_at_up c = others-at-up

pub returns-clause-others_at_down : goal.returns-clause-others_at_down
returns-clause-others_at_down c = others-at-down

pub returns-clause-at_packet : goal.returns-clause-at_packet
returns-clause-at_packet c = up-at-packet

pub returns-clause-at_need : goal.returns-clause-at_need
returns-clause-at_need c = up-at-need

use Rattle.tora_sim.proofs.links.LinkParts.receive_and_look.Goals as goal

pub returns-clause-state : goal.returns-clause-state
returns-clause-state c = c.receive.ensures.state c.if-not-receive.false

pub returns-clause-idle : goal.returns-clause-idle
returns-clause-idle c = c.deadline.ensures

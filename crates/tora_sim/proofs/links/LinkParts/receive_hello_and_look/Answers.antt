use Rattle.tora_sim.proofs.links.LinkParts.receive_hello_and_look.Goals as goal

pub returns-clause-state : goal.returns-clause-state
returns-clause-state c = c.receive_hello.ensures.state c.if-not-receive_hello.false

pub returns-clause-idle : goal.returns-clause-idle
returns-clause-idle c = c.deadline.ensures

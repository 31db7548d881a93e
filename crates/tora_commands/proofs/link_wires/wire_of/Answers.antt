use Rattle.tora_commands.proofs.link_wires.wire_of.Goals as goal

pub returns-in-Ok-clause-wire : goal.returns-in-Ok-clause-wire
returns-in-Ok-clause-wire g c = (c.in-Ok.wire, c.new-wire.ensures, c.in-Ok.ensures.remote, c.in-Ok.ensures.failures)

use Rattle.tora_script.proofs.Starting.{numbers_of}
use Rattle.tora_script.proofs.world_simulator.mixed_topology.Goals as goal

pub with_limits-requires : goal.with_limits-requires
with_limits-requires c = numbers_of c.args.links.now c.args.dests.now c.requires.links c.requires.dests

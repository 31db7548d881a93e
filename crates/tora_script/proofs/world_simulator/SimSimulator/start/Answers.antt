use Rattle.std.proofs.Common.{◌∙◌, ap}
use Rattle.tora_world.specs.World.{first_world}
use Rattle.tora_sim.specs.Store.{world_of}
use Rattle.tora_script.proofs.Starting.{started_as}
use Rattle.tora_script.proofs.world_simulator.SimSimulator.start.Goals as goal

pub returns-in-Ok : goal.returns-in-Ok
returns-in-Ok c = started_as c.args.options c.args.links.now c.args.dests.now c.args.marks.now c.args.times (world_of c.in-Ok.sim) c.in_ok-topology.ensures.sound
    (c.in-Ok.ensures.made ∙ ap (λ t. first_world t c.args.times) c.in_ok-topology.ensures.made)

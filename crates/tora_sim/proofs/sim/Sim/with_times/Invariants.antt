use Rattle.std.proofs.Common.{take}
use Rattle.tora_sim.specs.Firsts.{AreMade}
use Rattle.tora_sim.proofs.sim.Sim.with_times.Given as goal

-- the nodes so far, with their link ends
abbrev pub invariant-loop-n : goal.invariant-loop-n
invariant-loop-n l = AreMade l.topology l.times (take l.n-index l.n-items) l.nodes.items l.links.items

use Rattle.std.proofs.Common.{◌≡◌, take}
use Rattle.std.specs.List.{flat_map}
use Rattle.tora_sim.specs.Readers.{ends_at}
use Rattle.tora_sim.proofs.sim.Sim.ends.Given as goal

-- the ends of the nodes so far
abbrev pub invariant-loop-n : goal.invariant-loop-n
invariant-loop-n l = l.ends.items ≡ flat_map (ends_at l.self.topology) (take l.n-index l.n-items)

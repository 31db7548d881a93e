use Rattle.std.proofs.Common.{◌≡◌, ◌-◌, ◌++◌}
use Rattle.std.specs.Prelude.{option_map}
use Rattle.tora_world.specs.Walks.{walk_within}
use Rattle.tora_sim.specs.Store.{world_of}
use Rattle.tora_sim.proofs.sim.Sim.walk_within.Given as goal

-- the nodes so far, followed by the walk from here with the remaining hops, are the whole walk
abbrev pub invariant-loop : goal.invariant-loop
invariant-loop l = option_map (λ after. l.nodes.items ++ after) (walk_within (l.fn.hops - l.counter) (world_of l.fn.self) l.at l.fn.d) ≡ walk_within l.fn.hops (world_of l.fn.self) l.fn.n l.fn.d

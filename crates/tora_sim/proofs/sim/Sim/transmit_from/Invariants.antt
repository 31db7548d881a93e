use Rattle.std.proofs.Common.{◌-◌}
use Rattle.tora_world.specs.declared.event.Event.TheVariants.{Transmit}
use Rattle.tora_sim.specs.Keyed.{IsFirst}
use Rattle.tora_sim.specs.Links.{is_at}
use Rattle.tora_sim.specs.Nodes.{is_of}
use Rattle.tora_sim.specs.Store.{world_of}
use Rattle.tora_sim.specs.Steps.{repeats}
use Rattle.tora_sim.proofs.Sendings.{Onward}
use Rattle.tora_sim.proofs.sim.Sim.transmit_from.Given as goal

abbrev pub invariant-loop : goal.invariant-loop
invariant-loop l = record {
  sent : Onward (world_of l.fn.self) (repeats l.most (Transmit l.n l.k) (world_of l.fn.self)) (world_of l.self) l.some (repeats (l.most - l.counter) (Transmit l.n l.k) (world_of l.self));
  end : IsFirst (is_at l.n l.k) l.self.links l.at;
  node : IsFirst (is_of l.n) l.self.nodes l.home;
}

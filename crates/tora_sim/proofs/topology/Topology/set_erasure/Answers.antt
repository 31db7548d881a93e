use Rattle.tora_sim.proofs.topology.Topology.set_erasure.Goals as goal

-- the invariant of the links does not mention choices
pub invariant_of-self : goal.invariant_of-self
invariant_of-self c = record {
  numbers = record { links = c.self.invariant.numbers.links; destinations = c.self.invariant.numbers.destinations };
  sound = c.self.invariant.sound;
  old_nodes = c.self.invariant.old_nodes;
}

use Rattle.tora_sim.proofs.sim.Sim.settle.Goals as goal

pub look_at_ends-requires : goal.look_at_ends-requires
look_at_ends-requires c = c.self.invariant.1

pub invariant_of-self : goal.invariant_of-self
invariant_of-self c = (c.self.invariant.0, c.look_at_ends.ensures, c.self.invariant.2)

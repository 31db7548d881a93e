use Rattle.std.proofs.Common.{◌≡◌, length, None, sym, ap, ◌∙◌, arith}
use Rattle.tora_world.specs.Topology.{nodes_in, topology_fault_within}
use Rattle.tora_sim.specs.Topologies.{topology_of}
use Rattle.tora_sim.proofs.Olds.{all_others}
use Rattle.tora_world.proofs.SoundTopology.{sound, within-all}
use Rattle.tora_sim.proofs.topology.Topology.with_limits.Goals as goal

pub invariant_of-result : goal.invariant_of-result
invariant_of-result c =
    let t = topology_of c.args.links.now c.args.destinations.now in
    let none : topology_fault_within c.args.limits t ≡ None = sym c.topology_fault_within.ensures ∙ c.in_default.is in
    rw (c.in-Ok.ensures.items, c.in-Ok-from_slice.ensures.items, c.new.ensures, c.new-2.ensures.items) (record {
      numbers = c.requires;
      sound = within-all t c.args.limits none;
      old_nodes = omega (arith, ap length (all_others (nodes_in t.links)), (sound t (c.args.limits, none)).nodes);
    })

use Rattle.std.proofs.Common.{◌≤◌, ◌∙◌, ℕ, List, length, ap, sym, subst}
use Rattle.tora_core.specs.Numbers.{ascending}
use Rattle.tora_world.specs.Topology.{Topology, other_ends, greatest_limits}
use Rattle.tora_sim.specs.Topologies.{topology_of, links_in}
use Rattle.tora_world.proofs.SoundTopology.{sound, few-ends}
use Rattle.tora_sim.proofs.topology.Topology.neighbours.Goals as goal

pub neighbours_of-requires : goal.neighbours_of-requires
neighbours_of-requires c =
    let s = c.self.inside in
    let few : length (other_ends c.args.n (links_in s.links.items)) ≤ 255 =
    few-ends (topology_of s.links.items s.destinations.items) (sound (topology_of s.links.items s.destinations.items) (greatest_limits, c.self.invariant.sound)) c.args.n in
    subst (λ (links : List (ℕ × ℕ)). length (other_ends c.args.n (links_in links)) ≤ 255) (sym c.deref.ensures.value) few

pub returns-clause-items : goal.returns-clause-items
returns-clause-items c =
    c.neighbours_of.ensures
    ∙ ap (λ (links : List (ℕ × ℕ)). ascending (other_ends c.args.n (links_in links))) c.deref.ensures.value
    ∙ ap (λ (t : Topology). ascending (other_ends c.args.n t.links)) c.self.view_is

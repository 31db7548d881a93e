use Rattle.std.proofs.Common.{◌≡◌, ℕ, ◌<◌, ◌≤◌, List, length, get_or, sym, subst, arith}
use Rattle.std.specs.List.{All}
use Rattle.std.proofs.lemmas.List.{get_or-map, length-map}
use Rattle.tora_world.specs.Topology.{Link}
use Rattle.tora_sim.specs.Topologies.{link_in, links_in}
use Rattle.tora_tests.proofs.tests.simulations.topologies.are_links.Goals as goal

all-links : (links : List (ℕ × ℕ)) (i : ℕ) → length links ≤ i → ((k : ℕ) → k < i → (0 < (get_or links k (0, 0)).0) × (0 < (get_or links k (0, 0)).1))
    → All (λ (link : Link). (0 < link.a) × (0 < link.b)) (links_in links)
all-links links i whole each k d lt =
    let size : length (links_in links) ≡ length links = length-map links link_in in
    let inside : k < length links = omega arith in
    subst (λ (link : Link). (0 < link.a) × (0 < link.b)) (sym (get_or-map link_in links k (0, 0) d inside)) (each k (omega arith))

pub returns : goal.returns
returns c = λ _. all-links c.args.links.now c.loop-link.link-index c.loop-link-test.false c.loop-link.invariant

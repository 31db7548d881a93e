use Rattle.std.proofs.Common.{ℕ, ◌+◌, List, length, drop, get_or, ap, ap₂, sym, ◌∙◌, arith}
use Rattle.tora_core.specs.Numbers.{ascending}
use Rattle.tora_world.specs.Topology.{other_ends}
use Rattle.tora_sim.specs.Topologies.{links_in}
use Rattle.tora_sim.proofs.Sound.{sorted_on, neighbour-put, ends-first, ends-second, ends-neither}
use Rattle.tora_sim.proofs.link_nodes.neighbours_of.Goals as goal
use Rattle.tora_sim.proofs.link_nodes.neighbours_of.Goals.{then-link-n, else-link-n+then-link-n-2, else-link-n+else-link-n-2}

pub loop-link-preserved : goal.loop-link-preserved
loop-link-preserved c =
    let i = c.loop-link.link-index in
    let links = c.args.links.now in
    let acc = c.loop-link.neighbours.items in
    let new = c.if-link-n.neighbours.items in
    let rest : List ℕ = other_ends c.args.n (links_in (drop (c.loop-link.link-index + 1) c.args.links.now)) in
    let whole : List ℕ = other_ends c.args.n (links_in (drop c.loop-link.link-index c.args.links.now)) in
    let all : List ℕ = ascending (other_ends c.args.n (links_in c.args.links.now)) in
    elim c.if-link-n.branch [
      | then-link-n w ↦ (let h = neighbour-put acc new rest whole all (get_or links i (0, 0)).1 (ap (λ v. v.items) w.neighbours-is ∙ w.insert_number.ensures.items)
          (ends-first c.args.n links i (0, 0) c.loop-link-test.true w.if-link-n.true) c.loop-link.invariant.room c.loop-link.invariant.all in
          record { room = h.0; all = h.1 })
      | else-link-n+then-link-n-2 w ↦ (let h = neighbour-put acc new rest whole all (get_or links i (0, 0)).0 (ap (λ v. v.items) w.neighbours-is ∙ w.insert_number-then-link-n-2.ensures.items)
          (ends-second c.args.n links i (0, 0) c.loop-link-test.true w.if-link-n.false w.if-link-n-2.true) c.loop-link.invariant.room c.loop-link.invariant.all in
          record { room = h.0; all = h.1 })
      | else-link-n+else-link-n-2 w ↦ (let same = ap (λ v. v.items) w.neighbours-is in
          let e = ends-neither c.args.n links i (0, 0) c.loop-link-test.true w.if-link-n.false w.if-link-n-2.false in
          let a = ap length same in
          let b = ap length e in
          record { room = omega arith; all = ap₂ sorted_on same (sym e) ∙ c.loop-link.invariant.all })
    ]

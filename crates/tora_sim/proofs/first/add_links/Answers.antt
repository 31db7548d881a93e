use Rattle.std.proofs.Common.{◌≡◌, ◌≢◌, ◌<◌, ℕ, List, length, map, get_or, sym, ap, ◌∙◌, subst}
use Rattle.tora_world.specs.Topology.{version_at, neighbours_of}
use Rattle.tora_sim.specs.Links.{LinkView, key_of}
use Rattle.tora_sim.specs.Store.{EachOf}
use Rattle.tora_sim.specs.Firsts.{IsFirstEnd, IsFirstLink}
use Rattle.tora_sim.proofs.Stores.{each_push}
use Rattle.tora_sim.proofs.Peers.{positive-peer, other-peer}
use Rattle.tora_sim.proofs.FirstLists.{first-link, keys-more}
use Rattle.tora_sim.proofs.first.add_links.Goals as goal

pub new_link-requires-clause-peer : goal.new_link-requires-clause-peer
new_link-requires-clause-peer c =
    let same : c.args.peers.now ≡ neighbours_of c.args.topology.now c.args.n = c.requires.peers in
    let lt : c.loop-seat.seat < length (neighbours_of c.args.topology.now c.args.n) = subst (λ (ns : List ℕ). c.loop-seat.seat < length ns) same c.loop-seat-test.true in
    subst (λ (ns : List ℕ). 0 < get_or ns c.loop-seat.seat 0) (sym same) (positive-peer c.args.topology.now c.requires.kept c.args.n c.loop-seat.seat 0 lt)

pub new_link-requires-clause-other : goal.new_link-requires-clause-other
new_link-requires-clause-other c =
    let same : c.args.peers.now ≡ neighbours_of c.args.topology.now c.args.n = c.requires.peers in
    let lt : c.loop-seat.seat < length (neighbours_of c.args.topology.now c.args.n) = subst (λ (ns : List ℕ). c.loop-seat.seat < length ns) same c.loop-seat-test.true in
    subst (λ (ns : List ℕ). c.args.n ≢ get_or ns c.loop-seat.seat 0) (sym same) (other-peer c.args.topology.now c.requires.kept c.args.n c.loop-seat.seat 0 lt)

pub loop-seat-preserved : goal.loop-seat-preserved
loop-seat-preserved c =
    let peers = c.args.peers.now in
    let same : c.args.peers.now ≡ neighbours_of c.args.topology.now c.args.n = c.requires.peers in
    let lt : c.loop-seat.seat < length (neighbours_of c.args.topology.now c.args.n) = subst (λ (ns : List ℕ). c.loop-seat.seat < length ns) same c.loop-seat-test.true in
    let made : IsFirstEnd (version_at c.args.topology.now c.args.n) c.args.times c.args.n (get_or (neighbours_of c.args.topology.now c.args.n) c.loop-seat.seat 0) c.loop-seat.seat c.in_ok-link.link =
    subst (λ (ns : List ℕ). IsFirstEnd (version_at c.args.topology.now c.args.n) c.args.times c.args.n (get_or ns c.loop-seat.seat 0) c.loop-seat.seat c.in_ok-link.link) same
    (subst (λ v. IsFirstEnd v c.args.times c.args.n (get_or peers c.loop-seat.seat 0) c.loop-seat.seat c.in_ok-link.link) c.version_of-version.ensures c.in_ok-link.ensures) in
    let first = first-link c.numbers_are_put_in_order.ensures.order c.args.topology.now c.args.times c.requires.kept c.args.n c.loop-seat.seat 0 c.in_ok-link.link lt made in
    let old = c.args.links.now.items in
    record {
      keys = ap (map key_of) c.in-Ok.ensures.items ∙ keys-more c.version_of-version.result c.args.times c.args.n peers c.args.links.now.items c.loop-seat.links.items c.loop-seat.seat 0 c.in_ok-link.link c.loop-seat-test.true c.in_ok-link.ensures c.loop-seat.invariant.keys;
      each = λ before.
          subst (λ (xs : List LinkView). EachOf (IsFirstLink c.args.topology.now c.args.times) xs) (sym c.in-Ok.ensures.items)
          (each_push (IsFirstLink c.args.topology.now c.args.times) c.loop-seat.links.items c.in_ok-link.link (c.loop-seat.invariant.each before) first);
    }

use Rattle.std.proofs.Common.{◌≡◌, ◌++◌, map, take}
use Rattle.tora_sim.specs.Store.{EachOf}
use Rattle.tora_sim.specs.Firsts.{IsFirstLink}
use Rattle.tora_sim.specs.Links.{key_of}
use Rattle.tora_sim.proofs.first.add_links.Given as goal

-- the ends towards the peers so far
abbrev pub invariant-loop-seat : goal.invariant-loop-seat
invariant-loop-seat l = record {
  keys : map key_of l.links.items ≡ map key_of l.initial.links.items ++ map (λ k. (l.n, k)) (take l.seat l.peers);
  each : EachOf (IsFirstLink l.topology l.times) l.initial.links.items → EachOf (IsFirstLink l.topology l.times) l.links.items;
}

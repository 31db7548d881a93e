use Rattle.std.proofs.Common.{◌≡◌, ◌+◌, ◌≤◌, length, drop}
use Rattle.tora_world.specs.Lists.{packets_of, parcels_in}
use Rattle.tora_sim.proofs.store.packets.count_put.Given as goal

-- the count so far and the packets of the rest make up the total
abbrev pub invariant-loop-cargo : goal.invariant-loop-cargo
invariant-loop-cargo l = record {
  few : l.count ≤ l.cargo-index;
  all : l.count + length (packets_of l.life (parcels_in (drop l.cargo-index l.put))) ≡ length (packets_of l.life (parcels_in l.put));
}

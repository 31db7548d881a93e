use Rattle.std.proofs.Common.{◌≡◌, ◌+◌, ◌≤◌, length, drop}
use Rattle.tora_world.specs.Lists.{packets_of, parcels_in}
use Rattle.tora_sim.proofs.store.packets.count_kept.Given as goal

-- the count so far and the packets of the rest make up the total
abbrev pub invariant-loop-place : goal.invariant-loop-place
invariant-loop-place l = record {
  few : l.count ≤ l.place;
  all : l.count + length (packets_of l.life (parcels_in (drop l.place l.kept.items))) ≡ length (packets_of l.life (parcels_in l.kept.items));
}

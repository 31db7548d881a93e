use Rattle.std.proofs.Common.{◌≡◌, ◌++◌, drop}
use Rattle.tora_world.specs.Lists.{packets_of, parcels_in}
use Rattle.tora_sim.proofs.store.packets.list_kept.Given as goal

-- the packets so far and those of the rest are all packets
abbrev pub invariant-loop-place : goal.invariant-loop-place
invariant-loop-place l = l.packets.items ++ packets_of l.life (parcels_in (drop l.place l.kept.items)) ≡ l.initial.packets.items ++ packets_of l.life (parcels_in l.kept.items)

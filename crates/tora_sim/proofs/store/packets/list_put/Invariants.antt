use Rattle.std.proofs.Common.{◌≡◌, ◌++◌, drop}
use Rattle.tora_world.specs.Lists.{packets_of, parcels_in}
use Rattle.tora_sim.proofs.store.packets.list_put.Given as goal

-- the packets so far and those of the rest are all packets
abbrev pub invariant-loop-cargo : goal.invariant-loop-cargo
invariant-loop-cargo l = l.packets.items ++ packets_of l.life (parcels_in (drop l.cargo-index l.put)) ≡ l.initial.packets.items ++ packets_of l.life (parcels_in l.put)

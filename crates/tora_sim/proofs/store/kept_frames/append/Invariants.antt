use Rattle.std.proofs.Common.{◌≡◌, ◌+◌, ◌++◌, take}
use Rattle.std.specs.Prelude.{vec_len, vec_capacity}
use Rattle.tora_sim.proofs.store.kept_frames.append.Given as goal

-- the packets so far are stored, and there is room for the others
abbrev pub invariant-loop-packet : goal.invariant-loop-packet
invariant-loop-packet l = record {
  items : l.packets.items ≡ l.fn.packets.items ++ take l.packet-index l.carried;
  len : vec_len l.packets ≡ vec_len l.fn.packets + l.packet-index;
  room : vec_capacity l.packets ≡ vec_capacity l.fn.packets;
}

use Rattle.std.proofs.Common.{◌≡◌, ◌+◌, ◌-◌, drop, length}
use Rattle.tora_arq.specs.LinkEnd.{after_packets}
use Rattle.tora_arq.specs.Rooms.{HasRoomFor}
use Rattle.tora_arq.specs.StateView.{rooms_in, state_in}
use Rattle.tora_arq.proofs.state.State.on_packets.Given as goal

-- the remaining packets have the same effect on the current end as all packets on the first end
abbrev pub invariant-loop-packet : goal.invariant-loop-packet
invariant-loop-packet l = record {
  onward : after_packets l.life l.furthest (state_in l.self) l.next (drop l.packet-index l.packets) ≡ after_packets l.life l.furthest (state_in l.fn.self) l.number l.packets;
  next : l.next ≡ l.number + l.packet-index;
  rooms : rooms_in l.self ≡ rooms_in l.fn.self;
  room : HasRoomFor l.fn.self.events.capacity l.fn.self.held.capacity l.furthest l.next (length l.packets - l.packet-index) (state_in l.self);
}

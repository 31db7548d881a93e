use Rattle.std.proofs.Common.{◌+◌, ◌-◌, length, sym, subst, ◌∙◌, arith}
use Rattle.tora_arq.specs.declared.TheConstants.{WINDOW}
use Rattle.tora_arq.specs.Rooms.{HasRoomFor}
use Rattle.tora_arq.specs.StateView.{Rooms, state_in}
use Rattle.tora_arq.proofs.ReceiveLemmas.{packets_next, packets_end}
use Rattle.tora_arq.proofs.RoomLemmas.{room_next, room_first, room_ahead}
use Rattle.tora_arq.proofs.state.State.on_packets.Goals as goal

pub loop-packet-preserved : goal.loop-packet-preserved
loop-packet-preserved c =
    let furthest = c.args.self.now.accepted + WINDOW in record {
      onward = packets_next c.args.life furthest (state_in c.loop-packet.self) (state_in c.on_packet.new.self) c.loop-packet.next c.packet-item.result c.args.packets.now c.loop-packet.packet-index
          c.loop-packet-test.true c.packet-item.is c.on_packet.ensures.state
          ∙ c.loop-packet.invariant.onward;
      next = omega (arith, c.loop-packet.invariant.next);
      rooms = c.on_packet.ensures.rooms ∙ c.loop-packet.invariant.rooms;
      room = subst (HasRoomFor c.args.self.now.events.capacity c.args.self.now.held.capacity furthest (c.loop-packet.next + 1) (length c.args.packets.now - (c.loop-packet.packet-index + 1))) (sym c.on_packet.ensures.state) (room_next c.args.self.now.events.capacity c.args.self.now.held.capacity furthest c.args.life (state_in c.loop-packet.self) c.loop-packet.next (length c.args.packets.now) c.loop-packet.packet-index c.packet-item.result c.loop-packet-test.true c.loop-packet.invariant.room);
    }

pub returns-clause-state : goal.returns-clause-state
returns-clause-state c =
    packets_end c.args.life (c.args.self.now.accepted + WINDOW) (state_in c.loop-packet.self) c.loop-packet.next c.args.packets.now c.loop-packet.packet-index (omega (arith, c.loop-packet-test.false))
    ∙ c.loop-packet.invariant.onward

pub on_packet-requires : goal.on_packet-requires
on_packet-requires c = record {
  room = subst (λ (r : Rooms). HasRoomFor r.events r.early (c.args.self.now.accepted + WINDOW) c.loop-packet.next 1 (state_in c.loop-packet.self)) (sym c.loop-packet.invariant.rooms) (room_first c.args.self.now.events.capacity c.args.self.now.held.capacity (c.args.self.now.accepted + WINDOW) (state_in c.loop-packet.self) c.loop-packet.next (length c.args.packets.now - c.loop-packet.packet-index) (omega (arith, c.loop-packet-test.true)) c.loop-packet.invariant.room);
  accepted = omega (arith, c.requires.accepted, room_ahead c.args.self.now.events.capacity c.args.self.now.held.capacity (c.args.self.now.accepted + WINDOW) (state_in c.loop-packet.self) c.loop-packet.next (length c.args.packets.now - c.loop-packet.packet-index) c.loop-packet.invariant.room);
}

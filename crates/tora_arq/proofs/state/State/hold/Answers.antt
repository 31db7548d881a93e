use Rattle.std.proofs.Common.{arith, Option, length, ap}
use Rattle.circular_buffer.specs.Buffer.{Buffer}
use Rattle.tora_packet.specs.declared.Packet.{Packet}
use Rattle.tora_arq.proofs.HeldLemmas.{length-hold_at}
use Rattle.tora_arq.proofs.state.State.hold.Goals as goal

pub release-requires : goal.release-requires
release-requires c = record {
  room = omega (arith, ap (λ (b : Buffer (Option Packet)). length b.items) c.hold.ensures, length-hold_at c.args.place c.args.packet c.args.self.now.held.items, c.requires.room, c.requires.place_room);
  number = omega (arith, ap (λ (b : Buffer (Option Packet)). length b.items) c.hold.ensures, length-hold_at c.args.place c.args.packet c.args.self.now.held.items, c.requires.room, c.requires.near, c.requires.held, c.requires.accepted);
}

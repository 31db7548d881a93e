use Rattle.std.proofs.Common.{◌≡◌, [], ◌∷◌, length, drop, Option, Some, None, sym, ap, ◌∙◌, arith, length-append}
use Rattle.circular_buffer.specs.Buffer.{Buffer}
use Rattle.tora_packet.specs.declared.Packet.{Packet}
use Rattle.tora_arq.specs.declared.link_event.LinkEvent.TheVariants.{Deliver}
use Rattle.tora_arq.specs.Held.{first_held}
use Rattle.tora_arq.specs.LinkEnd.{EndState}
use Rattle.tora_arq.specs.StateView.{Rooms, rooms_in, rooms_of, state_in}
use Rattle.tora_arq.proofs.HeldLemmas.{length_rest, released_once, released_all}
use Rattle.tora_arq.proofs.state.State.release.Goals as goal

pub loop-packet-preserved : goal.loop-packet-preserved
loop-packet-preserved c =
    let first : first_held c.loop-packet.self.held.items ≡ Some c.in-Some.packet = sym c.take_first.ensures.packet ∙ c.in-Some.is in
    let rest : c.take_first.new.self.items ≡ drop 1 c.loop-packet.self.held.items = ap (λ (b : Buffer (Option Packet)). b.items) c.in-Some.ensures.some in
    let room : c.take_first.new.self.capacity ≡ c.loop-packet.self.held.capacity = ap (λ (b : Buffer (Option Packet)). b.capacity) c.in-Some.ensures.some in
    let rooms : rooms_in c.deliver.new.self ≡ rooms_in c.loop-packet.self = c.deliver.ensures.rooms ∙ ap (rooms_of c.loop-packet.self.events.capacity c.loop-packet.self.queue.capacity) room in
    let held = ap (λ (e : EndState). e.held) c.deliver.ensures.state in
    let len = length_rest c.in-Some.packet c.loop-packet.self.held.items c.take_first.new.self.items first rest in record {
      onward = released_once c.args.life c.in-Some.packet (state_in c.loop-packet.self) (state_in c.deliver.new.self) c.take_first.new.self.items first rest c.deliver.ensures.state ∙ c.loop-packet.invariant.onward;
      rooms = rooms ∙ c.loop-packet.invariant.rooms;
      room = omega (arith, len, ap length held, ap (λ (r : Rooms). r.events) rooms, ap (λ (e : EndState). length e.events) c.deliver.ensures.state, length-append c.loop-packet.self.events.items (Deliver c.args.life c.in-Some.packet ∷ []), c.loop-packet.invariant.room);
      number = omega (arith, len, ap length held, ap (λ (e : EndState). e.accepted) c.deliver.ensures.state, c.loop-packet.invariant.number);
    }

pub returns-clause-state : goal.returns-clause-state
returns-clause-state c =
    let none : first_held c.loop-packet.self.held.items ≡ None = sym c.take_first.ensures.packet ∙ c.in_default.is in
    released_all c.args.life (state_in c.loop-packet.self) c.take_first.new.self.items none (ap (λ (b : Buffer (Option Packet)). b.items) c.in_default.ensures.none) ∙ c.loop-packet.invariant.onward

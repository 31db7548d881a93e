use Rattle.std.proofs.Common.{◌≡◌, ◌==◌, ◌≤◌, ◌+◌, ◌-◌, true, false, List, Option, [], length, sym, ap, ◌∙◌, arith, eqb-true}
use Rattle.std.proofs.lemmas.List.{nil_from_length}
use Rattle.tora_packet.specs.declared.Packet.{Packet}
use Rattle.tora_arq.specs.LinkEnd.{after_delivery}
use Rattle.tora_arq.specs.StateView.{state_in}
use Rattle.tora_arq.proofs.ReceiveLemmas.{held_packet, next_packet}
use Rattle.tora_arq.proofs.RoomLemmas.{deliver_room, held_room}
use Rattle.tora_arq.specs.declared.TheConstants.{WINDOW}
use Rattle.tora_arq.specs.EndRange.{HasRoom}
use Rattle.tora_arq.proofs.state.State.on_packet.Goals as goal
use Rattle.tora_arq.proofs.state.State.on_packet.Goals.{else-place-eq0-via-then-place-eq0+else-is_empty, else-place-eq0-via-else-place-eq0}

pub returns-then-is_empty-clause-state : goal.returns-then-is_empty-clause-state
returns-then-is_empty-clause-state c =
    let empty : c.args.self.now.held.items ≡ [] = nil_from_length c.args.self.now.held.items (eqb-true (length c.args.self.now.held.items) 0 (sym c.is_empty.ensures ∙ c.if-is_empty.true)) in
    c.deliver.ensures.state ∙ ap (after_delivery (state_in c.args.self.now) c.args.life c.args.packet) empty
    ∙ sym (next_packet c.args.life c.args.furthest (state_in c.args.self.now) c.args.number c.args.packet empty (omega (arith, c.if-number-self.false, c.if-place-eq0.true)) (omega (arith, c.if-number-furthest.false)))

pub returns-else-place-eq0-clause-state : goal.returns-else-place-eq0-clause-state
returns-else-place-eq0-clause-state c =
    c.hold.ensures.state
    ∙ sym (held_packet c.args.life c.args.furthest (state_in c.args.self.now) c.args.number (c.args.number - c.args.self.now.accepted - 1) c.args.packet (omega (arith, c.if-number-self.false)) (omega (arith, c.if-number-furthest.false)))

pub deliver-requires : goal.deliver-requires
deliver-requires c =
    record { room = deliver_room c.args.self.now.events.capacity c.args.self.now.held.capacity c.args.furthest (state_in c.args.self.now) c.args.number c.if-number-self.false c.if-number-furthest.false c.requires.room; number = omega (arith, c.requires.accepted) }

not_both : true ≡ false → ⊥
not_both h = absurd cc

pub hold-requires : goal.hold-requires
hold-requires c =
    let e = state_in c.args.self.now in
    let apart : e.held ≡ [] → c.args.number ≤ e.accepted + 1 → ⊥ = λ none near. elim c.else-place-eq0.branch [
      | else-place-eq0-via-then-place-eq0+else-is_empty w ↦ not_both (sym (ap (λ (xs : List (Option Packet)). length xs == 0) none) ∙ sym w.is_empty.ensures ∙ w.if-is_empty.false)
      | else-place-eq0-via-else-place-eq0 w ↦ absurd (omega (arith, near, c.if-number-self.false, w.if-place-eq0.false))
    ] in
    let r : (WINDOW ≤ c.args.self.now.held.capacity) × HasRoom c.args.self.now.events.capacity WINDOW c.args.furthest e = held_room c.args.self.now.events.capacity c.args.self.now.held.capacity c.args.furthest e c.args.number apart c.requires.room in
    record {
      place = omega (arith, r.0, r.1.near, c.if-number-furthest.false);
      near = omega (arith, r.1.near, c.if-number-furthest.false, c.if-number-self.false);
      held = omega (arith, r.1.near, r.1.held);
      room = omega (arith, r.1.room, r.1.held);
      place_room = omega (arith, r.1.room, c.if-number-furthest.false, c.if-number-self.false);
      accepted = c.requires.accepted;
    }

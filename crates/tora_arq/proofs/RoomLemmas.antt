-- The room for events and for out-of-order packets after the packets of a frame.
use Rattle.std.proofs.Common.{◌≡◌, ℕ, suc, ◌-◌, ◌+◌, ◌<◌, ◌≤◌, ◌⊎◌, inl, inr, true, false, nat_le, leb, List, [], ◌∷◌, length, Option, Some, None, ap, refl, sym, subst, arith, length-append, leb-true}
use Rattle.std.proofs.lemmas.Bool.{cases_Bool, cond_both, leb-false}
use Rattle.tora_packet.specs.declared.Packet.{Packet}
use Rattle.tora_arq.specs.declared.life.Life.{Life}
use Rattle.tora_arq.specs.declared.link_event.LinkEvent.TheVariants.{Deliver}
use Rattle.tora_arq.specs.LinkEnd.{EndState, after_delivery, after_release, after_hold, after_packet}
use Rattle.tora_arq.specs.EndRange.{HasRoom}
use Rattle.tora_arq.specs.declared.TheConstants.{WINDOW}
use Rattle.tora_arq.specs.Rooms.{AreNext, HasRoomFor}
use Rattle.tora_arq.proofs.HeldLemmas.{length-hold_at}
use Rattle.tora_arq.proofs.ReceiveLemmas.{passed_over, next_packet}

pub release_room : (places window furthest : ℕ) (life : Life) (held : List (Option Packet)) (e : EndState) → e.held ≡ held → HasRoom places window furthest e → HasRoom places window furthest (after_release life e held)
unfolding after_release
release_room places window furthest life [] e q r = r
release_room places window furthest life (None ∷ held) e q r = r
release_room places window furthest life (Some packet ∷ held) e q r =
    let n : length e.held ≡ suc (length held) = ap length q in
    release_room places window furthest life held (after_delivery e life packet held) refl (record {
      room = omega (arith, r.room, length-append e.events (Deliver life packet ∷ []));
      near = omega (arith, r.near);
      held = omega (arith, r.held, n);
    })

pub hold_room : (places window furthest : ℕ) (e : EndState) (number : ℕ) (packet : Packet) → e.accepted < number → number ≤ furthest → HasRoom places window furthest e → HasRoom places window furthest (after_hold e number packet)
hold_room places window furthest e number packet above within r = record {
  room = r.room;
  near = r.near;
  held = omega (arith, r.held, above, within, length-hold_at (number - suc e.accepted) packet e.held);
}

pub packet_room : (places window furthest : ℕ) (life : Life) (e : EndState) (number : ℕ) (packet : Packet) → HasRoom places window furthest e → HasRoom places window furthest (after_packet life furthest e number packet)
unfolding after_packet
packet_room places window furthest life e number packet r =
    cond_both (nat_le number e.accepted) _ _ (HasRoom places window furthest) (λ _. r) (λ late.
    cond_both (nat_le number furthest) _ _ (HasRoom places window furthest)
    (λ soon. release_room places window furthest life (after_hold e number packet).held (after_hold e number packet) refl
    (hold_room places window furthest e number packet (leb-false number e.accepted late) (leb-true number furthest soon) r))
    (λ _. r))

-- after a packet that was accepted before or is the next one, the following packets are the next ones
pub next_room : (places furthest : ℕ) (life : Life) (e : EndState) (number count : ℕ) (packet : Packet) → 0 < count → AreNext places furthest number count e → AreNext places furthest (number + 1) (count - 1) (after_packet life furthest e number packet)
next_room places furthest life e number count packet some r = go (cases_Bool (leb number e.accepted))
  where
    go : (leb number e.accepted ≡ true) ⊎ (leb number e.accepted ≡ false) → AreNext places furthest (number + 1) (count - 1) (after_packet life furthest e number packet)
    go (inl old) =
        let le : number ≤ e.accepted = leb-true number e.accepted old in
        subst (AreNext places furthest (number + 1) (count - 1)) (sym (passed_over life furthest e number packet le)) (record {
          room = omega (arith, r.room);
          next = omega (arith, le);
          within = omega (arith, r.within, some);
          none = r.none;
          ahead = r.ahead;
        })
    go (inr new) =
        let next : number ≡ suc e.accepted = omega (arith, r.next, leb-false number e.accepted new) in
        subst (AreNext places furthest (number + 1) (count - 1)) (sym (next_packet life furthest e number packet r.none next (omega (arith, r.within, some)))) (record {
          room = omega (arith, r.room, some, length-append e.events (Deliver life packet ∷ []));
          next = omega (arith, next);
          within = omega (arith, r.within, some);
          none = refl;
          ahead = omega (arith, next, r.within, some);
        })

-- the room for some packets contains the room for the first of them
pub room_first : (places early furthest : ℕ) (e : EndState) (number count : ℕ) → 0 < count → HasRoomFor places early furthest number count e → HasRoomFor places early furthest number 1 e
room_first places early furthest e number count some (inl r) = inl r
room_first places early furthest e number count some (inr r) = inr (record { room = omega (arith, r.room, some); next = r.next; within = omega (arith, r.within, some); none = r.none; ahead = r.ahead })

-- after the first packet there is room for the others
pub room_next : (places early furthest : ℕ) (life : Life) (e : EndState) (number all index : ℕ) (packet : Packet) → index < all → HasRoomFor places early furthest number (all - index) e → HasRoomFor places early furthest (number + 1) (all - (index + 1)) (after_packet life furthest e number packet)
room_next places early furthest life e number all index packet lt (inl r) = inl (r.0, packet_room places WINDOW furthest life e number packet r.1)
room_next places early furthest life e number all index packet lt (inr r) =
    let left : all - index - 1 ≡ all - (index + 1) = omega arith in
    inr (subst (λ n. AreNext places furthest (number + 1) n (after_packet life furthest e number packet)) left (next_room places furthest life e number (all - index) packet (omega (arith, lt)) r))

-- the packets are within the window
pub room_ahead : (places early furthest : ℕ) (e : EndState) (number count : ℕ) → HasRoomFor places early furthest number count e → e.accepted ≤ furthest
room_ahead places early furthest e number count (inl r) = omega (arith, r.1.held)
room_ahead places early furthest e number count (inr r) = r.ahead

-- there is a place for the event of a packet that is new
pub deliver_room : (places early furthest : ℕ) (e : EndState) (number : ℕ) → e.accepted < number → number ≤ furthest → HasRoomFor places early furthest number 1 e → length e.events < places
deliver_room places early furthest e number above within (inl r) = omega (arith, above, within, r.1.room)
deliver_room places early furthest e number above within (inr r) = omega (arith, r.room)

-- if a packet is held, there is room for out-of-order packets
pub held_room : (places early furthest : ℕ) (e : EndState) (number : ℕ) → (e.held ≡ [] → number ≤ e.accepted + 1 → ⊥) → HasRoomFor places early furthest number 1 e → (WINDOW ≤ early) × HasRoom places WINDOW furthest e
held_room places early furthest e number not (inl r) = r
held_room places early furthest e number not (inr r) = absurd (not r.none r.next)

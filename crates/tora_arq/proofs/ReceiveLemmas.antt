-- The effect of a packet of a DATA frame on an end, by its number.
use Rattle.std.proofs.Common.{◌≡◌, ℕ, suc, ◌+◌, ◌-◌, ◌<◌, ◌≤◌, nat_le, List, [], ◌∷◌, length, drop, get_or, refl, sym, ap, ◌∙◌, arith, length-drop}
use Rattle.std.proofs.lemmas.Bool.{cond_both, le-leb, lt-leb}
use Rattle.std.proofs.lemmas.List.{drop_more, nil_from_length}
use Rattle.tora_packet.specs.declared.Packet.{Packet}
use Rattle.tora_frame.specs.declared.parts.Version.{Version}
use Rattle.tora_frame.specs.declared.parts.Version.TheVariants.{One, Two}
use Rattle.tora_frame.specs.declared.parts.Header.{Header}
use Rattle.tora_frame.specs.declared.parts.Body.{Body}
use Rattle.tora_frame.specs.declared.parts.Body.TheVariants.{Hello, Data, Ack}
use Rattle.tora_frame.specs.FrameParts.{IsBatchSize, IsBody}
use Rattle.tora_arq.specs.declared.life.Life.{Life}
use Rattle.tora_arq.specs.Held.{hold_at}
use Rattle.tora_arq.specs.LinkEnd.{EndState, after_release, after_delivery, after_packet, after_packets}
use Rattle.tora_arq.specs.EndRange.{IsNumbered}

pub passed_over : (life : Life) (furthest : ℕ) (e : EndState) (number : ℕ) (packet : Packet) → number ≤ e.accepted → after_packet life furthest e number packet ≡ e
unfolding after_packet
passed_over life furthest e number packet h = rw (le-leb number e.accepted h) refl

pub dropped : (life : Life) (furthest : ℕ) (e : EndState) (number : ℕ) (packet : Packet) → furthest < number → after_packet life furthest e number packet ≡ e
unfolding after_packet
dropped life furthest e number packet h =
    let far = lt-leb number furthest h in
    cond_both (nat_le number e.accepted) _ _ (λ x. x ≡ e) (λ _. refl) (λ _. rw far refl)

-- an end that holds a packet at a place, and then delivers the held packets up to the first gap
abbrev pub released : EndState → Life → ℕ → Packet → EndState
released e life place packet = after_release life (record e { held = hold_at place packet e.held }) (hold_at place packet e.held)

pub held_packet : (life : Life) (furthest : ℕ) (e : EndState) (number place : ℕ) (packet : Packet) → number ≡ suc (e.accepted + place) → number ≤ furthest → after_packet life furthest e number packet ≡ released e life place packet
unfolding after_packet
held_packet life furthest e number place packet n h =
    let at : number - suc e.accepted ≡ place = omega arith in
    rw (lt-leb number e.accepted (omega arith), le-leb number furthest h, at) refl

-- if no packet is held, only the next packet is delivered
pub next_packet : (life : Life) (furthest : ℕ) (e : EndState) (number : ℕ) (packet : Packet) → e.held ≡ [] → number ≡ suc e.accepted → number ≤ furthest → after_packet life furthest e number packet ≡ after_delivery e life packet []
unfolding after_packet after_release
next_packet life furthest e number packet empty n h =
    let at : number - suc e.accepted ≡ 0 = omega arith in
    rw (lt-leb number e.accepted (omega arith), le-leb number furthest h, at, empty)

-- the packets of a frame
some_packets : (version : Version) (many : ℕ) → IsBatchSize version many → 0 < many
some_packets One many h = omega arith
some_packets Two many h = h.0

pub numbered : (header : Header) (body : Body) → IsBody header body → IsNumbered body
numbered header Hello h = tt
numbered header (Data number count packets) h = (some_packets header.version (length packets.items) h.many, h.last)
numbered header (Ack count) h = tt

-- ---- packets one after another

pub packets_next : (life : Life) (furthest : ℕ) (e after : EndState) (number : ℕ) (packet : Packet) (packets : List Packet) (place : ℕ) → place < length packets → packet ≡ get_or packets place packet →
    after ≡ after_packet life furthest e number packet → after_packets life furthest after (number + 1) (drop (place + 1) packets) ≡ after_packets life furthest e number (drop place packets)
unfolding after_packets
packets_next life furthest e after number packet packets place lt is q =
    let one : number + 1 ≡ suc number = omega arith in
    let here : drop place packets ≡ packet ∷ drop (place + 1) packets = drop_more packets place packet lt ∙ ap (λ p. p ∷ drop (place + 1) packets) (sym is) in
    rw (one, q) (sym (ap (after_packets life furthest e number) here))

pub packets_end : (life : Life) (furthest : ℕ) (e : EndState) (number : ℕ) (packets : List Packet) (place : ℕ) → length packets ≤ place → e ≡ after_packets life furthest e number (drop place packets)
unfolding after_packets
packets_end life furthest e number packets place le =
    let none : drop place packets ≡ [] = nil_from_length (drop place packets) (omega (arith, length-drop place packets)) in
    sym (ap (after_packets life furthest e number) none)

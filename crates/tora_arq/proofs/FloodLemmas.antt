-- Packets that are submitted at one tick are due in one frame, and none is due after it.
use Rattle.std.proofs.Common.{◌≡◌, ℕ, zero, suc, ◌+◌, ◌-◌, ◌<◌, ◌≤◌, min, max, false, List, [], ◌∷◌, ◌++◌, map, length, Option, Some, None, Result, Ok, refl, sym, ap, ◌∙◌, arith, append_assoc, append-nil, length-append}
use Rattle.std.proofs.lemmas.Bool.{and_right, lt-leb}
use Rattle.tora_packet.specs.declared.Packet.{Packet}
use Rattle.tora_frame.specs.declared.parts.TheConstants.{GREATEST_NUMBER, MOST_PACKETS}
use Rattle.tora_frame.specs.FrameParts.{FrameParts}
use Rattle.tora_arq.specs.declared.TheConstants.{QUEUE_PLACES}
use Rattle.tora_arq.specs.declared.life.Life.{Life}
use Rattle.tora_arq.specs.declared.times.Times.{Times}
use Rattle.tora_arq.specs.declared.submit_error.SubmitError.{SubmitError}
use Rattle.tora_arq.specs.declared.phase.Phase.TheVariants.{Bound}
use Rattle.tora_arq.specs.declared.queued_packet.QueuedPacket.{QueuedPacket}
use Rattle.tora_arq.specs.Settings.{Settings, IsTimes}
use Rattle.tora_arq.specs.SendQueue.{untried, retried, with_ready, ReadyRun, ready_run, due_batch, first_due}
use Rattle.tora_arq.specs.LinkEnd.{EndState, on_submit, after_submit, is_old_hello_due, on_transmit, on_transmit_in, frame_due, after_transmit}
use Rattle.tora_arq.specs.Floods.{after_submits, IsIdle, flood_frame}
use Rattle.tora_arq.proofs.FactSteps.{is_same_life-refl}
use Rattle.tora_arq.proofs.PollLemmas.{not_again}

-- a packet that was submitted and then transmitted once
abbrev tried_once : ℕ → Packet → QueuedPacket
tried_once now packet = retried (untried packet) now

-- the end with this send queue
abbrev with_queue : EndState → List QueuedPacket → EndState
with_queue e queue = record e { queue = queue }

submitted_on : (e : EndState) (life : Life) (packet : Packet) → e.phase ≡ Bound life → length e.queue < QUEUE_PLACES → e.acknowledged + length e.queue < GREATEST_NUMBER →
    on_submit e life packet ≡ (Ok tt, with_queue e (e.queue ++ untried packet ∷ []))
unfolding on_submit
submitted_on e life packet bound room number =
    rw (bound, is_same_life-refl life, lt-leb GREATEST_NUMBER (e.acknowledged + length e.queue) number, lt-leb QUEUE_PLACES (length e.queue) room) refl

submitted_one : (e : EndState) (life : Life) (packet : Packet) → e.phase ≡ Bound life → length e.queue < QUEUE_PLACES → e.acknowledged + length e.queue < GREATEST_NUMBER →
    after_submit e life packet ≡ with_queue e (e.queue ++ untried packet ∷ [])
submitted_one e life packet bound room number = ap (λ (x : Result (Unit {0}) SubmitError × EndState). x.1) (submitted_on e life packet bound room number)

submitted : (e : EndState) (life : Life) (packets : List Packet) → e.phase ≡ Bound life → length e.queue + length packets ≤ QUEUE_PLACES → e.acknowledged + length e.queue + length packets ≤ GREATEST_NUMBER →
    after_submits e life packets ≡ with_queue e (e.queue ++ map untried packets)
submitted e life [] bound room number = ap (with_queue e) (sym (append-nil e.queue))
submitted e life (packet ∷ packets) bound room number =
    let longer : length (e.queue ++ untried packet ∷ []) ≡ length e.queue + 1 = omega (arith, length-append e.queue (untried packet ∷ [])) in
    ap (λ (x : EndState). after_submits x life packets) (submitted_one e life packet bound (omega arith) (omega arith))
    ∙ submitted (with_queue e (e.queue ++ untried packet ∷ [])) life packets bound (omega (arith, longer)) (omega (arith, longer))
    ∙ ap (with_queue e) (append_assoc e.queue (untried packet ∷ []) (map untried packets))

run_all : (times : Times) (now most : ℕ) (packets : List Packet) → length packets ≤ most →
    ready_run times now most (map untried packets) ≡ record { packets = packets; queue = map (tried_once now) packets }
unfolding ready_run
run_all times now zero [] h = refl
run_all times now zero (packet ∷ packets) h = absurd (omega arith)
run_all times now (suc most) [] h = refl
run_all times now (suc most) (packet ∷ packets) h = ap (with_ready (untried packet) now) (run_all times now most packets (omega arith))

first_all : (times : Times) (now most number window : ℕ) (packets : List Packet) → 0 < length packets → length packets ≤ most → length packets ≤ window →
    first_due times now most number window (map untried packets) ≡ Some (record { number = number; packets = packets; queue = map (tried_once now) packets })
unfolding first_due
first_all times now most number window [] some m w = absurd (omega arith)
first_all times now most number zero (packet ∷ packets) some m w = absurd (omega arith)
first_all times now most number (suc window) (packet ∷ packets) some m w =
    ap (λ (r : ReadyRun). Some (due_batch number r)) (run_all times now (min most (suc window)) (packet ∷ packets) (omega arith))

none_again : (times : Times) (now most number window : ℕ) (packets : List Packet) → 0 < times.retry →
    first_due times now most number window (map (tried_once now) packets) ≡ None
unfolding first_due
none_again times now most number zero packets h = refl
none_again times now most number (suc window) [] h = refl
none_again times now most number (suc window) (packet ∷ packets) h =
    rw (not_again times now (untried packet) h, none_again times now most (suc number) window packets h) refl

-- the end after the packets are transmitted
abbrev after_flood : EndState → ℕ → List Packet → EndState
after_flood e now packets = record e {
  queue = map (tried_once now) packets;
  transmitted = max e.transmitted (suc e.acknowledged + length packets - 1);
  owes_ack = false;
}

no_old_hello : (s : Settings) (e : EndState) (life : Life) (now : ℕ) → IsIdle s e life now → is_old_hello_due e ≡ false
no_old_hello s e life now idle = and_right e.owes_old_hello _ (rw idle.mark refl)

sends : (s : Settings) (e : EndState) (life : Life) (packets : List Packet) (now : ℕ) → IsIdle s e life now → 0 < length packets → length packets ≤ MOST_PACKETS → length packets ≤ s.window →
    on_transmit s (with_queue e (map untried packets)) now ≡ (Some (flood_frame s e life packets), after_flood e now packets)
unfolding on_transmit on_transmit_in
sends s e life packets now idle some most window =
    rw (idle.bound, no_old_hello s e life now idle, idle.no_hello, idle.mark, first_all s.times now MOST_PACKETS (suc e.acknowledged) s.window packets some most window) refl

settled_on : (s : Settings) (e : EndState) (life : Life) (packets : List Packet) (now : ℕ) → IsIdle s e life now → 0 < s.times.retry →
    on_transmit s (after_flood e now packets) now ≡ (None, after_flood e now packets)
unfolding on_transmit on_transmit_in
settled_on s e life packets now idle retry =
    rw (idle.bound, no_old_hello s e life now idle, idle.no_hello, idle.mark, none_again s.times now MOST_PACKETS (suc e.acknowledged) s.window packets retry) refl

settles : (s : Settings) (e : EndState) (life : Life) (packets : List Packet) (now : ℕ) → IsIdle s e life now → 0 < s.times.retry → frame_due s (after_flood e now packets) now ≡ None
settles s e life packets now idle retry = ap (λ (x : Option FrameParts × EndState). x.0) (settled_on s e life packets now idle retry)

-- the end before it transmits
before : (s : Settings) (e : EndState) (life : Life) (packets : List Packet) (now : ℕ) → IsIdle s e life now → length packets ≤ MOST_PACKETS → e.acknowledged + length packets ≤ GREATEST_NUMBER →
    after_submits e life packets ≡ with_queue e (map untried packets)
before s e life packets now idle most number =
    let empty : length e.queue ≡ 0 = ap length idle.none_waits in
    submitted e life packets idle.bound (omega (arith, empty)) (omega (arith, empty)) ∙ ap (λ (queue : List QueuedPacket). with_queue e (queue ++ map untried packets)) idle.none_waits

pub flood_one : (s : Settings) (e : EndState) (life : Life) (packets : List Packet) (now : ℕ) → IsIdle s e life now → 0 < length packets → length packets ≤ MOST_PACKETS → length packets ≤ s.window → e.acknowledged + length packets ≤ GREATEST_NUMBER →
    frame_due s (after_submits e life packets) now ≡ Some (flood_frame s e life packets)
flood_one s e life packets now idle some most window number =
    ap (λ (x : EndState). frame_due s x now) (before s e life packets now idle most number)
    ∙ ap (λ (x : Option FrameParts × EndState). x.0) (sends s e life packets now idle some most window)

pub flood_only : (s : Settings) (e : EndState) (life : Life) (packets : List Packet) (now : ℕ) → IsTimes s.times → IsIdle s e life now → 0 < length packets → length packets ≤ MOST_PACKETS → length packets ≤ s.window → e.acknowledged + length packets ≤ GREATEST_NUMBER →
    frame_due s (after_transmit s (after_submits e life packets) now) now ≡ None
flood_only s e life packets now times idle some most window number =
    ap (λ (x : EndState). frame_due s (after_transmit s x now) now) (before s e life packets now idle most number)
    ∙ ap (λ (x : Option FrameParts × EndState). frame_due s x.1 now) (sends s e life packets now idle some most window)
    ∙ settles s e life packets now idle times.retry

-- The invariant of a link end after every call.
use Rattle.std.proofs.Common.{◌≡◌, ℕ, zero, suc, ◌+◌, ◌-◌, ◌<◌, ◌≤◌, min, max, Bool, true, false, ◌==◌, not, nat_lt, nat_le, List, [], ◌∷◌, ◌++◌, length, drop, Option, Some, None, Result, refl, sym, ap, subst, arith, length-append, length-drop, leb-true}
use Rattle.std.proofs.lemmas.Bool.{cond_both, ltb-false, leb-false}
use Rattle.tora_packet.specs.declared.Packet.{Packet}
use Rattle.tora_frame.specs.declared.parts.TheConstants.{GREATEST_NUMBER}
use Rattle.tora_frame.specs.declared.parts.Version.{Version}
use Rattle.tora_frame.specs.declared.parts.Header.{Header}
use Rattle.tora_frame.specs.declared.parts.Body.{Body}
use Rattle.tora_frame.specs.declared.parts.Body.TheVariants.{Hello, Data, Ack}
use Rattle.tora_frame.specs.FrameParts.{FrameParts, IsLifeNumber, IsBody, IsFrame}
use Rattle.tora_arq.specs.declared.life.Life.{Life}
use Rattle.tora_arq.specs.declared.times.Times.{Times}
use Rattle.tora_arq.specs.declared.reason.Reason.{Reason}
use Rattle.tora_arq.specs.declared.reason.Reason.TheVariants as Because
use Rattle.tora_arq.specs.declared.verdict.Verdict.{Verdict}
use Rattle.tora_arq.specs.declared.link_event.LinkEvent.{LinkEvent}
use Rattle.tora_arq.specs.declared.link_event.LinkEvent.TheVariants.{Up, Deliver, Down}
use Rattle.tora_arq.specs.declared.submit_error.SubmitError.{SubmitError}
use Rattle.tora_arq.specs.declared.TheConstants.{WINDOW, EVENT_PLACES, PLACES_OF_A_FRAME, QUEUE_PLACES}
use Rattle.tora_arq.specs.declared.phase.Phase.{Phase}
use Rattle.tora_arq.specs.declared.phase.Phase.TheVariants.{Closed, Unbound, Bound}
use Rattle.tora_arq.specs.declared.queued_packet.QueuedPacket.{QueuedPacket}
use Rattle.tora_arq.specs.Lives.{life_of, is_same_life}
use Rattle.tora_arq.specs.Settings.{Settings, settings_of, IsLink, IsTimes}
use Rattle.tora_arq.specs.SendQueue.{untried, is_ready, ReadyRun, ready_run, DueBatch, due_behind, first_due}
use Rattle.tora_arq.specs.LinkEnd.{EndState, first_end, passed, data_version, most_packets, after_open, after_end, after_bind, count_of, on_life_told, after_acknowledgement, after_delivery, after_release, after_hold, after_packet, after_packets, on_data, on_matched, on_frame_in, is_foreign, is_busy, on_frame, is_silent, after_tick_in, after_tick, on_submit_in, on_submit, after_cut_in, after_cut, after_poll_event, is_hello_due, is_old_hello_due, on_hello, due_of, on_transmit_due, on_transmit_in, on_transmit}
use Rattle.tora_arq.specs.EndRange.{HasRoom, AreUntried, IsOwnNumber, IsPhase, IsQueue, IsEndState}
use Rattle.tora_arq.proofs.HeldLemmas.{length-hold_at}
use Rattle.tora_arq.proofs.RoomLemmas.{hold_room, packet_room}

-- ---- the send queue

untried_none : (n : ℕ) → AreUntried (drop n [])
untried_none zero = tt
untried_none (suc n) = tt

untried_rest : (n : ℕ) (queue : List QueuedPacket) → AreUntried queue → AreUntried (drop n queue)
untried_rest zero queue h = h
untried_rest (suc n) [] h = tt
untried_rest (suc n) (q ∷ queue) h = untried_rest n queue h.1

untried_further : (window : ℕ) (queue : List QueuedPacket) → AreUntried (drop window queue) → AreUntried (drop (suc window) queue)
untried_further window [] h = tt
untried_further zero (q ∷ queue) h = h.1
untried_further (suc window) (q ∷ queue) h = untried_further window queue h

untried_behind : (window n : ℕ) (queue : List QueuedPacket) → AreUntried (drop window queue) → AreUntried (drop window (drop n queue))
untried_behind zero n queue h = untried_rest n queue h
untried_behind (suc window) zero queue h = h
untried_behind (suc window) (suc n) [] h = tt
untried_behind (suc window) (suc n) (q ∷ queue) h = untried_further window (drop n queue) (untried_behind window n queue h)

untried_pushed : (window : ℕ) (queue : List QueuedPacket) (packet : Packet) → AreUntried (drop window queue) → AreUntried (drop window (queue ++ untried packet ∷ []))
untried_pushed zero [] packet h = (refl, tt)
untried_pushed zero (q ∷ queue) packet h = (h.0, untried_pushed zero queue packet h.1)
untried_pushed (suc window) [] packet h = untried_none window
untried_pushed (suc window) (q ∷ queue) packet h = untried_pushed window queue packet h

no_queue : (window : ℕ) → IsQueue window 0 []
no_queue window = record { submitted = omega arith; untried = untried_none window }

acknowledged_queue : (window acknowledged count : ℕ) (queue : List QueuedPacket) → count ≤ GREATEST_NUMBER → IsQueue window acknowledged queue →
    IsQueue window (max acknowledged count) (drop (count - acknowledged) queue)
acknowledged_queue window acknowledged count queue c h = record {
  submitted = omega (arith, h.submitted, length-drop (count - acknowledged) queue);
  untried = untried_behind window (count - acknowledged) queue h.untried;
}

-- the queue after the transmission of a packet
record IsDueOf (window : ℕ) (queue : List QueuedPacket) (due : DueBatch) : Type 0 where
  len : length due.queue ≡ length queue
  behind : drop window due.queue ≡ drop window queue

abbrev MayBeDueOf : ℕ → List QueuedPacket → Option DueBatch → Type 0
MayBeDueOf window queue None = Unit {0}
MayBeDueOf window queue (Some due) = IsDueOf window queue due

length-ready_run : (times : Times) (now most : ℕ) (queue : List QueuedPacket) → length (ready_run times now most queue).queue ≡ length queue
unfolding ready_run
length-ready_run times now zero queue = refl
length-ready_run times now (suc most) [] = refl
length-ready_run times now (suc most) (q ∷ queue) =
    cond_both (is_ready times now q) _ _ (λ (r : ReadyRun). length r.queue ≡ suc (length queue)) (λ _. ap suc (length-ready_run times now most queue)) (λ _. refl)

behind_run : (times : Times) (now n most : ℕ) (queue : List QueuedPacket) → most ≤ n → drop n (ready_run times now most queue).queue ≡ drop n queue
unfolding ready_run
behind_run times now n zero queue le = refl
behind_run times now n (suc most) [] le = refl
behind_run times now zero (suc most) (q ∷ queue) le = absurd (omega arith)
behind_run times now (suc n) (suc most) (q ∷ queue) le =
    cond_both (is_ready times now q) _ _ (λ (r : ReadyRun). drop (suc n) r.queue ≡ drop n queue) (λ _. behind_run times now n most queue (omega arith)) (λ _. refl)

due_queue : (times : Times) (now most number window : ℕ) (queue : List QueuedPacket) → MayBeDueOf window queue (first_due times now most number window queue)
unfolding first_due
due_queue times now most number zero queue = tt
due_queue times now most number (suc window) [] = tt
due_queue times now most number (suc window) (q ∷ queue) =
    cond_both (is_ready times now q) _ _ (MayBeDueOf (suc window) (q ∷ queue))
    (λ _. record {
      len = length-ready_run times now (min most (suc window)) (q ∷ queue);
      behind = behind_run times now (suc window) (min most (suc window)) (q ∷ queue) (omega arith);
    })
    (λ _. go (first_due times now most (suc number) window queue) (due_queue times now most (suc number) window queue))
  where
    go : (o : Option DueBatch) → MayBeDueOf window queue o → MayBeDueOf (suc window) (q ∷ queue) (due_behind q o)
    go None h = tt
    go (Some due) h = record { len = ap suc h.len; behind = h.behind }

-- ---- a phase after one more event

grown : (events : List LinkEvent) (event : LinkEvent) (n : ℕ) → length events < n → length (events ++ event ∷ []) ≤ n
grown events event n h = omega (arith, length-append events (event ∷ []))

grown_below : (events : List LinkEvent) (event : LinkEvent) (n : ℕ) → length events + 1 < n → length (events ++ event ∷ []) < n
grown_below events event n h = omega (arith, length-append events (event ∷ []))

-- after one more event there is room for the packets of a window
grown_window : (events : List LinkEvent) (event : LinkEvent) → length events + PLACES_OF_A_FRAME ≤ EVENT_PLACES → length (events ++ event ∷ []) + WINDOW < EVENT_PLACES
grown_window events event h = omega (arith, length-append events (event ∷ []))

with_room : (last heard : ℕ) (events more : List LinkEvent) (phase : Phase) → length more < EVENT_PLACES → IsPhase last heard events phase → IsPhase last heard more phase
with_room last heard events more Closed r h = tt
with_room last heard events more (Unbound own) r h = h
with_room last heard events more (Bound life) r h = record { own = h.own; peer = h.peer; noted = h.noted; room = r }

-- ---- the small changes

pub first_kept : (version : Version) (me peer : ℕ) (times : Times) → IsLink me peer → IsTimes times → IsEndState (settings_of version me peer times) first_end
first_kept version me peer times l t = record {
  link = l;
  times = t;
  window = refl;
  in_phase = tt;
  noted = omega arith;
  opened = omega arith;
  waiting = no_queue WINDOW;
  delivered = omega arith;
  held_within = omega arith;
  room = omega arith;
}

module _ (s : Settings) where
  pub open_kept : (e : EndState) (life now : ℕ) → IsLifeNumber life → IsEndState s e → IsEndState s (after_open e life now)
  open_kept e life now n h = record {
    link = h.link;
    times = h.times;
    window = h.window;
    in_phase = record { number = n; latest = refl };
    noted = omega arith;
    opened = n.1;
    waiting = no_queue s.window;
    delivered = omega arith;
    held_within = omega arith;
    room = h.room;
  }

  end_kept : (e : EndState) (life : Life) (reason : Reason) → length e.events < EVENT_PLACES → IsEndState s e → IsEndState s (after_end e life reason)
  end_kept e life reason r h = record {
    link = h.link;
    times = h.times;
    window = h.window;
    in_phase = tt;
    noted = h.noted;
    opened = h.opened;
    waiting = record { submitted = omega (arith, h.waiting.submitted); untried = untried_none s.window };
    delivered = omega (arith, h.delivered);
    held_within = omega arith;
    room = grown e.events (Down life reason) EVENT_PLACES r;
  }

  bind_kept : (e : EndState) (life : Life) → length e.events + PLACES_OF_A_FRAME ≤ EVENT_PLACES → IsOwnNumber e.last_life life.own → IsLifeNumber life.peer → IsEndState s e → IsEndState s (after_bind e life)
  bind_kept e life r own peer h = record {
    link = h.link;
    times = h.times;
    window = h.window;
    in_phase = record { own = own; peer = peer; noted = refl; room = grown_below e.events (Up life) EVENT_PLACES (omega arith) };
    noted = peer.1;
    opened = h.opened;
    waiting = no_queue s.window;
    delivered = omega arith;
    held_within = omega arith;
    room = grown e.events (Up life) EVENT_PLACES (omega arith);
  }

  acknowledgement_kept : (e : EndState) (count now : ℕ) → count ≤ GREATEST_NUMBER → IsEndState s e → IsEndState s (after_acknowledgement e count now)
  acknowledgement_kept e count now c h = record {
    link = h.link;
    times = h.times;
    window = h.window;
    in_phase = h.in_phase;
    noted = h.noted;
    opened = h.opened;
    waiting = acknowledged_queue s.window e.acknowledged count e.queue c h.waiting;
    delivered = h.delivered;
    held_within = h.held_within;
    room = h.room;
  }

  -- ---- packets held and delivered

  delivery_kept : (e : EndState) (life : Life) (packet : Packet) (held : List (Option Packet)) → suc (length e.events) < EVENT_PLACES → suc e.accepted + length held ≤ GREATEST_NUMBER → length held ≤ s.window →
      IsEndState s e → IsEndState s (after_delivery e life packet held)
  delivery_kept e life packet held r n w h = record {
    link = h.link;
    times = h.times;
    window = h.window;
    in_phase = with_room e.last_life e.heard e.events (e.events ++ Deliver life packet ∷ []) e.phase (grown_below e.events (Deliver life packet) EVENT_PLACES (omega arith)) h.in_phase;
    noted = h.noted;
    opened = h.opened;
    waiting = h.waiting;
    delivered = n;
    held_within = w;
    room = grown e.events (Deliver life packet) EVENT_PLACES (omega arith);
  }

  release_kept : (held : List (Option Packet)) (e : EndState) (life : Life) → e.held ≡ held → length e.events + length held < EVENT_PLACES → IsEndState s e → IsEndState s (after_release life e held)
  unfolding after_release
  release_kept [] e life q r h = h
  release_kept (None ∷ held) e life q r h = h
  release_kept (Some packet ∷ held) e life q r h =
      let n : length e.held ≡ suc (length held) = ap length q in
      release_kept held (after_delivery e life packet held) life refl (omega (arith, r, length-append e.events (Deliver life packet ∷ [])))
      (delivery_kept e life packet held (omega (arith, r)) (omega (arith, n, h.delivered)) (omega (arith, n, h.held_within)) h)

  hold_kept : (e : EndState) (number : ℕ) (packet : Packet) → e.accepted < number → number ≤ e.accepted + s.window → number ≤ GREATEST_NUMBER → IsEndState s e → IsEndState s (after_hold e number packet)
  hold_kept e number packet above within most h = record {
    link = h.link;
    times = h.times;
    window = h.window;
    in_phase = h.in_phase;
    noted = h.noted;
    opened = h.opened;
    waiting = h.waiting;
    delivered = omega (arith, length-hold_at (number - suc e.accepted) packet e.held, above, most, h.delivered);
    held_within = omega (arith, length-hold_at (number - suc e.accepted) packet e.held, above, within, h.held_within);
    room = h.room;
  }

  -- ---- a frame

  heard_kept : (e : EndState) (own life : ℕ) → e.phase ≡ Unbound own → life ≤ GREATEST_NUMBER → IsEndState s e → IsEndState s (record e { heard = life })
  heard_kept e own life j n h = record {
    link = h.link;
    times = h.times;
    window = h.window;
    in_phase = subst (λ ph. IsPhase e.last_life life e.events ph) (sym j) (subst (λ ph. IsPhase e.last_life e.heard e.events ph) j h.in_phase);
    noted = n;
    opened = h.opened;
    waiting = h.waiting;
    delivered = h.delivered;
    held_within = h.held_within;
    room = h.room;
  }

  life_told_kept : (e : EndState) (own : ℕ) (version : Version) (life : ℕ) (body : Body) → e.phase ≡ Unbound own → life ≤ GREATEST_NUMBER → IsEndState s e → IsEndState s (on_life_told e version life body).1
  life_told_kept e own version life Hello j n h =
      cond_both (nat_lt life e.heard) _ _ (λ (r : Verdict × EndState). IsEndState s r.1) (λ _. h) (λ _.
      cond_both (life == e.heard) _ _ (λ (r : Verdict × EndState). IsEndState s r.1) (λ _. h) (λ _. heard_kept e own life j n h))
  life_told_kept e own version life (Data number count packets) j n h = h
  life_told_kept e own version life (Ack count) j n h = h

  packet_kept : (e : EndState) (life : Life) (furthest number : ℕ) (packet : Packet) → HasRoom EVENT_PLACES s.window furthest e → number ≤ GREATEST_NUMBER → IsEndState s e →
      IsEndState s (after_packet life furthest e number packet)
  unfolding after_packet
  packet_kept e life furthest number packet r n h =
      cond_both (nat_le number e.accepted) _ _ (IsEndState s) (λ _. h) (λ late.
      cond_both (nat_le number furthest) _ _ (IsEndState s)
      (λ soon.
      let above = leb-false number e.accepted late in
      let within = leb-true number furthest soon in
      let k : IsEndState s (after_hold e number packet) = hold_kept e number packet above (omega (arith, r.near, within)) n h in
      let room = hold_room EVENT_PLACES s.window furthest e number packet above within r in
      release_kept (after_hold e number packet).held (after_hold e number packet) life refl (omega (arith, room.room, room.held)) k)
      (λ _. h))

  packets_kept : (ps : List Packet) (e : EndState) (life : Life) (furthest number : ℕ) → HasRoom EVENT_PLACES s.window furthest e → number + length ps ≤ GREATEST_NUMBER + 1 → IsEndState s e →
      IsEndState s (after_packets life furthest e number ps)
  unfolding after_packets
  packets_kept [] e life furthest number r n h = h
  packets_kept (p ∷ ps) e life furthest number r n h =
      packets_kept ps (after_packet life furthest e number p) life furthest (suc number) (packet_room EVENT_PLACES s.window furthest life e number p r) (omega (arith, n))
      (packet_kept e life furthest number p r (omega (arith, n)) h)

  data_kept : (e : EndState) (life : Life) (number : ℕ) (ps : List Packet) → length e.events + WINDOW < EVENT_PLACES → number + length ps ≤ GREATEST_NUMBER + 1 → IsEndState s e → IsEndState s (on_data s.window e life number ps).1
  unfolding on_data
  data_kept e life number ps r n h =
      packets_kept ps e life (e.accepted + s.window) number (record { room = omega (arith, r, h.window); near = omega arith; held = omega (arith, h.held_within) }) n h

  matched_kept : (e : EndState) (life : Life) (binds : Bool) (now : ℕ) (header : Header) (body : Body) → length e.events + WINDOW < EVENT_PLACES → IsBody header body → IsEndState s e →
      IsEndState s (on_matched s.window e life binds now body).1
  unfolding on_matched
  matched_kept e life binds now header Hello r b h = h
  matched_kept e life binds now header (Data number count packets) r b h =
      data_kept (record (after_acknowledgement e count now) { owes_ack = true }) life number packets.items r b.last (acknowledgement_kept e count now b.count h)
  matched_kept e life binds now header (Ack count) r b h = acknowledgement_kept e count now b.count h

  phase_kept : (e : EndState) (f : FrameParts) (now : ℕ) (phase : Phase) → e.phase ≡ phase → length e.events + PLACES_OF_A_FRAME ≤ EVENT_PLACES → IsFrame f → IsEndState s e →
      IsEndState s (on_frame_in s.window e f now phase).1
  unfolding on_frame_in
  phase_kept e f now Closed j r t h = h
  phase_kept e f now (Unbound own) j r t h =
      let phase : IsOwnNumber e.last_life own = subst (λ ph. IsPhase e.last_life e.heard e.events ph) j h.in_phase in
      cond_both (f.header.heard == own) _ _ (λ (r : Verdict × EndState). IsEndState s r.1)
      (λ _. cond_both (nat_lt 0 (count_of f.body)) _ _ (λ (r : Verdict × EndState). IsEndState s r.1) (λ _. h) (λ _.
      cond_both (nat_lt f.header.life e.heard) _ _ (λ (r : Verdict × EndState). IsEndState s r.1) (λ _. h) (λ _.
      matched_kept (passed (after_bind e (life_of own f.header.life)) f.header.version) (life_of own f.header.life) true now f.header f.body
      (grown_window e.events (Up (life_of own f.header.life)) r) t.body
      (bind_kept e (life_of own f.header.life) r phase t.header.life h))))
      (λ _. life_told_kept e own f.header.version f.header.life f.body j t.header.life.1 h)
  phase_kept e f now (Bound life) j r t h =
      cond_both (nat_lt life.peer f.header.life) _ _ (λ (r : Verdict × EndState). IsEndState s r.1)
      (λ _. end_kept e life Because.NewPeer (omega arith) h) (λ _.
      cond_both (nat_lt f.header.life life.peer) _ _ (λ (r : Verdict × EndState). IsEndState s r.1) (λ _. h) (λ _.
      cond_both (f.header.heard == life.own) _ _ (λ (r : Verdict × EndState). IsEndState s r.1)
      (λ _. cond_both (nat_lt e.transmitted (count_of f.body)) _ _ (λ (r : Verdict × EndState). IsEndState s r.1) (λ _. h)
      (λ _. matched_kept (passed e f.header.version) life false now f.header f.body (omega arith) t.body h))
      (λ _. h)))

  pub frame_kept : (e : EndState) (f : FrameParts) (now : ℕ) → IsFrame f → IsEndState s e → IsEndState s (on_frame s e f now).1
  unfolding on_frame
  frame_kept e f now t h =
      cond_both (is_foreign s f) _ _ (λ (r : Verdict × EndState). IsEndState s r.1) (λ _. h) (λ _.
      cond_both (is_busy e) _ _ (λ (r : Verdict × EndState). IsEndState s r.1) (λ _. h) (λ free.
      let room : length e.events + PLACES_OF_A_FRAME ≤ EVENT_PLACES = omega (arith, ltb-false (EVENT_PLACES - length e.events) PLACES_OF_A_FRAME free, h.room) in
      phase_kept e f now e.phase refl room t h))

  -- ---- time, packets and events

  pub tick_kept : (e : EndState) (now : ℕ) → IsEndState s e → IsEndState s (after_tick s e now)
  unfolding after_tick
  tick_kept e now h = go e.phase h.in_phase
    where
      go : (phase : Phase) → IsPhase e.last_life e.heard e.events phase → IsEndState s (after_tick_in s e now phase)
      go Closed p = h
      go (Unbound own) p = h
      go (Bound life) p = cond_both (is_silent s e now) _ _ (IsEndState s) (λ _. end_kept e life Because.Silent p.room h) (λ _. h)

  pub submit_kept : (e : EndState) (life : Life) (packet : Packet) → IsEndState s e → IsEndState s (on_submit e life packet).1
  unfolding on_submit
  submit_kept e life packet h = go e.phase h.in_phase
    where
      pushed : e.acknowledged + length e.queue < GREATEST_NUMBER → IsEndState s (record e { queue = e.queue ++ untried packet ∷ [] })
      pushed below = record {
        link = h.link;
        times = h.times;
        window = h.window;
        in_phase = h.in_phase;
        noted = h.noted;
        opened = h.opened;
        waiting = record {
          submitted = omega (arith, below, length-append e.queue (untried packet ∷ []));
          untried = untried_pushed s.window e.queue packet h.waiting.untried;
        };
        delivered = h.delivered;
        held_within = h.held_within;
        room = h.room;
      }

      go : (phase : Phase) → IsPhase e.last_life e.heard e.events phase → IsEndState s (on_submit_in e life packet phase).1
      go Closed p = h
      go (Unbound own) p = h
      go (Bound current) p =
          cond_both (not (is_same_life life current)) _ _ (λ (r : Result (Unit {0}) SubmitError × EndState). IsEndState s r.1) (λ _. h) (λ _.
          cond_both (nat_le GREATEST_NUMBER (e.acknowledged + length e.queue)) _ _ (λ (r : Result (Unit {0}) SubmitError × EndState). IsEndState s r.1)
          (λ _. end_kept e current Because.Spent p.room h) (λ below.
          cond_both (nat_le QUEUE_PLACES (length e.queue)) _ _ (λ (r : Result (Unit {0}) SubmitError × EndState). IsEndState s r.1)
          (λ _. end_kept e current Because.Full p.room h)
          (λ _. pushed (leb-false GREATEST_NUMBER (e.acknowledged + length e.queue) below))))

  pub cut_kept : (e : EndState) (life : Life) → IsEndState s e → IsEndState s (after_cut e life)
  unfolding after_cut
  cut_kept e life h = go e.phase h.in_phase
    where
      go : (phase : Phase) → IsPhase e.last_life e.heard e.events phase → IsEndState s (after_cut_in e life phase)
      go Closed p = h
      go (Unbound own) p = h
      go (Bound current) p = cond_both (is_same_life life current) _ _ (IsEndState s) (λ _. end_kept e current Because.Cut p.room h) (λ _. h)

  pub poll_kept : (e : EndState) → IsEndState s e → IsEndState s (after_poll_event e)
  poll_kept e h = record {
    link = h.link;
    times = h.times;
    window = h.window;
    in_phase = shorter e.phase h.in_phase;
    noted = h.noted;
    opened = h.opened;
    waiting = h.waiting;
    delivered = h.delivered;
    held_within = h.held_within;
    room = omega (arith, h.room, length-drop 1 e.events);
  }
    where
      shorter : (phase : Phase) → IsPhase e.last_life e.heard e.events phase → IsPhase e.last_life e.heard (drop 1 e.events) phase
      shorter Closed p = tt
      shorter (Unbound own) p = p
      shorter (Bound life) p = record { own = p.own; peer = p.peer; noted = p.noted; room = omega (arith, p.room, length-drop 1 e.events) }

  due_kept : (e : EndState) (life : Life) (o : Option DueBatch) → MayBeDueOf s.window e.queue o → IsEndState s e → IsEndState s (on_transmit_due s e life o).1
  due_kept e life None d h = cond_both e.owes_ack _ _ (λ (r : Option FrameParts × EndState). IsEndState s r.1) (λ _. h) (λ _. h)
  due_kept e life (Some due) d h = record {
    link = h.link;
    times = h.times;
    window = h.window;
    in_phase = h.in_phase;
    noted = h.noted;
    opened = h.opened;
    waiting = record {
      submitted = omega (arith, h.waiting.submitted, d.len);
      untried = subst AreUntried (sym d.behind) h.waiting.untried;
    };
    delivered = h.delivered;
    held_within = h.held_within;
    room = h.room;
  }

  hello_kept : (e : EndState) (own heard now : ℕ) (other : Option FrameParts × EndState) → IsEndState s e → IsEndState s other.1 → IsEndState s (on_hello s e own heard now other).1
  hello_kept e own heard now other h k =
      cond_both (is_old_hello_due e) _ _ (λ (r : Option FrameParts × EndState). IsEndState s r.1) (λ _. h) (λ _.
      cond_both (is_hello_due s e now) _ _ (λ (r : Option FrameParts × EndState). IsEndState s r.1) (λ _. h) (λ _. k))

  pub transmit_kept : (e : EndState) (now : ℕ) → IsEndState s e → IsEndState s (on_transmit s e now).1
  unfolding on_transmit on_transmit_in
  transmit_kept e now h = go e.phase
    where
      go : (phase : Phase) → IsEndState s (on_transmit_in s e now phase).1
      go Closed = h
      go (Unbound own) = hello_kept e own e.heard now (None, e) h h
      go (Bound life) =
          hello_kept e life.own life.peer now (on_transmit_due s e life (due_of s e now)) h
          (due_kept e life (due_of s e now) (due_queue s.times now (most_packets (data_version e)) (suc e.acknowledged) s.window e.queue) h)

-- The effect of a call on an end: it stays, opens, binds, continues its session, takes a packet, or ends its session.
use Rattle.std.proofs.Common.{◌≡◌, ℕ, zero, suc, ◌+◌, ◌-◌, ◌<◌, ◌≤◌, Bool, true, false, not, ◌⊎◌, inl, inr, List, [], ◌∷◌, ◌++◌, map, length, drop, min, max, Option, Some, None, Result, nat_lt, nat_le, ◌==◌, refl, sym, ap, ◌∙◌, subst, arith, append_assoc, append-nil, length-append, eqb-true, eq-eqb, ltb-false, leb-true, leb-false}
use Rattle.std.proofs.lemmas.Bool.{cond_both, and_parts, and_from, or_parts, not-false}
use Rattle.std.proofs.lemmas.List.{map-append}
use Rattle.std.proofs.lemmas.Option.{same_Some}
use Rattle.tora_arq.proofs.HeldLemmas.{length-hold_at}
use Rattle.tora_packet.specs.declared.Packet.{Packet}
use Rattle.tora_frame.specs.declared.parts.TheConstants.{GREATEST_NUMBER}
use Rattle.tora_frame.specs.declared.parts.Version.{Version}
use Rattle.tora_frame.specs.declared.parts.Version.TheVariants.{One}
use Rattle.tora_frame.specs.declared.parts.Body.{Body}
use Rattle.tora_frame.specs.declared.parts.Body.TheVariants.{Hello, Data, Ack}
use Rattle.tora_frame.specs.FrameParts.{FrameParts, batch}
use Rattle.tora_arq.specs.declared.TheConstants.{QUEUE_PLACES}
use Rattle.tora_arq.specs.declared.life.Life.{Life}
use Rattle.tora_arq.specs.declared.verdict.Verdict.{Verdict}
use Rattle.tora_arq.specs.declared.times.Times.{Times}
use Rattle.tora_arq.specs.declared.reason.Reason.{Reason}
use Rattle.tora_arq.specs.declared.reason.Reason.TheVariants as Because
use Rattle.tora_arq.specs.declared.link_event.LinkEvent.TheVariants.{Deliver, Down}
use Rattle.tora_arq.specs.declared.submit_error.SubmitError.{SubmitError}
use Rattle.tora_arq.specs.declared.phase.Phase.{Phase}
use Rattle.tora_arq.specs.declared.phase.Phase.TheVariants.{Closed, Unbound, Bound}
use Rattle.tora_arq.specs.declared.queued_packet.QueuedPacket.{QueuedPacket}
use Rattle.tora_arq.specs.Lives.{life_of, is_same_life}
use Rattle.tora_arq.specs.Settings.{Settings}
use Rattle.tora_arq.specs.Held.{hold_at}
use Rattle.tora_arq.specs.SendQueue.{packets_in, untried, is_ready, ReadyRun, ready_run, DueBatch, due_batch, due_behind, first_due}
use Rattle.tora_arq.specs.LinkEnd.{EndState, is_two, passed, data_version, most_packets, after_open, after_end, after_bind, count_of, is_foreign, is_busy, on_life_told, after_acknowledgement, after_delivery, after_release, after_hold, after_packet, after_packets, on_data, on_matched, on_frame_in, on_frame, is_silent, after_tick_in, after_tick, on_submit_in, on_submit, after_cut_in, after_cut, is_hello_due, is_old_hello_due, frame_sent, after_hello, after_old_hello, on_hello, due_of, on_transmit_due, on_transmit_in, on_transmit}
use Rattle.tora_arq.specs.LinkFacts.{LinkCall, after_call, IsPossible, events_left, packet_where_ok, packet_submitted, IsFrameOf, HandsInFrameOf, OpensWith, IsFrameSentIn, AreHeld, AreFrom, IsPacketAt, HasNumber, BodyTells, CallTells, IsCountOfCall}
use Rattle.tora_arq.specs.LinkFacts.LinkCall.{Open, Frame, Tick, Submit, PollEvent, Transmit, Cut}

-- ---- sessions compared

pub is_same_life-refl : (life : Life) → is_same_life life life ≡ true
is_same_life-refl life = and_from _ _ (eq-eqb life.own life.own refl) (eq-eqb life.peer life.peer refl)

pub is_same_life-true : (a b : Life) → is_same_life a b ≡ true → a ≡ b
is_same_life-true a b e =
    let h = and_parts _ _ e in
    let p : a.own ≡ b.own = eqb-true _ _ h.0 in
    let q : a.peer ≡ b.peer = eqb-true _ _ h.1 in
    λ i. record { own = p i; peer = q i }

-- ---- what is delivered and held

-- an end delivers these packets, and the rest of its state stays
pub record Releases (Is : ℕ → Packet → Type 0) (life : Life) (e e' : EndState) : Type 0 where
  pub phase : e'.phase ≡ e.phase
  pub heard : e'.heard ≡ e.heard
  pub last_life : e'.last_life ≡ e.last_life
  pub queue : e'.queue ≡ e.queue
  pub acknowledged : e'.acknowledged ≡ e.acknowledged
  pub transmitted : e'.transmitted ≡ e.transmitted
  pub packets : List Packet
  pub events : e'.events ≡ e.events ++ map (Deliver life) packets
  pub accepted : e'.accepted ≡ e.accepted + length packets
  pub keeps : AreHeld Is e.accepted e.held → AreFrom Is e.accepted packets × AreHeld Is e'.accepted e'.held
  pub shorter : length e'.held ≤ length e.held

release_none : (Is : ℕ → Packet → Type 0) (life : Life) (e : EndState) → Releases Is life e e
release_none Is life e = record {
  phase = refl;
  heard = refl;
  last_life = refl;
  queue = refl;
  acknowledged = refl;
  transmitted = refl;
  packets = [];
  events = sym (append-nil e.events);
  accepted = omega arith;
  keeps = λ h. (tt, h);
  shorter = omega arith;
}

release_keeps : (Is : ℕ → Packet → Type 0) (life : Life) (held : List (Option Packet)) (e : EndState) → e.held ≡ held → Releases Is life e (after_release life e held)
unfolding after_release
release_keeps Is life [] e q = release_none Is life e
release_keeps Is life (None ∷ held) e q = release_none Is life e
release_keeps Is life (Some packet ∷ held) e q =
    let r = release_keeps Is life held (after_delivery e life packet held) refl in record {
      phase = r.phase;
      heard = r.heard;
      last_life = r.last_life;
      queue = r.queue;
      acknowledged = r.acknowledged;
      transmitted = r.transmitted;
      packets = packet ∷ r.packets;
      events = r.events ∙ append_assoc e.events (Deliver life packet ∷ []) (map (Deliver life) r.packets);
      accepted = omega (arith, r.accepted);
      keeps = λ h. let first : AreHeld Is e.accepted (Some packet ∷ held) = subst (AreHeld Is e.accepted) q h in
          let rest = r.keeps first.1 in ((first.0, rest.0), rest.1);
      shorter = let n : length e.held ≡ suc (length held) = ap length q in omega (arith, r.shorter);
    }

-- a packet is held at its place
hold_keeps : (Is : ℕ → Packet → Type 0) (a place : ℕ) (packet : Packet) (held : List (Option Packet)) → Is (a + place) packet → AreHeld Is a held → AreHeld Is a (hold_at place packet held)
hold_keeps Is a zero packet [] t h = (let z : a + 0 ≡ a = omega arith in subst (λ m. Is m packet) z t, tt)
hold_keeps Is a zero packet (None ∷ held) t h = (let z : a + 0 ≡ a = omega arith in subst (λ m. Is m packet) z t, h)
hold_keeps Is a zero packet (Some first ∷ held) t h = h
hold_keeps Is a (suc place) packet [] t h = hold_keeps Is (suc a) place packet [] (let z : a + suc place ≡ suc a + place = omega arith in subst (λ m. Is m packet) z t) tt
hold_keeps Is a (suc place) packet (None ∷ held) t h = hold_keeps Is (suc a) place packet held (let z : a + suc place ≡ suc a + place = omega arith in subst (λ m. Is m packet) z t) h
hold_keeps Is a (suc place) packet (Some first ∷ held) t h = (h.0, hold_keeps Is (suc a) place packet held (let z : a + suc place ≡ suc a + place = omega arith in subst (λ m. Is m packet) z t) h.1)

-- a bound end receives packets of a DATA frame; `Tells` is what the frame says about them
pub record Takes (Is : ℕ → Packet → Type 0) (window furthest : ℕ) (life : Life) (Tells : Type 0) (e e' : EndState) : Type 0 where
  pub phase : e'.phase ≡ e.phase
  pub heard : e'.heard ≡ e.heard
  pub last_life : e'.last_life ≡ e.last_life
  pub queue : e'.queue ≡ e.queue
  pub acknowledged : e'.acknowledged ≡ e.acknowledged
  pub transmitted : e'.transmitted ≡ e.transmitted
  pub packets : List Packet
  pub events : e'.events ≡ e.events ++ map (Deliver life) packets
  pub accepted : e'.accepted ≡ e.accepted + length packets
  pub keeps : AreHeld Is e.accepted e.held → Tells → AreFrom Is e.accepted packets × AreHeld Is e'.accepted e'.held
  pub within : furthest ≤ e.accepted + window → length e.held ≤ window → length e'.held ≤ window

take_none : (Is : ℕ → Packet → Type 0) (window furthest : ℕ) (life : Life) (Tells : Type 0) (e : EndState) → Takes Is window furthest life Tells e e
take_none Is window furthest life Tells e = record {
  phase = refl;
  heard = refl;
  last_life = refl;
  queue = refl;
  acknowledged = refl;
  transmitted = refl;
  packets = [];
  events = sym (append-nil e.events);
  accepted = omega arith;
  keeps = λ h t. (tt, h);
  within = λ near h. h;
}

pub AreFrom-append : (Is : ℕ → Packet → Type 0) (place : ℕ) (xs ys : List Packet) → AreFrom Is place xs → AreFrom Is (place + length xs) ys → AreFrom Is place (xs ++ ys)
AreFrom-append Is place [] ys a b = let z : place + 0 ≡ place = omega arith in subst (λ n. AreFrom Is n ys) z b
AreFrom-append Is place (x ∷ xs) ys a b = (a.0, AreFrom-append Is (suc place) xs ys a.1 (let z : place + suc (length xs) ≡ suc place + length xs = omega arith in subst (λ n. AreFrom Is n ys) z b))

-- first some packets, and then more
take_more : (Is : ℕ → Packet → Type 0) (window furthest : ℕ) (life : Life) (First Rest Tells : Type 0) (e e1 e2 : EndState) → (Tells → First × Rest) → Takes Is window furthest life First e e1 → Takes Is window furthest life Rest e1 e2 →
    Takes Is window furthest life Tells e e2
take_more Is window furthest life First Rest Tells e e1 e2 split a b = record {
  phase = b.phase ∙ a.phase;
  heard = b.heard ∙ a.heard;
  last_life = b.last_life ∙ a.last_life;
  queue = b.queue ∙ a.queue;
  acknowledged = b.acknowledged ∙ a.acknowledged;
  transmitted = b.transmitted ∙ a.transmitted;
  packets = a.packets ++ b.packets;
  events = b.events ∙ ap (λ x. x ++ map (Deliver life) b.packets) a.events ∙ append_assoc e.events (map (Deliver life) a.packets) (map (Deliver life) b.packets)
      ∙ ap (λ x. e.events ++ x) (sym (map-append (Deliver life) a.packets b.packets));
  accepted = omega (arith, a.accepted, b.accepted, length-append a.packets b.packets);
  keeps = λ h t.
      let told = split t in
      let x = a.keeps h told.0 in
      let y = b.keeps x.1 told.1 in
      (AreFrom-append Is e.accepted a.packets b.packets x.0 (subst (λ n. AreFrom Is n b.packets) a.accepted y.0), y.1);
  within = λ near h. b.within (omega (arith, near, a.accepted)) (a.within near h);
}

packet_takes : (Is : ℕ → Packet → Type 0) (window furthest : ℕ) (life : Life) (number : ℕ) (packet : Packet) (e : EndState) →
    Takes Is window furthest life ((place : ℕ) → number ≡ suc place → Is place packet) e (after_packet life furthest e number packet)
unfolding after_packet
packet_takes Is window furthest life number packet e =
    cond_both (nat_le number e.accepted) _ _ (Takes Is window furthest life _ e) (λ _. take_none Is window furthest life _ e) (λ late.
    cond_both (nat_le number furthest) _ _ (Takes Is window furthest life _ e)
    (λ soon.
    let e1 : EndState = after_hold e number packet in
    let r : Releases Is life e1 (after_release life e1 e1.held) = release_keeps Is life e1.held e1 refl in
    let l : e.accepted < number = leb-false number e.accepted late in
    let m : number ≤ furthest = leb-true number furthest soon in
    let n = length-hold_at (number - suc e.accepted) packet e.held in
    record {
      phase = r.phase;
      heard = r.heard;
      last_life = r.last_life;
      queue = r.queue;
      acknowledged = r.acknowledged;
      transmitted = r.transmitted;
      packets = r.packets;
      events = r.events;
      accepted = r.accepted;
      keeps = λ h t. r.keeps (hold_keeps Is e.accepted (number - suc e.accepted) packet e.held (t (e.accepted + (number - suc e.accepted)) (omega arith)) h);
      within = λ near h. omega (arith, near, r.shorter);
    })
    (λ _. take_none Is window furthest life _ e))

-- each of the packets, numbered from the first number on, is the one of its number
abbrev pub AreTold : (ℕ → Packet → Type 0) → ℕ → List Packet → Type 0
AreTold Is number packets = (place : ℕ) (packet : Packet) → HasNumber number packets (suc place) packet → Is place packet

packets_take : (Is : ℕ → Packet → Type 0) (window furthest : ℕ) (life : Life) (packets : List Packet) (number : ℕ) (e : EndState) → Takes Is window furthest life (AreTold Is number packets) e (after_packets life furthest e number packets)
unfolding after_packets
packets_take Is window furthest life [] number e = take_none Is window furthest life _ e
packets_take Is window furthest life (packet ∷ packets) number e =
    take_more Is window furthest life ((place : ℕ) → number ≡ suc place → Is place packet) (AreTold Is (suc number) packets) (AreTold Is number (packet ∷ packets)) e (after_packet life furthest e number packet)
    (after_packets life furthest (after_packet life furthest e number packet) (suc number) packets)
    (λ t. (λ place n. t place packet (0, omega (arith, n), refl), λ place other h. t place other (suc h.0, omega (arith, h.1), h.2)))
    (packet_takes Is window furthest life number packet e) (packets_take Is window furthest life packets (suc number) (after_packet life furthest e number packet))

-- ---- the effect of a call on an end

-- the call changes at most which packets were transmitted, and what is owed
pub record Stays (s : Settings) (call : LinkCall) (e e' : EndState) : Type 0 where
  pub phase : e'.phase ≡ e.phase
  pub heard : (life : Life) → e.phase ≡ Bound life → e'.heard ≡ e.heard
  pub last_life : e'.last_life ≡ e.last_life
  pub packets : packets_in e'.queue ≡ packets_in e.queue
  pub acknowledged : e'.acknowledged ≡ e.acknowledged
  pub more : e.transmitted ≤ e'.transmitted
  pub transmitted : (e'.transmitted ≡ e.transmitted) ⊎ (((life : Life) × (e.phase ≡ Bound life)) × (e'.transmitted ≤ max e.transmitted (e.acknowledged + length e.queue)))
  pub accepted : e'.accepted ≡ e.accepted
  pub held : e'.held ≡ e.held
  pub events : e'.events ≡ events_left e call
  pub submitted : packet_submitted e call ≡ []

-- the end opens with a number
pub record Opens (own : ℕ) (call : LinkCall) (e e' : EndState) : Type 0 where
  pub closed : e.phase ≡ Closed
  pub above : e.last_life < own
  pub opens : OpensWith own call
  pub phase : e'.phase ≡ Unbound own
  pub last_life : e'.last_life ≡ own
  pub queue : e'.queue ≡ []
  pub acknowledged : e'.acknowledged ≡ 0
  pub transmitted : e'.transmitted ≡ 0
  pub accepted : e'.accepted ≡ 0
  pub held : e'.held ≡ []
  pub events : e'.events ≡ events_left e call
  pub submitted : packet_submitted e call ≡ []

-- the bound session ends, and the end closes
pub record Ends (life : Life) (reason : Reason) (call : LinkCall) (e e' : EndState) : Type 0 where
  pub bound : e.phase ≡ Bound life
  pub phase : e'.phase ≡ Closed
  pub last_life : e'.last_life ≡ e.last_life
  pub queue : e'.queue ≡ []
  pub held : e'.held ≡ []
  pub events : e'.events ≡ events_left e call ++ Down life reason ∷ []
  pub submitted : packet_submitted e call ≡ []

-- the bound end takes a packet
pub record Submits (life : Life) (packet : Packet) (call : LinkCall) (e e' : EndState) : Type 0 where
  pub names : call ≡ Submit life packet
  pub bound : e.phase ≡ Bound life
  pub phase : e'.phase ≡ Bound life
  pub heard : e'.heard ≡ e.heard
  pub last_life : e'.last_life ≡ e.last_life
  pub queue : e'.queue ≡ e.queue ++ untried packet ∷ []
  pub acknowledged : e'.acknowledged ≡ e.acknowledged
  pub transmitted : e'.transmitted ≡ e.transmitted
  pub accepted : e'.accepted ≡ e.accepted
  pub held : e'.held ≡ e.held
  pub events : e'.events ≡ events_left e call
  pub submitted : packet_submitted e call ≡ packet ∷ []

-- a frame of the session arrives at a bound end with the state `b`
pub record GoesOn (Is : ℕ → Packet → Type 0) (s : Settings) (life : Life) (call : LinkCall) (b e' : EndState) : Type 0 where
  pub count : ℕ
  pub counts : IsCountOfCall s life count call
  pub comes : HandsInFrameOf s life call
  pub below : count ≤ b.transmitted
  pub phase : e'.phase ≡ b.phase
  pub heard : e'.heard ≡ b.heard
  pub last_life : e'.last_life ≡ b.last_life
  pub queue : e'.queue ≡ drop (count - b.acknowledged) b.queue
  pub acknowledged : e'.acknowledged ≡ max b.acknowledged count
  pub transmitted : e'.transmitted ≡ b.transmitted
  pub packets : List Packet
  pub events : e'.events ≡ b.events ++ map (Deliver life) packets
  pub accepted : e'.accepted ≡ b.accepted + length packets
  pub keeps : AreHeld Is b.accepted b.held → CallTells Is s life call → AreFrom Is b.accepted packets × AreHeld Is e'.accepted e'.held
  pub within : length b.held ≤ s.window → length e'.held ≤ s.window

pub data Step (Is : ℕ → Packet → Type 0) (s : Settings) (call : LinkCall) (e e' : EndState) : Type 0 where
  stays : Stays s call e e' → Step Is s call e e'
  opens : (own : ℕ) → Opens own call e e' → Step Is s call e e'
  ends : (life : Life) (reason : Reason) → Ends life reason call e e' → Step Is s call e e'
  submits : (life : Life) (packet : Packet) → Submits life packet call e e' → Step Is s call e e'
  binds : (life : Life) → e.phase ≡ Unbound life.own → events_left e call ≡ e.events → packet_submitted e call ≡ [] → GoesOn Is s life call (after_bind e life) e' → Step Is s call e e'
  goes_on : (life : Life) → e.phase ≡ Bound life → events_left e call ≡ e.events → packet_submitted e call ≡ [] → GoesOn Is s life call e e' → Step Is s call e e'

-- nothing changes
no_change : (s : Settings) (call : LinkCall) (e : EndState) → events_left e call ≡ e.events → packet_submitted e call ≡ [] → Stays s call e e
no_change s call e v p = record {
  phase = refl;
  heard = λ life j. refl;
  last_life = refl;
  packets = refl;
  acknowledged = refl;
  more = omega arith;
  transmitted = inl refl;
  accepted = refl;
  held = refl;
  events = sym v;
  submitted = p;
}

life_ends : (life : Life) (reason : Reason) (call : LinkCall) (e : EndState) → e.phase ≡ Bound life → events_left e call ≡ e.events → packet_submitted e call ≡ [] → Ends life reason call e (after_end e life reason)
life_ends life reason call e j v p = record {
  bound = j;
  phase = refl;
  last_life = refl;
  queue = refl;
  held = refl;
  events = ap (λ x. x ++ Down life reason ∷ []) (sym v);
  submitted = p;
}

-- ---- frames

module _ (Is : ℕ → Packet → Type 0) (s : Settings) (f : FrameParts) (now : ℕ) where
  matched_keeps : (b : EndState) (version : Version) (life : Life) (fresh : Bool) (body : Body) → f.body ≡ body → IsFrameOf s life f → count_of body ≤ b.transmitted →
      GoesOn Is s life (Frame f now) b (on_matched s.window (passed b version) life fresh now body).1
  unfolding on_matched on_data
  matched_keeps b version life fresh Hello q o le =
      let z : 0 - b.acknowledged ≡ 0 = omega arith in record {
        count = 0;
        counts = (o, ap count_of q);
        comes = o;
        below = le;
        phase = refl;
        heard = refl;
        last_life = refl;
        queue = ap (λ n. drop n b.queue) (sym z);
        acknowledged = omega arith;
        transmitted = refl;
        packets = [];
        events = sym (append-nil b.events);
        accepted = omega arith;
        keeps = λ h t. (tt, h);
        within = λ h. h;
      }
  matched_keeps b version life fresh (Ack count) q o le = record {
    count = count;
    counts = (o, ap count_of q);
    comes = o;
    below = le;
    phase = refl;
    heard = refl;
    last_life = refl;
    queue = refl;
    acknowledged = refl;
    transmitted = refl;
    packets = [];
    events = sym (append-nil b.events);
    accepted = omega arith;
    keeps = λ h t. (tt, h);
    within = λ h. h;
  }
  matched_keeps b version life fresh (Data number count packets) q o le =
      let b1 : EndState = record (after_acknowledgement (passed b version) count now) { owes_ack = true } in
      let r = packets_take Is s.window (b1.accepted + s.window) life packets.items number b1 in record {
        count = count;
        counts = (o, ap count_of q);
        comes = o;
        below = le;
        phase = r.phase;
        heard = r.heard;
        last_life = r.last_life;
        queue = r.queue;
        acknowledged = r.acknowledged;
        transmitted = r.transmitted;
        packets = r.packets;
        events = r.events;
        accepted = r.accepted;
        keeps = λ h t. r.keeps h (subst (BodyTells Is) q (t o));
        within = r.within (omega arith);
      }

  mark_keeps : (e : EndState) (version : Version) → Stays s (Frame f now) e (passed e version)
  mark_keeps e version = record {
    phase = refl;
    heard = λ life j. refl;
    last_life = refl;
    packets = refl;
    acknowledged = refl;
    more = omega arith;
    transmitted = inl refl;
    accepted = refl;
    held = refl;
    events = refl;
    submitted = refl;
  }

  life_told_keeps : (e : EndState) (own : ℕ) → e.phase ≡ Unbound own → (body : Body) → Stays s (Frame f now) e (on_life_told e f.header.version f.header.life body).1
  life_told_keeps e own j Hello =
      cond_both (nat_lt f.header.life e.heard) _ _ (λ (r : Verdict × EndState). Stays s (Frame f now) e r.1) (λ _. no_change s (Frame f now) e refl refl) (λ _.
      cond_both (f.header.life == e.heard) _ _ (λ (r : Verdict × EndState). Stays s (Frame f now) e r.1) (λ _. mark_keeps e f.header.version) (λ _. record {
        phase = refl;
        heard = λ life k. let y : Unbound own ≡ Bound life = sym j ∙ k in absurd (cc);
        last_life = refl;
        packets = refl;
        acknowledged = refl;
        more = omega arith;
        transmitted = inl refl;
        accepted = refl;
        held = refl;
        events = refl;
        submitted = refl;
      }))
  life_told_keeps e own j (Data number count packets) = no_change s (Frame f now) e refl refl
  life_told_keeps e own j (Ack count) = no_change s (Frame f now) e refl refl

  abbrev StepTo : EndState → Verdict × EndState → Type 0
  StepTo e r = Step Is s (Frame f now) e r.1

  frame_in_keeps : (e : EndState) (ph : Phase) → e.phase ≡ ph → f.header.sender ≡ s.peer → f.header.receiver ≡ s.me → StepTo e (on_frame_in s.window e f now ph)
  unfolding on_frame_in
  frame_in_keeps e Closed j from to = stays (no_change s (Frame f now) e refl refl)
  frame_in_keeps e (Unbound own) j from to =
      cond_both (f.header.heard == own) _ _ (StepTo e)
      (λ h. cond_both (nat_lt 0 (count_of f.body)) _ _ (StepTo e) (λ _. stays (no_change s (Frame f now) e refl refl)) (λ small.
      cond_both (nat_lt f.header.life e.heard) _ _ (StepTo e) (λ _. stays (no_change s (Frame f now) e refl refl)) (λ _.
      let life : Life = life_of own f.header.life in
      binds life j refl refl
      (matched_keeps (after_bind e life) f.header.version life true f.body refl (record { sender = from; receiver = to; peer = refl; own = eqb-true f.header.heard own h }) (ltb-false 0 (count_of f.body) small)))))
      (λ _. stays (life_told_keeps e own j f.body))
  frame_in_keeps e (Bound life) j from to =
      cond_both (nat_lt life.peer f.header.life) _ _ (StepTo e) (λ _. ends life Because.NewPeer (life_ends life Because.NewPeer (Frame f now) e j refl refl)) (λ a.
      cond_both (nat_lt f.header.life life.peer) _ _ (StepTo e) (λ _. stays (no_change s (Frame f now) e refl refl)) (λ b.
      cond_both (f.header.heard == life.own) _ _ (StepTo e)
      (λ h. cond_both (nat_lt e.transmitted (count_of f.body)) _ _ (StepTo e) (λ _. stays (no_change s (Frame f now) e refl refl)) (λ small.
      goes_on life j refl refl
      (matched_keeps e f.header.version life false f.body refl
      (record { sender = from; receiver = to; peer = omega (arith, ltb-false life.peer f.header.life a, ltb-false f.header.life life.peer b); own = eqb-true f.header.heard life.own h })
      (ltb-false e.transmitted (count_of f.body) small))))
      (λ _. stays (no_change s (Frame f now) e refl refl))))

  pub frame_step : (e : EndState) → StepTo e (on_frame s e f now)
  unfolding on_frame
  frame_step e =
      cond_both (is_foreign s f) _ _ (StepTo e) (λ _. stays (no_change s (Frame f now) e refl refl)) (λ known.
      cond_both (is_busy e) _ _ (StepTo e) (λ _. stays (no_change s (Frame f now) e refl refl)) (λ _.
      let p = or_parts _ _ known in
      let q = or_parts _ _ p.0 in
      frame_in_keeps e e.phase refl (eqb-true f.header.sender s.peer (not-false _ q.0)) (eqb-true f.header.receiver s.me (not-false _ q.1))))

-- ---- the other calls

open_step : (Is : ℕ → Packet → Type 0) (s : Settings) (e : EndState) (life now : ℕ) → e.phase ≡ Closed → e.last_life < life → Step Is s (Open life now) e (after_open e life now)
open_step Is s e life now j above = opens life (record {
  closed = j;
  above = above;
  opens = refl;
  phase = refl;
  last_life = refl;
  queue = refl;
  acknowledged = refl;
  transmitted = refl;
  accepted = refl;
  held = refl;
  events = refl;
  submitted = refl;
})

poll_step : (Is : ℕ → Packet → Type 0) (s : Settings) (e : EndState) → Step Is s PollEvent e (record e { events = drop 1 e.events })
poll_step Is s e = stays (record {
  phase = refl;
  heard = λ life j. refl;
  last_life = refl;
  packets = refl;
  acknowledged = refl;
  more = omega arith;
  transmitted = inl refl;
  accepted = refl;
  held = refl;
  events = refl;
  submitted = refl;
})

tick_step : (Is : ℕ → Packet → Type 0) (s : Settings) (e : EndState) (now : ℕ) → Step Is s (Tick now) e (after_tick s e now)
unfolding after_tick
tick_step Is s e now = go e.phase refl
  where
    go : (ph : Phase) → e.phase ≡ ph → Step Is s (Tick now) e (after_tick_in s e now ph)
    go Closed j = stays (no_change s (Tick now) e refl refl)
    go (Unbound own) j = stays (no_change s (Tick now) e refl refl)
    go (Bound life) j =
        cond_both (is_silent s e now) _ _ (Step Is s (Tick now) e)
        (λ _. ends life Because.Silent (life_ends life Because.Silent (Tick now) e j refl refl))
        (λ _. stays (no_change s (Tick now) e refl refl))

cut_step : (Is : ℕ → Packet → Type 0) (s : Settings) (e : EndState) (life : Life) → Step Is s (Cut life) e (after_cut e life)
unfolding after_cut
cut_step Is s e life = go e.phase refl
  where
    go : (ph : Phase) → e.phase ≡ ph → Step Is s (Cut life) e (after_cut_in e life ph)
    go Closed j = stays (no_change s (Cut life) e refl refl)
    go (Unbound own) j = stays (no_change s (Cut life) e refl refl)
    go (Bound current) j =
        cond_both (is_same_life life current) _ _ (Step Is s (Cut life) e)
        (λ _. ends current Because.Cut (life_ends current Because.Cut (Cut life) e j refl refl))
        (λ _. stays (no_change s (Cut life) e refl refl))

-- the effect of `submit` on an end, by its result
abbrev SubmitStep : (ℕ → Packet → Type 0) → Settings → EndState → Life → Packet → Result (Unit {0}) SubmitError × EndState → Type 0
SubmitStep Is s e life packet r = packet_submitted e (Submit life packet) ≡ packet_where_ok packet r.0 → Step Is s (Submit life packet) e r.1

submit_step : (Is : ℕ → Packet → Type 0) (s : Settings) (e : EndState) (life : Life) (packet : Packet) → SubmitStep Is s e life packet (on_submit e life packet)
unfolding on_submit
submit_step Is s e life packet = go e.phase refl
  where
    go : (ph : Phase) → e.phase ≡ ph → SubmitStep Is s e life packet (on_submit_in e life packet ph)
    go Closed j = λ p. stays (no_change s (Submit life packet) e refl p)
    go (Unbound own) j = λ p. stays (no_change s (Submit life packet) e refl p)
    go (Bound current) j =
        cond_both (not (is_same_life life current)) _ _ (SubmitStep Is s e life packet)
        (λ _ p. stays (no_change s (Submit life packet) e refl p))
        (λ same. cond_both (nat_le GREATEST_NUMBER (e.acknowledged + length e.queue)) _ _ (SubmitStep Is s e life packet)
        (λ _ p. ends current Because.Spent (life_ends current Because.Spent (Submit life packet) e j refl p))
        (λ _. cond_both (nat_le QUEUE_PLACES (length e.queue)) _ _ (SubmitStep Is s e life packet)
        (λ _ p. ends current Because.Full (life_ends current Because.Full (Submit life packet) e j refl p))
        (λ _ p. submits current packet (record {
          names = ap (λ x. Submit x packet) (is_same_life-true life current (not-false _ same));
          bound = j;
          phase = j;
          heard = refl;
          last_life = refl;
          queue = refl;
          acknowledged = refl;
          transmitted = refl;
          accepted = refl;
          held = refl;
          events = refl;
          submitted = p;
        }))))

-- ---- frames sent

-- the places of a list after one more packet was put before it
AreFrom-behind : (packet : Packet) (all : List Packet) (place : ℕ) (packets : List Packet) → AreFrom (IsPacketAt all) place packets → AreFrom (IsPacketAt (packet ∷ all)) (suc place) packets
AreFrom-behind packet all place [] h = tt
AreFrom-behind packet all place (x ∷ packets) h = (h.0, AreFrom-behind packet all (suc place) packets h.1)

-- the packets of a run are at the front of the queue, and stay there
record IsRun (most : ℕ) (queue : List QueuedPacket) (run : ReadyRun) : Type 0 where
  few : length run.packets ≤ most
  packets_are : AreFrom (IsPacketAt (packets_in queue)) 0 run.packets
  here : length run.packets ≤ length queue
  same : packets_in run.queue ≡ packets_in queue

run_keeps : (times : Times) (now most : ℕ) (queue : List QueuedPacket) → IsRun most queue (ready_run times now most queue)
unfolding ready_run
run_keeps times now zero queue = record { few = omega arith; packets_are = tt; here = omega arith; same = refl }
run_keeps times now (suc most) [] = record { few = omega arith; packets_are = tt; here = omega arith; same = refl }
run_keeps times now (suc most) (q ∷ queue) =
    cond_both (is_ready times now q) _ _ (IsRun (suc most) (q ∷ queue))
    (λ _. let r = run_keeps times now most queue in record {
      few = omega (arith, r.few);
      packets_are = (refl, AreFrom-behind q.packet (packets_in queue) 0 (ready_run times now most queue).packets r.packets_are);
      here = omega (arith, r.here);
      same = ap (λ ps. q.packet ∷ ps) r.same;
    })
    (λ _. record { few = omega arith; packets_are = tt; here = omega arith; same = refl })

-- due packets are in the queue from their place on, and stay there
pub record IsDue (number window : ℕ) (queue : List QueuedPacket) (due : DueBatch) : Type 0 where
  pub place : ℕ
  pub within : place + length due.packets ≤ window
  pub number_is : due.number ≡ number + place
  pub packets_are : AreFrom (IsPacketAt (packets_in queue)) place due.packets
  pub here : place + length due.packets ≤ length queue
  pub same : packets_in due.queue ≡ packets_in queue

due_keeps : (times : Times) (now most number window : ℕ) (queue : List QueuedPacket) (due : DueBatch) → first_due times now most number window queue ≡ Some due → IsDue number window queue due
unfolding first_due
due_keeps times now most number zero queue due = λ e. absurd (cc)
due_keeps times now most number (suc window) [] due = λ e. absurd (cc)
due_keeps times now most number (suc window) (q ∷ queue) due =
    cond_both (is_ready times now q) _ _ (λ (o : Option DueBatch). o ≡ Some due → IsDue number (suc window) (q ∷ queue) due)
    (λ _ e.
    let run = ready_run times now (min most (suc window)) (q ∷ queue) in
    let r = run_keeps times now (min most (suc window)) (q ∷ queue) in
    let y : due_batch number run ≡ due = same_Some (due_batch number run) due e in
    subst (λ (d : DueBatch). IsDue number (suc window) (q ∷ queue) d) y
    (record { place = 0; within = omega (arith, r.few); number_is = omega arith; packets_are = r.packets_are; here = omega (arith, r.here); same = r.same }))
    (λ _. go (first_due times now most (suc number) window queue) (due_keeps times now most (suc number) window queue))
  where
    go : (o : Option DueBatch) → ((d : DueBatch) → o ≡ Some d → IsDue (suc number) window queue d) → due_behind q o ≡ Some due → IsDue number (suc window) (q ∷ queue) due
    go None h e = absurd (cc)
    go (Some r) h e =
        let i = h r refl in
        let y : record r { queue = q ∷ r.queue } ≡ due = cc in
        subst (λ (d : DueBatch). IsDue number (suc window) (q ∷ queue) d) y
        (record {
          place = suc i.place;
          within = omega (arith, i.within);
          number_is = omega (arith, i.number_is);
          packets_are = AreFrom-behind q.packet (packets_in queue) i.place r.packets i.packets_are;
          here = omega (arith, i.here);
          same = ap (λ ps. q.packet ∷ ps) i.same;
        })

-- the result of `poll_transmit`, and its effect on an end
pub record Sends (s : Settings) (now : ℕ) (e : EndState) (r : Option FrameParts × EndState) : Type 0 where
  pub end : Stays s (Transmit now) e r.1
  pub frame : (f : FrameParts) → r.0 ≡ Some f → IsFrameSentIn s e f e.phase

sends_none : (s : Settings) (now : ℕ) (e : EndState) → Sends s now e (None, e)
sends_none s now e = record { end = no_change s (Transmit now) e refl refl; frame = λ f q. absurd (cc) }

-- a frame that changes only what is owed
sends_some : (s : Settings) (now : ℕ) (e e' : EndState) (f : FrameParts) → Stays s (Transmit now) e e' → IsFrameSentIn s e f e.phase → Sends s now e (Some f, e')
sends_some s now e e' f k t = record {
  end = k;
  frame = λ g q. let y : f ≡ g = cc in subst (λ h. IsFrameSentIn s e h e.phase) y t;
}

-- a change of what is owed changes nothing else
owing_keeps : (s : Settings) (now : ℕ) (e : EndState) (owes_hello owes_old_hello owes_ack : Bool) (last_hello : Option ℕ) →
    Stays s (Transmit now) e (record e { owes_hello = owes_hello; owes_old_hello = owes_old_hello; owes_ack = owes_ack; last_hello = last_hello })
owing_keeps s now e owes_hello owes_old_hello owes_ack last_hello = record {
  phase = refl;
  heard = λ life j. refl;
  last_life = refl;
  packets = refl;
  acknowledged = refl;
  more = omega arith;
  transmitted = inl refl;
  accepted = refl;
  held = refl;
  events = refl;
  submitted = refl;
}

module _ (s : Settings) (now : ℕ) (e : EndState) where
  in_phase : (ph : Phase) (f : FrameParts) → e.phase ≡ ph → IsFrameSentIn s e f ph → IsFrameSentIn s e f e.phase
  in_phase ph f j h = subst (IsFrameSentIn s e f) (sym j) h

  -- a HELLO if one is due, and otherwise the other frame
  hello_sends : (own heard : ℕ) (other : Option FrameParts × EndState) → ((version : Version) → IsFrameSentIn s e (frame_sent s version own heard Hello) e.phase) → Sends s now e other → Sends s now e (on_hello s e own heard now other)
  hello_sends own heard other h k =
      cond_both (is_old_hello_due e) _ _ (Sends s now e)
      (λ _. sends_some s now e (after_old_hello e) (frame_sent s One own heard Hello) (owing_keeps s now e e.owes_hello false e.owes_ack e.last_hello) (h One)) (λ _.
      cond_both (is_hello_due s e now) _ _ (Sends s now e)
      (λ _. sends_some s now e (after_hello s e now) (frame_sent s s.version own heard Hello) (owing_keeps s now e false (is_two s.version) e.owes_ack (Some now)) (h s.version)) (λ _. k))

  due_sends : (life : Life) → e.phase ≡ Bound life → (o : Option DueBatch) → due_of s e now ≡ o → Sends s now e (on_transmit_due s e life o)
  due_sends life j None q =
      cond_both e.owes_ack _ _ (Sends s now e)
      (λ _. sends_some s now e (record e { owes_ack = false }) (frame_sent s (data_version e) life.own life.peer (Ack e.accepted)) (owing_keeps s now e e.owes_hello e.owes_old_hello false e.last_hello)
      (in_phase (Bound life) (frame_sent s (data_version e) life.own life.peer (Ack e.accepted)) j (refl, refl)))
      (λ _. sends_none s now e)
  due_sends life j (Some due) q =
      let i = due_keeps s.times now (most_packets (data_version e)) (suc e.acknowledged) s.window e.queue due q in
      let f : FrameParts = frame_sent s (data_version e) life.own life.peer (Data due.number e.accepted (batch due.packets)) in
      sends_some s now e (record e { queue = due.queue; transmitted = max e.transmitted (due.number + length due.packets - 1); owes_ack = false }) f
      (record {
        phase = refl;
        heard = λ other k. refl;
        last_life = refl;
        packets = i.same;
        acknowledged = refl;
        more = omega arith;
        transmitted = inr ((life, j), omega (arith, i.number_is, i.here));
        accepted = refl;
        held = refl;
        events = refl;
        submitted = refl;
      })
      (in_phase (Bound life) f j (refl, record { place = i.place; within = i.within; number_is = omega (arith, i.number_is); packets_are = i.packets_are; count_is = refl }))

  pub transmit_sends : Sends s now e (on_transmit s e now)
  unfolding on_transmit on_transmit_in
  transmit_sends = go e.phase refl
    where
      go : (ph : Phase) → e.phase ≡ ph → Sends s now e (on_transmit_in s e now ph)
      go Closed j = sends_none s now e
      go (Unbound own) j = hello_sends own e.heard (None, e) (λ version. in_phase (Unbound own) (frame_sent s version own e.heard Hello) j refl) (sends_none s now e)
      go (Bound life) j =
          hello_sends life.own life.peer (on_transmit_due s e life (due_of s e now))
          (λ version. in_phase (Bound life) (frame_sent s version life.own life.peer Hello) j (refl, tt)) (due_sends life j (due_of s e now) refl)

-- every call is one of these steps
pub call_step : (Is : ℕ → Packet → Type 0) (s : Settings) (e : EndState) (call : LinkCall) → IsPossible e call → Step Is s call e (after_call s e call)
call_step Is s e (Open life now) ok = open_step Is s e life now ok.0 ok.1
call_step Is s e (Frame frame now) ok = frame_step Is s frame now e
call_step Is s e (Tick now) ok = tick_step Is s e now
call_step Is s e (Submit life packet) ok = submit_step Is s e life packet refl
call_step Is s e PollEvent ok = poll_step Is s e
call_step Is s e (Transmit now) ok = stays (transmit_sends s now e).end
call_step Is s e (Cut life) ok = cut_step Is s e life

-- What holds for each call of a link end.
use Rattle.std.proofs.Common.{◌≡◌, ◌≢◌, ℕ, zero, suc, ◌+◌, ◌-◌, ◌<◌, ◌≤◌, false, true≢false, not, ◌⊎◌, inl, inr, ⊎_elim, List, [], ◌∷◌, ◌++◌, map, length, drop, Option, Some, None, IfNone, Result, Ok, Err, slice_get, nat_le, if◌then◌else◌, refl, sym, ap, ◌∙◌, subst, arith, append_assoc, append-nil, length-append, length-drop}
use Rattle.std.proofs.lemmas.Bool.{cond_both, and_right, or_from, not-false, not-true, cases_lt, lt-leb}
use Rattle.std.proofs.lemmas.List.{length-map, map-append, nil_from_length, drop-drop, drop-append-le}
use Rattle.std.proofs.Math.Seq.{drop-append_seam}
use Rattle.tora_packet.specs.declared.Packet.{Packet}
use Rattle.tora_frame.specs.declared.parts.TheConstants.{GREATEST_NUMBER}
use Rattle.tora_frame.specs.declared.parts.Body.{Body}
use Rattle.tora_frame.specs.declared.parts.Body.TheVariants.{Hello, Data, Ack}
use Rattle.tora_frame.specs.FrameParts.{FrameParts}
use Rattle.tora_arq.specs.declared.TheConstants.{QUEUE_PLACES}
use Rattle.tora_arq.specs.declared.life.Life.{Life}
use Rattle.tora_arq.specs.declared.times.Times.{Times}
use Rattle.tora_arq.specs.declared.reason.Reason.TheVariants as Because
use Rattle.tora_arq.specs.declared.link_event.LinkEvent.{LinkEvent}
use Rattle.tora_arq.specs.declared.link_event.LinkEvent.TheVariants.{Up, Deliver, Down}
use Rattle.tora_arq.specs.declared.submit_error.SubmitError.{SubmitError}
use Rattle.tora_arq.specs.declared.submit_error.SubmitError.TheVariants as Refusal
use Rattle.tora_arq.specs.declared.phase.Phase.{Phase}
use Rattle.tora_arq.specs.declared.phase.Phase.TheVariants.{Closed, Unbound, Bound}
use Rattle.tora_arq.specs.declared.queued_packet.QueuedPacket.{QueuedPacket}
use Rattle.tora_arq.specs.Lives.{is_same_life}
use Rattle.tora_arq.specs.Settings.{Settings, IsTimes}
use Rattle.tora_arq.specs.SendQueue.{packets_in, packet_in, untried, has_given_up, DueBatch}
use Rattle.tora_arq.specs.LinkEnd.{EndState, life_in, bound_life, after_end, on_submit_in, on_submit, submit_answer, after_submit, after_cut_in, after_cut, is_silent, after_tick_in, after_tick, is_hello_due, is_old_hello_due, on_hello, due_of, on_transmit_due, on_transmit_in, on_transmit, frame_due, after_transmit}
use Rattle.tora_arq.specs.LinkFacts.{LinkCall, after_call, IsPossible, frame_sent_by, event_given_by, events_left, events_queued, packet_submitted, IsUnboundEnd, IsBoundEnd, IsEndIn, IsEnd, OpensWith, StaysOrCloses, WasBoundOrBinds, WasUnboundOrOpens, IsBodySent, IsFrameSentIn, IsFrameSent, IsQueueOf, IsBodyOf, AreHeld, AreFrom, IsPacketAt, CallTells, packets_delivered, DeliversNext, list_of, AreEventsBetween, IsCountOfCall, Acknowledges}
use Rattle.tora_arq.specs.LinkFacts.LinkCall.{Open, Frame, Tick, Submit, PollEvent, Transmit, Cut}
use Rattle.tora_arq.proofs.FactSteps.{is_same_life-refl, is_same_life-true, Step, Stays, transmit_sends, call_step}
use Rattle.tora_arq.proofs.FactSteps.Step.{stays, opens, ends, submits, binds, goes_on}

pub if_none : {A : Type 0} (o : Option A) (P : Type 0) → (o ≡ None → P) → IfNone o P
if_none None P h = h refl
if_none (Some x) P h = tt

-- the trivial statement about packets
abbrev pub Any : ℕ → Packet → Type 0
Any place packet = Unit {0}

-- ---- phases are distinct

closed_or_unbound : (ph : Phase) (own : ℕ) → ph ≡ Closed → ph ≡ Unbound own → ⊥
closed_or_unbound ph own a b = cc

closed_or_bound : (ph : Phase) (life : Life) → ph ≡ Closed → ph ≡ Bound life → ⊥
closed_or_bound ph life a b = cc

unbound_or_bound : (ph : Phase) (own : ℕ) (life : Life) → ph ≡ Unbound own → ph ≡ Bound life → ⊥
unbound_or_bound ph own life a b = cc

one_life : (ph : Phase) (a b : Life) → ph ≡ Bound a → ph ≡ Bound b → a ≡ b
one_life ph a b p q = cc

one_number : (ph : Phase) (a b : ℕ) → ph ≡ Unbound a → ph ≡ Unbound b → a ≡ b
one_number ph a b p q = cc

-- ---- sessions

module _ (Is : ℕ → Packet → Type 0) (s : Settings) (call : LinkCall) (e e' : EndState) where
  pub step-fixed : Step Is s call e e' → (life : Life) → e.phase ≡ Bound life → StaysOrCloses life e'.phase
  step-fixed (stays h) life j = inl (h.phase ∙ j)
  step-fixed (opens own h) life j = absurd (closed_or_bound e.phase life h.closed j)
  step-fixed (ends l r h) life j = inr h.phase
  step-fixed (submits l p h) life j = inl (h.phase ∙ sym h.bound ∙ j)
  step-fixed (binds l i v p g) life j = absurd (unbound_or_bound e.phase l.own life i j)
  step-fixed (goes_on l i v p g) life j = inl (g.phase ∙ j)

  pub step-bound : Step Is s call e e' → (life : Life) → e'.phase ≡ Bound life → WasBoundOrBinds s life call e.phase
  step-bound (stays h) life k = inl (sym h.phase ∙ k)
  step-bound (opens own h) life k = absurd (unbound_or_bound e'.phase own life h.phase k)
  step-bound (ends l r h) life k = absurd (closed_or_bound e'.phase life h.phase k)
  step-bound (submits l p h) life k = inl (h.bound ∙ sym h.phase ∙ k)
  step-bound (binds l i v p g) life k =
      subst (λ x. WasBoundOrBinds s x call e.phase) (one_life e'.phase l life g.phase k) (inr (i, g.comes))
  step-bound (goes_on l i v p g) life k = inl (sym g.phase ∙ k)

  pub step-unbound : Step Is s call e e' → (own : ℕ) → e'.phase ≡ Unbound own → WasUnboundOrOpens own call e.phase
  step-unbound (stays h) own k = inl (sym h.phase ∙ k)
  step-unbound (opens x h) own k = inr (h.closed, subst (λ n. OpensWith n call) (one_number e'.phase x own h.phase k) h.opens)
  step-unbound (ends l r h) own k = absurd (closed_or_unbound e'.phase own h.phase k)
  step-unbound (submits l p h) own k = absurd (unbound_or_bound e'.phase own l k h.phase)
  step-unbound (binds l i v p g) own k = absurd (unbound_or_bound e'.phase own l k g.phase)
  step-unbound (goes_on l i v p g) own k = absurd (unbound_or_bound e'.phase own l k (g.phase ∙ i))

  -- ---- invariants of every call

  end_from : (ph : Phase) → e'.phase ≡ ph → IsEndIn s e' ph → IsEnd s e'
  end_from ph q h = subst (IsEndIn s e') (sym q) h

  length-packets : packets_in e'.queue ≡ packets_in e.queue → length e'.queue ≡ length e.queue
  length-packets q = sym (length-map e'.queue packet_in) ∙ ap length q ∙ length-map e.queue packet_in

  stays_in : Stays s call e e' → (ph : Phase) → e.phase ≡ ph → IsEndIn s e ph → IsEndIn s e' ph
  stays_in h Closed j k = (nil_from_length e'.queue (length-packets h.packets ∙ ap length k.0), h.held ∙ k.1)
  stays_in h (Unbound own) j k = record {
    number = k.number ∙ sym h.last_life;
    queue = nil_from_length e'.queue (length-packets h.packets ∙ ap length k.queue);
    acknowledged = h.acknowledged ∙ k.acknowledged;
    transmitted = ⊎_elim (λ t. t ∙ k.transmitted) (λ t. absurd (unbound_or_bound e.phase own t.0.0 j t.0.1)) h.transmitted;
    accepted = h.accepted ∙ k.accepted;
    held = h.held ∙ k.held;
  }
  stays_in h (Bound life) j k = record {
    number = k.number ∙ sym h.last_life;
    heard = h.heard life j ∙ k.heard;
    acknowledged = omega (arith, h.acknowledged, h.more, k.acknowledged);
    transmitted = ⊎_elim (λ t. omega (arith, t, length-packets h.packets, k.transmitted, h.acknowledged)) (λ t. let u = t.1 in omega (arith, u, length-packets h.packets, k.transmitted, h.acknowledged)) h.transmitted;
    held = subst (λ x. length x ≤ s.window) (sym h.held) k.held;
  }

  pub step-end : Step Is s call e e' → IsEnd s e → IsEnd s e'
  step-end (stays h) k = end_from e.phase h.phase (stays_in h e.phase refl k)
  step-end (opens own h) k = end_from (Unbound own) h.phase (record {
    number = sym h.last_life;
    queue = h.queue;
    acknowledged = h.acknowledged;
    transmitted = h.transmitted;
    accepted = h.accepted;
    held = h.held;
  })
  step-end (ends l r h) k = end_from Closed h.phase (h.queue, h.held)
  step-end (submits l p h) k =
      let b : IsBoundEnd s e l = subst (IsEndIn s e) h.bound k in
      let n : length e'.queue ≡ length e.queue + 1 = ap length h.queue ∙ length-append e.queue (untried p ∷ []) in end_from (Bound l) h.phase (record {
        number = b.number ∙ sym h.last_life;
        heard = h.heard ∙ b.heard;
        acknowledged = omega (arith, h.acknowledged, h.transmitted, b.acknowledged);
        transmitted = omega (arith, n, h.acknowledged, h.transmitted, b.transmitted);
        held = subst (λ x. length x ≤ s.window) (sym h.held) b.held;
      })
  step-end (binds l i v p g) k =
      let u : IsUnboundEnd e l.own = subst (IsEndIn s e) i k in end_from (Bound l) g.phase (record {
        number = u.number ∙ sym g.last_life;
        heard = g.heard;
        acknowledged = omega (arith, g.below, g.acknowledged, g.transmitted);
        transmitted = omega (arith, g.transmitted);
        held = g.within (omega arith);
      })
  step-end (goes_on l i v p g) k =
      let b : IsBoundEnd s e l = subst (IsEndIn s e) i k in
      let n : length e'.queue ≡ length e.queue - (g.count - e.acknowledged) = ap length g.queue ∙ length-drop (g.count - e.acknowledged) e.queue in
      end_from (Bound l) (g.phase ∙ i) (record {
        number = b.number ∙ sym g.last_life;
        heard = g.heard ∙ b.heard;
        acknowledged = omega (arith, g.below, g.acknowledged, g.transmitted, b.acknowledged);
        transmitted = omega (arith, n, g.below, g.acknowledged, g.transmitted, b.acknowledged, b.transmitted);
        held = g.within b.held;
      })

  -- ---- events

  abbrev pub queued_by : Step Is s call e e' → List LinkEvent
  queued_by (stays h) = []
  queued_by (opens own h) = []
  queued_by (ends l r h) = Down l r ∷ []
  queued_by (submits l p h) = []
  queued_by (binds l i v p g) = Up l ∷ map (Deliver l) g.packets
  queued_by (goes_on l i v p g) = map (Deliver l) g.packets

  pub step-events : (t : Step Is s call e e') → e'.events ≡ events_left e call ++ queued_by t
  step-events (stays h) = h.events ∙ sym (append-nil (events_left e call))
  step-events (opens own h) = h.events ∙ sym (append-nil (events_left e call))
  step-events (ends l r h) = h.events
  step-events (submits l p h) = h.events ∙ sym (append-nil (events_left e call))
  step-events (binds l i v p g) = g.events ∙ append_assoc e.events (Up l ∷ []) (map (Deliver l) g.packets) ∙ ap (λ x. x ++ Up l ∷ map (Deliver l) g.packets) (sym v)
  step-events (goes_on l i v p g) = g.events ∙ ap (λ x. x ++ map (Deliver l) g.packets) (sym v)

  between_from : (a b : Phase) → e.phase ≡ a → e'.phase ≡ b → (events : List LinkEvent) → AreEventsBetween (life_in a) (life_in b) events → AreEventsBetween (bound_life e) (bound_life e') events
  between_from a b p q events h =
      subst (λ x. AreEventsBetween (life_in x) (bound_life e') events) (sym p) (subst (λ x. AreEventsBetween (life_in a) (life_in x) events) (sym q) h)

  none_between : (ph : Phase) → AreEventsBetween (life_in ph) (life_in ph) []
  none_between Closed = refl
  none_between (Unbound own) = refl
  none_between (Bound life) = (refl, [], refl)

  pub step-between : (t : Step Is s call e e') → AreEventsBetween (bound_life e) (bound_life e') (queued_by t)
  step-between (stays h) = between_from e.phase e.phase refl h.phase [] (none_between e.phase)
  step-between (opens own h) = between_from Closed (Unbound own) h.closed h.phase [] refl
  step-between (ends l r h) = between_from (Bound l) Closed h.bound h.phase (Down l r ∷ []) (r, refl)
  step-between (submits l p h) = between_from (Bound l) (Bound l) h.bound h.phase [] (refl, [], refl)
  step-between (binds l i v p g) = between_from (Unbound l.own) (Bound l) i g.phase (Up l ∷ map (Deliver l) g.packets) (g.packets, refl)
  step-between (goes_on l i v p g) = between_from (Bound l) (Bound l) i (g.phase ∙ i) (map (Deliver l) g.packets) (refl, g.packets, refl)

-- ---- the packets of one session

pub packets_delivered-map : (life : Life) (packets : List Packet) → packets_delivered life (map (Deliver life) packets) ≡ packets
packets_delivered-map life [] = refl
packets_delivered-map life (packet ∷ packets) =
    ap (λ b. (if b then packet ∷ [] else []) ++ packets_delivered life (map (Deliver life) packets)) (is_same_life-refl life)
    ∙ ap (λ x. packet ∷ x) (packets_delivered-map life packets)

-- ---- packets delivered

module _ (Is : ℕ → Packet → Type 0) (s : Settings) (call : LinkCall) (e e' : EndState) where
  delivers_none : e'.accepted ≡ e.accepted → e'.held ≡ e.held → AreHeld Is e.accepted e.held → DeliversNext Is e e' []
  delivers_none a h k = record {
    accepted = omega arith;
    next = tt;
    held = subst (λ n. AreHeld Is n e'.held) (sym a) (subst (AreHeld Is e.accepted) (sym h) k);
  }

  pub step-delivers : (t : Step Is s call e e') → (life : Life) → e'.phase ≡ Bound life → IsEnd s e → (e.phase ≡ Bound life → AreHeld Is e.accepted e.held) → CallTells Is s life call → DeliversNext Is e e' (packets_delivered life (queued_by Is s call e e' t))
  step-delivers (stays h) life k end known told = delivers_none h.accepted h.held (known (sym h.phase ∙ k))
  step-delivers (opens own h) life k end known told = absurd (unbound_or_bound e'.phase own life h.phase k)
  step-delivers (ends l r h) life k end known told = absurd (closed_or_bound e'.phase life h.phase k)
  step-delivers (submits l p h) life k end known told = delivers_none h.accepted h.held (known (h.bound ∙ sym h.phase ∙ k))
  step-delivers (binds l i v p g) life k end known told =
      let y : l ≡ life = one_life e'.phase l life g.phase k in
      let u : IsUnboundEnd e l.own = subst (IsEndIn s e) i end in
      let n = g.keeps tt (subst (λ x. CallTells Is s x call) (sym y) told) in
      subst (λ x. DeliversNext Is e e' (packets_delivered x (Up l ∷ map (Deliver l) g.packets))) y
      (subst (DeliversNext Is e e') (sym (packets_delivered-map l g.packets))
      (record { accepted = omega (arith, g.accepted, u.accepted); next = subst (λ m. AreFrom Is m g.packets) (sym u.accepted) n.0; held = n.1 }))
  step-delivers (goes_on l i v p g) life k end known told =
      let y : l ≡ life = one_life e'.phase l life (g.phase ∙ i) k in
      let n = g.keeps (known (sym g.phase ∙ k)) (subst (λ x. CallTells Is s x call) (sym y) told) in
      subst (λ x. DeliversNext Is e e' (packets_delivered x (map (Deliver l) g.packets))) y
      (subst (DeliversNext Is e e') (sym (packets_delivered-map l g.packets)) (record { accepted = g.accepted; next = n.0; held = n.1 }))

  -- ---- packets submitted

  queue_same : (submitted : List Packet) → packet_submitted e call ≡ [] → submitted ++ packet_submitted e call ≡ submitted
  queue_same submitted p = ap (λ x. submitted ++ x) p ∙ append-nil submitted

  pub step-queue : Step Is s call e e' → (life : Life) (submitted : List Packet) → e.phase ≡ Bound life → e'.phase ≡ Bound life → IsEnd s e → IsQueueOf submitted e → IsQueueOf (submitted ++ packet_submitted e call) e'
  step-queue (stays h) life submitted j k end q =
      let b : IsBoundEnd s e life = subst (IsEndIn s e) j end in
      let n : length e.queue ≡ length submitted - e.acknowledged = sym (length-map e.queue packet_in) ∙ ap length q.waiting ∙ length-drop e.acknowledged submitted in
      subst (λ x. IsQueueOf x e') (sym (queue_same submitted h.submitted)) (record {
        acknowledged = omega (arith, h.acknowledged, q.acknowledged);
        transmitted = ⊎_elim (λ t. omega (arith, t, q.transmitted)) (λ t. let u = t.1 in omega (arith, u, n, q.transmitted, q.acknowledged)) h.transmitted;
        waiting = h.packets ∙ q.waiting ∙ ap (λ m. drop m submitted) (sym h.acknowledged);
      })
  step-queue (opens own h) life submitted j k end q = absurd (unbound_or_bound e'.phase own life h.phase k)
  step-queue (ends l r h) life submitted j k end q = absurd (closed_or_bound e'.phase life h.phase k)
  step-queue (submits l p h) life submitted j k end q =
      subst (λ x. IsQueueOf (submitted ++ x) e') (sym h.submitted) (record {
        acknowledged = omega (arith, h.acknowledged, q.acknowledged, length-append submitted (p ∷ []));
        transmitted = omega (arith, h.transmitted, q.transmitted, length-append submitted (p ∷ []));
        waiting = ap packets_in h.queue ∙ map-append packet_in e.queue (untried p ∷ []) ∙ ap (λ x. x ++ p ∷ []) q.waiting
            ∙ sym (drop-append-le e.acknowledged submitted (p ∷ []) q.acknowledged) ∙ ap (λ m. drop m (submitted ++ p ∷ [])) (sym h.acknowledged);
      })
  step-queue (binds l i v p g) life submitted j k end q = absurd (unbound_or_bound e.phase l.own life i j)
  step-queue (goes_on l i v p g) life submitted j k end q =
      let m : e.acknowledged + (g.count - e.acknowledged) ≡ e'.acknowledged = omega (arith, g.acknowledged) in
      subst (λ x. IsQueueOf x e') (sym (queue_same submitted p)) (record {
        acknowledged = omega (arith, g.acknowledged, g.below, q.transmitted, q.acknowledged);
        transmitted = omega (arith, g.transmitted, q.transmitted);
        waiting = ap packets_in g.queue ∙ map-drop packet_in (g.count - e.acknowledged) e.queue ∙ ap (drop (g.count - e.acknowledged)) q.waiting
            ∙ drop-drop (g.count - e.acknowledged) e.acknowledged submitted ∙ ap (λ n. drop n submitted) m;
      })
    where
      map-drop : {A B : Type 0} (f : A → B) (n : ℕ) (xs : List A) → map f (drop n xs) ≡ drop n (map f xs)
      map-drop f zero xs = refl
      map-drop f (suc n) [] = refl
      map-drop f (suc n) (x ∷ xs) = map-drop f n xs

  -- an end that has just bound a session holds nothing of it
  pub step-first : Step Is s call e e' → (own : ℕ) (life : Life) → e.phase ≡ Unbound own → e'.phase ≡ Bound life → IsQueueOf [] e' × (packet_submitted e call ≡ []) × (e'.acknowledged ≡ 0)
  step-first (stays h) own life j k = absurd (unbound_or_bound e.phase own life j (sym h.phase ∙ k))
  step-first (opens x h) own life j k = absurd (closed_or_unbound e.phase own h.closed j)
  step-first (ends l r h) own life j k = absurd (unbound_or_bound e.phase own l j h.bound)
  step-first (submits l p h) own life j k = absurd (unbound_or_bound e.phase own l j h.bound)
  step-first (binds l i v p g) own life j k =
      let z : g.count - 0 ≡ 0 = omega (arith, g.below) in
      let y : e'.queue ≡ [] = g.queue ∙ ap (λ n. drop n []) z in
      let a : e'.acknowledged ≡ 0 = omega (arith, g.acknowledged, g.below) in (
        record {
          acknowledged = omega arith;
          transmitted = omega (arith, g.transmitted);
          waiting = ap packets_in y ∙ ap (λ n. drop n []) (sym a);
        },
        p,
        a,
      )
  step-first (goes_on l i v p g) own life j k = absurd (unbound_or_bound e.phase own l j i)

  -- ---- counts

  pub step-acknowledges : Step Is s call e e' → (life : Life) → e.phase ≡ Bound life → e'.phase ≡ Bound life → IsEnd s e → Acknowledges s life call e e'
  step-acknowledges (stays h) life j k end =
      let b : IsBoundEnd s e life = subst (IsEndIn s e) j end in
      record { stays = omega (arith, h.acknowledged); transmitted = omega (arith, h.acknowledged, h.more, b.acknowledged); told = inl h.acknowledged }
  step-acknowledges (opens own h) life j k end = absurd (unbound_or_bound e'.phase own life h.phase k)
  step-acknowledges (ends l r h) life j k end = absurd (closed_or_bound e'.phase life h.phase k)
  step-acknowledges (submits l p h) life j k end =
      let b : IsBoundEnd s e life = subst (IsEndIn s e) j end in
      record { stays = omega (arith, h.acknowledged); transmitted = omega (arith, h.acknowledged, h.transmitted, b.acknowledged); told = inl h.acknowledged }
  step-acknowledges (binds l i v p g) life j k end = absurd (unbound_or_bound e.phase l.own life i j)
  step-acknowledges (goes_on l i v p g) life j k end =
      let b : IsBoundEnd s e life = subst (IsEndIn s e) j end in
      record {
        stays = omega (arith, g.acknowledged);
        transmitted = omega (arith, g.acknowledged, g.transmitted, g.below, b.acknowledged);
        told = ⊎_elim
            (λ (t : g.count ≤ e.acknowledged). inl (omega (arith, g.acknowledged)))
            (λ (t : e.acknowledged < g.count). inr (let y : g.count ≡ e'.acknowledged = omega (arith, g.acknowledged) in
            subst (λ n. IsCountOfCall s life n call) y (subst (λ x. IsCountOfCall s x g.count call) (one_life e.phase l life i j) g.counts)))
            (below_or_above g.count e.acknowledged);
      }
    where
      below_or_above : (a b : ℕ) → (a ≤ b) ⊎ (b < a)
      below_or_above a b = ⊎_elim (λ (h : b < a). inr h) (λ (h : a ≤ b). inl h) (cases_lt b a)

-- ---- frames sent

slice_get-drop : {A : Type 0} (n : ℕ) (xs : List A) (i : ℕ) → slice_get (drop n xs) i ≡ slice_get xs (n + i)
slice_get-drop zero xs i = let z : i ≡ 0 + i = omega arith in ap (slice_get xs) z
slice_get-drop (suc n) [] i = refl
slice_get-drop (suc n) (x ∷ xs) i = let z : suc (n + i) ≡ suc n + i = omega arith in slice_get-drop n xs i ∙ ap (slice_get (x ∷ xs)) z

-- one of a list of packets without a gap
AreFrom-at : (Is : ℕ → Packet → Type 0) (place : ℕ) (packets : List Packet) (i : ℕ) (packet : Packet) → AreFrom Is place packets → slice_get packets i ≡ Some packet → Is (place + i) packet
AreFrom-at Is place [] i packet h e = absurd (cc)
AreFrom-at Is place (x ∷ packets) zero packet h e =
    let first : x ≡ packet = cc in
    let here : place ≡ place + 0 = omega arith in
    subst (λ n. Is n packet) here (subst (Is place) first h.0)
AreFrom-at Is place (x ∷ packets) (suc i) packet h e =
    let next : suc place + i ≡ place + suc i = omega arith in
    subst (λ n. Is n packet) next (AreFrom-at Is (suc place) packets i packet h.1 e)

pub body-content : (s : Settings) (e : EndState) (submitted : List Packet) (body : Body) → IsQueueOf submitted e → IsBodySent s e body → IsBodyOf submitted e.accepted body
body-content s e submitted Hello q h = tt
body-content s e submitted (Data number count packets) q h =
    record {
      first = omega (arith, h.number_is);
      packets_are = λ place packet has.
          let at : IsPacketAt (packets_in e.queue) (h.place + has.0) packet = AreFrom-at (IsPacketAt (packets_in e.queue)) h.place packets.items has.0 packet h.packets_are has.2 in
          let same : e.acknowledged + (h.place + has.0) ≡ place = omega (arith, has.1, h.number_is) in
          subst (λ n. IsPacketAt submitted n packet) same (sym (slice_get-drop e.acknowledged submitted (h.place + has.0)) ∙ ap (λ x. slice_get x (h.place + has.0)) (sym q.waiting) ∙ at);
      count_is = h.count_is;
    }
body-content s e submitted (Ack count) q h = h

pub frame-content : (s : Settings) (e : EndState) (f : FrameParts) (life : Life) (submitted : List Packet) → e.phase ≡ Bound life → IsFrameSent s e f → IsQueueOf submitted e → IsBodyOf submitted e.accepted f.body
frame-content s e f life submitted j h q =
    let k : IsFrameSentIn s e f (Bound life) = subst (IsFrameSentIn s e f) j h in body-content s e submitted f.body q k.1

pub call-sends : (s : Settings) (e : EndState) (call : LinkCall) (f : FrameParts) → frame_sent_by s e call ≡ Some f → IsFrameSent s e f
call-sends s e (Open life now) f q = absurd (cc)
call-sends s e (Frame frame now) f q = absurd (cc)
call-sends s e (Tick now) f q = absurd (cc)
call-sends s e (Submit life packet) f q = absurd (cc)
call-sends s e PollEvent f q = absurd (cc)
call-sends s e (Transmit now) f q = (transmit_sends s now e).frame f q
call-sends s e (Cut life) f q = absurd (cc)

-- ---- packets submitted, and sessions cut

-- the result and the state after `submit`: a packet that the end took is appended
abbrev Appends : EndState → Life → Packet → Result (Unit {0}) SubmitError × EndState → Type 0
Appends e life packet r = r.0 ≡ Ok tt → (e.phase ≡ Bound life) × (r.1 ≡ record e { queue = e.queue ++ untried packet ∷ [] })

pub submit-appends : (e : EndState) (life : Life) (packet : Packet) → Appends e life packet (on_submit e life packet)
unfolding on_submit
submit-appends e life packet = go e.phase refl
  where
    go : (ph : Phase) → e.phase ≡ ph → Appends e life packet (on_submit_in e life packet ph)
    go Closed j = λ q. absurd (cc)
    go (Unbound own) j = λ q. absurd (cc)
    go (Bound current) j =
        cond_both (not (is_same_life life current)) _ _ (Appends e life packet) (λ _ q. absurd (cc)) (λ same.
        cond_both (nat_le GREATEST_NUMBER (e.acknowledged + length e.queue)) _ _ (Appends e life packet) (λ _ q. absurd (cc)) (λ _.
        cond_both (nat_le QUEUE_PLACES (length e.queue)) _ _ (Appends e life packet) (λ _ q. absurd (cc)) (λ _ q. (j ∙ ap Bound (sym (is_same_life-true life current (not-false _ same))), refl))))

pub submit-own : (e : EndState) (life : Life) (packet : Packet) → (after_submit e life packet).phase ≡ Bound life → submit_answer e life packet ≡ Ok tt
unfolding on_submit
submit-own e life packet = go e.phase refl
  where
    go : (ph : Phase) → e.phase ≡ ph → (on_submit_in e life packet ph).1.phase ≡ Bound life → (on_submit_in e life packet ph).0 ≡ Ok tt
    go Closed j = λ k. absurd (closed_or_bound e.phase life j k)
    go (Unbound own) j = λ k. absurd (unbound_or_bound e.phase own life j k)
    go (Bound current) j =
        cond_both (not (is_same_life life current)) _ _ (λ (r : Result (Unit {0}) SubmitError × EndState). r.1.phase ≡ Bound life → r.0 ≡ Ok tt)
        (λ n k. absurd (true≢false (sym (is_same_life-refl life) ∙ ap (is_same_life life) (one_life e.phase life current k j) ∙ not-true _ n)))
        (λ _. cond_both (nat_le GREATEST_NUMBER (e.acknowledged + length e.queue)) _ _ (λ (r : Result (Unit {0}) SubmitError × EndState). r.1.phase ≡ Bound life → r.0 ≡ Ok tt)
        (λ _ k. absurd (closed_or_bound Closed life refl k))
        (λ _. cond_both (nat_le QUEUE_PLACES (length e.queue)) _ _ (λ (r : Result (Unit {0}) SubmitError × EndState). r.1.phase ≡ Bound life → r.0 ≡ Ok tt)
        (λ _ k. absurd (closed_or_bound Closed life refl k))
        (λ _ k. refl)))

pub submit-other : (e : EndState) (life : Life) (packet : Packet) → e.phase ≢ Bound life → (submit_answer e life packet ≡ Err (Refusal.WrongLife packet)) × (after_submit e life packet ≡ e)
unfolding on_submit
submit-other e life packet n = go e.phase refl
  where
    go : (ph : Phase) → e.phase ≡ ph → ((on_submit_in e life packet ph).0 ≡ Err (Refusal.WrongLife packet)) × ((on_submit_in e life packet ph).1 ≡ e)
    go Closed j = (refl, refl)
    go (Unbound own) j = (refl, refl)
    go (Bound current) j =
        cond_both (not (is_same_life life current)) _ _ (λ (r : Result (Unit {0}) SubmitError × EndState). (r.0 ≡ Err (Refusal.WrongLife packet)) × (r.1 ≡ e))
        (λ _. (refl, refl))
        (λ t. absurd (n (j ∙ ap Bound (sym (is_same_life-true life current (not-false _ t))))))

pub cut-own : (e : EndState) (life : Life) → e.phase ≡ Bound life → after_cut e life ≡ after_end e life Because.Cut
unfolding after_cut
cut-own e life j =
    subst (λ ph. after_cut_in e life ph ≡ after_end e life Because.Cut) (sym j)
    (cond_both (is_same_life life life) _ _ (λ (r : EndState). r ≡ after_end e life Because.Cut) (λ _. refl) (λ t. absurd (true≢false (sym (is_same_life-refl life) ∙ t))))

pub cut-other : (e : EndState) (life : Life) → e.phase ≢ Bound life → after_cut e life ≡ e
unfolding after_cut
cut-other e life n = go e.phase refl
  where
    go : (ph : Phase) → e.phase ≡ ph → after_cut_in e life ph ≡ e
    go Closed j = refl
    go (Unbound own) j = refl
    go (Bound current) j =
        cond_both (is_same_life life current) _ _ (λ (r : EndState). r ≡ e)
        (λ t. absurd (n (j ∙ ap Bound (sym (is_same_life-true life current t)))))
        (λ _. refl)

-- ---- calls that change nothing

abbrev Idle : EndState → Option FrameParts × EndState → Type 0
Idle e r = r.0 ≡ None → r.1 ≡ e

-- no frame is due
pub transmit-idle : (s : Settings) (e : EndState) (now : ℕ) → frame_due s e now ≡ None → after_transmit s e now ≡ e
unfolding on_transmit on_transmit_in
transmit-idle s e now = go e.phase
  where
    go_due : (life : Life) (o : Option DueBatch) → Idle e (on_transmit_due s e life o)
    go_due life None = cond_both e.owes_ack _ _ (Idle e) (λ _ q. absurd (cc)) (λ _ q. refl)
    go_due life (Some due) = λ q. absurd (cc)

    go_hello : (own heard : ℕ) (other : Option FrameParts × EndState) → Idle e other → Idle e (on_hello s e own heard now other)
    go_hello own heard other h =
        cond_both (is_old_hello_due e) _ _ (Idle e) (λ _ q. absurd (cc)) (λ _.
        cond_both (is_hello_due s e now) _ _ (Idle e) (λ _ q. absurd (cc)) (λ _. h))

    go : (ph : Phase) → Idle e (on_transmit_in s e now ph)
    go Closed = λ q. refl
    go (Unbound own) = go_hello own e.heard (None, e) (λ q. refl)
    go (Bound life) = go_hello life.own life.peer (on_transmit_due s e life (due_of s e now)) (go_due life (due_of s e now))

-- the tick is 0
none_given_up : (times : Times) (queue : List QueuedPacket) → 0 < times.retry → has_given_up times 0 queue ≡ false
none_given_up times [] h = refl
none_given_up times (q ∷ queue) h =
    or_from _ _ (and_right _ _ (lt-leb times.retry (0 - q.last_try) (omega arith))) (none_given_up times queue h)

pub tick-zero : (s : Settings) (e : EndState) → IsTimes s.times → after_tick s e 0 ≡ e
unfolding after_tick
tick-zero s e t = go e.phase
  where
    silent_at_zero : is_silent s e 0 ≡ false
    silent_at_zero = or_from _ _ (lt-leb s.times.silent (0 - e.last_hearing) (omega (arith, t.silent))) (none_given_up s.times e.queue t.retry)

    go : (ph : Phase) → after_tick_in s e 0 ph ≡ e
    go Closed = refl
    go (Unbound own) = refl
    go (Bound life) = ap (λ b. if b then after_end e life Because.Silent else e) silent_at_zero

-- the own number changes only when the end is opened
pub step-number : (Is : ℕ → Packet → Type 0) (s : Settings) (call : LinkCall) (e e' : EndState) → Step Is s call e e' → (e'.last_life ≡ e.last_life) ⊎ (OpensWith e'.last_life call × (e.last_life < e'.last_life))
step-number Is s call e e' (stays h) = inl h.last_life
step-number Is s call e e' (opens own h) = inr (subst (λ n. OpensWith n call) (sym h.last_life) h.opens, omega (arith, h.last_life, h.above))
step-number Is s call e e' (ends l r h) = inl h.last_life
step-number Is s call e e' (submits l p h) = inl h.last_life
step-number Is s call e e' (binds l i v p g) = inl g.last_life
step-number Is s call e e' (goes_on l i v p g) = inl g.last_life

-- ---- events of a call

pub events_queued-is : (Is : ℕ → Packet → Type 0) (s : Settings) (e : EndState) (call : LinkCall) (t : Step Is s call e (after_call s e call)) → events_queued s e call ≡ queued_by Is s call e (after_call s e call) t
events_queued-is Is s e call t =
    ap (drop (length (events_left e call))) (step-events Is s call e (after_call s e call) t) ∙ drop-append_seam (events_left e call) (queued_by Is s call e (after_call s e call) t)

first_and_rest : {A : Type 0} (xs : List A) → list_of (slice_get xs 0) ++ drop 1 xs ≡ xs
first_and_rest [] = refl
first_and_rest (x ∷ xs) = refl

pub call-gives : (e : EndState) (call : LinkCall) → list_of (event_given_by e call) ++ events_left e call ≡ e.events
call-gives e (Open life now) = refl
call-gives e (Frame frame now) = refl
call-gives e (Tick now) = refl
call-gives e (Submit life packet) = refl
call-gives e PollEvent = first_and_rest e.events
call-gives e (Transmit now) = refl
call-gives e (Cut life) = refl

-- ---- properties of each call

module _ (s : Settings) (e : EndState) (call : LinkCall) where
  abbrev After : EndState
  After = after_call s e call

  pub call-end : IsPossible e call → IsEnd s e → IsEnd s After
  call-end ok = step-end Any s call e After (call_step Any s e call ok)

  pub call-fixed : IsPossible e call → (life : Life) → e.phase ≡ Bound life → StaysOrCloses life After.phase
  call-fixed ok = step-fixed Any s call e After (call_step Any s e call ok)

  pub call-bound : IsPossible e call → (life : Life) → After.phase ≡ Bound life → WasBoundOrBinds s life call e.phase
  call-bound ok = step-bound Any s call e After (call_step Any s e call ok)

  pub call-unbound : IsPossible e call → (own : ℕ) → After.phase ≡ Unbound own → WasUnboundOrOpens own call e.phase
  call-unbound ok = step-unbound Any s call e After (call_step Any s e call ok)

  pub call-number : IsPossible e call → (After.last_life ≡ e.last_life) ⊎ (OpensWith After.last_life call × (e.last_life < After.last_life))
  call-number ok = step-number Any s call e After (call_step Any s e call ok)

  pub call-behind : IsPossible e call → After.events ≡ events_left e call ++ events_queued s e call
  call-behind ok =
      let t = call_step Any s e call ok in
      step-events Any s call e After t ∙ ap (λ x. events_left e call ++ x) (sym (events_queued-is Any s e call t))

  pub call-between : IsPossible e call → AreEventsBetween (bound_life e) (bound_life After) (events_queued s e call)
  call-between ok =
      let t = call_step Any s e call ok in
      subst (AreEventsBetween (bound_life e) (bound_life After)) (sym (events_queued-is Any s e call t)) (step-between Any s call e After t)

  pub call-delivers : (Is : ℕ → Packet → Type 0) → IsPossible e call → (life : Life) → After.phase ≡ Bound life → IsEnd s e → (e.phase ≡ Bound life → AreHeld Is e.accepted e.held) → CallTells Is s life call → DeliversNext Is e After (packets_delivered life (events_queued s e call))
  call-delivers Is ok life k end known told =
      let t = call_step Is s e call ok in
      subst (λ x. DeliversNext Is e After (packets_delivered life x)) (sym (events_queued-is Is s e call t)) (step-delivers Is s call e After t life k end known told)

  pub call-queue : IsPossible e call → (life : Life) (submitted : List Packet) → e.phase ≡ Bound life → After.phase ≡ Bound life → IsEnd s e → IsQueueOf submitted e → IsQueueOf (submitted ++ packet_submitted e call) After
  call-queue ok = step-queue Any s call e After (call_step Any s e call ok)

  pub call-first : IsPossible e call → (own : ℕ) (life : Life) → e.phase ≡ Unbound own → After.phase ≡ Bound life → IsQueueOf [] After × (packet_submitted e call ≡ []) × (After.acknowledged ≡ 0)
  call-first ok = step-first Any s call e After (call_step Any s e call ok)

  pub call-acknowledges : IsPossible e call → (life : Life) → e.phase ≡ Bound life → After.phase ≡ Bound life → IsEnd s e → Acknowledges s life call e After
  call-acknowledges ok = step-acknowledges Any s call e After (call_step Any s e call ok)

-- The count of packets that an end has accepted in a session only grows, and a session is bound once. So an earlier
-- count is a lower bound as long as the session is bound.
use Rattle.std.proofs.Common.{◌≡◌, ◌≢◌, ℕ, suc, ◌+◌, ◌≤◌, Bool, true, false, true≢false, not, ◌&&◌, ◌⊎◌, inl, inr, List, [], ◌∷◌, Option, Some, None, nat_eq, if◌then◌else◌, refl, sym, ap, ◌∙◌, subst, arith}
use Rattle.std.proofs.lemmas.Bool.{cond_both, cases_Bool}
use Rattle.std.specs.Prelude.{is_some, nat_lt, nat_le, ◌==◌, length, Result}
use Rattle.tora_packet.specs.declared.Packet.{Packet}
use Rattle.tora_frame.specs.declared.parts.TheConstants.{GREATEST_NUMBER}
use Rattle.tora_frame.specs.declared.parts.Body.{Body}
use Rattle.tora_frame.specs.declared.parts.Body.TheVariants.{Hello, Data, Ack}
use Rattle.tora_frame.specs.FrameParts.{FrameParts}
use Rattle.tora_arq.specs.declared.TheConstants.{QUEUE_PLACES}
use Rattle.tora_arq.specs.declared.life.Life.{Life}
use Rattle.tora_arq.specs.declared.times.Times.{Times}
use Rattle.tora_arq.specs.declared.verdict.Verdict.{Verdict}
use Rattle.tora_arq.specs.declared.submit_error.SubmitError.{SubmitError}
use Rattle.tora_arq.specs.declared.link_event.LinkEvent.{LinkEvent}
use Rattle.tora_arq.specs.declared.phase.Phase.{Phase}
use Rattle.tora_arq.specs.declared.phase.Phase.TheVariants.{Bound}
use Rattle.tora_arq.specs.Lives.{is_same_life}
use Rattle.tora_arq.specs.Settings.{Settings}
use Rattle.tora_arq.specs.SendQueue.{DueBatch}
use Rattle.tora_arq.specs.LinkEnd.{EndState, first_end, count_of, is_foreign, is_busy, after_acknowledgement, after_delivery, after_release, after_hold, after_packet, after_packets, on_data, on_matched, on_frame_in, on_frame, after_frame, is_silent, after_tick_in, after_tick, on_submit_in, on_submit, after_submit, after_cut_in, after_cut, is_hello_due, is_old_hello_due, on_transmit_due, due_of, on_transmit_in, on_transmit, after_transmit, frame_due, bound_life, first_event, after_poll_event}
use Rattle.tora_life.specs.LifeRun.{drawn_by}
use Rattle.tora_life.specs.LifeRun.LifeEvent.{Draw as DrawsNumber}
use Rattle.tora_seat.specs.declared.item.Item.{Item}
use Rattle.tora_seat.specs.declared.cargo.Cargo.{Cargo}
use Rattle.tora_seat.specs.declared.cargo.Cargo.TheVariants as Gives
use Rattle.tora_seat.specs.Serving.{put_one}
use Rattle.tora_world.specs.declared.event.Event.{Event}
use Rattle.tora_world.specs.declared.event.Event.TheVariants.{Need, Tick, Open, Pull, Transmit, Deliver, Pump, CoreTurn, Arm, Restart}
use Rattle.tora_world.specs.declared.call.Call.{Call}
use Rattle.tora_world.specs.declared.call.Call.TheVariants as Fails
use Rattle.tora_world.specs.Topology.{Topology, is_link}
use Rattle.tora_world.specs.LinkMachine.{put_at}
use Rattle.tora_seat.specs.Between.{after_cargo}
use Rattle.tora_world.specs.World.{World, Choice, settings, datagram, with_end, first_world, refusal_by, open_with, after_pull, after_sending, after_receiving, after_pump, after_turn, after_arming, effect_by, world_by}
use Rattle.tora_seat.specs.Between.{after_cut_of_bound}
use Rattle.tora_world.specs.FreeWorld.{FreeEvent, free_by, Schedule, after_schedule}
use Rattle.tora_world.specs.FreeWorld.FreeEvent.{Happens, TicksEnd, PumpsOver, Puts, CutsBound, ChangesFile, StartsAnew}
use Rattle.tora_world.specs.Law.{Sometime, HasAccepted, is_bound_to, times_bound}
use Rattle.tora_world.specs.Layers.{LinkLaws, LifeLaws}
use Rattle.tora_world.proofs.PacketLists.{put_here, put_there, by_pair, same_refl}
use Rattle.tora_world.proofs.BoundOnce.{bound_to, not_bound_to, binds_once}

-- ---- one call

abbrev NotLess : EndState → EndState → Type 0
NotLess e e' = e.accepted ≤ e'.accepted

grows_release : (life : Life) (e : EndState) (held : List (Option Packet)) → NotLess e (after_release life e held)
unfolding after_release
grows_release life e [] = omega arith
grows_release life e (None ∷ held) = omega arith
grows_release life e (Some packet ∷ held) = let r : suc e.accepted ≤ (after_release life (after_delivery e life packet held) held).accepted = grows_release life (after_delivery e life packet held) held in omega (arith, r)

grows_packet : (life : Life) (furthest : ℕ) (e : EndState) (number : ℕ) (packet : Packet) → NotLess e (after_packet life furthest e number packet)
unfolding after_packet
grows_packet life furthest e number packet =
    cond_both (nat_le number e.accepted) _ _ (NotLess e) (λ _. omega arith)
    (λ _. cond_both (nat_le number furthest) _ _ (NotLess e) (λ _. grows_release life (after_hold e number packet) (after_hold e number packet).held) (λ _. omega arith))

grows_packets : (life : Life) (furthest : ℕ) (e : EndState) (number : ℕ) (packets : List Packet) → NotLess e (after_packets life furthest e number packets)
unfolding after_packets
grows_packets life furthest e number [] = omega arith
grows_packets life furthest e number (packet ∷ packets) =
    let e' : EndState = after_packet life furthest e number packet in
    let a : e.accepted ≤ e'.accepted = grows_packet life furthest e number packet in
    let b : e'.accepted ≤ (after_packets life furthest e' (suc number) packets).accepted = grows_packets life furthest e' (suc number) packets in
    omega (arith, a, b)

grows_data : (window : ℕ) (e : EndState) (life : Life) (number : ℕ) (packets : List Packet) → NotLess e (on_data window e life number packets).1
unfolding on_data
grows_data window e life number packets = grows_packets life (e.accepted + window) e number packets

grows_matched : (window : ℕ) (e : EndState) (life : Life) (binds : Bool) (now : ℕ) (body : Body) → NotLess e (on_matched window e life binds now body).1
unfolding on_matched
grows_matched window e life binds now Hello = omega arith
grows_matched window e life binds now (Data number count packets) = grows_data window (record (after_acknowledgement e count now) { owes_ack = true }) life number packets.items
grows_matched window e life binds now (Ack count) = omega arith

abbrev NotLessIn : EndState → Verdict × EndState → Type 0
NotLessIn e x = NotLess e x.1

module _ (l : Life) where
  -- an end that stays bound to this session has accepted at least as many packets
  abbrev Grows : EndState → EndState → Type 0
  Grows e e' = e.phase ≡ Bound l → e'.phase ≡ Bound l → NotLess e e'

  grows_frame_in : (window : ℕ) (e : EndState) (f : FrameParts) (now : ℕ) → NotLessIn e (on_frame_in window e f now (Bound l))
  unfolding on_frame_in
  grows_frame_in window e f now =
      cond_both (nat_lt l.peer f.header.life) _ _ (NotLessIn e) (λ _. omega arith)
      (λ _. cond_both (nat_lt f.header.life l.peer) _ _ (NotLessIn e) (λ _. omega arith)
      (λ _. cond_both (f.header.heard == l.own) _ _ (NotLessIn e)
      (λ _. cond_both (nat_lt e.transmitted (count_of f.body)) _ _ (NotLessIn e) (λ _. omega arith) (λ _. grows_matched window _ l false now f.body))
      (λ _. omega arith)))

  grows_frame : (s : Settings) (e : EndState) (f : FrameParts) (now : ℕ) → Grows e (after_frame s e f now)
  unfolding on_frame
  grows_frame s e f now j j' =
      cond_both (is_foreign s f) _ _ (NotLessIn e) (λ _. omega arith)
      (λ _. cond_both (is_busy e) _ _ (NotLessIn e) (λ _. omega arith)
      (λ _. subst (λ ph. NotLessIn e (on_frame_in s.window e f now ph)) (sym j) (grows_frame_in s.window e f now)))

  grows_tick : (s : Settings) (e : EndState) (now : ℕ) → Grows e (after_tick s e now)
  unfolding after_tick
  grows_tick s e now j j' = subst (λ ph. NotLess e (after_tick_in s e now ph)) (sym j) (cond_both (is_silent s e now) _ _ (NotLess e) (λ _. omega arith) (λ _. omega arith))

  grows_submit : (e : EndState) (life : Life) (packet : Packet) → Grows e (after_submit e life packet)
  unfolding on_submit
  grows_submit e life packet j j' =
      subst (λ ph. NotLess e (on_submit_in e life packet ph).1) (sym j)
      (cond_both (not (is_same_life life l)) _ _ (λ (x : Result (Unit {0}) SubmitError × EndState). NotLess e x.1) (λ _. omega arith)
      (λ _. cond_both (nat_le GREATEST_NUMBER (e.acknowledged + length e.queue)) _ _ (λ (x : Result (Unit {0}) SubmitError × EndState). NotLess e x.1) (λ _. omega arith)
      (λ _. cond_both (nat_le QUEUE_PLACES (length e.queue)) _ _ (λ (x : Result (Unit {0}) SubmitError × EndState). NotLess e x.1) (λ _. omega arith) (λ _. omega arith))))

  grows_cut : (e : EndState) (life : Life) → Grows e (after_cut e life)
  unfolding after_cut
  grows_cut e life j j' = subst (λ ph. NotLess e (after_cut_in e life ph)) (sym j) (cond_both (is_same_life life l) _ _ (NotLess e) (λ _. omega arith) (λ _. omega arith))

  grows_due : (s : Settings) (e : EndState) (o : Option DueBatch) → NotLess e (on_transmit_due s e l o).1
  grows_due s e None = cond_both e.owes_ack _ _ (λ (x : Option FrameParts × EndState). NotLess e x.1) (λ _. omega arith) (λ _. omega arith)
  grows_due s e (Some due) = omega arith

  grows_transmit : (s : Settings) (e : EndState) (now : ℕ) → Grows e (after_transmit s e now)
  unfolding on_transmit on_transmit_in
  grows_transmit s e now j j' =
      subst (λ ph. NotLess e (on_transmit_in s e now ph).1) (sym j)
      (cond_both (is_old_hello_due e) _ _ (λ (x : Option FrameParts × EndState). NotLess e x.1) (λ _. omega arith)
      (λ _. cond_both (is_hello_due s e now) _ _ (λ (x : Option FrameParts × EndState). NotLess e x.1) (λ _. omega arith) (λ _. grows_due s e (due_of s e now))))

  grows_cargo : (e : EndState) (x : Cargo) → Grows e (after_cargo e x)
  grows_cargo e (Gives.Packet life packet) = grows_submit e life packet
  grows_cargo e (Gives.Cut life) = grows_cut e life

  -- an end that is opened is no longer bound
  grows_open : (e : EndState) (now : ℕ) (numbers : List ℕ) → Grows e (open_with e now numbers)
  grows_open e now [] j j' = omega arith
  grows_open e now (number ∷ none) j j' = absurd (cc)

  -- ---- one event

  module _ (w : World) (a b : ℕ) where
    abbrev GrowsTo : World → Type 0
    GrowsTo w' = Grows (w.ends a b) (w'.ends a b)

    grows_still : (w' : World) → w'.ends ≡ w.ends → GrowsTo w'
    grows_still w' q j j' = subst (λ es. (w.ends a b).accepted ≤ (es a b).accepted) (sym q) (omega arith)

    grows_one : (n k : ℕ) (e : EndState) (w' : World) → w'.ends ≡ put_at w.ends n k e → Grows (w.ends n k) e → GrowsTo w'
    grows_one n k e w' q grows =
        subst (λ es. Grows (w.ends a b) (es a b)) (sym q)
        (by_pair (λ x y. Grows (w.ends x y) (put_at w.ends n k e x y)) n k
        (subst (λ (z : EndState). Grows (w.ends n k) z) (sym (put_here w.ends n k e)) grows)
        (λ x y o. subst (λ (z : EndState). Grows (w.ends x y) z) (sym (put_there w.ends n k e x y o)) (λ j j'. omega arith)) a b)

    grows_pump : (c : Choice) (n k : ℕ) (o : Option LinkEvent) → GrowsTo (after_pump w c n k o)
    grows_pump c n k None = grows_still w refl
    grows_pump c n k (Some event) = grows_one n k (after_poll_event (w.ends n k)) (after_pump w c n k (Some event)) refl (λ j j'. omega arith)

    grows_cut_of_bound : (n k : ℕ) (o : Option Life) → GrowsTo (with_end w n k (after_cut_of_bound (w.ends n k) o))
    grows_cut_of_bound n k None = grows_one n k (w.ends n k) (with_end w n k (w.ends n k)) refl (λ j j'. omega arith)
    grows_cut_of_bound n k (Some life) = grows_one n k (after_cut (w.ends n k) life) (with_end w n k (after_cut (w.ends n k) life)) refl (grows_cut (w.ends n k) life)

    grows_effect : (c : Choice) (event : Event) → GrowsTo (effect_by c w event)
    unfolding effect_by
    grows_effect c (Need n d) = grows_still (effect_by c w (Need n d)) refl
    grows_effect c Tick = grows_tick (settings w a b) (w.ends a b) (c.now a b)
    grows_effect c (Open n k) = grows_one n k (open_with (w.ends n k) (c.now n k) (drawn_by DrawsNumber (w.files n k))) (effect_by c w (Open n k)) refl (grows_open (w.ends n k) (c.now n k) (drawn_by DrawsNumber (w.files n k)))
    grows_effect c (Pull n k) = go (w.cargoes n k)
      where
        go : (cs : List Cargo) → GrowsTo (after_pull w n k cs)
        go [] = grows_still w refl
        go (x ∷ cs) = grows_one n k (after_cargo (w.ends n k) x) (after_pull w n k (x ∷ cs)) refl (grows_cargo (w.ends n k) x)
    grows_effect c (Transmit n k) = go (frame_due (settings w n k) (w.ends n k) (c.now n k))
      where
        go : (o : Option FrameParts) → GrowsTo (after_sending w n k (after_transmit (settings w n k) (w.ends n k) (c.now n k)) o)
        go None = grows_still w refl
        go (Some f) = grows_one n k (after_transmit (settings w n k) (w.ends n k) (c.now n k)) (after_sending w n k (after_transmit (settings w n k) (w.ends n k) (c.now n k)) (Some f)) refl
            (grows_transmit (settings w n k) (w.ends n k) (c.now n k))
    grows_effect c (Deliver i) = go (datagram w i)
      where
        go : (o : Option FrameParts) → GrowsTo (after_receiving w c o)
        go None = grows_still w refl
        go (Some f) = cond_both (w.arms f.header.receiver).receive _ _ GrowsTo
            (λ _. grows_still (record w { arms = put_one w.arms f.header.receiver (record (w.arms f.header.receiver) { receive = false }) }) refl)
            (λ _. let e' : EndState = after_frame (settings w f.header.receiver f.header.sender) (w.ends f.header.receiver f.header.sender) f (c.now f.header.receiver f.header.sender) in
            grows_one f.header.receiver f.header.sender e' (with_end w f.header.receiver f.header.sender e') refl
            (grows_frame (settings w f.header.receiver f.header.sender) (w.ends f.header.receiver f.header.sender) f (c.now f.header.receiver f.header.sender)))
    grows_effect c (Pump n k) = grows_pump c n k (first_event (w.ends n k))
    grows_effect c (CoreTurn n) = go (w.items n)
      where
        go : (is : List Item) → GrowsTo (after_turn w c n is)
        go [] = grows_still w refl
        go (x ∷ is) = grows_still (after_turn w c n (x ∷ is)) refl
    grows_effect c (Arm n call) = go call
      where
        go : (x : Call) → GrowsTo (after_arming w n x)
        go Fails.SendLost = grows_still (after_arming w n Fails.SendLost) refl
        go Fails.SendGone = grows_still (after_arming w n Fails.SendGone) refl
        go Fails.Receive = grows_still (after_arming w n Fails.Receive) refl
        go Fails.Read = grows_still (after_arming w n Fails.Read) refl
        go Fails.Write = grows_still (after_arming w n Fails.Write) refl
        go Fails.Sync = grows_still (after_arming w n Fails.Sync) refl
    grows_effect c (Restart n torn) = cond_both (nat_eq a n) first_end (w.ends a b) (Grows (w.ends a b)) (λ _ j j'. absurd (cc)) (λ _ j j'. omega arith)

    grows_world : (c : Choice) (event : Event) → GrowsTo (world_by c w event)
    unfolding world_by
    grows_world c event = cond_both (is_some (refusal_by c w event)) _ _ GrowsTo (λ _. grows_still w refl) (λ _. grows_effect c event)

    grows_free : (c : Choice) (event : FreeEvent) → GrowsTo (free_by c w event)
    grows_free c (Happens event) = grows_world c event
    grows_free c (TicksEnd n k) = grows_one n k (after_tick (settings w n k) (w.ends n k) (c.now n k)) (free_by c w (TicksEnd n k)) refl (grows_tick (settings w n k) (w.ends n k) (c.now n k))
    grows_free c (PumpsOver n k) = cond_both (is_link w.topology n k) _ _ GrowsTo (λ _. grows_pump c n k (first_event (w.ends n k))) (λ _. grows_still w refl)
    grows_free c (Puts n seat what silent) = grows_still (free_by c w (Puts n seat what silent)) refl
    grows_free c (CutsBound n k) = grows_cut_of_bound n k (bound_life (w.ends n k))
    grows_free c (ChangesFile n k change kept) = grows_still (free_by c w (ChangesFile n k change kept)) refl
    grows_free c (StartsAnew n) = grows_world c (Restart n None)

  -- ---- runs

  module _ (n k : ℕ) where
    abbrev phase_at : World → Phase
    phase_at w = (w.ends n k).phase

    abbrev count_at : World → ℕ
    count_at w = (w.ends n k).accepted

    -- a session that is bound at the end of the run and not now is bound in between
    bound_later : (es : Schedule) (w : World) → phase_at w ≢ Bound l → phase_at (after_schedule es w) ≡ Bound l → 1 ≤ times_bound n k l es w
    unfolding after_schedule
    bound_later [] w off on = absurd (off on)
    bound_later (e ∷ es) w off on = go (is_bound_to l (phase_at (free_by e.1 w e.0))) refl (bound_later es (free_by e.1 w e.0))
      where
        go : (b : Bool) → is_bound_to l (phase_at (free_by e.1 w e.0)) ≡ b →
            (phase_at (free_by e.1 w e.0) ≢ Bound l → phase_at (after_schedule es (free_by e.1 w e.0)) ≡ Bound l → 1 ≤ times_bound n k l es (free_by e.1 w e.0)) →
            1 ≤ (if b && not (is_bound_to l (phase_at w)) then 1 else 0) + times_bound n k l es (free_by e.1 w e.0)
        go true is again = subst (λ (x : Bool). 1 ≤ (if true && not x then 1 else 0) + times_bound n k l es (free_by e.1 w e.0)) (sym (not_bound_to l (phase_at w) off)) (omega arith)
        go false is again = let z = again (λ j. true≢false (sym (ap (is_bound_to l) j ∙ same_refl l) ∙ is)) on in omega (arith, z)

    -- the session is bound in the next world, and is not bound again after it
    record StaysBound (e : FreeEvent × Choice) (es : Schedule) (w : World) : Type 0 where
      now : phase_at (free_by e.1 w e.0) ≡ Bound l
      none : times_bound n k l es (free_by e.1 w e.0) ≡ 0

    stays_bound : (e : FreeEvent × Choice) (es : Schedule) (w : World) → phase_at w ≡ Bound l → times_bound n k l (e ∷ es) w ≡ 0 → phase_at (after_schedule es (free_by e.1 w e.0)) ≡ Bound l → StaysBound e es w
    stays_bound e es w j none on = go (cases_Bool (is_bound_to l (phase_at (free_by e.1 w e.0))))
      where
        more : ℕ
        more = if is_bound_to l (phase_at (free_by e.1 w e.0)) && not (is_bound_to l (phase_at w)) then 1 else 0

        go : (is_bound_to l (phase_at (free_by e.1 w e.0)) ≡ true) ⊎ (is_bound_to l (phase_at (free_by e.1 w e.0)) ≡ false) → StaysBound e es w
        go (inl is) = record { now = bound_to l (phase_at (free_by e.1 w e.0)) is; none = let z : more + times_bound n k l es (free_by e.1 w e.0) ≡ 0 = none in omega (arith, z) }
        go (inr is) =
            let later = bound_later es (free_by e.1 w e.0) (λ q. true≢false (sym (ap (is_bound_to l) q ∙ same_refl l) ∙ is)) on in
            absurd (let z : more + times_bound n k l es (free_by e.1 w e.0) ≡ 0 = none in omega (arith, z, later))

    count_grows : (es : Schedule) (w : World) → phase_at w ≡ Bound l → times_bound n k l es w ≡ 0 → phase_at (after_schedule es w) ≡ Bound l → count_at w ≤ count_at (after_schedule es w)
    unfolding after_schedule
    count_grows [] w j none on = omega arith
    count_grows (e ∷ es) w j none on =
        let s = stays_bound e es w j none on in
        let one : count_at w ≤ count_at (free_by e.1 w e.0) = grows_free w n k e.1 e.0 j s.now in
        let rest : count_at (free_by e.1 w e.0) ≤ count_at (after_schedule es (free_by e.1 w e.0)) = count_grows es (free_by e.1 w e.0) s.now s.none on in
        omega (arith, one, rest)

    seen_while_bound : (count : ℕ) (es : Schedule) (w : World) → phase_at w ≡ Bound l → times_bound n k l es w ≡ 0 → phase_at (after_schedule es w) ≡ Bound l → Sometime (HasAccepted n k l count) es w → count ≤ count_at (after_schedule es w)
    unfolding after_schedule
    seen_while_bound count [] w j none on h = h.accepted
    seen_while_bound count (e ∷ es) w j none on (inl h) =
        let s = stays_bound e es w j none on in
        let first : count ≤ count_at w = h.accepted in
        let one : count_at w ≤ count_at (free_by e.1 w e.0) = grows_free w n k e.1 e.0 j s.now in
        let rest : count_at (free_by e.1 w e.0) ≤ count_at (after_schedule es (free_by e.1 w e.0)) = count_grows es (free_by e.1 w e.0) s.now s.none on in
        omega (arith, first, one, rest)
    seen_while_bound count (e ∷ es) w j none on (inr h) = let s = stays_bound e es w j none on in seen_while_bound count es (free_by e.1 w e.0) s.now s.none on h

    seen_before : (count : ℕ) (es : Schedule) (w : World) → phase_at w ≢ Bound l → times_bound n k l es w ≤ 1 → phase_at (after_schedule es w) ≡ Bound l → Sometime (HasAccepted n k l count) es w → count ≤ count_at (after_schedule es w)
    unfolding after_schedule
    seen_before count [] w off once on h = h.accepted
    seen_before count (e ∷ es) w off once on (inl h) = absurd (off h.bound)
    seen_before count (e ∷ es) w off once on (inr h) = go (is_bound_to l (phase_at (free_by e.1 w e.0))) refl once (λ x y. seen_before count es (free_by e.1 w e.0) x y on h)
      where
        go : (b : Bool) → is_bound_to l (phase_at (free_by e.1 w e.0)) ≡ b → (if b && not (is_bound_to l (phase_at w)) then 1 else 0) + times_bound n k l es (free_by e.1 w e.0) ≤ 1 →
            (phase_at (free_by e.1 w e.0) ≢ Bound l → times_bound n k l es (free_by e.1 w e.0) ≤ 1 → count ≤ count_at (after_schedule es (free_by e.1 w e.0))) → count ≤ count_at (after_schedule es (free_by e.1 w e.0))
        go true is le again =
            let now : phase_at (free_by e.1 w e.0) ≡ Bound l = bound_to l (phase_at (free_by e.1 w e.0)) is in
            let one : 1 + times_bound n k l es (free_by e.1 w e.0) ≤ 1 = subst (λ (x : Bool). (if true && not x then 1 else 0) + times_bound n k l es (free_by e.1 w e.0) ≤ 1) (not_bound_to l (phase_at w) off) le in
            seen_while_bound count es (free_by e.1 w e.0) now (omega (arith, one)) on h
        go false is le again = again (λ j. true≢false (sym (ap (is_bound_to l) j ∙ same_refl l) ∙ is)) (let z : 0 + times_bound n k l es (free_by e.1 w e.0) ≤ 1 = le in omega (arith, z))

-- a count that an end had accepted in some world of the run is at most its last count, if it is still bound then
pub seen_now : LinkLaws → LifeLaws → (t : Topology) (times : Times) (es : Schedule) (n k : ℕ) (l : Life) (count : ℕ) → ((after_schedule es (first_world t times)).ends n k).phase ≡ Bound l →
    Sometime (HasAccepted n k l count) es (first_world t times) → count ≤ ((after_schedule es (first_world t times)).ends n k).accepted
seen_now laws lows t times es n k l count on h = seen_before l n k count es (first_world t times) (λ q. absurd (cc)) (binds_once laws lows t times es n k l) on h

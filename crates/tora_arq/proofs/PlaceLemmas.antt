-- A bound end has a place for its `Down` event after every call.
use Rattle.std.proofs.Common.{◌≡◌, ℕ, suc, ◌+◌, ◌-◌, ◌<◌, ◌≤◌, ◌==◌, ◌⊎◌, inl, inr, ap, IfNone, true, false, not, nat_lt, nat_le, List, [], ◌∷◌, length, Option, Some, None, Result, sym, subst, arith, length-append}
use Rattle.std.specs.Prelude.{IfSome}
use Rattle.std.proofs.lemmas.Bool.{cond_both}
use Rattle.tora_packet.specs.declared.Packet.{Packet}
use Rattle.tora_frame.specs.declared.parts.TheConstants.{GREATEST_NUMBER}
use Rattle.tora_frame.specs.declared.parts.Version.{Version}
use Rattle.tora_frame.specs.declared.parts.Body.{Body}
use Rattle.tora_frame.specs.declared.parts.Body.TheVariants.{Hello, Data, Ack}
use Rattle.tora_frame.specs.FrameParts.{FrameParts}
use Rattle.tora_arq.specs.declared.life.Life.{Life}
use Rattle.tora_arq.specs.declared.verdict.Verdict.{Verdict}
use Rattle.tora_arq.specs.declared.link_event.LinkEvent.TheVariants.{Up}
use Rattle.tora_arq.specs.declared.submit_error.SubmitError.{SubmitError}
use Rattle.tora_arq.specs.declared.TheConstants.{WINDOW, EVENT_PLACES, QUEUE_PLACES}
use Rattle.tora_arq.specs.declared.phase.Phase.{Phase}
use Rattle.tora_arq.specs.declared.phase.Phase.TheVariants.{Closed, Unbound, Bound}
use Rattle.tora_arq.specs.Lives.{life_of, is_same_life}
use Rattle.tora_arq.specs.Settings.{Settings}
use Rattle.tora_arq.specs.SendQueue.{DueBatch}
use Rattle.tora_arq.specs.LinkEnd.{EndState, passed, after_bind, count_of, on_life_told, after_acknowledgement, after_packet, after_packets, on_data, on_matched, on_frame_in, is_foreign, is_busy, on_frame, is_silent, after_tick_in, after_tick, on_submit_in, on_submit, after_cut_in, after_cut, is_hello_due, is_old_hello_due, on_hello, due_of, on_transmit_due, on_transmit_in, on_transmit}
use Rattle.tora_arq.specs.declared.state.State.{State}
use Rattle.tora_arq.specs.EndRange.{IsEndState, IsPhase}
use Rattle.tora_arq.specs.Rooms.{AreNext, HasLists, HasNextRoom, HasFrameRoom, HasEventPlaceIn, HasEventPlace}
use Rattle.tora_arq.specs.StateView.{Rooms, rooms_in, state_in}
use Rattle.tora_arq.proofs.RoomLemmas.{next_room}

module _ (places : ℕ) where
  below : (e : EndState) → length e.events < places → (phase : Phase) → HasEventPlaceIn places e phase
  below e h Closed = tt
  below e h (Unbound own) = tt
  below e h (Bound life) = h

  pub below_place : (e : EndState) → length e.events < places → HasEventPlace places e
  below_place e h = below e h e.phase

  -- ---- time, packets and events

  pub tick_place : (s : Settings) (e : EndState) (now : ℕ) → HasEventPlace places e → HasEventPlace places (after_tick s e now)
  unfolding after_tick
  tick_place s e now h = go e.phase
    where
      go : (phase : Phase) → HasEventPlace places (after_tick_in s e now phase)
      go Closed = h
      go (Unbound own) = h
      go (Bound life) = cond_both (is_silent s e now) _ _ (HasEventPlace places) (λ _. tt) (λ _. h)

  pub submit_place : (e : EndState) (life : Life) (packet : Packet) → HasEventPlace places e → HasEventPlace places (on_submit e life packet).1
  unfolding on_submit
  submit_place e life packet h = go e.phase
    where
      go : (phase : Phase) → HasEventPlace places (on_submit_in e life packet phase).1
      go Closed = h
      go (Unbound own) = h
      go (Bound current) =
          cond_both (not (is_same_life life current)) _ _ (λ (r : Result (Unit {0}) SubmitError × EndState). HasEventPlace places r.1) (λ _. h) (λ _.
          cond_both (nat_le GREATEST_NUMBER (e.acknowledged + length e.queue)) _ _ (λ (r : Result (Unit {0}) SubmitError × EndState). HasEventPlace places r.1) (λ _. tt) (λ _.
          cond_both (nat_le QUEUE_PLACES (length e.queue)) _ _ (λ (r : Result (Unit {0}) SubmitError × EndState). HasEventPlace places r.1) (λ _. tt) (λ _. h)))

  pub cut_place : (e : EndState) (life : Life) → HasEventPlace places e → HasEventPlace places (after_cut e life)
  unfolding after_cut
  cut_place e life h = go e.phase
    where
      go : (phase : Phase) → HasEventPlace places (after_cut_in e life phase)
      go Closed = h
      go (Unbound own) = h
      go (Bound current) = cond_both (is_same_life life current) _ _ (HasEventPlace places) (λ _. tt) (λ _. h)

  -- ---- what is sent

  hello_place : (s : Settings) (e : EndState) (own heard now : ℕ) (other : Option FrameParts × EndState) → HasEventPlace places e → HasEventPlace places other.1 → HasEventPlace places (on_hello s e own heard now other).1
  hello_place s e own heard now other h k =
      cond_both (is_old_hello_due e) _ _ (λ (r : Option FrameParts × EndState). HasEventPlace places r.1) (λ _. h) (λ _.
      cond_both (is_hello_due s e now) _ _ (λ (r : Option FrameParts × EndState). HasEventPlace places r.1) (λ _. h) (λ _. k))

  due_place : (s : Settings) (e : EndState) (life : Life) (o : Option DueBatch) → HasEventPlace places e → HasEventPlace places (on_transmit_due s e life o).1
  due_place s e life None h = cond_both e.owes_ack _ _ (λ (r : Option FrameParts × EndState). HasEventPlace places r.1) (λ _. h) (λ _. h)
  due_place s e life (Some due) h = h

  pub transmit_place : (s : Settings) (e : EndState) (now : ℕ) → HasEventPlace places e → HasEventPlace places (on_transmit s e now).1
  unfolding on_transmit on_transmit_in
  transmit_place s e now h = go e.phase
    where
      go : (phase : Phase) → HasEventPlace places (on_transmit_in s e now phase).1
      go Closed = h
      go (Unbound own) = hello_place s e own e.heard now (None, e) h h
      go (Bound life) = hello_place s e life.own life.peer now (on_transmit_due s e life (due_of s e now)) h (due_place s e life (due_of s e now) h)

  -- ---- a frame

  told_place : (e : EndState) (version : Version) (life : ℕ) (body : Body) → HasEventPlace places e → HasEventPlace places (on_life_told e version life body).1
  told_place e version life Hello h =
      cond_both (nat_lt life e.heard) _ _ (λ (r : Verdict × EndState). HasEventPlace places r.1) (λ _. h) (λ _.
      cond_both (life == e.heard) _ _ (λ (r : Verdict × EndState). HasEventPlace places r.1) (λ _. h) (λ _. h))
  told_place e version life (Data number count packets) h = h
  told_place e version life (Ack count) h = h

  -- these packets are the next ones, and there is room for each
  packets_place : (ps : List Packet) (e : EndState) (life : Life) (furthest number : ℕ) → AreNext places furthest number (length ps) e → length (after_packets life furthest e number ps).events ≤ places
  unfolding after_packets
  packets_place [] e life furthest number r = omega (arith, r.room)
  packets_place (p ∷ ps) e life furthest number r =
      let one : number + 1 ≡ suc number = omega arith in
      let rest : suc (length ps) - 1 ≡ length ps = omega arith in
      packets_place ps (after_packet life furthest e number p) life furthest (suc number)
      (subst (λ n. AreNext places furthest n (length ps) (after_packet life furthest e number p)) one (subst (λ n. AreNext places furthest (number + 1) n (after_packet life furthest e number p)) rest (next_room places furthest life e number (suc (length ps)) p (omega arith) r)))

module _ (places : ℕ) where
  -- one place fewer
  abbrev fewer : ℕ
  fewer = places - 1

  bound_place : (s : Settings) (e : EndState) (life : Life) (now : ℕ) (f : FrameParts) (body : Body) → 0 < places → s.window ≡ WINDOW → length e.events < fewer → HasNextRoom fewer body e (Bound life) →
      HasEventPlace places (on_matched s.window (passed e f.header.version) life false now body).1
  unfolding on_matched on_data
  bound_place s e life now f Hello some w lt r = below_place places ((on_matched s.window (passed e f.header.version) life false now Hello).1) (omega (arith, lt))
  bound_place s e life now f (Data number count packets) some w lt r =
      let most : length (after_packets life (e.accepted + s.window) (record (after_acknowledgement (passed e f.header.version) count now) { owes_ack = true }) number packets.items).events ≤ fewer =
      packets_place fewer packets.items (record (after_acknowledgement (passed e f.header.version) count now) { owes_ack = true }) life (e.accepted + s.window) number (record {
        room = r.room;
        next = r.next;
        within = omega (arith, w, r.within);
        none = r.none;
        ahead = omega arith;
      }) in
      below_place places ((on_matched s.window (passed e f.header.version) life false now (Data number count packets)).1) (omega (arith, most, some))
  bound_place s e life now f (Ack count) some w lt r = below_place places ((on_matched s.window (passed e f.header.version) life false now (Ack count)).1) (omega (arith, lt))

  first_place : (s : Settings) (e : EndState) (life : Life) (now own : ℕ) (f : FrameParts) (body : Body) → length e.events < fewer → HasNextRoom fewer body e (Unbound own) →
      HasEventPlace places (on_matched s.window (passed (after_bind e life) f.header.version) life true now body).1
  unfolding on_matched
  first_place s e life now own f Hello lt r = below_place places ((on_matched s.window (passed (after_bind e life) f.header.version) life true now Hello).1) (omega (arith, lt, length-append e.events (Up life ∷ [])))
  first_place s e life now own f (Data number count packets) lt r = absurd r
  first_place s e life now own f (Ack count) lt r = below_place places ((on_matched s.window (passed (after_bind e life) f.header.version) life true now (Ack count)).1) (omega (arith, lt, length-append e.events (Up life ∷ [])))

  in_phase : (s : Settings) (e : EndState) (f : FrameParts) (now : ℕ) (phase : Phase) → s.window ≡ WINDOW → length e.events < fewer → HasNextRoom fewer f.body e phase → HasEventPlace places (on_frame_in s.window e f now phase).1
  unfolding on_frame_in
  in_phase s e f now Closed w lt r = below_place places e (omega (arith, lt))
  in_phase s e f now (Unbound own) w lt r =
      let here : HasEventPlace places e = below_place places e (omega (arith, lt)) in
      cond_both (f.header.heard == own) _ _ (λ (x : Verdict × EndState). HasEventPlace places x.1)
      (λ _. cond_both (nat_lt 0 (count_of f.body)) _ _ (λ (x : Verdict × EndState). HasEventPlace places x.1) (λ _. here) (λ _.
      cond_both (nat_lt f.header.life e.heard) _ _ (λ (x : Verdict × EndState). HasEventPlace places x.1) (λ _. here) (λ _.
      first_place s e (life_of own f.header.life) now own f f.body lt r)))
      (λ _. told_place places e f.header.version f.header.life f.body here)
  in_phase s e f now (Bound life) w lt r =
      let here : HasEventPlace places e = below_place places e (omega (arith, lt)) in
      cond_both (nat_lt life.peer f.header.life) _ _ (λ (x : Verdict × EndState). HasEventPlace places x.1) (λ _. tt) (λ _.
      cond_both (nat_lt f.header.life life.peer) _ _ (λ (x : Verdict × EndState). HasEventPlace places x.1) (λ _. here) (λ _.
      cond_both (f.header.heard == life.own) _ _ (λ (x : Verdict × EndState). HasEventPlace places x.1)
      (λ _. cond_both (nat_lt e.transmitted (count_of f.body)) _ _ (λ (x : Verdict × EndState). HasEventPlace places x.1) (λ _. here)
      (λ _. bound_place s e life now f f.body (omega (arith, lt)) w lt r))
      (λ _. here)))

  -- a frame for which there is room in one place fewer
  pub frame_place : (s : Settings) (e : EndState) (f : FrameParts) (now : ℕ) → s.window ≡ WINDOW → HasFrameRoom fewer f e → HasEventPlace places (on_frame s e f now).1
  unfolding on_frame
  frame_place s e f now w r =
      let here : HasEventPlace places e = below_place places e (omega (arith, r.place)) in
      cond_both (is_foreign s f) _ _ (λ (x : Verdict × EndState). HasEventPlace places x.1) (λ _. here) (λ _.
      cond_both (is_busy e) _ _ (λ (x : Verdict × EndState). HasEventPlace places x.1) (λ _. here) (λ _.
      in_phase s e f now e.phase w r.place r.body))

-- ---- the place is free, whatever other room there is

whole_in : (places last heard : ℕ) (e : EndState) (phase : Phase) → EVENT_PLACES ≤ places → IsPhase last heard e.events phase → HasEventPlaceIn places e phase
whole_in places last heard e Closed le h = tt
whole_in places last heard e (Unbound own) le h = tt
whole_in places last heard e (Bound life) le h = let lt : length e.events < EVENT_PLACES = h.room in omega (arith, le, lt)

-- there is room for all events
pub whole_place : (places : ℕ) (s : Settings) (e : EndState) → EVENT_PLACES ≤ places → IsEndState s e → HasEventPlace places e
whole_place places s e le k = whole_in places e.last_life e.heard e e.phase le k.in_phase

more_in : (places more : ℕ) (e : EndState) (phase : Phase) → places ≤ more → HasEventPlaceIn places e phase → HasEventPlaceIn more e phase
more_in places more e Closed le h = tt
more_in places more e (Unbound own) le h = tt
more_in places more e (Bound life) le h = omega (arith, le, h)

-- there is more room
pub more_place : (places more : ℕ) (e : EndState) → places ≤ more → HasEventPlace places e → HasEventPlace more e
more_place places more e le h = more_in places more e e.phase le h

-- after a frame for which there was room
pub heard_place : (places early : ℕ) (s : Settings) (e : EndState) (f : FrameParts) (now : ℕ) → s.window ≡ WINDOW → IsEndState s (on_frame s e f now).1 → HasLists places early ⊎ HasFrameRoom (places - 1) f e → HasEventPlace places (on_frame s e f now).1
heard_place places early s e f now w k (inl all) = whole_place places s (on_frame s e f now).1 all.events k
heard_place places early s e f now w k (inr some) = frame_place places s e f now w some

-- ---- the invariant of a growing end

-- the state after a call, and a free place if the room stays
pub keeps : (s : Settings) (old new : State) (after : EndState) → state_in new ≡ after → rooms_in new ≡ rooms_in old → IsEndState s after → HasEventPlace old.events.capacity after → IsEndState s (state_in new) × HasEventPlace new.events.capacity (state_in new)
keeps s old new after q r a b =
    let room : old.events.capacity ≡ new.events.capacity = sym (ap (λ (x : Rooms). x.events) r) in
    subst (λ (e : EndState). IsEndState s e × HasEventPlace new.events.capacity e) (sym q) (a, subst (λ n. HasEventPlace n after) room b)

-- the state and the free place, after room was made
pub roomier : (s : Settings) (old new : State) → state_in new ≡ state_in old → old.events.capacity ≤ new.events.capacity → IsEndState s (state_in old) × HasEventPlace old.events.capacity (state_in old) →
    IsEndState s (state_in new) × HasEventPlace new.events.capacity (state_in new)
roomier s old new q le k = subst (λ (e : EndState). IsEndState s e × HasEventPlace new.events.capacity e) (sym q) (k.0, more_place old.events.capacity new.events.capacity (state_in old) le k.1)

-- a property of the state before and of that after a call holds for the state that the call leaves
pub after_some : {A : Type 0} (P : EndState → Type 0) (o : Option A) (old new : State) (after : EndState) → IfSome o (λ _. state_in new ≡ after) → IfNone o (new ≡ old) → P (state_in old) → P after → P (state_in new)
after_some P None old new after some none a b = subst (λ (x : State). P (state_in x)) (sym none) a
after_some P (Some h) old new after some none a b = subst P (sym some) b

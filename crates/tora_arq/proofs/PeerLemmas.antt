-- No packet that is held or delivered is an update of a node other than the peer.
use Rattle.std.proofs.Common.{◌≡◌, ℕ, zero, suc, true, false, List, [], ◌∷◌, map, length, drop, Option, Some, None, Contains, if◌then◌else◌, refl, sym, ap, subst}
use Rattle.std.specs.List.{AllByRecursion, list_any}
use Rattle.std.proofs.lemmas.Option.{same_Some}
use Rattle.std.proofs.lemmas.Bool.{cases_Bool, or_parts}
use Rattle.std.proofs.Common.{⊎_elim, slice_get}
use Rattle.tora_packet.specs.declared.Packet.{Packet}
use Rattle.tora_frame.specs.declared.parts.Body.{Body}
use Rattle.tora_frame.specs.declared.parts.Body.TheVariants.{Hello, Data, Ack}
use Rattle.tora_frame.specs.FrameParts.{FrameParts}
use Rattle.tora_arq.specs.declared.life.Life.{Life}
use Rattle.tora_arq.specs.declared.verdict.Verdict.TheVariants.{Foreign, Busy}
use Rattle.tora_arq.specs.declared.link_event.LinkEvent.{LinkEvent}
use Rattle.tora_arq.specs.declared.link_event.LinkEvent.TheVariants.{Deliver}
use Rattle.tora_arq.specs.Settings.{Settings}
use Rattle.tora_arq.specs.LinkEnd.{EndState, first_end, is_update_of_another, has_update_of_another, is_foreign, is_busy, on_frame_in, on_frame, after_frame}
use Rattle.tora_arq.specs.LinkFacts.{LinkCall, after_call, IsPossible, event_given_by, events_left, events_queued, AreHeld, AreFrom, BodyTells, CallTells}
use Rattle.tora_arq.specs.LinkFacts.LinkCall.{Open, Frame, Tick, Submit, PollEvent, Transmit, Cut}
use Rattle.tora_arq.specs.LinkRuns.{LinkRun, first_run, run_after, run_after_all, AreAllPossible, run_of}
use Rattle.tora_arq.specs.PeerUpdates.{IsSlotOfPeer, IsEventOfPeer, AreEventsOfPeer, IsOfPeer}
use Rattle.tora_arq.proofs.FactSteps.{Step, call_step}
use Rattle.tora_arq.proofs.FactSteps.Step.{stays, opens, ends, submits, binds, goes_on}
use Rattle.tora_arq.proofs.FactCalls.{queued_by, events_queued-is, call-behind}
use Rattle.tora_arq.proofs.FactLists.{all_append, all_at}

-- a packet is not an update of a node other than the peer
abbrev OfPeer : ℕ → ℕ → Packet → Type 0
OfPeer peer place packet = is_update_of_another peer packet ≡ false

abbrev AreSlots : ℕ → List (Option Packet) → Type 0
AreSlots peer held = AllByRecursion (IsSlotOfPeer peer) held

held_of : (peer place : ℕ) (held : List (Option Packet)) → AreSlots peer held → AreHeld (OfPeer peer) place held
held_of peer place [] h = tt
held_of peer place (None ∷ held) h = held_of peer (suc place) held h.1
held_of peer place (Some packet ∷ held) h = (h.0, held_of peer (suc place) held h.1)

slots_of : (peer place : ℕ) (held : List (Option Packet)) → AreHeld (OfPeer peer) place held → AreSlots peer held
slots_of peer place [] h = tt
slots_of peer place (None ∷ held) h = (tt, slots_of peer (suc place) held h)
slots_of peer place (Some packet ∷ held) h = (h.0, slots_of peer (suc place) held h.1)

events_of : (peer place : ℕ) (life : Life) (packets : List Packet) → AreFrom (OfPeer peer) place packets → AreEventsOfPeer peer (map (Deliver life) packets)
events_of peer place life [] h = tt
events_of peer place life (packet ∷ packets) h = (h.0, events_of peer (suc place) life packets h.1)

all_drop : (peer n : ℕ) (events : List LinkEvent) → AreEventsOfPeer peer events → AreEventsOfPeer peer (drop n events)
all_drop peer zero events h = h
all_drop peer (suc n) [] h = tt
all_drop peer (suc n) (event ∷ events) h = all_drop peer n events h.1

abbrev KeepsPeer : ℕ → EndState → List LinkEvent → Type 0
KeepsPeer peer after queued = AreSlots peer after.held × AreEventsOfPeer peer queued

module _ (s : Settings) (call : LinkCall) (e e' : EndState) where
  step_of_peer : (t : Step (OfPeer s.peer) s call e e') → ((life : Life) → CallTells (OfPeer s.peer) s life call) → AreSlots s.peer e.held → KeepsPeer s.peer e' (queued_by (OfPeer s.peer) s call e e' t)
  step_of_peer (stays k) told h = (subst (AreSlots s.peer) (sym k.held) h, tt)
  step_of_peer (opens own k) told h = (subst (AreSlots s.peer) (sym k.held) tt, tt)
  step_of_peer (ends l r k) told h = (subst (AreSlots s.peer) (sym k.held) tt, (tt, tt))
  step_of_peer (submits l p k) told h = (subst (AreSlots s.peer) (sym k.held) h, tt)
  step_of_peer (binds l i v p g) told h =
      let n = g.keeps tt (told l) in (slots_of s.peer e'.accepted e'.held n.1, (tt, events_of s.peer 0 l g.packets n.0))
  step_of_peer (goes_on l i v p g) told h =
      let n = g.keeps (held_of s.peer e.accepted e.held h) (told l) in (slots_of s.peer e'.accepted e'.held n.1, events_of s.peer e.accepted l g.packets n.0)

none_of_another : (peer : ℕ) (packets : List Packet) (place : ℕ) (packet : Packet) → list_any (is_update_of_another peer) packets ≡ false → slice_get packets place ≡ Some packet → is_update_of_another peer packet ≡ false
none_of_another peer [] place packet h e = absurd (cc)
none_of_another peer (x ∷ packets) zero packet h e =
    let first : x ≡ packet = same_Some x packet e in
    subst (λ p. is_update_of_another peer p ≡ false) first (or_parts _ _ h).0
none_of_another peer (x ∷ packets) (suc place) packet h e = none_of_another peer packets place packet (or_parts _ _ h).1 e

-- a frame that is not foreign carries no update of another node
body_of_peer : (peer : ℕ) (body : Body) → has_update_of_another peer body ≡ false → BodyTells (OfPeer peer) body
body_of_peer peer Hello h = λ place packet c. absurd c
body_of_peer peer (Data number count packets) h = λ place packet c. none_of_another peer packets.items c.0 packet h c.2
body_of_peer peer (Ack count) h = λ place packet c. absurd c

frame_of_peer : (s : Settings) (f : FrameParts) (now : ℕ) (life : Life) → is_foreign s f ≡ false → CallTells (OfPeer s.peer) s life (Frame f now)
frame_of_peer s f now life h = λ o.
    let p = or_parts _ _ h in body_of_peer s.peer f.body (subst (λ n. has_update_of_another n f.body ≡ false) o.sender (or_parts _ _ p.1).1)

drop_all : {A : Type 0} (xs : List A) → drop (length xs) xs ≡ []
drop_all [] = refl
drop_all (x ∷ xs) = drop_all xs

foreign_stays : (s : Settings) (e : EndState) (f : FrameParts) (now : ℕ) → is_foreign s f ≡ true → after_frame s e f now ≡ e
unfolding on_frame
foreign_stays s e f now h = ap (λ b. (if b then (Foreign, e) else if is_busy e then (Busy, e) else on_frame_in s.window e f now e.phase).1) h

abbrev CallKeeps : Settings → EndState → LinkCall → Type 0
CallKeeps s e call = KeepsPeer s.peer (after_call s e call) (events_queued s e call)

call_told : (s : Settings) (e : EndState) (call : LinkCall) → IsPossible e call → ((life : Life) → CallTells (OfPeer s.peer) s life call) → AreSlots s.peer e.held → CallKeeps s e call
call_told s e call ok told h =
    let t = call_step (OfPeer s.peer) s e call ok in
    subst (KeepsPeer s.peer (after_call s e call)) (sym (events_queued-is (OfPeer s.peer) s e call t)) (step_of_peer s call e (after_call s e call) t told h)

call_keeps : (s : Settings) (e : EndState) (call : LinkCall) → IsPossible e call → AreSlots s.peer e.held → CallKeeps s e call
call_keeps s e (Open life now) ok h = call_told s e (Open life now) ok (λ l. tt) h
call_keeps s e (Tick now) ok h = call_told s e (Tick now) ok (λ l. tt) h
call_keeps s e (Submit life packet) ok h = call_told s e (Submit life packet) ok (λ l. tt) h
call_keeps s e PollEvent ok h = call_told s e PollEvent ok (λ l. tt) h
call_keeps s e (Transmit now) ok h = call_told s e (Transmit now) ok (λ l. tt) h
call_keeps s e (Cut life) ok h = call_told s e (Cut life) ok (λ l. tt) h
call_keeps s e (Frame f now) ok h =
    ⊎_elim
    (λ (k : is_foreign s f ≡ true). subst (λ x. KeepsPeer s.peer x (drop (length e.events) x.events)) (sym (foreign_stays s e f now k))
    (h, subst (AreEventsOfPeer s.peer) (sym (drop_all e.events)) tt))
    (λ (k : is_foreign s f ≡ false). call_told s e (Frame f now) ok (λ l. frame_of_peer s f now l k) h)
    (cases_Bool (is_foreign s f))

left_of_peer : (peer : ℕ) (e : EndState) (call : LinkCall) → AreEventsOfPeer peer e.events → AreEventsOfPeer peer (events_left e call)
left_of_peer peer e (Open life now) h = h
left_of_peer peer e (Frame f now) h = h
left_of_peer peer e (Tick now) h = h
left_of_peer peer e (Submit life packet) h = h
left_of_peer peer e PollEvent h = all_drop peer 1 e.events h
left_of_peer peer e (Transmit now) h = h
left_of_peer peer e (Cut life) h = h

pub first_of_peer : (s : Settings) → IsOfPeer s first_end
first_of_peer s = record { held = tt; events = tt }

module _ (s : Settings) (e : EndState) (call : LinkCall) (ok : IsPossible e call) where
  pub call_of_peer : IsOfPeer s e → IsOfPeer s (after_call s e call)
  call_of_peer h =
      let k = call_keeps s e call ok h.held in record {
        held = k.0;
        events = subst (AreEventsOfPeer s.peer) (sym (call-behind s e call ok)) (all_append (IsEventOfPeer s.peer) (events_left e call) (events_queued s e call) (left_of_peer s.peer e call h.events) k.1);
      }

  pub queued_of_peer : (life : Life) (packet : Packet) → IsOfPeer s e → Contains (events_queued s e call) (Deliver life packet) → is_update_of_another s.peer packet ≡ false
  queued_of_peer life packet h c = all_at (IsEventOfPeer s.peer) (events_queued s e call) (Deliver life packet) (call_keeps s e call ok h.held).1 c

first_given : (peer : ℕ) (events : List LinkEvent) (life : Life) (packet : Packet) → AreEventsOfPeer peer events → slice_get events 0 ≡ Some (Deliver life packet) → is_update_of_another peer packet ≡ false
first_given peer [] life packet h q = absurd (cc)
first_given peer (event ∷ events) life packet h q = let y : event ≡ Deliver life packet = cc in subst (IsEventOfPeer peer) y h.0

pub given_of_peer : (s : Settings) (e : EndState) (call : LinkCall) → IsPossible e call → (life : Life) (packet : Packet) → IsOfPeer s e → event_given_by e call ≡ Some (Deliver life packet) → is_update_of_another s.peer packet ≡ false
given_of_peer s e (Open own now) ok life packet h q = absurd (cc)
given_of_peer s e (Frame f now) ok life packet h q = absurd (cc)
given_of_peer s e (Tick now) ok life packet h q = absurd (cc)
given_of_peer s e (Submit other x) ok life packet h q = absurd (cc)
given_of_peer s e PollEvent ok life packet h q = first_given s.peer e.events life packet h.events q
given_of_peer s e (Transmit now) ok life packet h q = absurd (cc)
given_of_peer s e (Cut other) ok life packet h q = absurd (cc)

-- ---- over a run

pub record IsRunOfPeer (s : Settings) (run : LinkRun) : Type 0 where
  pub state : IsOfPeer s run.state
  pub events : AreEventsOfPeer s.peer run.events

run_of_peer : (s : Settings) (calls : List LinkCall) (run : LinkRun) → AreAllPossible s run calls → IsRunOfPeer s run → IsRunOfPeer s (run_after_all s run calls)
run_of_peer s [] run ok h = h
run_of_peer s (call ∷ calls) run ok h =
    run_of_peer s calls (run_after s run call) ok.1 (record {
      state = call_of_peer s run.state call ok.0 h.state;
      events = all_append (IsEventOfPeer s.peer) run.events (events_queued s run.state call) h.events (call_keeps s run.state call ok.0 h.state.held).1;
    })

pub every_run_of_peer : (s : Settings) (calls : List LinkCall) → AreAllPossible s first_run calls → IsRunOfPeer s (run_of s calls)
every_run_of_peer s calls ok = run_of_peer s calls first_run ok (record { state = first_of_peer s; events = tt })

-- What the calls of a thread do not change in its hub and its queues, and which calls are those of its wire.
use Rattle.std.proofs.Common.{◌≡◌, ◌∙◌, sym, ap, ℕ, zero, suc, Bool, true, false, List, [], ◌∷◌, map, Option, None, Some, Result, Ok, Err, ⊎_elim}
use Rattle.std.specs.Prelude.{slice_get, slice_set}
use Rattle.tora_arq.specs.declared.link_event.LinkEvent.{LinkEvent}
use Rattle.tora_lane.specs.Offering.{DidOffer}
use Rattle.tora_lane.specs.Out.{Ring, SendEnd, ReceiveEnd, with_sent}
use Rattle.tora_lane.specs.Ports.{InEnd, Lane}
use Rattle.tora_lane.specs.declared.ports.Gone.{Gone}
use Rattle.tora_neighbour.specs.Calls.{TakesSome, TakesAll, PutsSome, PutsBeat, PutsUpTo, PutsNoMore, AreCalls, LastCalls}
use Rattle.tora_neighbour.specs.LaneHub.{IsSamePort, PutsAtPort, TakesFromLane}
use Rattle.tora_neighbour.specs.Turns.{Turn}
use Rattle.tora_neighbour.specs.declared.lane_hub.LaneHub.{LaneHub}
use Rattle.tora_neighbour.specs.declared.ending.Ending.{Ending}
use Rattle.tora_neighbour.specs.declared.ending.Ending.TheVariants.{NoNumber, Broken, Refused}
use Rattle.tora_neighbour.specs.declared.wire.WireError.{WireError}
use Rattle.tora_seat.specs.Offers.{AreOffered, place_of}
use Rattle.tora_seat.specs.Serving.{Offer}
use Rattle.tora_seat.specs.declared.cargo.Cargo.{Cargo}
use Rattle.tora_seat.specs.declared.what.What.{What}
use Rattle.tora_node.specs.declared.wake.WakingLanes.{WakingLanes}
use Rattle.tora_node.specs.WireCalls.{AreWireCalls, LastWireCalls}

-- ---- calls of the wire

module _ {H W : Type 0} (take : H → Option Cargo → H → Type 0) (put : H → ℕ → What → Result (Unit {0}) Gone → H → Type 0) (send : W → List ℕ → Result (Unit {0}) WireError → W → Type 0) (receive : W → Result (Option ℕ) WireError → List ℕ → W → Type 0) where
  pub wire_calls : (h h_after : H) (w w_after : W) (turns : List Turn) → AreCalls take put send receive h w turns h_after w_after → AreWireCalls send receive w turns w_after
  wire_calls h h_after w w_after [] c = c.1
  wire_calls h h_after w w_after (t ∷ turns) c = (c.2.sent, c.1, c.2.sends, c.2.receives, wire_calls c.0 h_after c.1 w_after turns c.3)

  pub last_wire_calls : (h h_after : H) (w w_after : W) (t : Turn) (ending : Ending) → LastCalls take put send receive h w t ending h_after w_after → LastWireCalls send receive w t ending w_after
  last_wire_calls h h_after w w_after t (NoNumber error) c = c.1
  last_wire_calls h h_after w w_after t (Broken at) c = c.2
  last_wire_calls h h_after w w_after t Refused c = (c.1, c.3, c.4)

  -- ---- a value that no call of the hub changes

  module _ {V : Type 0} (v : H → V) (takes_keep : (h : H) (cargo : Option Cargo) (after : H) → take h cargo after → v after ≡ v h) (puts_keep : (h : H) (now : ℕ) (what : What) (answer : Result (Unit {0}) Gone) (after : H) → put h now what answer after → v after ≡ v h) where
    takes_some : (h : H) (cargoes : List Cargo) (after : H) → TakesSome take h cargoes after → v after ≡ v h
    takes_some h [] after c = ap v c
    takes_some h (cargo ∷ cargoes) after c = takes_some c.0 cargoes after c.2 ∙ takes_keep h (Some cargo) c.0 c.1

    takes_all : (h : H) (cargoes : List Cargo) (after : H) → TakesAll take h cargoes after → v after ≡ v h
    takes_all h cargoes after c = ⊎_elim (λ none. takes_keep c.0 None after none) (λ full. ap v full.1) c.2 ∙ takes_some h cargoes c.0 c.1

    puts_some : (now : ℕ) (h : H) (events : List LinkEvent) (after : H) → PutsSome put now h events after → v after ≡ v h
    puts_some now h [] after c = ap v c
    puts_some now h (event ∷ events) after c = puts_some now c.0 events after c.2 ∙ puts_keep h now _ (Ok tt) c.0 c.1

    puts_beat : (now : ℕ) (beat : Bool) (h after : H) → PutsBeat put now beat h after → v after ≡ v h
    puts_beat now true h after c = puts_keep h now _ (Ok tt) after c
    puts_beat now false h after c = ap v c

    puts_up_to : (now : ℕ) (h : H) (told : List LinkEvent) (refused : Option LinkEvent) (after : H) → PutsUpTo put now h told refused after → v after ≡ v h
    puts_up_to now h told None after c = puts_some now h told after c
    puts_up_to now h told (Some event) after c = puts_keep c.0 now _ (Err c.2) after c.3 ∙ puts_some now h told c.0 c.1

    puts_no_more : (now : ℕ) (h : H) (told : List LinkEvent) (refused : Option LinkEvent) (after : H) → PutsNoMore put now h told refused after → v after ≡ v h
    puts_no_more now h told None after c = puts_keep c.0 now _ (Err c.2) after c.3 ∙ puts_some now h told c.0 c.1
    puts_no_more now h told (Some event) after c = puts_up_to now h told (Some event) after c

    pub calls_keep : (h h_after : H) (w w_after : W) (turns : List Turn) → AreCalls take put send receive h w turns h_after w_after → v h_after ≡ v h
    calls_keep h h_after w w_after [] c = ap v c.0
    calls_keep h h_after w w_after (t ∷ turns) c =
        calls_keep c.0 h_after c.1 w_after turns c.3
        ∙ puts_beat t.now t.beat c.2.told c.0 c.2.beat
        ∙ puts_some t.now c.2.taken t.told c.2.told c.2.puts
        ∙ takes_all h t.cargoes c.2.taken c.2.takes

    pub last_keeps : (h h_after : H) (w w_after : W) (t : Turn) (ending : Ending) → LastCalls take put send receive h w t ending h_after w_after → v h_after ≡ v h
    last_keeps h h_after w w_after t (NoNumber error) c = ap v c.0
    last_keeps h h_after w w_after t (Broken at) c = puts_up_to t.now c.0 t.told t.refused h_after c.3 ∙ takes_all h t.cargoes c.0 c.1
    last_keeps h h_after w w_after t Refused c = puts_no_more t.now c.0 t.told t.refused h_after c.5 ∙ takes_all h t.cargoes c.0 c.2

-- a call of the port, and one of the queue
pub put_keeps : (p : InEnd) (now : ℕ) (what : What) (answer : Result (Unit {0}) Gone) (after : InEnd) → PutsAtPort p now what answer after → IsSamePort p after
put_keeps p now what (Ok done) after c = c.0
put_keeps p now what (Err gone) after c = c.0

pub take_keeps : (o : ReceiveEnd) (answer : Option Cargo) (after : ReceiveEnd) → TakesFromLane o answer after → after.ring ≡ o.ring
take_keeps o (Some cargo) after c = c.0
take_keeps o None after c = c.0

-- the ends of the queues are the same after the calls of a thread
module _ {H W : Type 0} (hub : H → LaneHub) (send : W → List ℕ → Result (Unit {0}) WireError → W → Type 0) (receive : W → Result (Option ℕ) WireError → List ℕ → W → Type 0) where
  abbrev pub TakesThere : H → Option Cargo → H → Type 0
  TakesThere h answer after = ((hub after).port ≡ (hub h).port) × TakesFromLane (hub h).outs answer (hub after).outs

  abbrev pub PutsThere : H → ℕ → What → Result (Unit {0}) Gone → H → Type 0
  PutsThere h now what answer after = ((hub after).outs ≡ (hub h).outs) × PutsAtPort (hub h).port now what answer (hub after).port

  abbrev ends_of : H → Lane × (ℕ × Ring)
  ends_of h = ((hub h).port.lane, ((hub h).port.seat, (hub h).outs.ring))

  take_there : (h : H) (answer : Option Cargo) (after : H) → TakesThere h answer after → ends_of after ≡ ends_of h
  take_there h answer after d = λ i. ((d.0 i).lane, ((d.0 i).seat, take_keeps (hub h).outs answer (hub after).outs d.1 i))

  put_there : (h : H) (now : ℕ) (what : What) (answer : Result (Unit {0}) Gone) (after : H) → PutsThere h now what answer after → ends_of after ≡ ends_of h
  put_there h now what answer after d = let p = put_keeps (hub h).port now what answer (hub after).port d.1 in λ i. (p.0 i, (p.1 i, (d.0 i).ring))

  pub calls_there : (h between after : H) (w w_between w_after : W) (turns : List Turn) (last : Turn) (ending : Ending) → AreCalls TakesThere PutsThere send receive h w turns between w_between
      → LastCalls TakesThere PutsThere send receive between w_between last ending after w_after → AreWireCalls send receive w turns w_between × LastWireCalls send receive w_between last ending w_after
  calls_there h between after w w_between w_after turns last ending calls last_calls =
      (wire_calls TakesThere PutsThere send receive h between w w_between turns calls, last_wire_calls TakesThere PutsThere send receive between after w_between w_after last ending last_calls)

  pub ends_stay : (h between after : H) (w w_between w_after : W) (turns : List Turn) (last : Turn) (ending : Ending) → AreCalls TakesThere PutsThere send receive h w turns between w_between
      → LastCalls TakesThere PutsThere send receive between w_between last ending after w_after → IsSamePort (hub h).port (hub after).port × ((hub after).outs.ring ≡ (hub h).outs.ring)
  ends_stay h between after w w_between w_after turns last ending calls last_calls =
      let same : ends_of after ≡ ends_of h =
      last_keeps TakesThere PutsThere send receive ends_of take_there put_there between after w_between w_after last ending last_calls ∙ calls_keep TakesThere PutsThere send receive ends_of take_there put_there h between w w_between turns calls in
      ((ap (λ (x : Lane × (ℕ × Ring)). x.0) same, ap (λ (x : Lane × (ℕ × Ring)). x.1.0) same), ap (λ (x : Lane × (ℕ × Ring)). x.1.1) same)

-- ---- offers

-- offers, in the view of the queues
pub offered_as : {O P : Type 0} (f : O → P) (did : P → ℕ → Cargo → Bool → P → Type 0) (ks : List ℕ) (outs : O) (offers : List Offer) (after : O) → AreOffered (λ before place cargo put next. did (f before) place cargo put (f next)) ks outs offers after
    → AreOffered did ks (f outs) offers (f after)
offered_as f did ks outs [] after h = ap f h
offered_as f did ks outs (o ∷ offers) after h = (f h.0, h.1, offered_as f did ks h.0 offers after h.2)

-- offers to queues that wake are offers to the queues inside
pub offered_inside : {O K P : Type 0} (f : O → P) (did : P → ℕ → Cargo → Bool → P → Type 0) (ks : List ℕ) (outs : WakingLanes O K) (offers : List Offer) (after : WakingLanes O K) → AreOffered (λ before place cargo put next. did (f before.lanes) place cargo put (f next.lanes)) ks outs offers after
    → AreOffered did ks (f outs.lanes) offers (f after.lanes)
offered_inside f did ks outs offers after h = offered_as (λ o. f o.lanes) did ks outs offers after h

abbrev pub ring_of : SendEnd → Ring
ring_of end = end.ring

ring_set : (ends : List SendEnd) (place : ℕ) (end : SendEnd) (cargo : Cargo) → slice_get ends place ≡ Some end → map ring_of (slice_set ends place (with_sent end cargo)) ≡ map ring_of ends
ring_set [] place end cargo e = absurd cc
ring_set (x ∷ ends) zero end cargo e = let same : x ≡ end = cc in ap (λ (y : SendEnd). y.ring ∷ map ring_of ends) (sym same)
ring_set (x ∷ ends) (suc place) end cargo e = ap (λ (l : List Ring). x.ring ∷ l) (ring_set ends place end cargo e)

offer_keeps : (before after : List SendEnd) (place : ℕ) (cargo : Cargo) (put : Bool) → DidOffer before place cargo put after → map ring_of after ≡ map ring_of before
offer_keeps before after place cargo true did = ap (map ring_of) did.3 ∙ ring_set before place did.0 cargo did.1
offer_keeps before after place cargo false did = ap (map ring_of) did.3

-- the rings of the queues are unchanged
pub rings_stay : (ks : List ℕ) (before after : List SendEnd) (offers : List Offer) → AreOffered DidOffer ks before offers after → map ring_of after ≡ map ring_of before
rings_stay ks before after [] h = ap (map ring_of) h
rings_stay ks before after (o ∷ offers) h = rings_stay ks h.0 after offers h.2 ∙ offer_keeps before h.0 (place_of o.to ks) o.cargo o.put h.1

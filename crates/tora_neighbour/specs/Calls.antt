-- The calls of its hub and its wire that a neighbour's thread makes, in their order: in whole turns and in the last
-- turn.
use Rattle.std.specs.Prelude.{◌≡◌, ◌⊎◌, ℕ, Bool, MatchBool, List, [], ◌∷◌, length, Option, Some, None, Result, Ok, Err}
use Rattle.tora_frame.specs.FrameParts.{FrameParts}
use Rattle.tora_frame.specs.FrameGrammar.{frame_spelling}
use Rattle.tora_arq.specs.declared.link_event.LinkEvent.{LinkEvent}
use Rattle.tora_seat.specs.declared.cargo.Cargo.{Cargo}
use Rattle.tora_seat.specs.declared.TheConstants.{MOST_CARGOES}
use Rattle.tora_seat.specs.declared.what.What.{What}
use Rattle.tora_seat.specs.declared.what.What.TheVariants as Says
use Rattle.tora_lane.specs.declared.ports.Gone.{Gone}
use Rattle.tora_neighbour.specs.declared.wire.WireError.{WireError}
use Rattle.tora_neighbour.specs.declared.ending.Ending.{Ending}
use Rattle.tora_neighbour.specs.declared.ending.Ending.TheVariants.{NoNumber, Broken, Refused}
use Rattle.tora_neighbour.specs.declared.ending.BrokenAt.{BrokenAt}
use Rattle.tora_neighbour.specs.declared.ending.BrokenAt.TheVariants.{Send, Receive}
use Rattle.tora_neighbour.specs.Turns.{Turn}
use Rattle.tora_seat.specs.Between.{what_of}

-- these outbound messages are taken, one after another
abbrev pub TakesSome : {H : Type 0} → (H → Option Cargo → H → Type 0) → H → List Cargo → H → Type 0
TakesSome take h [] after = after ≡ h
TakesSome {H = H} take h (cargo ∷ cargoes) after = (between : H) × take h (Some cargo) between
    × TakesSome take between cargoes after

-- outbound messages are taken until none is left, or as many as a queue holds were taken
abbrev pub TakesAll : {H : Type 0} → (H → Option Cargo → H → Type 0) → H → List Cargo → H → Type 0
TakesAll {H = H} take h cargoes after = (between : H) × TakesSome take h cargoes between
    × (take between None after ⊎ ((length cargoes ≡ MOST_CARGOES) × (after ≡ between)))

-- these frames are sent, one after another, with these results
abbrev pub SendsSome : {W : Type 0} → (W → List ℕ → Result (Unit {0}) WireError → W → Type 0) → W → List FrameParts
    → List (Result (Unit {0}) WireError) → W → Type 0
SendsSome send w [] [] after = after ≡ w
SendsSome send w [] (answer ∷ answers) after = ⊥
SendsSome send w (frame ∷ frames) [] after = ⊥
SendsSome {W = W} send w (frame ∷ frames) (answer ∷ answers) after = (between : W)
    × send w (frame_spelling frame) answer between × SendsSome send between frames answers after

-- one receive with this result, which leaves this buffer; `came_in` says which datagram was received
abbrev pub ReceivesOnce : {W : Type 0} → (W → Result (Option ℕ) WireError → List ℕ → W → Type 0) → W
    → Option (Result (Option ℕ) WireError) → List ℕ → W → Type 0
ReceivesOnce receive w None buffer after = ⊥
ReceivesOnce receive w (Some answer) buffer after = receive w answer buffer after

-- these events are put, one after another
abbrev pub PutsSome : {H : Type 0} → (H → ℕ → What → Result (Unit {0}) Gone → H → Type 0) → ℕ → H → List LinkEvent → H
    → Type 0
PutsSome put now h [] after = after ≡ h
PutsSome {H = H} put now h (event ∷ events) after = (between : H) × put h now (what_of event) (Ok tt) between
    × PutsSome put now between events after

abbrev pub PutsBeat : {H : Type 0} → (H → ℕ → What → Result (Unit {0}) Gone → H → Type 0) → ℕ → Bool → H → H → Type 0
PutsBeat put now beat h after = MatchBool beat (put h now Says.Beat (Ok tt) after) (after ≡ h)

-- the calls of a whole turn
pub record TurnCalls {H W : Type 0} (take : H → Option Cargo → H → Type 0) (put : H → ℕ → What → Result (Unit {0}) Gone
    → H → Type 0) (send : W → List ℕ → Result (Unit {0}) WireError → W → Type 0) (receive : W
    → Result (Option ℕ) WireError → List ℕ → W → Type 0) (h : H) (w : W) (t : Turn) (h_after : H) (w_after : W) : Type 0
  where
    pub taken : H
    pub sent : W
    pub told : H
    pub takes : TakesAll take h t.cargoes taken
    pub sends : SendsSome send w t.sent t.answers sent
    pub receives : ReceivesOnce receive sent t.answer t.buffer w_after
    pub puts : PutsSome put t.now taken t.told told
    pub beat : PutsBeat put t.now t.beat told h_after

abbrev pub AreCalls : {H W : Type 0} → (H → Option Cargo → H → Type 0)
    → (H → ℕ → What → Result (Unit {0}) Gone → H → Type 0) → (W → List ℕ → Result (Unit {0}) WireError → W → Type 0)
    → (W → Result (Option ℕ) WireError → List ℕ → W → Type 0) → H → W → List Turn → H → W → Type 0
AreCalls take put send receive h w [] h_after w_after = (h_after ≡ h) × (w_after ≡ w)
AreCalls {H = H} {W = W} take put send receive h w (t ∷ turns) h_after w_after =
    (h_between : H) × (w_between : W) × TurnCalls take put send receive h w t h_between w_between
    × AreCalls take put send receive h_between w_between turns h_after w_after

-- ---- the last turn

-- these events are put, one after another, and the next one, if there is one, is refused
abbrev pub PutsUpTo : {H : Type 0} → (H → ℕ → What → Result (Unit {0}) Gone → H → Type 0) → ℕ → H → List LinkEvent
    → Option LinkEvent → H → Type 0
PutsUpTo put now h told None after = PutsSome put now h told after
PutsUpTo {H = H} put now h told (Some event) after = (between : H) × PutsSome put now h told between × (gone : Gone)
    × put between now (what_of event) (Err gone) after

-- these events are put, and then the next event is refused; if there is none, the beat after the events is refused
abbrev pub PutsNoMore : {H : Type 0} → (H → ℕ → What → Result (Unit {0}) Gone → H → Type 0) → ℕ → H → List LinkEvent
    → Option LinkEvent → H → Type 0
PutsNoMore {H = H} put now h told None after = (between : H) × PutsSome put now h told between × (gone : Gone)
    × put between now Says.Beat (Err gone) after
PutsNoMore put now h told (Some event) after = PutsUpTo put now h told (Some event) after

-- the calls of the wire, up to its hundredth failure in a row
abbrev pub ExchangesUpTo : {W : Type 0} → (W → List ℕ → Result (Unit {0}) WireError → W → Type 0)
    → (W → Result (Option ℕ) WireError → List ℕ → W → Type 0) → W → List FrameParts → List (Result (Unit {0}) WireError)
    → Option (Result (Option ℕ) WireError) → List ℕ → BrokenAt → W → Type 0
ExchangesUpTo send receive w frames answers answer buffer Send after =
    SendsSome send w frames answers after × (answer ≡ None)
ExchangesUpTo {W = W} send receive w frames answers answer buffer Receive after = (sent : W)
    × SendsSome send w frames answers sent × ReceivesOnce receive sent answer buffer after

-- the calls of the last turn, by how it ends
abbrev pub LastCalls : {H W : Type 0} → (H → Option Cargo → H → Type 0)
    → (H → ℕ → What → Result (Unit {0}) Gone → H → Type 0) → (W → List ℕ → Result (Unit {0}) WireError → W → Type 0)
    → (W → Result (Option ℕ) WireError → List ℕ → W → Type 0) → H → W → Turn → Ending → H → W → Type 0
LastCalls take put send receive h w t (NoNumber error) h_after w_after = (h_after ≡ h) × (w_after ≡ w)
LastCalls {H = H} take put send receive h w t (Broken at) h_after w_after =
    (taken : H) × TakesAll take h t.cargoes taken × ExchangesUpTo send receive w t.sent t.answers t.answer t.buffer at
    w_after × PutsUpTo put t.now taken t.told t.refused h_after
LastCalls {H = H} {W = W} take put send receive h w t Refused h_after w_after =
    (taken : H) × (sent : W) × TakesAll take h t.cargoes taken × SendsSome send w t.sent t.answers sent
    × ReceivesOnce receive sent t.answer t.buffer w_after × PutsNoMore put t.now taken t.told t.refused h_after

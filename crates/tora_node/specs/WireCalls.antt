-- The calls of a link's thread on its wire and its clock.
use Rattle.std.specs.Prelude.{◌≡◌, ℕ, List, [], ◌∷◌, ◌++◌, Option, Result}
use Rattle.tora_neighbour.specs.Calls.{SendsSome, ReceivesOnce, ExchangesUpTo}
use Rattle.tora_neighbour.specs.Turns.{Turn, AreRead, ticks_of}
use Rattle.tora_neighbour.specs.declared.ending.Ending.{Ending}
use Rattle.tora_neighbour.specs.declared.ending.Ending.TheVariants.{NoNumber, Broken, Refused}
use Rattle.tora_neighbour.specs.declared.wire.WireError.{WireError}

-- the calls of the turns before the last: in each turn the sends, and then one receive, whose result and buffer are the
-- datagram that came in (`came_of`)
abbrev pub AreWireCalls : {W : Type 0} → (W → List ℕ → Result (Unit {0}) WireError → W → Type 0)
    → (W → Result (Option ℕ) WireError → List ℕ → W → Type 0) → W → List Turn → W → Type 0
AreWireCalls send receive wire [] after = after ≡ wire
AreWireCalls {W = W} send receive wire (t ∷ turns) after =
    (sent between : W) × SendsSome send wire t.sent t.answers sent × ReceivesOnce receive sent t.answer t.buffer between
    × AreWireCalls send receive between turns after

-- the calls of the last turn, by its ending
abbrev pub LastWireCalls : {W : Type 0} → (W → List ℕ → Result (Unit {0}) WireError → W → Type 0)
    → (W → Result (Option ℕ) WireError → List ℕ → W → Type 0) → W → Turn → Ending → W → Type 0
LastWireCalls send receive wire t (NoNumber error) after = after ≡ wire
LastWireCalls send receive wire t (Broken at) after = ExchangesUpTo send receive wire t.sent t.answers t.answer t.buffer
    at after
LastWireCalls {W = W} send receive wire t Refused after = (sent : W) × SendsSome send wire t.sent t.answers sent
    × ReceivesOnce receive sent t.answer t.buffer after

-- the calls on this wire in these turns, each with its own tick of this clock, one after another
pub record HasCalled {W C : Type 0} (send : W → List ℕ → Result (Unit {0}) WireError → W → Type 0) (receive : W
    → Result (Option ℕ) WireError → List ℕ → W → Type 0) (tell : C → ℕ → C
    → Type 0) (wire : W) (clock : C) (turns : List Turn) (last : Turn) (ending : Ending) : Type 0 where
  pub between : W
  pub after : W
  pub calls : AreWireCalls send receive wire turns between
  pub last_calls : LastWireCalls send receive between last ending after
  pub clock_after : C
  pub reads : AreRead tell clock (ticks_of (turns ++ last ∷ [])) clock_after

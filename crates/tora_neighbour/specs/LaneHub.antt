-- The effect of the calls of a hub over lanes on the port and the queue.
use Rattle.std.specs.Prelude.{◌≡◌, ℕ, ◌+◌, true, false, [], ◌∷◌, ◌++◌, length, Option, Some, None, Result, Ok, Err}
use mathlib.Core.List.{IsPrefix}
use Rattle.tora_seat.specs.declared.cargo.Cargo.{Cargo}
use Rattle.tora_seat.specs.declared.what.What.{What}
use Rattle.tora_lane.specs.declared.ports.Gone.{Gone}
use Rattle.tora_lane.specs.Ports.{InEnd, new_item}
use Rattle.tora_lane.specs.Out.{ReceiveEnd}

-- a port of the same seat of the same queue
abbrev pub IsSamePort : InEnd → InEnd → Type 0
IsSamePort before after = (after.lane ≡ before.lane) × (after.seat ≡ before.seat)

-- the seat puts an item with its next number, or nothing is put and the port has returned `Gone`
abbrev pub PutsAtPort : InEnd → ℕ → What → Result (Unit {0}) Gone → InEnd → Type 0
PutsAtPort p now what (Ok done) after = IsSamePort p after × (after.put
    ≡ p.put ++ new_item p.seat (length p.put + 1) now what ∷ []) × (after.gone ≡ false)
PutsAtPort p now what (Err gone) after = IsSamePort p after × (after.put ≡ p.put) × (after.gone ≡ true)

-- the oldest outbound message that the end saw in the queue is received; none only if it saw none
abbrev pub TakesFromLane : ReceiveEnd → Option Cargo → ReceiveEnd → Type 0
TakesFromLane o (Some cargo) after = (after.ring ≡ o.ring) × (after.received ≡ o.received ++ cargo ∷ [])
    × IsPrefix o.found (cargo ∷ after.found)
TakesFromLane o None after = (after.ring ≡ o.ring) × (after.received ≡ o.received) × (o.found ≡ []) × (after.found ≡ [])

-- What contracts see of a wire in memory, and the effect of its calls.
use Rattle.std.specs.Prelude.{◌≡◌, ◌⊎◌, ℕ, ◌+◌, ◌-◌, ◌^◌, ◌<◌, ◌≤◌, min, Bool, false, List, [], ◌∷◌, ◌++◌, length, take}
use Rattle.std.specs.Prelude.{Option, Some, None, Result, Ok, Err}
use Rattle.std.specs.declared.vec.Vec.{Vec}
use Rattle.tora_frame.specs.declared.encoding.TheConstants.{LONGEST_FRAME}
use Rattle.tora_neighbour.specs.declared.memory_wire.Sent.{Sent}
use Rattle.tora_neighbour.specs.declared.wire.WireError.{WireError}
use Rattle.tora_neighbour.specs.Datagrams.{IsCut}

pub record MemoryWireView : Type 0 where
  pub tells : Bool
  pub coming : List (List ℕ)
  pub tries : List (List ℕ)
  pub failures : ℕ

-- the bytes of a datagram
abbrev pub bytes_of : {A : Type 0} → Vec ℕ A → List ℕ
bytes_of v = v.items

abbrev pub sent_of : Sent → List ℕ
sent_of s = take s.len s.bytes

-- a datagram of at most 560 bytes is stored if fewer than n are stored; any other send fails
abbrev pub SendsToMemory : ℕ → MemoryWireView → List ℕ → Result (Unit {0}) WireError → MemoryWireView → Type 0
SendsToMemory n w bytes (Ok done) after = (length bytes ≤ LONGEST_FRAME) × (length w.tries < n)
    × (after ≡ record w { tries = w.tries ++ bytes ∷ [] })
SendsToMemory n w bytes (Err error) after = ((LONGEST_FRAME < length bytes) ⊎ (n ≤ length w.tries))
    × (after ≡ record w { tells = false; failures = min (w.failures + 1) (2 ^ 64 - 1) })

-- the first datagram is received; none only if all were received
abbrev pub ReceivesFromMemory : MemoryWireView → Result (Option ℕ) WireError → List ℕ → MemoryWireView → Type 0
ReceivesFromMemory w (Ok (Some n)) buffer after = (datagram : List ℕ) × (w.coming ≡ datagram ∷ after.coming)
    × IsCut datagram (length buffer) n buffer × (after ≡ record w { coming = after.coming })
ReceivesFromMemory w (Ok None) buffer after = (w.coming ≡ []) × (after ≡ w)
ReceivesFromMemory w (Err error) buffer after = ⊥

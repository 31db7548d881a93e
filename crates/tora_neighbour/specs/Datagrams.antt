-- Datagrams, and the failures of a wire.
use Rattle.std.specs.Prelude.{◌≡◌, ℕ, ◌+◌, ◌-◌, ◌^◌, ◌≤◌, min, List, ◌∷◌, length, take, Option, Some, None, Result, Ok}
use Rattle.std.specs.Prelude.{Err, is_err, if◌then◌else◌}
use Rattle.tora_neighbour.specs.declared.wire.WireError.{WireError}

-- the count of failures rises by 1 if the call failed; it stops at 2^64 - 1
abbrev pub failures_after : {T : Type 0} → Result T WireError → ℕ → ℕ
failures_after result before = if is_err result then min (before + 1) (2 ^ 64 - 1) else before

-- the count rose by at least n, or is 2^64 - 1
abbrev pub RoseBy : ℕ → ℕ → ℕ → Type 0
RoseBy n before now = min (before + n) (2 ^ 64 - 1) ≤ now

-- the first n bytes of the buffer are the datagram, cut to the buffer's size
pub record IsCut (datagram : List ℕ) (size n : ℕ) (buffer : List ℕ) : Type 0 where
  pub count : n ≡ min size (length datagram)
  pub bytes : take n buffer ≡ take size datagram

-- the effect of a receive on the datagrams to come: the first of them is received, or none
abbrev pub IsReceived : List (List ℕ) → ℕ → Result (Option ℕ) WireError → List ℕ → List (List ℕ) → Type 0
IsReceived coming size (Ok (Some n)) buffer rest = (datagram : List ℕ) × (coming ≡ datagram ∷ rest)
    × IsCut datagram size n buffer
IsReceived coming size (Ok None) buffer rest = rest ≡ coming
IsReceived coming size (Err _) buffer rest = rest ≡ coming

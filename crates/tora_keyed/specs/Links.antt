-- What contracts see of the wire of a link, with a key or without one. With a key, each datagram has a tag.
use Rattle.std.specs.Prelude.{◌≡◌, ℕ, ◌+◌, ◌-◌, ◌^◌, min, Bool, true, false, ◌&&◌, MatchBool, List, length, take}
use Rattle.std.specs.Prelude.{replicate, filter_map, Option, Some, None, Result, Ok, Err, IsErr, nat_lt, if◌then◌else◌}
use Rattle.tora_frame.specs.declared.encoding.TheConstants.{LONGEST_FRAME}
use Rattle.tora_neighbour.specs.declared.wire.WireError.{WireError}
use Rattle.tora_neighbour.specs.Datagrams.{failures_after, IsCut}
use Rattle.tora_key.specs.Sealing.{sealed, opened}

-- ---- datagrams

-- the message of an authentic datagram of at most 576 bytes, without its tag
abbrev pub let_in : List ℕ → List ℕ → Option (List ℕ)
let_in key datagram = if nat_lt 576 (length datagram) then None else opened key datagram

-- with a key: the authentic datagrams, without their tags; without a key: the datagrams as they are
abbrev pub without_tags : Option (List ℕ) → List (List ℕ) → List (List ℕ)
without_tags None datagrams = datagrams
without_tags (Some key) datagrams = filter_map (let_in key) datagrams

-- ---- the wire

pub record LinkView (W : Type 0) : Type 0 where
  pub wire : W
  pub key : Option (List ℕ)  -- the block of the key, if the link has one
  pub told : Bool  -- whether there was room for the tag of every datagram that was to be sent
  pub unauthenticated : ℕ
  pub failures : ℕ  -- failed calls; with a key only

-- the wire of a link over this one, with the block of a key or without one
abbrev pub over : {W : Type 0} → W → Option (List ℕ) → LinkView W
over wire key = record { wire = wire; key = key; told = true; unauthenticated = 0; failures = 0 }

-- the block of the key after `close`: zeros, if there is a key
abbrev pub cleared_key : Option (List ℕ) → Option (List ℕ)
cleared_key None = None
cleared_key (Some key) = Some (replicate 64 0)

abbrev pub cleared : {W : Type 0} → LinkView W → LinkView W
cleared f = record f { key = cleared_key f.key }

-- whether contracts know the datagrams: they know those of the wire inside and, with a key, there was room for every
-- tag
abbrev pub tells_with : Option (List ℕ) → Bool → Bool → Bool
tells_with None told tells = tells
tells_with (Some key) told tells = told && tells

abbrev pub tells_of : {W : Type 0} → (W → Bool) → LinkView W → Bool
tells_of tells f = tells_with f.key f.told (tells f.wire)

abbrev pub coming_of : {W : Type 0} → (W → List (List ℕ)) → LinkView W → List (List ℕ)
coming_of coming f = without_tags f.key (coming f.wire)

abbrev pub failures_with : Option (List ℕ) → ℕ → ℕ → ℕ
failures_with None own inside = inside
failures_with (Some key) own inside = own

abbrev pub failures_of : {W : Type 0} → (W → ℕ) → LinkView W → ℕ
failures_of failures f = failures_with f.key f.failures (failures f.wire)

-- ---- its calls

-- Without a key: a call of the wire inside. With a key: a message that leaves no room for its tag fails, with no call
-- of the wire inside; any other message is sent with its tag.
abbrev pub SendsWith : {W : Type 0} → (W → List ℕ → Result (Unit {0}) WireError → W → Type 0) → LinkView W
    → Option (List ℕ) → List ℕ → Result (Unit {0}) WireError → LinkView W → Type 0
SendsWith send f None bytes answer after =
    send f.wire bytes answer after.wire × (after ≡ record f { wire = after.wire })
SendsWith send f (Some key) bytes answer after =
    MatchBool (nat_lt LONGEST_FRAME (length bytes))
    (IsErr answer × (after ≡ record f { told = false; failures = failures_after answer f.failures }))
    (send f.wire (sealed key bytes) answer after.wire × (after ≡ record f {
      wire = after.wire;
      failures = failures_after answer f.failures;
    }))

abbrev pub Sends : {W : Type 0} → (W → List ℕ → Result (Unit {0}) WireError → W → Type 0) → LinkView W → List ℕ
    → Result (Unit {0}) WireError → LinkView W → Type 0
Sends send f bytes answer after = SendsWith send f f.key bytes answer after

-- a message is written to the front of a buffer; without a message nothing is promised of the buffer
abbrev pub Writes : Option (List ℕ) → Option ℕ → List ℕ → Type 0
Writes (Some message) answer buffer = (answer ≡ Some (min (length buffer) (length message)))
    × IsCut message (length buffer) (min (length buffer) (length message)) buffer
Writes None answer buffer = answer ≡ None

-- a datagram without an authentic message is counted
abbrev pub after_letting_in : {W : Type 0} → LinkView W → Option ℕ → W → LinkView W
after_letting_in f (Some n) wire = record f { wire = wire }
after_letting_in f None wire = record f { wire = wire; unauthenticated = min (f.unauthenticated + 1) (2 ^ 64 - 1) }

-- with a key: the result of a receive, from the result of the wire inside and its buffer
abbrev pub GivesOf : {W : Type 0} → LinkView W → List ℕ → Result (Option ℕ) WireError → List ℕ
    → Result (Option ℕ) WireError → List ℕ → LinkView W → Type 0
GivesOf f key (Ok (Some n)) room answer buffer after = (written : Option ℕ) × (answer ≡ Ok written)
    × Writes (let_in key (take n room)) written buffer × (after ≡ after_letting_in f written after.wire)
GivesOf f key (Ok None) room answer buffer after = (answer ≡ Ok None) × (after ≡ record f { wire = after.wire })
GivesOf f key (Err error) room answer buffer after = (answer ≡ Err error)
    × (after ≡ record f { wire = after.wire; failures = min (f.failures + 1) (2 ^ 64 - 1) })

-- Without a key: a call of the wire inside. With a key: that wire receives into a room of 577 bytes.
abbrev pub ReceivesWith : {W : Type 0} → (W → Result (Option ℕ) WireError → List ℕ → W → Type 0) → LinkView W
    → Option (List ℕ) → Result (Option ℕ) WireError → List ℕ → LinkView W → Type 0
ReceivesWith receive f None answer buffer after =
    receive f.wire answer buffer after.wire × (after ≡ record f { wire = after.wire })
ReceivesWith receive f (Some key) answer buffer after =
    (inner : Result (Option ℕ) WireError) × (room : List ℕ) × receive f.wire inner room after.wire
    × GivesOf f key inner room answer buffer after

abbrev pub Receives : {W : Type 0} → (W → Result (Option ℕ) WireError → List ℕ → W → Type 0) → LinkView W
    → Result (Option ℕ) WireError → List ℕ → LinkView W → Type 0
Receives receive f answer buffer after = ReceivesWith receive f f.key answer buffer after

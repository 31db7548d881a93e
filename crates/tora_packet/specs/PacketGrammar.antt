-- The bytes of packets: the only encoding of each, and why other bytes are not a packet.
use Rattle.std.specs.Prelude.{◌≡◌, ℕ, ◌+◌, Bool, true, false, nat_lt, ◌==◌, ◌||◌, ◌&&◌, if◌then◌else◌, not, List, []}
use Rattle.std.specs.Prelude.{◌∷◌, ◌++◌, length, take, drop, slice_index, slice_range, Option, Some, None, Result, Ok}
use Rattle.std.specs.Prelude.{Err}
use Rattle.std.specs.Int.{w32, w64, to_be_bytes, from_be_bytes, cast_unsigned, cast_signed}
use Rattle.tora_height.specs.Height.{Quintuple, quintuple}
use Rattle.tora_packet.specs.declared.PacketError.{PacketError}
use Rattle.tora_packet.specs.declared.PacketError.TheVariants.{Short, Long, Version, Kind, Reserved, Height}
use Rattle.tora_packet.specs.declared.Packet.{Packet}
use Rattle.tora_packet.specs.declared.Packet.TheVariants.{Qry, Upd, Clr}
use Rattle.tora_packet.specs.declared.lengths.TheConstants.{QUERY_LENGTH, UPDATE_LENGTH, CLEAR_LENGTH}
use Rattle.tora_packet.specs.PacketParts.{update_of, clear_of, is_bad_update, is_bad_clear}
use Rattle.tora_packet.specs.AnyPacket.{IsPacket}

-- ---- the encoding of a packet

-- version 1, the kind and two zeros; then each number in network byte order; three zeros follow the byte of r
abbrev pub packet_spelling : Packet → List ℕ
packet_spelling (Qry q) = 1 ∷ 1 ∷ 0 ∷ 0 ∷ to_be_bytes w32 q
packet_spelling (Upd u) = 1 ∷ 2 ∷ 0 ∷ 0 ∷ to_be_bytes w32 u.destination
    ++ to_be_bytes w64 u.height.tau
    ++ to_be_bytes w32 u.height.oid
    ++ u.height.r ∷ 0 ∷ 0 ∷ 0 ∷ []
    ++ to_be_bytes w32 (cast_unsigned w32 u.height.delta)
    ++ to_be_bytes w32 u.height.id
packet_spelling (Clr c) = 1 ∷ 3 ∷ 0 ∷ 0 ∷ to_be_bytes w32 c.destination
    ++ to_be_bytes w64 c.tau
    ++ to_be_bytes w32 c.oid

-- how many bytes a packet has
abbrev pub packet_length : Packet → ℕ
packet_length (Qry q) = QUERY_LENGTH
packet_length (Upd u) = UPDATE_LENGTH
packet_length (Clr c) = CLEAR_LENGTH

-- packets of some kind have this length
abbrev pub is_packet_length : ℕ → Bool
is_packet_length n = (n == QUERY_LENGTH) || (n == UPDATE_LENGTH) || (n == CLEAR_LENGTH)

-- all of the bytes together are the encoding of the packet
pub record SpellsPacket (bytes : List ℕ) (packet : Packet) : Type 0 where
  pub valid : IsPacket packet
  pub bytes_are : bytes ≡ packet_spelling packet

-- ---- why bytes are not a packet: the first of seven checks that fails

-- the number in four bytes at an offset
unfoldable pub u32_at : ℕ → List ℕ → ℕ
u32_at i bytes = from_be_bytes w32 (slice_range bytes i (i + 4))

unfoldable pub u64_at : ℕ → List ℕ → ℕ
u64_at i bytes = from_be_bytes w64 (slice_range bytes i (i + 8))

abbrev pub is_zero_at : ℕ → List ℕ → Bool
is_zero_at i bytes = slice_index bytes i == 0

abbrev pub kind_of : List ℕ → ℕ
kind_of bytes = slice_index bytes 1

-- 1 for a query, 2 for an update, 3 for a clear
abbrev pub is_kind : ℕ → Bool
is_kind kind = (kind == 1) || (kind == 2) || (kind == 3)

abbrev pub length_of : ℕ → ℕ
length_of kind = if kind == 1 then QUERY_LENGTH else if kind == 2 then UPDATE_LENGTH else CLEAR_LENGTH

-- the reserved bytes are zero
abbrev pub is_reserved_zero : List ℕ → Bool
is_reserved_zero bytes = is_zero_at 2 bytes && is_zero_at 3 bytes
    && (if kind_of bytes == 2 then is_zero_at 21 bytes && is_zero_at 22 bytes && is_zero_at 23 bytes else true)

-- the height of an update
abbrev pub height_at : List ℕ → Quintuple
height_at bytes = quintuple (u64_at 8 bytes) (u32_at 16 bytes) (slice_index bytes 20)
    (cast_signed w32 (u32_at 24 bytes)) (u32_at 28 bytes)

abbrev pub is_bad_value : List ℕ → Bool
is_bad_value bytes = (u32_at 4 bytes == 0)
    || (if kind_of bytes == 2 then is_bad_update (u32_at 4 bytes) (height_at bytes)
    else if kind_of bytes == 3 then is_bad_clear (u64_at 8 bytes) (u32_at 16 bytes)
    else false)

abbrev pub packet_fault : List ℕ → Option PacketError
packet_fault bytes =
    if nat_lt (length bytes) 2 then Some Short
    else if not (slice_index bytes 0 == 1) then Some Version
    else if not (is_kind (kind_of bytes)) then Some Kind
    else if nat_lt (length bytes) (length_of (kind_of bytes)) then Some Short
    else if nat_lt (length_of (kind_of bytes)) (length bytes) then Some Long
    else if not (is_reserved_zero bytes) then Some Reserved
    else if is_bad_value bytes then Some Height
    else None

-- ---- both together, as one function

-- the packet in bytes that have no fault
abbrev pub packet_at : List ℕ → Packet
packet_at bytes =
    if kind_of bytes == 1 then Qry (u32_at 4 bytes)
    else if kind_of bytes == 2 then Upd (update_of (u32_at 4 bytes) (height_at bytes))
    else Clr (clear_of (u32_at 4 bytes) (u64_at 8 bytes) (u32_at 16 bytes))

abbrev pub packet_or : Option PacketError → Packet → Result Packet PacketError
packet_or None packet = Ok packet
packet_or (Some e) packet = Err e

-- the decoded packet, or why the bytes are not one
unfoldable pub packet_reading : List ℕ → Result Packet PacketError
packet_reading bytes = packet_or (packet_fault bytes) (packet_at bytes)

-- ---- the first of several packets

-- the bytes begin with version 1 and a known kind
abbrev pub begins_packet : List ℕ → Bool
begins_packet bytes = (slice_index bytes 0 == 1) && is_kind (kind_of bytes)

-- the bytes of the first packet: at most the length of its kind, if the bytes begin as a packet does, and otherwise all
unfoldable pub first_packet : List ℕ → List ℕ
first_packet bytes = if begins_packet bytes then take (length_of (kind_of bytes)) bytes else bytes

-- the bytes after the first packet
abbrev pub behind_first : List ℕ → List ℕ
behind_first bytes = drop (length (first_packet bytes)) bytes

-- the number of an error, as texts print it
abbrev pub packet_error_number : PacketError → ℕ
packet_error_number Short = 1
packet_error_number Long = 2
packet_error_number Version = 3
packet_error_number Kind = 4
packet_error_number Reserved = 5
packet_error_number Height = 6

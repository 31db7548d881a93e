-- The bytes of frames: the only encoding of each, and why other bytes are not a frame. The two versions differ only in
-- the payload of a DATA frame: its lengths, encoding, faults and decoding.
use Rattle.std.specs.Prelude.{◌≡◌, ℕ, zero, suc, ◌+◌, ◌-◌, Bool, nat_lt, nat_le, ◌==◌, ◌||◌, ◌&&◌, if◌then◌else◌, not}
use Rattle.std.specs.Prelude.{List, [], ◌∷◌, ◌++◌, length, drop, slice_index, slice_range, Option, Some, None, Result}
use Rattle.std.specs.Prelude.{Ok, Err}
use Rattle.std.specs.List.{sum_by, flat_map}
use Rattle.std.specs.Int.{w16, w32, w64, to_be_bytes, from_be_bytes}
use Rattle.tora_packet.specs.declared.PacketError.{PacketError}
use Rattle.tora_packet.specs.declared.PacketError.TheVariants.{Long}
use Rattle.tora_packet.specs.declared.Packet.{Packet}
use Rattle.tora_packet.specs.PacketGrammar.{packet_spelling, packet_length, is_packet_length, packet_fault, packet_at}
use Rattle.tora_packet.specs.PacketGrammar.{first_packet, behind_first, is_zero_at, u32_at, u64_at}
use Rattle.tora_frame.specs.declared.parts.TheConstants.{GREATEST_NUMBER, MOST_PACKETS}
use Rattle.tora_frame.specs.declared.FrameError.{FrameError}
use Rattle.tora_frame.specs.declared.FrameError.TheVariants as Fault
use Rattle.tora_frame.specs.declared.layout.TheConstants.{PACKET_HEAD, BATCH_HEAD, SHORTEST_BATCH, LONGEST_BATCH}
use Rattle.tora_frame.specs.declared.parts.Version.{Version}
use Rattle.tora_frame.specs.declared.parts.Version.TheVariants.{One, Two}
use Rattle.tora_frame.specs.declared.parts.Header.{Header}
use Rattle.tora_frame.specs.declared.parts.Body.{Body}
use Rattle.tora_frame.specs.declared.parts.Body.TheVariants.{Hello, Data, Ack}
use Rattle.tora_frame.specs.FrameParts.{FrameParts, IsFrame, batch, frame_of}

-- ---- the encoding of a frame

abbrev pub version_number : Version → ℕ
version_number One = 1
version_number Two = 2

-- 1 for a HELLO, 2 for a DATA frame, 3 for an ACK
abbrev pub body_kind : Body → ℕ
body_kind Hello = 1
body_kind (Data number count packets) = 2
body_kind (Ack count) = 3

-- how many bytes the packets have together
abbrev pub packets_length : List Packet → ℕ
packets_length packets = sum_by packet_length packets

-- how many bytes a DATA frame has between its header and its packets
abbrev pub data_head_length : Version → ℕ
data_head_length One = PACKET_HEAD
data_head_length Two = BATCH_HEAD

-- how many bytes follow the header
abbrev pub payload_length : Version → Body → ℕ
payload_length version Hello = 0
payload_length version (Data number count packets) = data_head_length version + packets_length packets.items
payload_length version (Ack count) = 8

-- the version, the kind, the payload length, and then each number in its bytes, the highest first
abbrev pub header_spelling : ℕ → ℕ → Header → List ℕ
header_spelling kind n h = version_number h.version ∷ kind ∷ to_be_bytes w16 n
    ++ to_be_bytes w32 h.sender
    ++ to_be_bytes w32 h.receiver
    ++ to_be_bytes w64 h.life
    ++ to_be_bytes w64 h.heard

-- the number of packets: version 1 has none, version 2 has it in a byte, followed by three zeros
abbrev pub batch_size_spelling : Version → ℕ → List ℕ
batch_size_spelling One many = []
batch_size_spelling Two many = many ∷ 0 ∷ 0 ∷ 0 ∷ []

-- packets one after another
abbrev pub packets_spelling : List Packet → List ℕ
packets_spelling packets = flat_map packet_spelling packets

-- the bytes that follow the header
abbrev pub payload_spelling : Version → Body → List ℕ
payload_spelling version Hello = []
payload_spelling version (Data number count packets) =
    to_be_bytes w64 number ++ to_be_bytes w64 count ++ batch_size_spelling version (length packets.items)
    ++ packets_spelling packets.items
payload_spelling version (Ack count) = to_be_bytes w64 count

abbrev pub frame_spelling : FrameParts → List ℕ
frame_spelling f = header_spelling (body_kind f.body) (payload_length f.header.version f.body) f.header
    ++ payload_spelling f.header.version f.body

-- all of the bytes together are the encoding of the frame
pub record SpellsFrame (bytes : List ℕ) (frame : FrameParts) : Type 0 where
  pub valid : IsFrame frame
  pub bytes_are : bytes ≡ frame_spelling frame

-- ---- why bytes are not a frame: the first of eleven checks that fails

-- the number in two bytes at an offset
unfoldable pub u16_at : ℕ → List ℕ → ℕ
u16_at i bytes = from_be_bytes w16 (slice_range bytes i (i + 2))

abbrev pub version_at : List ℕ → ℕ
version_at bytes = slice_index bytes 0

abbrev pub is_version : ℕ → Bool
is_version version = (version == 1) || (version == 2)

abbrev pub kind_at : List ℕ → ℕ
kind_at bytes = slice_index bytes 1

abbrev pub is_kind : ℕ → Bool
is_kind kind = (kind == 1) || (kind == 2) || (kind == 3)

-- the payload length of a DATA frame: in version 1 two numbers and one packet; in version 2 two numbers, the number of
-- packets, three zeros, and from one shortest to sixteen longest packets
abbrev pub is_data_length : ℕ → ℕ → Bool
is_data_length version n =
    if version == 1 then is_packet_length (n - PACKET_HEAD)
    else nat_le SHORTEST_BATCH n && nat_le n LONGEST_BATCH

-- no bytes for a HELLO, and a count for an ACK
abbrev pub is_payload_length : ℕ → ℕ → ℕ → Bool
is_payload_length version kind n =
    if kind == 1 then n == 0
    else if kind == 2 then is_data_length version n
    else n == 8

-- checks 1 to 6: version, kind and lengths
unfoldable pub layout_fault : List ℕ → Option FrameError
layout_fault bytes =
    if nat_lt (length bytes) 28 then Some Fault.Short
    else if not (is_version (version_at bytes)) then Some Fault.Version
    else if not (is_kind (kind_at bytes)) then Some Fault.Kind
    else if not (is_payload_length (version_at bytes) (kind_at bytes) (u16_at 2 bytes)) then Some Fault.Length
    else if nat_lt (length bytes) (28 + u16_at 2 bytes) then Some Fault.Short
    else if nat_lt (28 + u16_at 2 bytes) (length bytes) then Some Fault.Long
    else None

-- the version with this number
abbrev pub version_of : ℕ → Version
version_of number = if number == 1 then One else Two

abbrev pub header_at : List ℕ → Header
header_at bytes = record {
  version = version_of (version_at bytes);
  sender = u32_at 4 bytes;
  receiver = u32_at 8 bytes;
  life = u64_at 12 bytes;
  heard = u64_at 20 bytes;
}

-- the two nodes are equal, or one of them is 0
abbrev pub is_bad_pair : Header → Bool
is_bad_pair h = (h.sender == 0) || (h.receiver == 0) || (h.sender == h.receiver)

-- a session number is out of its range, or a frame that is not a HELLO has heard no session number
abbrev pub is_bad_life : ℕ → Header → Bool
is_bad_life kind h =
    (h.life == 0) || nat_lt GREATEST_NUMBER h.life || nat_lt GREATEST_NUMBER h.heard
    || (not (kind == 1) && (h.heard == 0))

-- checks 7 and 8: the nodes and the session numbers
unfoldable pub header_fault : ℕ → Header → Option FrameError
header_fault kind h =
    if is_bad_pair h then Some Fault.Id
    else if is_bad_life kind h then Some Fault.Life
    else None

-- the first fault; if there is none, the second
abbrev pub fault_or : Option FrameError → Option FrameError → Option FrameError
fault_or None next = next
fault_or (Some e) next = Some e

-- the fault of a frame because of the fault of its packet
abbrev pub refused_packet : Option PacketError → Option FrameError
refused_packet None = None
refused_packet (Some e) = Some (Fault.Packet e)

-- why the bytes together are not a packet; None if they are one
unfoldable pub whole_packet_fault : List ℕ → Option FrameError
whole_packet_fault bytes = refused_packet (packet_fault bytes)

unfoldable pub whole_packet_at : List ℕ → Packet
whole_packet_at bytes = packet_at bytes

-- why the bytes are not this many packets one after another
unfoldable pub packets_fault : ℕ → List ℕ → Option FrameError
packets_fault zero [] = None
packets_fault zero (byte ∷ bytes) = Some (Fault.Packet Long)
packets_fault (suc many) bytes = fault_or (whole_packet_fault (first_packet bytes))
    (packets_fault many (behind_first bytes))

-- the packets in bytes that have no fault
unfoldable pub packets_at : ℕ → List ℕ → List Packet
packets_at zero bytes = []
packets_at (suc many) bytes = whole_packet_at (first_packet bytes) ∷ packets_at many (behind_first bytes)

-- the number of packets in a DATA frame of version 2
abbrev pub batch_size_at : List ℕ → ℕ
batch_size_at bytes = slice_index bytes 44

-- the three reserved bytes are zero
abbrev pub is_batch_size_zero : List ℕ → Bool
is_batch_size_zero bytes = is_zero_at 45 bytes && is_zero_at 46 bytes && is_zero_at 47 bytes

-- the number of packets is 0 or too great, a reserved byte is not zero, or the last packet's number is too great
abbrev pub is_bad_batch_size : List ℕ → Bool
is_bad_batch_size bytes =
    (batch_size_at bytes == 0) || nat_lt MOST_PACKETS (batch_size_at bytes) || not (is_batch_size_zero bytes)
    || nat_lt GREATEST_NUMBER (u64_at 28 bytes + batch_size_at bytes - 1)

-- checks 10 and 11, in version 2: the number of packets, and each packet
unfoldable pub batch_fault : List ℕ → Option FrameError
batch_fault bytes =
    if is_bad_batch_size bytes then Some Fault.Count else packets_fault (batch_size_at bytes) (drop 48 bytes)

-- in version 1 the fault of the packet, which takes up all of the bytes after the number and the count
abbrev pub fault_inside : List ℕ → Option FrameError
fault_inside bytes = if version_at bytes == 1 then whole_packet_fault (drop 44 bytes) else batch_fault bytes

-- the packets of a DATA frame whose bytes have no fault
unfoldable pub packets_inside : List ℕ → List Packet
packets_inside bytes =
    if version_at bytes == 1 then whole_packet_at (drop 44 bytes) ∷ []
    else packets_at (batch_size_at bytes) (drop 48 bytes)

abbrev pub is_bad_number : ℕ → ℕ → Bool
is_bad_number number count = (number == 0) || nat_lt GREATEST_NUMBER number || nat_lt GREATEST_NUMBER count

abbrev pub data_fault : List ℕ → Option FrameError
data_fault bytes = if is_bad_number (u64_at 28 bytes) (u64_at 36 bytes) then Some Fault.Number else fault_inside bytes

-- check 9, the numbers, and the checks after it
unfoldable pub body_fault : List ℕ → Option FrameError
body_fault bytes =
    if kind_at bytes == 1 then None
    else if kind_at bytes == 2 then data_fault bytes
    else if nat_lt GREATEST_NUMBER (u64_at 28 bytes) then Some Fault.Number
    else None

abbrev pub frame_fault : List ℕ → Option FrameError
frame_fault bytes =
    fault_or (layout_fault bytes) (fault_or (header_fault (kind_at bytes) (header_at bytes)) (body_fault bytes))

-- ---- both together, as one function

-- the body in bytes that have no fault
unfoldable pub body_at : List ℕ → Body
body_at bytes =
    if kind_at bytes == 1 then Hello
    else if kind_at bytes == 2 then Data (u64_at 28 bytes) (u64_at 36 bytes) (batch (packets_inside bytes))
    else Ack (u64_at 28 bytes)

-- the frame in bytes that have no fault
abbrev pub frame_at : List ℕ → FrameParts
frame_at bytes = frame_of (header_at bytes) (body_at bytes)

abbrev pub frame_or : Option FrameError → FrameParts → Result FrameParts FrameError
frame_or None frame = Ok frame
frame_or (Some e) frame = Err e

-- the decoded frame, or why the bytes are not one
unfoldable pub frame_reading : List ℕ → Result FrameParts FrameError
frame_reading bytes = frame_or (frame_fault bytes) (frame_at bytes)

-- the number of an error, as texts print it
abbrev pub frame_error_number : FrameError → ℕ
frame_error_number Fault.Short = 1
frame_error_number Fault.Long = 2
frame_error_number Fault.Version = 3
frame_error_number Fault.Kind = 4
frame_error_number Fault.Length = 5
frame_error_number Fault.Id = 6
frame_error_number Fault.Life = 7
frame_error_number Fault.Number = 8
frame_error_number (Fault.Packet e) = 9
frame_error_number Fault.Count = 10

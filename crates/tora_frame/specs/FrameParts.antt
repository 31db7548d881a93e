-- The parts of frames, and their ranges.
use Rattle.std.specs.Prelude.{◌≡◌, ◌≢◌, ℕ, ◌+◌, ◌<◌, ◌≤◌, List, length}
use Rattle.std.specs.List.{AllByRecursion}
use Rattle.arrayvec.specs.ArrayVec.{ArrayVec}
use Rattle.tora_packet.specs.declared.Packet.{Packet}
use Rattle.tora_packet.specs.PacketParts.{IsId}
use Rattle.tora_packet.specs.AnyPacket.{IsPacket}
use Rattle.tora_frame.specs.declared.parts.TheConstants.{GREATEST_NUMBER, MOST_PACKETS}
use Rattle.tora_frame.specs.declared.parts.Version.{Version}
use Rattle.tora_frame.specs.declared.parts.Version.TheVariants.{One, Two}
use Rattle.tora_frame.specs.declared.parts.Header.{Header}
use Rattle.tora_frame.specs.declared.parts.Body.{Body}
use Rattle.tora_frame.specs.declared.parts.Body.TheVariants.{Hello, Data, Ack}

-- a session number of a link end
abbrev pub IsLifeNumber : ℕ → Type 0
IsLifeNumber n = (0 < n) × (n ≤ GREATEST_NUMBER)

-- two different nodes, the sender's session number, and the receiver's session number that the sender heard, 0 for none
pub record IsHeader (h : Header) : Type 0 where
  pub sender : IsId h.sender
  pub receiver : IsId h.receiver
  pub other : h.sender ≢ h.receiver
  pub life : IsLifeNumber h.life
  pub heard : h.heard ≤ GREATEST_NUMBER

-- packets in the list type of a frame
abbrev pub batch : List Packet → ArrayVec Packet
batch packets = record { items = packets }

-- how many packets a DATA frame carries: one in version 1, one to sixteen in version 2
abbrev pub IsBatchSize : Version → ℕ → Type 0
IsBatchSize One many = many ≡ 1
IsBatchSize Two many = (0 < many) × (many ≤ MOST_PACKETS)

-- a DATA frame with the count c of accepted packets, and with these packets, numbered from n on
pub record IsData (h : Header) (n c : ℕ) (ps : List Packet) : Type 0 where
  pub heard : 0 < h.heard
  pub first : 0 < n
  pub last : n + length ps ≤ GREATEST_NUMBER + 1
  pub count : c ≤ GREATEST_NUMBER
  pub many : IsBatchSize h.version (length ps)
  pub packets : AllByRecursion IsPacket ps

-- an ACK with the heard session number h and the count c of accepted packets
pub record IsAck (h c : ℕ) : Type 0 where
  pub heard : 0 < h
  pub count : c ≤ GREATEST_NUMBER

-- the body of a frame with this header
abbrev pub IsBody : Header → Body → Type 0
IsBody h Hello = Unit {0}
IsBody h (Data n c packets) = IsData h n c packets.items
IsBody h (Ack c) = IsAck h.heard c

-- a frame: header and body
pub record FrameParts : Type 0 where
  pub header : Header
  pub body : Body

pub record IsFrame (f : FrameParts) : Type 0 where
  pub header : IsHeader f.header
  pub body : IsBody f.header f.body

abbrev pub frame_of : Header → Body → FrameParts
frame_of header body = record { header = header; body = body }

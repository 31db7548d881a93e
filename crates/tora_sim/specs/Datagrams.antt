-- Stored datagrams: frames in one list, and the packets of all DATA frames in another.
use Rattle.std.specs.Prelude.{◌≡◌, ℕ, ◌+◌, ◌-◌, ◌≤◌, ◌<◌, ◌++◌, List, Vec, length, map, min, slice_range, vec_capacity}
use Rattle.tora_packet.specs.declared.Packet.{Packet}
use Rattle.tora_frame.specs.declared.parts.Body.{Body}
use Rattle.tora_frame.specs.declared.parts.Body.TheVariants as Carries
use Rattle.tora_frame.specs.FrameParts.{FrameParts, IsFrame, batch, frame_of}
use Rattle.tora_sim.specs.declared.store.kept_frames.KeptBody.{KeptBody}
use Rattle.tora_sim.specs.declared.store.kept_frames.KeptBody.TheVariants.{Hello, Data, Ack}
use Rattle.tora_sim.specs.declared.store.kept_frames.KeptFrame.{KeptFrame}
use Rattle.tora_sim.specs.declared.store.kept_hellos.TheConstants.{FIRST_HELLO}

-- the frames in order, and for how many more frames and packets there is room
pub record DatagramList : Type 0 where
  pub items : List FrameParts
  pub places : ℕ
  pub packet_places : ℕ

-- the sender and the receiver of a datagram
abbrev pub way_of : FrameParts → ℕ × ℕ
way_of f = (f.header.sender, f.header.receiver)

-- there is room for one more frame, with as many packets as a frame carries at most
abbrev pub HasRoom : DatagramList → Type 0
HasRoom d = (0 < d.places) × (16 ≤ d.packet_places)

-- the body of a stored frame, with its packets
abbrev pub body_in : List Packet → KeptBody → Body
body_in packets Hello = Carries.Hello
body_in packets (Data many from number count) = Carries.Data number count
    (batch (slice_range packets from (from + many)))
body_in packets (Ack count) = Carries.Ack count

abbrev pub frame_in : List Packet → KeptFrame → FrameParts
frame_in packets kept = frame_of kept.header (body_in packets kept.body)

-- the packets of a stored frame are among the stored packets
abbrev pub IsWithin : List Packet → KeptBody → Type 0
IsWithin packets Hello = Unit {0}
IsWithin packets (Data many from number count) = from + many ≤ length packets
IsWithin packets (Ack count) = Unit {0}

pub record IsKept (packets : List Packet) (kept : KeptFrame) : Type 0 where
  pub within : IsWithin packets kept.body
  pub frame : IsFrame (frame_in packets kept)

-- how many more items a list has memory for, with indexes below the places of HELLOs
abbrev pub short_places : {A : Type 0} {B : Type 0} → Vec A B → ℕ
short_places items = min (vec_capacity items - length items.items) (FIRST_HELLO - length items.items)

-- the frames stored in these lists, and for how many more there is room
abbrev pub kept_list : {A B : Type 0} → Vec KeptFrame A → Vec Packet B → DatagramList
kept_list frames packets = record {
  items = map (frame_in packets.items) frames.items;
  places = short_places frames;
  packet_places = short_places packets;
}

-- the second list is the first with items appended, possibly none
abbrev pub IsMore : {A : Type 0} → List A → List A → Type 0
IsMore {A} items after = (more : List A) × (after ≡ items ++ more)

-- Datagrams as places of stored frames: HELLOs are in a list of their own, each once for both versions.
use Rattle.std.specs.Prelude.{ℕ, ◌-◌, nat_lt, if◌then◌else◌, min, List, Vec, length, slice_get, vec_capacity, Option}
use Rattle.std.specs.Prelude.{None, IsSome, option_map}
use Rattle.std.specs.List.{AllByRecursion, filter_map}
use Rattle.tora_frame.specs.declared.parts.Header.{Header}
use Rattle.tora_frame.specs.declared.parts.Version.{Version}
use Rattle.tora_frame.specs.declared.parts.Version.TheVariants.{One, Two}
use Rattle.tora_frame.specs.declared.parts.Body.TheVariants.{Hello}
use Rattle.tora_frame.specs.FrameParts.{FrameParts, frame_of}
use Rattle.tora_sim.specs.declared.store.kept_hellos.TheConstants.{FIRST_HELLO, MOST_HELLOS}
use Rattle.tora_sim.specs.Datagrams.{DatagramList}

-- a header in another version
abbrev pub in_version : Version → Header → Header
in_version version h = record {
  version = version;
  sender = h.sender;
  receiver = h.receiver;
  life = h.life;
  heard = h.heard;
}

-- the header of the HELLO at this place: those of version 1 come first, then those of version 2
abbrev pub hello_at : List Header → ℕ → Option Header
hello_at kept place =
    if nat_lt place FIRST_HELLO then None
    else (if nat_lt (place - FIRST_HELLO) MOST_HELLOS
    then option_map (in_version One) (slice_get kept (place - FIRST_HELLO))
    else option_map (in_version Two) (slice_get kept ((place - FIRST_HELLO) - MOST_HELLOS)))

-- the frame at this place
abbrev pub frame_at : List FrameParts → List Header → ℕ → Option FrameParts
frame_at frames kept place =
    if nat_lt place FIRST_HELLO then slice_get frames place
    else option_map (λ h. frame_of h Hello) (hello_at kept place)

-- each place is that of a frame
abbrev pub AreWithin : List FrameParts → List Header → List ℕ → Type 0
AreWithin frames kept places = AllByRecursion (λ place. IsSome (frame_at frames kept place)) places

-- the frames at these places
abbrev pub sent_frames : List FrameParts → List Header → List ℕ → List FrameParts
sent_frames frames kept places = filter_map (frame_at frames kept) places

-- the datagrams, and for how many more there is room
abbrev pub sent_list : {A B : Type 0} → DatagramList → Vec Header A → Vec ℕ B → DatagramList
sent_list frames kept places = record {
  items = sent_frames frames.items kept.items places.items;
  places = min (min (vec_capacity places - length places.items) frames.places)
      (min (vec_capacity kept - length kept.items) (MOST_HELLOS - length kept.items));
  packet_places = frames.packet_places;
}

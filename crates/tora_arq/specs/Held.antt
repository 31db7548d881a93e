-- Packets that arrived out of order, by place. The first place is that of the next packet.
use Rattle.std.specs.Prelude.{ℕ, zero, suc, List, [], ◌∷◌, Option, Some, None}
use Rattle.tora_packet.specs.declared.Packet.{Packet}

-- holds a packet at a place, unless a packet is held there already
abbrev pub hold_at : ℕ → Packet → List (Option Packet) → List (Option Packet)
hold_at zero packet [] = Some packet ∷ []
hold_at zero packet (None ∷ held) = Some packet ∷ held
hold_at zero packet (Some first ∷ held) = Some first ∷ held
hold_at (suc place) packet [] = None ∷ hold_at place packet []
hold_at (suc place) packet (slot ∷ held) = slot ∷ hold_at place packet held

-- the places, with empty ones appended until there are this many
abbrev pub padded : ℕ → List (Option Packet) → List (Option Packet)
padded zero held = held
padded (suc places) [] = None ∷ padded places []
padded (suc places) (slot ∷ held) = slot ∷ padded places held

-- the packet at the first place
abbrev pub first_held : List (Option Packet) → Option Packet
first_held [] = None
first_held (slot ∷ held) = slot

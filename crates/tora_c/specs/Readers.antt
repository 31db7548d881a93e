-- The codes that the readers return, and the values that they write.
use Rattle.std.specs.Prelude.{ℕ, Bool, true, false, nat_lt, if◌then◌else◌, List, ◌++◌, drop, length, Option, None, Some}
use Rattle.std.specs.Prelude.{slice_get}
use Rattle.std.specs.Option.{option_map_or}
use Rattle.tora_height.specs.Height.{Quintuple}
use Rattle.tora_packet.specs.declared.Packet.{Packet}
use Rattle.tora_c.specs.declared.codes.TheConstants.{OK, NULL, ABSENT, ROOM, UNKNOWN}
use Rattle.tora_c.specs.declared.heights.HeightParts.{HeightParts}
use Rattle.tora_c.specs.CoreNode.{NodeView}

-- ---- a height

abbrev pub parts_of : Quintuple → HeightParts
parts_of h = record { tau = h.tau; oid = h.oid; r = h.r; delta = h.delta; id = h.id }

-- the code for an entry: None if the neighbour or the destination is unknown, Some None if the height is NULL
abbrev pub entry_code : Option (Option Quintuple) → ℕ
entry_code None = UNKNOWN
entry_code (Some None) = ABSENT
entry_code (Some (Some h)) = OK

abbrev pub parts_after : Option (Option Quintuple) → HeightParts → HeightParts
parts_after None old = old
parts_after (Some None) old = old
parts_after (Some (Some h)) old = parts_of h

-- the code for an entry of what a handle holds
abbrev pub held_entry_code : {H : Type 0} → (H → Option (Option Quintuple)) → Option H → ℕ
held_entry_code entry None = NULL
held_entry_code entry (Some n) = entry_code (entry n)

abbrev pub held_parts : {H : Type 0} → (H → Option (Option Quintuple)) → Option H → HeightParts → HeightParts
held_parts entry None old = old
held_parts entry (Some n) old = parts_after (entry n) old

-- ---- a number

-- the code for a number that may be absent
abbrev pub held_number_code : {H : Type 0} → (H → Option ℕ) → Option H → ℕ
held_number_code number None = NULL
held_number_code number (Some n) = option_map_or (λ _. OK) (number n) ABSENT

abbrev pub held_number : {H : Type 0} → (H → Option ℕ) → Option H → ℕ → ℕ
held_number number None old = old
held_number number (Some n) old = option_map_or (λ k. k) (number n) old

abbrev pub bit : Bool → ℕ
bit false = 0
bit true = 1

-- ---- bytes into a buffer

-- the code for bytes that are written to a buffer; a buffer that is too short does not change
abbrev pub room_code : List ℕ → List ℕ → ℕ
room_code bytes buffer = if nat_lt (length buffer) (length bytes) then ROOM else OK

abbrev pub written : List ℕ → List ℕ → List ℕ
written bytes buffer = if nat_lt (length buffer) (length bytes) then buffer else bytes ++ drop (length bytes) buffer

-- ---- a packet of the last step

abbrev pub sent_at : NodeView → ℕ → Option Packet
sent_at n place = slice_get n.sent place

-- Packets of any kind.
use Rattle.std.specs.Prelude.{ℕ}
use Rattle.tora_packet.specs.PacketParts.{IsId, IsUpdate, IsClear}
use Rattle.tora_packet.specs.declared.Packet.{Packet}
use Rattle.tora_packet.specs.declared.Packet.TheVariants.{Qry, Upd, Clr}

-- a packet whose parts are in their ranges
abbrev pub IsPacket : Packet → Type 0
IsPacket (Qry q) = IsId q
IsPacket (Upd u) = IsUpdate u
IsPacket (Clr c) = IsClear c

-- the destination that a packet is about
abbrev pub destination_of : Packet → ℕ
destination_of (Qry q) = q
destination_of (Upd u) = u.destination
destination_of (Clr c) = c.destination

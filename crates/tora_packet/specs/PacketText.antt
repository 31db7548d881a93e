-- Packets as text.
use Rattle.std.specs.Prelude.{ℕ, codes, List, ◌++◌}
use Rattle.std.specs.Fmt.{decimal}
use Rattle.tora_height.specs.HeightText.{written_height}
use Rattle.tora_packet.specs.declared.Packet.{Packet}
use Rattle.tora_packet.specs.declared.Packet.TheVariants.{Qry, Upd, Clr}

-- QRY with the destination, UPD with the destination and the height, CLR with the destination and the level's tau,oid
abbrev pub written_packet : Packet → List ℕ
written_packet (Qry d) = codes "QRY " ++ decimal d
written_packet (Upd u) = codes "UPD " ++ decimal u.destination ++ codes " " ++ written_height u.height
written_packet (Clr c) = codes "CLR " ++ decimal c.destination ++ codes " " ++ decimal c.tau ++ codes ","
    ++ decimal c.oid

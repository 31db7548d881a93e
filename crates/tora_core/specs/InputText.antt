-- Inputs as text.
use Rattle.std.specs.Prelude.{ℕ, codes, List, ◌++◌}
use Rattle.std.specs.Fmt.{decimal}
use Rattle.tora_packet.specs.PacketText.{written_packet}
use Rattle.tora_core.specs.declared.Input.{Input}
use Rattle.tora_core.specs.declared.Input.TheVariants.{LinkUp, LinkDown, Packet, Need}

-- up or down with the neighbour, from with the neighbour and the packet, or need with the destination
abbrev pub written_input : Input → List ℕ
written_input (LinkUp k) = codes "up " ++ decimal k
written_input (LinkDown k) = codes "down " ++ decimal k
written_input (Packet k packet) = codes "from " ++ decimal k ++ codes " " ++ written_packet packet
written_input (Need d) = codes "need " ++ decimal d

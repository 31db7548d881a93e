use Rattle.std.proofs.Common.{take}
use Rattle.std.specs.List.{AllByRecursion}
use Rattle.tora_packet.specs.AnyPacket.{IsPacket}
use Rattle.tora_frame.proofs.parts.know.Given as goal

-- the packets so far are known
abbrev pub invariant-loop-packet : goal.invariant-loop-packet
invariant-loop-packet l = AllByRecursion IsPacket (take l.packet-index l.packets)

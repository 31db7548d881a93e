use Rattle.std.proofs.Common.{◌≡◌, ◌≤◌, ◌*◌, take}
use Rattle.tora_packet.specs.declared.lengths.TheConstants.{LONGEST_PACKET}
use Rattle.tora_frame.specs.FrameGrammar.{packets_length}
use Rattle.tora_frame.proofs.encoding.packets_length.Given as goal

-- the bytes of the packets so far
abbrev pub invariant-loop-packet : goal.invariant-loop-packet
invariant-loop-packet l = record {
  len : l.len ≡ packets_length (take l.packet-index l.packets);
  most : l.len ≤ LONGEST_PACKET * l.packet-index;
}

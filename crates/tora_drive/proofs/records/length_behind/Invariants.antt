use Rattle.std.proofs.Common.{◌≡◌, ◌≤◌, ◌+◌, ◌*◌, take}
use Rattle.tora_packet.specs.declared.lengths.TheConstants.{LONGEST_PACKET}
use Rattle.tora_frame.specs.FrameGrammar.{packets_length}
use Rattle.tora_drive.proofs.records.length_behind.Given as goal

-- the bytes of the packets so far
abbrev pub invariant-loop-packet : goal.invariant-loop-packet
invariant-loop-packet l = record {
  len : l.len ≡ l.place + packets_length (take l.packet-index l.packets);
  most : l.len ≤ l.place + LONGEST_PACKET * l.packet-index;
}

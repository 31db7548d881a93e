use Rattle.std.proofs.Common.{◌≡◌, ◌≤◌, ◌+◌, ◌*◌, ◌++◌, take, length}
use Rattle.tora_packet.specs.declared.lengths.TheConstants.{LONGEST_PACKET}
use Rattle.tora_frame.specs.declared.layout.TheConstants.{BATCH_OFFSET}
use Rattle.tora_frame.specs.FrameGrammar.{packets_spelling}
use Rattle.tora_frame.proofs.encoding.put_packets.Given as goal

-- the packets so far are appended
abbrev pub invariant-loop-packet : goal.invariant-loop-packet
invariant-loop-packet l = record {
  items : l.out.items ≡ l.fn.out.items ++ packets_spelling (take l.packet-index l.packets);
  len : length l.out.items ≤ BATCH_OFFSET + LONGEST_PACKET * l.packet-index;
}

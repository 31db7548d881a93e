use Rattle.std.proofs.Common.{◌≡◌, ◌-◌, ◌++◌, length}
use Rattle.std.specs.List.{AllByRecursion}
use Rattle.tora_packet.specs.AnyPacket.{IsPacket}
use Rattle.tora_frame.specs.FrameGrammar.{packets_fault, packets_at}
use Rattle.tora_frame.proofs.packets.read_list.Given as goal

-- the packets read so far, followed by those in the rest of the bytes, are all packets
abbrev pub invariant-loop : goal.invariant-loop
invariant-loop l = record {
  fault : packets_fault (l.many - l.counter) l.rest ≡ packets_fault l.many l.fn.bytes;
  items : l.packets.items ++ packets_at (l.many - l.counter) l.rest ≡ packets_at l.many l.fn.bytes;
  valid : AllByRecursion IsPacket l.packets.items;
  len : length l.packets.items ≡ l.counter;
}

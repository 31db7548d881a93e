use Rattle.std.proofs.Common.{◌≡◌, ◌++◌, string_bytes, take}
use Rattle.std.specs.List.{flat_map}
use Rattle.tora_script.specs.TraceRecords.{packet_record}
use Rattle.tora_script.proofs.trace.packets.write_packets.Given as goal

abbrev pub invariant-loop-packet : goal.invariant-loop-packet
invariant-loop-packet l = string_bytes l.out ≡ string_bytes l.initial.out ++ flat_map (packet_record l.now l.n l.count) (take l.packet-index l.packets)

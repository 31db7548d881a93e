use Rattle.std.proofs.Common.{◌≡◌, ◌++◌, string_bytes, take}
use Rattle.tora_script.specs.ReplayAnswers.{send_lines}
use Rattle.tora_script.proofs.replays.answer.send_all.Given as goal

abbrev pub invariant-loop-packet : goal.invariant-loop-packet
invariant-loop-packet l = string_bytes l.out ≡ string_bytes l.initial.out ++ send_lines (take l.packet-index l.packets)

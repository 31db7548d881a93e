use Rattle.std.proofs.Common.{◌≡◌, ◌++◌, ◌-◌, ◌≤◌, max, string_bytes}
use Rattle.tora_drive.specs.Records.{sent_from}
use Rattle.tora_drive.proofs.records.write_sent.Given as goal

abbrev pub invariant-loop-i : goal.invariant-loop-i
invariant-loop-i g l = record {
  text : string_bytes l.out ≡ string_bytes l.initial.out ++ sent_from (g.S.Simulator.world l.sim) l.first (l.i - l.first);
  within : l.i ≤ max l.first l.i-end;
}

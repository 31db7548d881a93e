use Rattle.std.proofs.Common.{◌≡◌, ◌++◌, string_bytes, take}
use Rattle.std.specs.List.{flat_map}
use Rattle.tora_drive.specs.Records.{hop_line}
use Rattle.tora_drive.proofs.records.write_hops.Given as goal

abbrev pub invariant-loop-route : goal.invariant-loop-route
invariant-loop-route g l = string_bytes l.out ≡ string_bytes l.initial.out ++ flat_map (hop_line (g.S.Simulator.world l.sim)) (take l.route-index l.routes)

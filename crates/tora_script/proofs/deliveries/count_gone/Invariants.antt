use Rattle.std.proofs.Common.{◌≤◌, ◌-◌}
use Rattle.tora_script.specs.DirectionCounts.{AreCounted}
use Rattle.tora_script.proofs.deliveries.count_gone.Given as goal

abbrev pub invariant-loop-i : goal.invariant-loop-i
invariant-loop-i g l = record {
  counted : AreCounted (g.S.Simulator.world l.sim) l.counts l.first (l.i - l.first);
  within : (l.i - l.first) ≤ (l.end - l.first);
}

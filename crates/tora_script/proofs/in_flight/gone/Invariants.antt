use Rattle.std.proofs.Common.{◌≡◌, ◌≤◌, ◌-◌}
use Rattle.tora_script.specs.InFlight.{gone}
use Rattle.tora_script.proofs.in_flight.gone.Given as goal

abbrev pub invariant-loop-i : goal.invariant-loop-i
invariant-loop-i g l = record {
  value : l.gone ≡ gone (g.S.Simulator.world l.sim) l.direction l.first (l.i - l.first);
  bound : l.gone ≤ (l.i - l.first);
  within : (l.i - l.first) ≤ (l.end - l.first);
}

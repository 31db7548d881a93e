use Rattle.std.proofs.Common.{◌≡◌, ◌≤◌, ◌-◌, ◌++◌, length}
use Rattle.tora_script.specs.InFlight.{put_off, moment_view}
use Rattle.tora_script.specs.DirectionCounts.{AreCounted}
use Rattle.tora_script.proofs.in_flight.InFlight.put_off.Given as goal

abbrev pub invariant-loop-i : goal.invariant-loop-i
invariant-loop-i g l = record {
  later : l.self.later.items ≡ l.initial.self.later.items ++ put_off l.moment.network.parted.now (moment_view l.moment) (l.i - l.moment.start) (g.S.Simulator.world l.sim);
  round : l.self.round ≡ l.initial.self.round;
  counted : AreCounted (g.S.Simulator.world l.sim) l.counts l.moment.start (l.i - l.moment.start);
  within : (l.i - l.moment.start) ≤ (length (g.S.Simulator.world l.sim).datagrams - l.moment.start);
}

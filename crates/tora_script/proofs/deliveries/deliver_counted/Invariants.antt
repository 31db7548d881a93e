use Rattle.std.proofs.Common.{◌-◌}
use Rattle.tora_script.specs.Rounds.{deliveries, new_deliveries}
use Rattle.tora_script.specs.InFlight.{moment_view}
use Rattle.tora_script.specs.DirectionCounts.{AreCounted}
use Rattle.tora_script.proofs.RoundLaws.{Onward}
use Rattle.tora_script.proofs.deliveries.deliver_counted.Given as goal

abbrev pub invariant-loop-i : goal.invariant-loop-i
invariant-loop-i g l = record {
  onward : Onward (g.S.Simulator.world l.initial.sim) (new_deliveries l.moment.network.parted.now (moment_view l.moment) l.first (g.S.Simulator.world l.initial.sim)) (g.S.Simulator.world l.sim) l.some
      (deliveries l.moment.network.parted.now (moment_view l.moment) l.i (l.i-end - l.i) (g.S.Simulator.world l.sim));
  counted : AreCounted (g.S.Simulator.world l.sim) l.counts l.moment.start (l.i - l.moment.start);
}

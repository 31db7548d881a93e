use Rattle.std.proofs.Common.{◌≡◌, ◌-◌}
use Rattle.tora_world.specs.World.{world_after_all}
use Rattle.tora_script.specs.declared.rounds.TheConstants.{MOST_PASSES}
use Rattle.tora_script.specs.Rounds.{passes, AreKnown}
use Rattle.tora_script.specs.InFlight.{moment_view}
use Rattle.tora_script.proofs.rounds.make_passes.Given as goal

abbrev pub invariant-loop : goal.invariant-loop
invariant-loop g l =
    (world_after_all (g.S.Simulator.world l.sim) (passes (MOST_PASSES - l.counter) l.moment.network.nodes.now l.moment.network.ends.now l.moment.network.parted.now (moment_view l.moment) (g.S.Simulator.world l.sim)) ≡ world_after_all (g.S.Simulator.world l.initial.sim) (passes MOST_PASSES l.moment.network.nodes.now l.moment.network.ends.now l.moment.network.parted.now (moment_view l.moment) (g.S.Simulator.world l.initial.sim)))
    × AreKnown l.moment.is_known l.moment.network.ends.now (g.S.Simulator.world l.sim)

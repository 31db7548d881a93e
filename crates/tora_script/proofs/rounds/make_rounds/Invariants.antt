use Rattle.std.proofs.Common.{◌≡◌, ◌-◌}
use Rattle.tora_script.specs.Table.{over}
use Rattle.tora_script.specs.Rounds.{rounds, sky_of, AreKnown}
use Rattle.tora_script.proofs.rounds.make_rounds.Given as goal

abbrev pub invariant-loop : goal.invariant-loop
invariant-loop g l =
    (rounds (l.count - l.counter) l.network.nodes.now l.network.ends.now l.network.parted.now (over l.network.table.now l.network.channel) (sky_of g.S.Simulator.world l.sim l.in_flight) ≡ rounds l.count l.network.nodes.now l.network.ends.now l.network.parted.now (over l.network.table.now l.network.channel) (sky_of g.S.Simulator.world l.initial.sim l.initial.in_flight))
    × AreKnown l.is_known l.network.ends.now (g.S.Simulator.world l.sim)

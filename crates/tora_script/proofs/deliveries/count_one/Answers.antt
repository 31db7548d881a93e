use Rattle.std.proofs.Common.{sym, ◌∙◌}
use Rattle.tora_script.proofs.DirectionCountLaws.{none_more, some_more}
use Rattle.tora_script.proofs.deliveries.count_one.Goals as goal

pub returns-in_default : goal.returns-in_default
returns-in_default g c = none_more (g.S.Simulator.world c.args.sim.now) c.args.counts.now c.args.first c.args.i c.requires.behind c.requires.counted (sym c.datagram.ensures ∙ c.in_default.is)

pub returns : goal.returns
returns g c = some_more (g.S.Simulator.world c.args.sim.now) c.args.counts.now c.count.new.self c.args.first c.args.i c.in-Some.direction c.requires.behind c.requires.counted (sym c.datagram.ensures ∙ c.in-Some.is) c.in_ok-count.ensures

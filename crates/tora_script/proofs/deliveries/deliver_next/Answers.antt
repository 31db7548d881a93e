use Rattle.std.proofs.Common.{sym, ◌∙◌}
use Rattle.tora_world.specs.World.{datagram}
use Rattle.tora_script.specs.InFlight.{moment_view}
use Rattle.tora_script.proofs.RoundLaws.{no_delivery, parted_delivery, whole_delivery}
use Rattle.tora_script.proofs.DirectionCountLaws.{none_more}
use Rattle.tora_script.proofs.deliveries.deliver_next.Goals as goal

pub returns-in_default-clause-happened : goal.returns-in_default-clause-happened
returns-in_default-clause-happened g c =
    let w = g.S.Simulator.world c.args.sim.now in
    no_delivery c.args.moment.now.network.parted.now (moment_view c.args.moment.now) c.args.i w (datagram w c.args.i) (sym c.datagram.ensures ∙ c.in_default.is)

pub returns-in_default-clause-counted : goal.returns-in_default-clause-counted
returns-in_default-clause-counted g c =
    none_more (g.S.Simulator.world c.args.sim.now) c.args.counts.now c.args.moment.now.start c.args.i c.requires.behind c.requires.counted (sym c.datagram.ensures ∙ c.in_default.is)

pub counted_copies-requires-clause-behind : goal.counted_copies-requires-clause-behind
counted_copies-requires-clause-behind g c = c.requires.behind

pub counted_copies-requires-clause-counted : goal.counted_copies-requires-clause-counted
counted_copies-requires-clause-counted g c = c.requires.counted

pub counted_copies-requires-clause-going : goal.counted_copies-requires-clause-going
counted_copies-requires-clause-going g c = sym c.datagram.ensures ∙ c.in-Some.is

pub returns-then-is_parted-clause-happened : goal.returns-then-is_parted-clause-happened
returns-then-is_parted-clause-happened g c =
    let w = g.S.Simulator.world c.args.sim.now in
    parted_delivery c.args.moment.now.network.parted.now (moment_view c.args.moment.now) c.args.i w (datagram w c.args.i) c.in-Some.direction (sym c.datagram.ensures ∙ c.in-Some.is) (sym c.is_parted.ensures ∙ c.if-is_parted.true)

pub returns-then-is_parted-clause-counted : goal.returns-then-is_parted-clause-counted
returns-then-is_parted-clause-counted g c = c.in_ok-copies.ensures.counted

pub returns-clause-counted : goal.returns-clause-counted
returns-clause-counted g c = c.in_ok-copies.ensures.counted

pub returns-clause-happened : goal.returns-clause-happened
returns-clause-happened g c =
    let w = g.S.Simulator.world c.args.sim.now in
    whole_delivery c.args.moment.now.network.parted.now (moment_view c.args.moment.now) c.args.i w (g.S.Simulator.world c.deliver.new.self) c.in_ok-some.some (datagram w c.args.i) c.in-Some.direction c.in_ok-copies.copies (sym c.datagram.ensures ∙ c.in-Some.is)
    (sym c.is_parted.ensures ∙ c.if-is_parted.false) c.in_ok-copies.ensures.copies (rw c.at_once.ensures at c.in_ok-some.ensures)

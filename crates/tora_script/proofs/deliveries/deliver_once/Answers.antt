use Rattle.std.proofs.Common.{Some, None, sym, ◌∙◌}
use Rattle.tora_world.specs.World.{datagram}
use Rattle.tora_script.specs.InFlight.{moment_view}
use Rattle.tora_script.proofs.RoundLaws.{no_delivery, parted_delivery, whole_delivery}
use Rattle.tora_script.proofs.deliveries.deliver_once.Goals as goal

pub returns-in_default : goal.returns-in_default
returns-in_default g c =
    let w = g.S.Simulator.world c.args.sim.now in
    no_delivery c.args.moment.now.network.parted.now (moment_view c.args.moment.now) c.args.i w (datagram w c.args.i) (sym c.datagram.ensures ∙ c.in_default.is)

pub returns-then-is_parted : goal.returns-then-is_parted
returns-then-is_parted g c =
    let w = g.S.Simulator.world c.args.sim.now in
    parted_delivery c.args.moment.now.network.parted.now (moment_view c.args.moment.now) c.args.i w (datagram w c.args.i) c.in-Some.direction (sym c.datagram.ensures ∙ c.in-Some.is) (sym c.is_parted.ensures ∙ c.if-is_parted.true)

pub returns : goal.returns
returns g c =
    let w = g.S.Simulator.world c.args.sim.now in
    whole_delivery c.args.moment.now.network.parted.now (moment_view c.args.moment.now) c.args.i w (g.S.Simulator.world c.deliver.new.self) c.in_ok-some.some (datagram w c.args.i) c.in-Some.direction (record { first = Some 0; second = None }) (sym c.datagram.ensures ∙ c.in-Some.is)
    (sym c.is_parted.ensures ∙ c.if-is_parted.false) (sym (c.requires _)) c.in_ok-some.ensures

use Rattle.std.proofs.Common.{length}
use Rattle.tora_script.specs.declared.turns.EndTurn.TheVariants as turn
use Rattle.tora_script.specs.Rounds.{plan_then, each_core, each_end, new_deliveries, pass}
use Rattle.tora_script.specs.InFlight.{moment_view}
use Rattle.tora_script.proofs.RoundLaws.{Happened-then}
use Rattle.tora_script.proofs.KnownEnds.{known_then}
use Rattle.tora_script.proofs.rounds.pass.Goals as goal

pub turn_known_ends-requires : goal.turn_known_ends-requires
turn_known_ends-requires g c = known_then c.args.moment.now.is_known c.args.moment.now.network.ends.now c.requires c.in_ok-turned.ensures

pub turn_known_ends-requires-2 : goal.turn_known_ends-requires-2
turn_known_ends-requires-2 g c =
    let turned = known_then c.args.moment.now.is_known c.args.moment.now.network.ends.now c.requires c.in_ok-turned.ensures in
    known_then c.args.moment.now.is_known c.args.moment.now.network.ends.now turned c.in_ok-pulled.ensures

pub turn_known_ends-requires-3 : goal.turn_known_ends-requires-3
turn_known_ends-requires-3 g c =
    let turned = known_then c.args.moment.now.is_known c.args.moment.now.network.ends.now c.requires c.in_ok-turned.ensures in
    let pulled = known_then c.args.moment.now.is_known c.args.moment.now.network.ends.now turned c.in_ok-pulled.ensures in
    let sent = known_then c.args.moment.now.is_known c.args.moment.now.network.ends.now pulled c.in_ok-sent.ensures in
    known_then c.args.moment.now.is_known c.args.moment.now.network.ends.now sent c.in_ok-delivered.ensures

pub returns : goal.returns
unfolding pass
returns g c =
    let w0 = g.S.Simulator.world c.args.sim.now in
    let w1 = g.S.Simulator.world c.turn_cores.new.sim in
    let w2 = g.S.Simulator.world c.turn_known_ends.new.sim in
    let w3 = g.S.Simulator.world c.turn_known_ends-2.new.sim in
    let w4 = g.S.Simulator.world c.deliver_new.new.sim in
    let w5 = g.S.Simulator.world c.turn_known_ends-3.new.sim in
    let cores = each_core c.args.moment.now.network.nodes.now in
    let pulls = each_end turn.Pull c.args.moment.now.network.ends.now in
    let sends = each_end turn.Transmit c.args.moment.now.network.ends.now in
    let deliveries = new_deliveries c.args.moment.now.network.parted.now (moment_view c.args.moment.now) (length w0.datagrams) in
    let pumps = each_end turn.Pump c.args.moment.now.network.ends.now in
    let delivered = rw c.datagrams-first.ensures at c.in_ok-delivered.ensures in
    let last = Happened-then w3 w4 w5 c.in_ok-delivered.delivered c.in_ok-pumped.pumped deliveries pumps delivered c.in_ok-pumped.ensures in
    let sent = Happened-then w2 w3 w5 c.in_ok-sent.sent _ sends (plan_then deliveries pumps) c.in_ok-sent.ensures last in
    let pulled = Happened-then w1 w2 w5 c.in_ok-pulled.pulled _ pulls (plan_then sends (plan_then deliveries pumps)) c.in_ok-pulled.ensures sent in
    let turned = Happened-then w0 w1 w5 c.in_ok-turned.turned _ cores (plan_then pulls (plan_then sends (plan_then deliveries pumps))) c.in_ok-turned.ensures pulled in
    rw (c.either-4.ensures, c.either-3.ensures, c.either-2.ensures, c.either.ensures) turned

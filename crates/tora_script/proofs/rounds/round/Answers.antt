use Rattle.tora_world.specs.declared.event.Event.TheVariants.{Tick}
use Rattle.tora_script.specs.declared.rounds.TheConstants.{MOST_PASSES}
use Rattle.tora_script.specs.declared.turns.EndTurn.TheVariants as turn
use Rattle.tora_script.specs.Rounds.{once, plan_then, each_end_once, arrivals, passes, round}
use Rattle.tora_script.specs.InFlight.{moment_view}
use Rattle.tora_script.proofs.RoundLaws.{after_then}
use Rattle.tora_script.proofs.KnownEnds.{known_then}
use Rattle.tora_script.proofs.rounds.round.Goals as goal

pub turn_known_ends-requires : goal.turn_known_ends-requires
turn_known_ends-requires g c = known_then c.args.moment.now.is_known c.args.moment.now.network.ends.now c.requires c.in_ok-repeat.ensures

pub make_passes-requires : goal.make_passes-requires
make_passes-requires g c =
    let ticked = known_then c.args.moment.now.is_known c.args.moment.now.network.ends.now c.requires c.in_ok-repeat.ensures in
    let opened = known_then c.args.moment.now.is_known c.args.moment.now.network.ends.now ticked c.in_ok-turn_known_ends.ensures in
    known_then c.args.moment.now.is_known c.args.moment.now.network.ends.now opened c.in_ok-arrive_all.ensures

pub returns : goal.returns
unfolding round
returns g c =
    let w0 = g.S.Simulator.world c.args.sim.now in
    let w1 = g.S.Simulator.world c.repeat.new.sim in
    let w2 = g.S.Simulator.world c.turn_known_ends.new.sim in
    let w3 = g.S.Simulator.world c.arrive_all.new.sim in
    let w4 = g.S.Simulator.world c.make_passes.new.sim in
    let opens = each_end_once turn.Open c.args.moment.now.network.ends.now in
    let come = arrivals c.args.moment.now.network.parted.now c.args.later.now in
    let all = passes MOST_PASSES c.args.moment.now.network.nodes.now c.args.moment.now.network.ends.now c.args.moment.now.network.parted.now (moment_view c.args.moment.now) in
    let arrived = after_then w2 w3 w4 come all c.in_ok-arrive_all.ensures.after_is c.in_ok-make_passes.ensures in
    let opened = after_then w1 w2 w4 opens (plan_then come all) c.in_ok-turn_known_ends.ensures.after_is arrived in
    after_then w0 w1 w4 (once Tick) (plan_then opens (plan_then come all)) c.in_ok-repeat.ensures.after_is opened

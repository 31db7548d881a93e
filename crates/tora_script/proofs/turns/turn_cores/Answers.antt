use Rattle.std.proofs.Common.{◌+◌, ◌-◌, ◌<◌, ◌||◌, false, List, length, arith, subst}
use Rattle.tora_world.specs.declared.event.Event.{Event}
use Rattle.tora_world.specs.declared.event.Event.TheVariants.{CoreTurn}
use Rattle.tora_script.specs.Rounds.{while_possible, each_core}
use Rattle.tora_script.proofs.RoundLaws.{Onward, begins, each_part, each_ends, all_idle}
use Rattle.tora_script.proofs.KnownEnds.{cores_over}
use Rattle.tora_script.proofs.turns.turn_cores.Goals as goal

pub returns-then-not-may_turn : goal.returns-then-not-may_turn
returns-then-not-may_turn g c =
    all_idle (λ n. CoreTurn n) 1024 c.args.nodes.now (g.S.Simulator.world c.args.sim.now) (c.may_turn.ensures c.if-not-may_turn.true)

pub loop-place-init : goal.loop-place-init
loop-place-init g c =
    let w = g.S.Simulator.world c.args.sim.now in
    let nodes = c.args.nodes.now in
    let over = cores_over nodes 0 c.next_core-place.result w c.next_core-place.ensures.onward c.next_core-place.ensures.passed in
    subst (λ (events : List Event). Onward w (each_core nodes w) w false events) over (begins w (each_core nodes w))

pub loop-place-preserved : goal.loop-place-preserved
loop-place-preserved g c =
    let w0 = g.S.Simulator.world c.args.sim.now in
    let w = g.S.Simulator.world c.turn_core.new.sim in
    let nodes = c.args.nodes.now in
    let i = c.loop-place.place in
    let next = c.next_core-place-in-loop-place.result in
    let over = cores_over nodes (i + 1) next w c.next_core-place-in-loop-place.ensures.onward c.next_core-place-in-loop-place.ensures.passed in
    let turned = each_part (λ n. while_possible (CoreTurn n)) nodes i 0 w0 (each_core nodes w0) (g.S.Simulator.world c.loop-place.sim) w c.loop-place.some c.in_ok-any.any c.loop-place-test.true c.loop-place.invariant c.in_ok-any.ensures in
    rw c.either-some.ensures (subst (λ (events : List Event). Onward w0 (each_core nodes w0) w (c.loop-place.some || c.in_ok-any.any) events) over turned)

pub loop-place-smaller : goal.loop-place-smaller
loop-place-smaller g c =
    let below = c.loop-place-test.true in
    let onward = c.next_core-place-in-loop-place.ensures.onward in
    let smaller : length c.args.nodes.now - c.next_core-place-in-loop-place.result < length c.args.nodes.now - c.loop-place.place = omega (arith, below, onward) in
    smaller

pub returns : goal.returns
returns g c =
    each_ends (λ n. while_possible (CoreTurn n)) c.args.nodes.now c.loop-place.place (g.S.Simulator.world c.args.sim.now) (each_core c.args.nodes.now (g.S.Simulator.world c.args.sim.now)) (g.S.Simulator.world c.loop-place.sim) c.loop-place.some
    c.loop-place-test.false c.loop-place.invariant

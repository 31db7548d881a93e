use Rattle.std.proofs.Common.{◌+◌, ◌-◌, ◌<◌, ◌||◌, length, drop, arith}
use Rattle.tora_world.specs.declared.event.Event.TheVariants.{CoreTurn}
use Rattle.tora_script.specs.Rounds.{while_possible, each_core}
use Rattle.tora_script.proofs.RoundLaws.{each_none, no_event}
use Rattle.tora_script.proofs.KnownEnds.{cores_over}
use Rattle.tora_drive.specs.Recording.{text_record}
use Rattle.tora_drive.proofs.TellLaws.{told_begins, told_over, told_part, told_ends, told_none}
use Rattle.tora_drive.proofs.stepping.turn_cores.Goals as goal

pub returns-then-not-may_turn : goal.returns-then-not-may_turn
returns-then-not-may_turn g c =
    let w = g.S.Simulator.world c.args.sim.now in
    let nodes = c.args.nodes.now in
    let stop = c.may_turn.ensures c.if-not-may_turn.true in
    told_none w (each_core nodes w) (text_record c.args.text.now) (each_none (λ n. while_possible (CoreTurn n)) nodes w (λ n. no_event w 1024 (CoreTurn n) (stop n)))

pub loop-place-init : goal.loop-place-init
loop-place-init g c =
    let w = g.S.Simulator.world c.args.sim.now in
    let nodes = c.args.nodes.now in
    let text = text_record c.args.text.now in
    let over = cores_over nodes 0 c.next_core-place.result w c.next_core-place.ensures.onward c.next_core-place.ensures.passed in
    told_over w (each_core nodes w) w _ (each_core nodes w) (each_core (drop c.next_core-place.result nodes) w) text text over (told_begins w (each_core nodes w) text)

pub loop-place-preserved : goal.loop-place-preserved
loop-place-preserved g c =
    let w0 = g.S.Simulator.world c.args.sim.now in
    let w = g.S.Simulator.world c.turn_core.new.sim in
    let nodes = c.args.nodes.now in
    let i = c.loop-place.place in
    let next = c.next_core-place-in-loop-place.result in
    let before = text_record c.args.text.now in
    let more = text_record c.turn_core.new.text in
    let over = cores_over nodes (i + 1) next w c.next_core-place-in-loop-place.ensures.onward c.next_core-place-in-loop-place.ensures.passed in
    let turned = told_part (λ n. while_possible (CoreTurn n)) nodes i 0 w0 (each_core nodes w0) (g.S.Simulator.world c.loop-place.sim) w c.loop-place.some c.in_ok-any.any before (text_record c.loop-place.text) more c.loop-place-test.true c.loop-place.invariant c.in_ok-any.ensures in
    rw c.either-some.ensures (told_over w0 (each_core nodes w0) w (c.loop-place.some || c.in_ok-any.any) (each_core (drop (i + 1) nodes) w) (each_core (drop next nodes) w) before more over turned)

pub loop-place-smaller : goal.loop-place-smaller
loop-place-smaller g c =
    let below = c.loop-place-test.true in
    let onward = c.next_core-place-in-loop-place.ensures.onward in
    let smaller : length c.args.nodes.now - c.next_core-place-in-loop-place.result < length c.args.nodes.now - c.loop-place.place = omega (arith, below, onward) in
    smaller

pub returns : goal.returns
returns g c =
    let w0 = g.S.Simulator.world c.args.sim.now in
    let nodes = c.args.nodes.now in
    told_ends (λ n. while_possible (CoreTurn n)) nodes c.loop-place.place w0 (each_core nodes w0) (g.S.Simulator.world c.loop-place.sim) c.loop-place.some (text_record c.args.text.now) (text_record c.loop-place.text)
    c.loop-place-test.false c.loop-place.invariant

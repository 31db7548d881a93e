use Rattle.std.proofs.Common.{◌+◌, ◌-◌, ◌<◌, ◌||◌, length, drop, arith}
use Rattle.tora_script.specs.Rounds.{each}
use Rattle.tora_script.proofs.KnownEnds.{known_then}
use Rattle.tora_drive.specs.Steps.{turn_of}
use Rattle.tora_drive.specs.Recording.{text_record}
use Rattle.tora_drive.proofs.TellLaws.{told_begins, told_over, told_part, told_ends, told_none}
use Rattle.tora_drive.proofs.TurnLaws.{turns_over, no_turns}
use Rattle.tora_drive.proofs.stepping.turn_ends.Goals as goal

pub returns-then-is_quiet : goal.returns-then-is_quiet
returns-then-is_quiet g c =
    let w = g.S.Simulator.world c.args.sim.now in
    let silent = c.args.visited.now.silent.now in
    let ends = c.args.visited.now.ends.now in
    told_none w (each (turn_of silent c.args.kind) ends w) (text_record c.args.text.now) (no_turns silent c.args.kind ends w (c.is_quiet.ensures c.if-is_quiet.true))

pub loop-place-init : goal.loop-place-init
loop-place-init g c =
    let w = g.S.Simulator.world c.args.sim.now in
    let silent = c.args.visited.now.silent.now in
    let ends = c.args.visited.now.ends.now in
    let turns = turn_of silent c.args.kind in
    let text = text_record c.args.text.now in
    let over = turns_over silent c.args.kind ends 0 c.next_place-place.result w c.next_place-place.ensures.onward (c.next_place-place.ensures.passed c.args.kind) in (
      told_over w (each turns ends w) w _ (each turns ends w) (each turns (drop c.next_place-place.result ends) w) text text over (told_begins w (each turns ends w) text),
      c.requires,
    )

pub next_place-place-requires-in-loop-place : goal.next_place-place-requires-in-loop-place
next_place-place-requires-in-loop-place g c = known_then c.args.visited.now.are_known c.args.visited.now.ends.now c.loop-place.invariant.1 c.in_ok-any.ensures.happened

pub loop-place-preserved : goal.loop-place-preserved
loop-place-preserved g c =
    let w0 = g.S.Simulator.world c.args.sim.now in
    let w = g.S.Simulator.world c.turn_of.new.sim in
    let silent = c.args.visited.now.silent.now in
    let ends = c.args.visited.now.ends.now in
    let turns = turn_of silent c.args.kind in
    let i = c.loop-place.place in
    let next = c.next_place-place-in-loop-place.result in
    let before = text_record c.args.text.now in
    let more = text_record c.turn_of.new.text in
    let over = turns_over silent c.args.kind ends (i + 1) next w c.next_place-place-in-loop-place.ensures.onward (c.next_place-place-in-loop-place.ensures.passed c.args.kind) in
    let turned = told_part turns ends i (0, 0) w0 (each turns ends w0) (g.S.Simulator.world c.loop-place.sim) w c.loop-place.some c.in_ok-any.any before (text_record c.loop-place.text) more c.loop-place-test.true c.loop-place.invariant.0 c.in_ok-any.ensures in (
      rw c.either-some.ensures (told_over w0 (each turns ends w0) w (c.loop-place.some || c.in_ok-any.any) (each turns (drop (i + 1) ends) w) (each turns (drop next ends) w) before more over turned),
      known_then c.args.visited.now.are_known ends c.loop-place.invariant.1 c.in_ok-any.ensures.happened,
    )

pub loop-place-smaller : goal.loop-place-smaller
loop-place-smaller g c =
    let below = c.loop-place-test.true in
    let onward = c.next_place-place-in-loop-place.ensures.onward in
    let smaller : length c.args.visited.now.ends.now - c.next_place-place-in-loop-place.result < length c.args.visited.now.ends.now - c.loop-place.place = omega (arith, below, onward) in
    smaller

pub returns : goal.returns
returns g c =
    let w0 = g.S.Simulator.world c.args.sim.now in
    let ends = c.args.visited.now.ends.now in
    let turns = turn_of c.args.visited.now.silent.now c.args.kind in
    told_ends turns ends c.loop-place.place w0 (each turns ends w0) (g.S.Simulator.world c.loop-place.sim) c.loop-place.some (text_record c.args.text.now) (text_record c.loop-place.text) c.loop-place-test.false c.loop-place.invariant.0

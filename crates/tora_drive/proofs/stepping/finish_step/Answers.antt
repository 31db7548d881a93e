use Rattle.tora_script.specs.declared.rounds.TheConstants.{MOST_PASSES}
use Rattle.tora_script.specs.declared.turns.EndTurn.TheVariants as turn
use Rattle.tora_script.specs.Rounds.{each_end_once}
use Rattle.tora_script.proofs.KnownEnds.{known_then}
use Rattle.tora_drive.specs.Steps.{step_passes}
use Rattle.tora_drive.specs.Recording.{text_record}
use Rattle.tora_drive.proofs.TellLaws.{all_told, all_told_then}
use Rattle.tora_drive.proofs.stepping.finish_step.Goals as goal

pub make_passes-requires : goal.make_passes-requires
make_passes-requires g c = known_then c.are_known.result c.args.ends.now c.are_known.ensures c.in_ok-turn_ends.ensures.happened

pub returns : goal.returns
returns g c =
    let w0 = g.S.Simulator.world c.args.sim.now in
    let w1 = g.S.Simulator.world c.turn_ends.new.sim in
    let w2 = g.S.Simulator.world c.make_passes.new.sim in
    let t0 = text_record c.args.text.now in
    let t1 = text_record c.turn_ends.new.text in
    let t2 = text_record c.make_passes.new.text in
    let opens = each_end_once turn.Open c.args.ends.now in
    let all = step_passes MOST_PASSES c.args.nodes.now c.args.ends.now c.args.silent.now in
    all_told_then w0 w1 w2 opens all t0 t1 t2 (all_told w0 (opens w0) w1 _ t0 t1 c.in_ok-turn_ends.ensures) c.in_ok-make_passes.ensures

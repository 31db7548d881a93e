use Rattle.tora_script.specs.declared.turns.EndTurn.TheVariants as turn
use Rattle.tora_script.specs.Rounds.{plan_then, each, each_core, each_end}
use Rattle.tora_script.proofs.KnownEnds.{known_then}
use Rattle.tora_drive.specs.Steps.{sends_of, step_pass}
use Rattle.tora_drive.specs.Recording.{text_record}
use Rattle.tora_drive.proofs.TellLaws.{told_then}
use Rattle.tora_drive.proofs.stepping.pass.Goals as goal

pub turn_ends-requires : goal.turn_ends-requires
turn_ends-requires g c = known_then c.args.visited.now.are_known c.args.visited.now.ends.now c.requires c.in_ok-turned.ensures.happened

pub turn_ends-requires-2 : goal.turn_ends-requires-2
turn_ends-requires-2 g c =
    let turned = known_then c.args.visited.now.are_known c.args.visited.now.ends.now c.requires c.in_ok-turned.ensures.happened in
    known_then c.args.visited.now.are_known c.args.visited.now.ends.now turned c.in_ok-pulled.ensures.happened

pub turn_ends-requires-3 : goal.turn_ends-requires-3
turn_ends-requires-3 g c =
    let turned = known_then c.args.visited.now.are_known c.args.visited.now.ends.now c.requires c.in_ok-turned.ensures.happened in
    let pulled = known_then c.args.visited.now.are_known c.args.visited.now.ends.now turned c.in_ok-pulled.ensures.happened in
    known_then c.args.visited.now.are_known c.args.visited.now.ends.now pulled c.in_ok-sent.ensures.happened

pub returns : goal.returns
unfolding step_pass
returns g c =
    let w0 = g.S.Simulator.world c.args.sim.now in
    let w1 = g.S.Simulator.world c.turn_cores.new.sim in
    let w2 = g.S.Simulator.world c.turn_ends.new.sim in
    let w3 = g.S.Simulator.world c.turn_ends-2.new.sim in
    let w4 = g.S.Simulator.world c.turn_ends-3.new.sim in
    let t0 = text_record c.args.text.now in
    let t1 = text_record c.turn_cores.new.text in
    let t2 = text_record c.turn_ends.new.text in
    let t3 = text_record c.turn_ends-2.new.text in
    let t4 = text_record c.turn_ends-3.new.text in
    let cores = each_core c.args.visited.now.nodes.now in
    let pulls = each_end turn.Pull c.args.visited.now.ends.now in
    let sends = each (sends_of c.args.visited.now.silent.now) c.args.visited.now.ends.now in
    let pumps = each_end turn.Pump c.args.visited.now.ends.now in
    let last = told_then w2 w3 w4 c.in_ok-sent.sent c.in_ok-pumped.pumped sends pumps t2 t3 t4 c.in_ok-sent.ensures c.in_ok-pumped.ensures in
    let pulled = told_then w1 w2 w4 c.in_ok-pulled.pulled _ pulls (plan_then sends pumps) t1 t2 t4 c.in_ok-pulled.ensures last in
    let turned = told_then w0 w1 w4 c.in_ok-turned.turned _ cores (plan_then pulls (plan_then sends pumps)) t0 t1 t4 c.in_ok-turned.ensures pulled in
    rw (c.either-3.ensures, c.either-2.ensures, c.either.ensures) turned

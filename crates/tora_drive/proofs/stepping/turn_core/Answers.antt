use Rattle.std.proofs.Common.{◌≡◌, None, ap}
use Rattle.std.proofs.lemmas.Result.{IfOk-weaker}
use Rattle.tora_world.specs.declared.event.Event.TheVariants.{CoreTurn}
use Rattle.tora_script.specs.Rounds.{while_possible}
use Rattle.tora_script.proofs.RoundLaws.{no_event}
use Rattle.tora_drive.specs.Recording.{text_record}
use Rattle.tora_drive.proofs.TellLaws.{told_none, told_nobody}
use Rattle.tora_drive.proofs.stepping.turn_core.Goals as goal

pub returns-then-not-may_happen : goal.returns-then-not-may_happen
returns-then-not-may_happen g c =
    let w = g.S.Simulator.world c.args.sim.now in
    told_none w (while_possible (CoreTurn c.args.n) w) (text_record c.args.text.now) (no_event w 1024 (CoreTurn c.args.n) (c.may_happen.ensures c.if-not-may_happen.true))

pub returns-in-None : goal.returns-in-None
returns-in-None g c =
    let w = g.S.Simulator.world c.args.sim.now in
    let none : text_record c.args.text.now ≡ None = ap text_record c.in-None.is in
    rw none (IfOk-weaker c.turn.result _ _ (λ some h. told_nobody w (while_possible (CoreTurn c.args.n) w) (g.S.Simulator.world c.turn.new.self) some h) c.turn.ensures)

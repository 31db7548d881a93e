use Rattle.std.proofs.Common.{◌∙◌, ap, sym, Some}
use Rattle.tora_script.specs.RunningView.{running_view}
use Rattle.tora_drive.specs.declared.line.DriveLine.{DriveLine}
use Rattle.tora_drive.specs.DriveView.{state_view, record_view}
use Rattle.tora_drive.specs.Recording.{answer_recorded}
use Rattle.tora_drive.proofs.AnswerLaws.{as_step}
use Rattle.tora_drive.proofs.answer.answer.Goals as goal

pub returns-then-is_step-clause-record : goal.returns-then-is_step-clause-record
returns-then-is_step-clause-record g c =
    let s = running_view g.S.Simulator.world c.args.running.now in
    let o = state_view c.args.state.now in
    let step = c.in_ok-line.ensures ∙ ap (λ (line : DriveLine). Some line) (c.is_step.ensures.0 c.if-is_step.true) in
    c.in_ok-answer_step.ensures.record ∙ sym (as_step (record_view c.args.state.now) s o c.args.text.now step)

pub returns-clause-record : goal.returns-clause-record
unfolding answer_recorded
returns-clause-record g c = rw c.in_ok-line.ensures c.answer_line.ensures.record

use Rattle.std.proofs.Common.{◌≡◌, ◌∙◌, ap, subst, None, Err}
use Rattle.tora_lines.specs.declared.words.LineError.TheVariants.{Fault}
use Rattle.tora_script.specs.SimulationView.{progress_of}
use Rattle.tora_drive.specs.DriveText.{StateView, place_reply}
use Rattle.tora_drive.specs.DriveView.{state_view}
use Rattle.tora_drive.proofs.RecordLaws.{cleared_so}
use Rattle.tora_drive.proofs.drive.Drive.reply.Goals as goal

pub returns-in_ok-write_fault-in-Fault-clause-record : goal.returns-in_ok-write_fault-in-Fault-clause-record
returns-in_ok-write_fault-in-Fault-clause-record g c =
    let world = g.S.Simulator.world in
    let d = c.args.self.now in
    let is : c.take_line-taken.result ≡ Err Fault = c.in-Err.is ∙ ap (λ e. Err e) c.in-Fault.is in
    let fault : place_reply d.setup (state_view c.clear_record.new.self) (progress_of world d.stage) c.args.line.now ≡ None = rw is at c.take_line-taken.ensures.gives in
    let none = subst (λ (o : StateView). place_reply d.setup o (progress_of world d.stage) c.args.line.now ≡ None) c.clear_record.ensures.view fault in
    rw none (c.renew_record.ensures.record ∙ cleared_so _ d.state.recorded _ c.is_some-is_recorded.ensures)

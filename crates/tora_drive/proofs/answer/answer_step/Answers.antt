use Rattle.std.proofs.Common.{◌≡◌, sym, subst, Some, string_bytes}
use Rattle.std.specs.Prelude.{option_map}
use Rattle.std.proofs.lemmas.Result.{on_ok_weaker}
use Rattle.tora_script.specs.RunningView.{running_view}
use Rattle.tora_drive.specs.declared.line.DriveLine.TheVariants.{Step}
use Rattle.tora_drive.specs.DriveText.{StateView, outcome_of, told}
use Rattle.tora_drive.specs.DriveView.{state_view, record_view}
use Rattle.tora_drive.specs.Recording.{text_record}
use Rattle.tora_drive.proofs.QuietLaws.{step_answered, step_told}
use Rattle.tora_drive.proofs.answer.answer_step.Goals as goal

pub returns-clause-gives : goal.returns-clause-gives
returns-clause-gives g c =
    let world = g.S.Simulator.world in
    let s = running_view world c.args.running.now in
    let o = state_view c.args.state.now in
    on_ok_weaker c.append_ok.result
    (λ closed. subst (λ (state : StateView). option_map (told s) (outcome_of s o Step) ≡ Some (running_view world c.finish.new.running, state, string_bytes c.append_ok.new.out)) (sym c.put_text.ensures.view)
    (step_answered s o (world c.tick.new.sim) (running_view world c.finish.new.running) (string_bytes c.finish.new.out) (string_bytes c.append_ok.new.out)
    c.in_ok-tick.ensures.after (rw c.deref.ensures.value at c.in_ok-finish.ensures.view) (rw c.requires at c.in_ok-finish.ensures.told) closed)) c.append_ok.ensures

pub returns-clause-record : goal.returns-clause-record
returns-clause-record g c =
    let world = g.S.Simulator.world in
    on_ok_weaker c.append_ok.result
    (λ closed. step_told (running_view world c.args.running.now) (state_view c.args.state.now) (world c.tick.new.sim) (record_view c.args.state.now) (record_view c.put_text.new.self)
    (text_record c.new_text-events.result) (text_record c.tick.new.text) (text_record c.finish.new.events)
    c.in_ok-tick.ensures.after c.new_text-events.ensures c.in_ok-tick.ensures.told (rw c.deref.ensures.value at c.in_ok-finish.ensures.record) c.in_ok-put_text.ensures.record) c.append_ok.ensures

use Rattle.std.proofs.Common.{◌≡◌, sym, subst, refl, Some, string_bytes}
use Rattle.std.specs.Prelude.{option_map}
use Rattle.tora_script.specs.RunningView.{running_view}
use Rattle.tora_drive.specs.DriveText.{StateView, outcome_of, told}
use Rattle.tora_drive.specs.DriveView.{state_view}
use Rattle.tora_drive.proofs.AnswerLaws.{answered}
use Rattle.tora_drive.proofs.answer.answer_line.Goals as goal

pub returns-clause-gives : goal.returns-clause-gives
returns-clause-gives g c =
    let world = g.S.Simulator.world in
    let s = running_view world c.args.running.now in
    let o = state_view c.args.state.now in
    subst (λ (state : StateView). option_map (told s) (outcome_of s o c.args.line) ≡ Some (running_view world c.perform.new.running, state, string_bytes c.append_ok.new.out)) (sym c.record_line.ensures.view)
    (answered s o c.args.line (running_view world c.perform.new.running) (state_view c.perform.new.state) (string_bytes c.perform.new.out) (string_bytes c.write_sent.new.out) (string_bytes c.write_hops.new.out) (string_bytes c.append_ok.new.out)
    c.in_ok-before.before.items c.in_ok-is_refused.is_refused c.in_ok-is_refused.ensures.gives (rw c.datagrams-first.ensures at c.in_ok-write_sent.ensures) c.in_ok-before.ensures (rw c.deref.ensures.value at c.in_ok-write_hops.ensures) c.in_ok-append_ok.ensures)

pub returns-clause-record : goal.returns-clause-record
returns-clause-record g c = rw (c.in_ok-record_line.ensures.record, c.in_ok-is_refused.ensures.record, c.in_ok-is_refused.ensures.gives) refl

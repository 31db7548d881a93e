use Rattle.std.proofs.Common.{string_bytes}
use Rattle.std.proofs.lemmas.Result.{on_ok_weaker}
use Rattle.tora_script.specs.RunningView.{running_view}
use Rattle.tora_drive.specs.Recording.{text_record}
use Rattle.tora_drive.proofs.QuietLaws.{quiet_record, nothing_told, told_in_order}
use Rattle.tora_drive.proofs.answer.finish.Goals as goal

pub returns-then-is_done-clause-told : goal.returns-then-is_done-clause-told
returns-then-is_done-clause-told g c =
    let s = running_view g.S.Simulator.world c.args.running.now in
    nothing_told s.world s.nodes s.dests (string_bytes c.args.out.now)

pub returns-then-is_done-clause-record : goal.returns-then-is_done-clause-record
returns-then-is_done-clause-record g c =
    let s = running_view g.S.Simulator.world c.args.running.now in
    quiet_record s.nodes s.ends c.args.silent.now s.world (c.is_quiet-is_done.ensures c.if-is_done.true) (text_record c.args.events.now)

pub returns-clause-told : goal.returns-clause-told
returns-clause-told g c =
    let s = running_view g.S.Simulator.world c.args.running.now in
    let sent = rw c.datagrams-first.ensures at c.in_ok-write_sent.ensures in
    on_ok_weaker c.write_hops.result
    (told_in_order s.world (g.S.Simulator.world c.finish_step.new.sim) s.nodes s.dests (string_bytes c.args.out.now) (string_bytes c.write_sent.new.out) (string_bytes c.write_hops.new.out) c.in_ok-before.before.items sent c.in_ok-before.ensures)
    (rw c.deref-3.ensures.value at c.write_hops.ensures)

use Rattle.std.proofs.Common.{◌≡◌, ◌+◌, ◌-◌, min, length, take, ◌++◌, Some, refl, ap, ◌∙◌, arith}
use Rattle.std.proofs.lemmas.Option.{slice_get_within}
use Rattle.tora_arq.specs.declared.TheConstants.{WINDOW}
use Rattle.tora_arq.specs.SendQueue.{ReadyRun}
use Rattle.tora_arq.proofs.QueueLemmas.{none_due, due_at, same_run, taken_some, taken_most}
use Rattle.tora_arq.proofs.queue.SendQueue.take_due.Goals as goal

pub returns-in_default-clause-due : goal.returns-in_default-clause-due
returns-in_default-clause-due c = λ number. none_due c.args.times.now c.args.now c.args.most number WINDOW c.args.self.now.items c.in_default.ensures.first

pub returns-clause-due : goal.returns-clause-due
returns-clause-due c = λ number.
    let first = c.in-Some.ensures.first in
    let end : c.min-end.result ≡ min (min WINDOW (length c.args.self.now.items)) (c.in-Some.place + c.args.most) = omega (arith, c.min-end.ensures, c.within_window.ensures) in
    let same = same_run c.args.times.now c.args.now c.args.most WINDOW c.in-Some.place c.min-end.result c.args.self.now.items end in
    due_at c.args.times.now c.args.now c.args.most number WINDOW c.in-Some.place c.args.self.now.items c.in-Some.field-0-1 first.within first.before first.packet_is first.ready
    ∙ ap (λ (r : ReadyRun). Some (record { number = number + c.in-Some.place; packets = r.packets; queue = take c.in-Some.place c.args.self.now.items ++ r.queue })) same
    ∙ rw (c.take_run.ensures.packets, c.take_run.ensures.queue) refl

pub returns-clause-some : goal.returns-clause-some
returns-clause-some c =
    let first = c.in-Some.ensures.first in
    let here = slice_get_within c.args.self.now.items c.in-Some.place c.in-Some.field-0-1 first.packet_is in
    let some = taken_some c.args.times.now c.args.now (c.min-end.result - c.in-Some.place) c.in-Some.place c.args.self.now.items c.in-Some.field-0-1
    (omega (arith, c.min-end.ensures, c.within_window.ensures, here, first.within, c.requires.0)) first.packet_is first.ready in
    let most = taken_most c.args.times.now c.args.now (c.min-end.result - c.in-Some.place) c.in-Some.place c.args.self.now.items in
    let len = ap length c.take_run.ensures.packets in
    (omega (arith, some, len), omega (arith, most, len, c.min-end.ensures), omega (arith, most, len, here))

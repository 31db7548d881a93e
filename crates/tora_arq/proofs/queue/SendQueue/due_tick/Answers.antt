use Rattle.std.proofs.Common.{◌≡◌, ◌∙◌, ℕ, suc, ◌+◌, Bool, ◌||◌, min, length, sym, ap, arith}
use Rattle.tora_arq.specs.declared.TheConstants.{WINDOW}
use Rattle.tora_arq.specs.NextDue.{has_begun}
use Rattle.tora_arq.proofs.DueLemmas.{is_queue_due, one_more, no_more, queue_due}
use Rattle.tora_arq.proofs.queue.SendQueue.due_tick.Goals as goal

pub loop-place-preserved : goal.loop-place-preserved
loop-place-preserved c = λ tick lt.
    let times = c.args.times.now in
    let queue = c.args.self.now.items in
    let place = c.loop-place.place in
    let one : suc place ≡ place + 1 = omega arith in
    c.earlier-first.ensures tick
    ∙ ap (λ (b : Bool). b || has_begun c.due_tick.result tick) (c.loop-place.invariant tick lt)
    ∙ ap (λ (b : Bool). is_queue_due times tick place queue || b) (c.due_tick.ensures tick lt)
    ∙ sym (one_more times tick place queue c.packet_at.result c.packet_at.ensures)
    ∙ ap (λ (n : ℕ). is_queue_due times tick n queue) one

pub returns : goal.returns
returns c = λ most number tick lt.
    let times = c.args.times.now in
    let queue = c.args.self.now.items in
    let all : c.loop-place.place ≡ min WINDOW (length queue) = omega (arith, c.within_window-place-end.ensures, c.loop-place-test.false, c.loop-place.auto.place-end) in
    c.loop-place.invariant tick lt
    ∙ ap (λ (n : ℕ). is_queue_due times tick n queue) all
    ∙ no_more times tick WINDOW queue
    ∙ queue_due times tick most number WINDOW queue c.requires.tries c.requires.untried

use Rattle.std.proofs.Common.{◌∙◌, suc, Bool, nat_le, ◌||◌, is_some, sym, ap}
use Rattle.tora_arq.specs.Settings.{ticks_passed}
use Rattle.tora_arq.specs.SendQueue.{has_given_up}
use Rattle.tora_arq.specs.LinkEnd.{data_version, most_packets, is_hello_due, is_old_hello_due, due_of}
use Rattle.tora_arq.specs.NextDue.{has_begun}
use Rattle.tora_arq.specs.StateView.{settings_in, state_in}
use Rattle.tora_arq.proofs.DueLemmas.{all_due, sent_due}
use Rattle.tora_arq.proofs.state.State.bound_tick.Goals as goal

pub returns : goal.returns
returns c = λ life tick lt.
    let s = settings_in c.args.settings.now in
    let e = state_in c.args.self.now in
    let hello = is_hello_due s e tick || is_old_hello_due e in
    let packets = is_some (due_of s e tick) in
    let given = has_given_up s.times tick e.queue in
    let silent = nat_le s.times.silent (ticks_passed e.last_hearing tick) in
    c.earlier-2.ensures tick
    ∙ ap (λ (b : Bool). b || has_begun c.earlier.result tick) (c.hello_tick.ensures tick lt)
    ∙ ap (λ (b : Bool). hello || b) (
    c.earlier.ensures tick
    ∙ ap (λ (b : Bool). b || has_begun c.tick_behind-silent.result tick) (c.due_tick-packets.ensures (most_packets (data_version e)) (suc e.acknowledged) tick lt)
    ∙ ap (λ (b : Bool). (packets || given) || b) (c.tick_behind-silent.ensures tick lt)
    )
    ∙ all_due hello packets given silent
    ∙ ap (λ (b : Bool). (hello || b) || (silent || given)) (sym (sent_due s e life (due_of s e tick) c.if-self.false))

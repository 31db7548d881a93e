use Rattle.std.proofs.Common.{refl}
use Rattle.tora_arq.specs.LinkEnd.{on_frame, on_frame_in, on_matched, on_transmit, on_transmit_in}
use Rattle.tora_arq.specs.SendQueue.{ready_run, first_due}
use Rattle.tora_arq.proofs.facts.old_hello_comes_right_after.Goals as goal

pub returns-clause-unbound : goal.returns-clause-unbound
unfolding on_transmit on_transmit_in
returns-clause-unbound c = λ s e own now phase owes mark. rw (phase, owes, mark) refl

pub returns-clause-bound : goal.returns-clause-bound
unfolding on_transmit on_transmit_in
returns-clause-bound c = λ s e life now phase owes mark. rw (phase, owes, mark) refl

pub returns-clause-worked : goal.returns-clause-worked
unfolding on_frame on_frame_in on_matched on_transmit on_transmit_in ready_run first_due
returns-clause-worked c = refl

pub returns-clause-worked_later : goal.returns-clause-worked_later
unfolding on_frame on_frame_in on_matched on_transmit on_transmit_in ready_run first_due
returns-clause-worked_later c = refl

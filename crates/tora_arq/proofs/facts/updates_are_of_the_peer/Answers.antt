use Rattle.tora_arq.proofs.PeerLemmas.{first_of_peer, call_of_peer, queued_of_peer, given_of_peer, every_run_of_peer}
use Rattle.tora_arq.proofs.facts.updates_are_of_the_peer.Goals as goal

pub returns-clause-first : goal.returns-clause-first
returns-clause-first c = first_of_peer

pub returns-clause-next : goal.returns-clause-next
returns-clause-next c = call_of_peer

pub returns-clause-queued : goal.returns-clause-queued
returns-clause-queued c = queued_of_peer

pub returns-clause-given : goal.returns-clause-given
returns-clause-given c = given_of_peer

pub returns-clause-run : goal.returns-clause-run
returns-clause-run c = λ s calls ok. (every_run_of_peer s calls ok).state

pub returns-clause-events : goal.returns-clause-events
returns-clause-events c = λ s calls ok. (every_run_of_peer s calls ok).events

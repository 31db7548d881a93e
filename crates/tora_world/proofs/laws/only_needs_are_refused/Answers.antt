use Rattle.tora_world.proofs.Refused.{refused_in_run, agreed_in_run}
use Rattle.tora_world.proofs.laws.only_needs_are_refused.Goals as goal

pub returns-clause-refused : goal.returns-clause-refused
returns-clause-refused c = λ t times es. refused_in_run c.layers_keep_their_laws.ensures.links c.layers_keep_their_laws.ensures.files c.layers_keep_their_laws.ensures.cores c.layers_keep_their_laws.ensures.seats t times es

pub returns-clause-accepted : goal.returns-clause-accepted
returns-clause-accepted c = λ t times es. agreed_in_run c.layers_keep_their_laws.ensures.links c.layers_keep_their_laws.ensures.files c.layers_keep_their_laws.ensures.cores c.layers_keep_their_laws.ensures.seats t times es

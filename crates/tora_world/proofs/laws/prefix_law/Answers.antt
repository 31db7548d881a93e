use Rattle.tora_world.proofs.AllRuns.{prefix, of_machine, acknowledged}
use Rattle.tora_world.proofs.Cores.{cores_follow}
use Rattle.tora_world.proofs.BoundOnce.{binds_once}
use Rattle.tora_world.proofs.laws.prefix_law.Goals as goal

pub returns-clause-prefix : goal.returns-clause-prefix
returns-clause-prefix c = λ t times es. prefix c.layers_keep_their_laws.ensures.links c.layers_keep_their_laws.ensures.files t times es

pub returns-clause-machine : goal.returns-clause-machine
returns-clause-machine c = λ t times es. of_machine c.layers_keep_their_laws.ensures.links c.layers_keep_their_laws.ensures.files t times es

pub returns-clause-cores : goal.returns-clause-cores
returns-clause-cores c = λ t times es. cores_follow c.layers_keep_their_laws.ensures.seats t times es

pub returns-clause-once : goal.returns-clause-once
returns-clause-once c = λ t times es. binds_once c.layers_keep_their_laws.ensures.links c.layers_keep_their_laws.ensures.files t times es

pub returns-clause-acknowledged : goal.returns-clause-acknowledged
returns-clause-acknowledged c = λ t times es. acknowledged c.layers_keep_their_laws.ensures.links c.layers_keep_their_laws.ensures.files t times es

use Rattle.tora_world.proofs.WalksDown.{walks_computed}
use Rattle.tora_world.proofs.WalksOfRuns.{walks_of_run, exact_of_run}
use Rattle.tora_world.proofs.laws.exact_entries_give_walks.Goals as goal

pub returns-clause-walks : goal.returns-clause-walks
returns-clause-walks c = λ t times es accepted ids d n height exact e.
    let laws = c.layers_keep_their_laws.ensures in
    walks_of_run laws.links laws.files laws.cores laws.rules t times es accepted ids d n height exact e

pub returns-clause-exact : goal.returns-clause-exact
returns-clause-exact c = λ t times es accepted ids d.
    let laws = c.layers_keep_their_laws.ensures in
    exact_of_run laws.links laws.files laws.cores laws.rules t times es accepted ids d

pub returns-clause-found : goal.returns-clause-found
returns-clause-found c = walks_computed

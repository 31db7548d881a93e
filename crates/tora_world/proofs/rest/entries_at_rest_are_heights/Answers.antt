use Rattle.tora_world.proofs.EntriesAtRest.{entries_are_heights, remembered_are_silent, stale_are_lost}
use Rattle.tora_world.proofs.rest.entries_at_rest_are_heights.Goals as goal

pub returns-clause-entries : goal.returns-clause-entries
returns-clause-entries c = λ t times es accepted ids rest.
    let laws = c.layers_keep_their_laws.ensures in
    entries_are_heights laws.links laws.files laws.cores laws.seats laws.rules t times es accepted ids rest

pub returns-clause-stale : goal.returns-clause-stale
returns-clause-stale c = λ t times es accepted ids rest.
    let laws = c.layers_keep_their_laws.ensures in
    stale_are_lost laws.links laws.files laws.cores laws.seats laws.rules t times es accepted ids rest

pub returns-clause-remembered : goal.returns-clause-remembered
returns-clause-remembered c = λ t times es accepted ids rest.
    let laws = c.layers_keep_their_laws.ensures in
    remembered_are_silent laws.links laws.files laws.cores laws.seats laws.rules t times es accepted ids rest

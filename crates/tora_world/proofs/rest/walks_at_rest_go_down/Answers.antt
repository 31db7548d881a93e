use Rattle.tora_world.proofs.AtRest.{hops_at_rest, walks_at_rest, loops_at_rest}
use Rattle.tora_world.proofs.rest.walks_at_rest_go_down.Goals as goal

pub returns-clause-hops : goal.returns-clause-hops
returns-clause-hops c = λ t times es accepted ids rest d n height other e.
    let laws = c.layers_keep_their_laws.ensures in
    hops_at_rest laws.links laws.files laws.cores laws.seats laws.rules t times es accepted ids rest d n height other e

pub returns-clause-walks : goal.returns-clause-walks
returns-clause-walks c = λ t times es accepted ids rest d n height e.
    let laws = c.layers_keep_their_laws.ensures in
    walks_at_rest laws.links laws.files laws.cores laws.seats laws.rules t times es accepted ids rest d n height e

pub returns-clause-loops : goal.returns-clause-loops
returns-clause-loops c = λ t times es accepted ids rest d n height nodes e follows have back.
    let laws = c.layers_keep_their_laws.ensures in
    loops_at_rest laws.links laws.files laws.cores laws.seats laws.rules t times es accepted ids rest d n height nodes e follows have back

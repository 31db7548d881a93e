use Rattle.tora_world.proofs.AtRest.{routes_at_rest}
use Rattle.tora_world.proofs.rest.routes_at_rest_arrive.Goals as goal

pub returns : goal.returns
returns c = λ t times es accepted ids rest d n height e none.
    let laws = c.layers_keep_their_laws.ensures in
    routes_at_rest laws.links laws.files laws.cores laws.seats laws.rules t times es accepted ids rest d n height e none

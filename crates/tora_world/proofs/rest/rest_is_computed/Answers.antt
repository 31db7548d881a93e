use Rattle.tora_world.proofs.RestComputed.{rests_is, is_rests}
use Rattle.tora_world.proofs.rest.rest_is_computed.Goals as goal

pub returns : goal.returns
returns c = λ w. (rests_is c.layers_keep_their_laws.ensures.cores w, is_rests c.layers_keep_their_laws.ensures.cores w)

use Rattle.tora_c.proofs.NewRouter.{unrefused}
use Rattle.tora_c.proofs.router_calls.tora_router_new.Goals as goal

pub returns-in-Err-boxed-clause-code : goal.returns-in-Err-boxed-clause-code
returns-in-Err-boxed-clause-code c =
    unrefused c.args.neighbours.now c.args.destinations.now c.args.first_life _ c.in-Some.config c.in-Err-boxed.code
    c.in-Some.ensures c.in-Ok.ensures.accepted c.in-Err-boxed.ensures.memory

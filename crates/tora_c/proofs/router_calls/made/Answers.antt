use Rattle.tora_c.proofs.NewRouter.{coded}
use Rattle.tora_c.proofs.router_calls.made.Goals as goal

pub returns-in-Err-clause-refused : goal.returns-in-Err-clause-refused
returns-in-Err-clause-refused c = coded _ _ _ _ _ c.router_code.ensures.value c.in-Err.ensures.refused

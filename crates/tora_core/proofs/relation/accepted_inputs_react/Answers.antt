use Rattle.tora_core.proofs.ReactsCore.{accepted-reacts}
use Rattle.tora_core.proofs.relation.accepted_inputs_react.Goals as goal

pub returns : goal.returns
returns c = accepted-reacts

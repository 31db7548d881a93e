use Rattle.tora_core.proofs.AfterInputs.{other-view}
use Rattle.tora_core.proofs.facts.other_views_stay.Goals as goal

pub returns : goal.returns
returns c = other-view

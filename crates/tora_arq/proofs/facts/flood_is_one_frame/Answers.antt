use Rattle.tora_arq.proofs.FloodLemmas.{flood_one, flood_only}
use Rattle.tora_arq.proofs.facts.flood_is_one_frame.Goals as goal

pub returns-clause-one : goal.returns-clause-one
returns-clause-one c = flood_one

pub returns-clause-only : goal.returns-clause-only
returns-clause-only c = flood_only

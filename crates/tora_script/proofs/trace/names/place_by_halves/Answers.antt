use Rattle.std.proofs.Common.{◌∙◌}
use Rattle.tora_script.proofs.RisingNames.{place_found}
use Rattle.tora_script.proofs.trace.names.place_by_halves.Goals as goal

pub returns : goal.returns
returns c = c.ok.ensures.value ∙ place_found c.args.numbers.now c.args.n c.binary_search.result c.requires c.binary_search.ensures.position

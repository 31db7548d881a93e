use Rattle.tora_core.proofs.LinkLemmas.{set-at}
use Rattle.tora_core.proofs.rows.put_entry.Goals as goal

pub returns : goal.returns
returns c = set-at c.args.place c.args.height c.args.rows.now c.index-rows-place.result c.requires

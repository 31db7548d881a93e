use Rattle.tora_key.proofs.Tags.{through, tagged, unforged}
use Rattle.tora_key.proofs.laws.keyed_links_give_what_was_tagged.Goals as goal

pub returns-clause-through : goal.returns-clause-through
returns-clause-through c = through

pub returns-clause-tagged : goal.returns-clause-tagged
returns-clause-tagged c = tagged

pub returns-clause-unforged : goal.returns-clause-unforged
returns-clause-unforged c = unforged

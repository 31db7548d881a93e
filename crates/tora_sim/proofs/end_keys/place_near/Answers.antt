use Rattle.std.proofs.Common.{◌∙◌}
use Rattle.tora_sim.proofs.Keys.{first_by_key}
use Rattle.tora_sim.proofs.end_keys.place_near.Goals as goal

pub returns-in-Some-clause-first : goal.returns-in-Some-clause-first
returns-in-Some-clause-first c =
    first_by_key c.args.n c.args.k c.args.links.now.items c.as_slice-ends.result.now (c.as_slice-ends.ensures.value ∙ c.requires.keys) c.in-Some.at c.requires.rising c.in-Some.ensures

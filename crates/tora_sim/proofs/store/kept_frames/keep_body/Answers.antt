use Rattle.std.proofs.Common.{◌∙◌}
use Rattle.tora_sim.proofs.store.kept_frames.keep_body.Goals as goal

pub returns-in-Data-clause-body : goal.returns-in-Data-clause-body
returns-in-Data-clause-body c = c.keep_data.ensures.body ∙ c.in-Data.ensures.value

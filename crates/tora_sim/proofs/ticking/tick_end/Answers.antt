use Rattle.tora_sim.proofs.TickEnds.{ticked_at}
use Rattle.tora_sim.proofs.ticking.tick_end.Goals as goal

pub returns : goal.returns
returns c link there = ticked_at c.args.now c.args.at c.args.links.now.items c.index_mut.result.now c.tick.new.self link c.requires c.index_mut.ensures.value c.tick.ensures there

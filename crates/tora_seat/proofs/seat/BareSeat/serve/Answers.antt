use Rattle.tora_seat.proofs.RelationHolds.{serves_so}
use Rattle.tora_seat.proofs.Steps.{item_goes}
use Rattle.tora_seat.proofs.seat.BareSeat.serve.Goals as goal

pub returns-clause-served : goal.returns-clause-served
returns-clause-served g c =
    item_goes g.O.OutLanes.did_offer c.args.item.now c.args.self.now c.args.outs.now c.begin.new.self c.try_cuts.new.self c.try_cuts.new.outs c.on_item.new.self c.on_item.new.outs
    c.begin.ensures c.try_cuts.ensures.goes c.on_item.ensures.goes

pub returns-clause-related : goal.returns-clause-related
returns-clause-related g c = λ up. serves_so g.O.OutLanes.did_offer c.args.item.now c.args.self.now c.args.outs.now c.on_item.new.self c.on_item.new.outs up (returns-clause-served g c)

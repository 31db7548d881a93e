use Rattle.tora_seat.proofs.CutOffers.{cut_there, cut_nowhere}
use Rattle.tora_seat.proofs.seat.BareSeat.on_cut.Goals as goal

pub returns-in-Some-clause-goes : goal.returns-in-Some-clause-goes
returns-in-Some-clause-goes g c =
    cut_there g.O.OutLanes.did_offer c.args.self.now c.args.outs.now c.on_cut_at.new.self c.on_cut_at.new.outs c.in-Some.place c.args.k c.args.now c.in-Some.ensures c.on_cut_at.ensures.goes

pub returns-in_default-clause-goes : goal.returns-in_default-clause-goes
returns-in_default-clause-goes g c = cut_nowhere g.O.OutLanes.did_offer c.args.self.now c.args.outs.now c.args.k c.args.now c.in_default.ensures

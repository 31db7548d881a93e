use Rattle.std.proofs.Common.{◌≡◌, Option, false, subst}
use Rattle.tora_arq.specs.declared.life.Life.{Life}
use Rattle.tora_core.specs.Numbers.{has_repeat}
use Rattle.tora_core.specs.CoreRun.{CoreView}
use Rattle.tora_seat.specs.Serving.{with_pending}
use Rattle.tora_seat.specs.Rows.{serving_at}
use Rattle.tora_seat.proofs.Seats.{ascending_differ}
use Rattle.tora_seat.proofs.CutOffers.{ask_goes}
use Rattle.tora_seat.proofs.seat.BareSeat.ask_cut.Goals as goal

pub returns-clause-goes : goal.returns-clause-goes
returns-clause-goes g c =
    ask_goes g.O.OutLanes.did_offer c.args.self.now c.set_pending.new.self c.args.outs.now c.offer-is_put.new.self c.args.peer.place c.args.peer.id c.args.now c.args.life c.offer-is_put.result
    (subst (λ (x : CoreView). has_repeat x.neighbours ≡ false) c.core.ensures (ascending_differ c.core.result.now.neighbours c.me-me.ensures.kept.ascending_neighbours)) c.requires.place c.offer-is_put.ensures.offered c.set_pending.ensures.rest
    (λ now before. subst (λ (o : Option Life). with_pending (serving_at now c.args.self.now before) c.args.peer.id o ≡ serving_at now c.set_pending.new.self before) c.left_pending.ensures (c.set_pending.ensures.set now before))

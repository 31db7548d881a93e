use Rattle.std.proofs.Common.{refl}
use Rattle.tora_seat.specs.Rows.{SeatView}
use Rattle.tora_seat.proofs.Steps.{other_need_goes, other_cut_goes, other_idle_goes, other_show_goes, other_status_goes, other_quit_goes}
use Rattle.tora_seat.proofs.seat.BareSeat.on_other_item.Goals as goal

pub returns-in-Need-clause-goes : goal.returns-in-Need-clause-goes
returns-in-Need-clause-goes g c = other_need_goes g.O.OutLanes.did_offer c.args.now c.args.self.now c.args.outs.now c.take_in_calm.new.self c.take_in_calm.new.outs c.args.what.now c.in-Need.d c.in-Need.is c.take_in_calm.ensures.goes

pub returns-in-Cut-clause-goes : goal.returns-in-Cut-clause-goes
returns-in-Cut-clause-goes g c = other_cut_goes g.O.OutLanes.did_offer c.args.now c.args.self.now c.args.outs.now c.on_cut.new.self c.on_cut.new.outs c.args.what.now c.in-Cut.k c.in-Cut.is c.on_cut.ensures.goes

pub returns-in-Show-clause-goes : goal.returns-in-Show-clause-goes
returns-in-Show-clause-goes g c =
    let i = c.self.inside in
    let s : SeatView = record { core = i.core; rows = i.rows.items; inputs = i.inputs.items; stepped = i.stepped; answer = i.answer } in
    other_show_goes g.O.OutLanes.did_offer c.args.now c.args.self.now c.args.outs.now c.args.what.now s c.self.view_is c.in-Show.is

pub returns-in-Status-clause-goes : goal.returns-in-Status-clause-goes
returns-in-Status-clause-goes g c =
    let i = c.self-in-Status.inside in
    let s : SeatView = record { core = i.core; rows = i.rows.items; inputs = i.inputs.items; stepped = i.stepped; answer = i.answer } in
    other_status_goes g.O.OutLanes.did_offer c.args.now c.args.self.now c.args.outs.now c.args.what.now _ s c.self-in-Status.view_is c.in-Status.is

pub returns-in-Quit-clause-goes : goal.returns-in-Quit-clause-goes
returns-in-Quit-clause-goes g c =
    let i = c.self-in-Quit.inside in
    let s : SeatView = record { core = i.core; rows = i.rows.items; inputs = i.inputs.items; stepped = i.stepped; answer = i.answer } in
    other_quit_goes g.O.OutLanes.did_offer c.args.now c.args.self.now c.args.outs.now c.args.what.now s c.self-in-Quit.view_is c.in-Quit.is

pub returns-in-Up-clause-goes : goal.returns-in-Up-clause-goes
returns-in-Up-clause-goes g c = other_idle_goes g.O.OutLanes.did_offer c.args.now c.args.self.now c.args.outs.now c.args.what.now _ c.in-Up.is refl

pub returns-in-Packet-clause-goes : goal.returns-in-Packet-clause-goes
returns-in-Packet-clause-goes g c = other_idle_goes g.O.OutLanes.did_offer c.args.now c.args.self.now c.args.outs.now c.args.what.now _ c.in-Packet.is refl

pub returns-in-Down-clause-goes : goal.returns-in-Down-clause-goes
returns-in-Down-clause-goes g c = other_idle_goes g.O.OutLanes.did_offer c.args.now c.args.self.now c.args.outs.now c.args.what.now _ c.in-Down.is refl

pub returns-in-Beat-clause-goes : goal.returns-in-Beat-clause-goes
returns-in-Beat-clause-goes g c = other_idle_goes g.O.OutLanes.did_offer c.args.now c.args.self.now c.args.outs.now c.args.what.now _ c.in-Beat.is refl

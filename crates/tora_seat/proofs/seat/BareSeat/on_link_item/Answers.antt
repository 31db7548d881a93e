use Rattle.tora_seat.specs.Rows.{SeatView}
use Rattle.tora_seat.proofs.Steps.{link_up_goes, link_packet_goes, link_down_goes, link_need_goes, link_beat_goes, link_cut_goes, link_show_goes, link_status_goes, link_quit_goes}
use Rattle.tora_seat.proofs.seat.BareSeat.on_link_item.Goals as goal

pub returns-in-Up-clause-goes : goal.returns-in-Up-clause-goes
returns-in-Up-clause-goes g c = link_up_goes g.O.OutLanes.did_offer c.args.now c.args.self.now c.args.outs.now c.on_up.new.self c.on_up.new.outs c.args.peer.id c.args.what.now c.in-Up.life c.in-Up.is c.on_up.ensures.goes

pub returns-in-Packet-clause-goes : goal.returns-in-Packet-clause-goes
returns-in-Packet-clause-goes g c = link_packet_goes g.O.OutLanes.did_offer c.args.now c.args.self.now c.args.outs.now c.on_packet.new.self c.on_packet.new.outs c.args.peer.id c.args.what.now c.in-Packet.life c.in-Packet.packet c.in-Packet.is c.on_packet.ensures.goes

pub returns-in-Down-clause-goes : goal.returns-in-Down-clause-goes
returns-in-Down-clause-goes g c = link_down_goes g.O.OutLanes.did_offer c.args.now c.args.self.now c.args.outs.now c.on_down.new.self c.on_down.new.outs c.args.peer.id c.args.what.now c.in-Down.life _ c.in-Down.is c.on_down.ensures.goes

pub returns-in-Need-clause-goes : goal.returns-in-Need-clause-goes
returns-in-Need-clause-goes g c = link_need_goes g.O.OutLanes.did_offer c.args.now c.args.self.now c.args.outs.now c.take_in_calm.new.self c.take_in_calm.new.outs c.args.peer.id c.args.what.now c.in-Need.d c.in-Need.is c.take_in_calm.ensures.goes

pub returns-in-Cut-clause-goes : goal.returns-in-Cut-clause-goes
returns-in-Cut-clause-goes g c = link_cut_goes g.O.OutLanes.did_offer c.args.now c.args.self.now c.args.outs.now c.args.peer.id c.args.what.now _ c.in-Cut.is

pub returns-in-Beat-clause-goes : goal.returns-in-Beat-clause-goes
returns-in-Beat-clause-goes g c = link_beat_goes g.O.OutLanes.did_offer c.args.now c.args.self.now c.args.outs.now c.args.peer.id c.args.what.now c.in-Beat.is

pub returns-in-Show-clause-goes : goal.returns-in-Show-clause-goes
returns-in-Show-clause-goes g c =
    let i = c.self.inside in
    let s : SeatView = record { core = i.core; rows = i.rows.items; inputs = i.inputs.items; stepped = i.stepped; answer = i.answer } in
    link_show_goes g.O.OutLanes.did_offer c.args.now c.args.self.now c.args.outs.now c.args.peer.id c.args.what.now s c.self.view_is c.in-Show.is

pub returns-in-Status-clause-goes : goal.returns-in-Status-clause-goes
returns-in-Status-clause-goes g c =
    let i = c.self-in-Status.inside in
    let s : SeatView = record { core = i.core; rows = i.rows.items; inputs = i.inputs.items; stepped = i.stepped; answer = i.answer } in
    link_status_goes g.O.OutLanes.did_offer c.args.now c.args.self.now c.args.outs.now c.args.peer.id c.args.what.now _ s c.self-in-Status.view_is c.in-Status.is

pub returns-in-Quit-clause-goes : goal.returns-in-Quit-clause-goes
returns-in-Quit-clause-goes g c =
    let i = c.self-in-Quit.inside in
    let s : SeatView = record { core = i.core; rows = i.rows.items; inputs = i.inputs.items; stepped = i.stepped; answer = i.answer } in
    link_quit_goes g.O.OutLanes.did_offer c.args.now c.args.self.now c.args.outs.now c.args.peer.id c.args.what.now s c.self-in-Quit.view_is c.in-Quit.is

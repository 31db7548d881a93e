use Rattle.std.proofs.Common.{◌++◌, ap, ap₂, ◌∙◌, List}
use Rattle.tora_packet.specs.declared.Packet.{Packet}
use Rattle.tora_seat.specs.declared.cargo.Cargo.{Cargo}
use Rattle.tora_world.specs.Lists.{packets_of, parcels_in}
use Rattle.tora_sim.specs.Lane.{LaneView}
use Rattle.tora_sim.proofs.LaneLists.{packets_both}
use Rattle.tora_sim.proofs.store.lane.Lane.sent.Goals as goal

pub returns : goal.returns
returns c =
    let l = c.self.inside in
    let life = c.args.life in
    let past = packets_of life (parcels_in l.past.items) in
    c.in_ok-list_put.ensures ∙ ap (λ (ps : List Packet). ps ++ packets_of life (parcels_in c.as_slice.result.now)) c.in_ok-list_kept.ensures
    ∙ ap₂ (λ (ps : List Packet) (cs : List Cargo). (ps ++ past) ++ packets_of life (parcels_in cs)) c.new-packets.ensures.items c.as_slice.ensures.items
    ∙ packets_both life l.past.items l.cargoes.items ∙ ap (λ (v : LaneView). packets_of life (parcels_in v.put)) c.self.view_is

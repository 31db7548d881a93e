use Rattle.std.proofs.Common.{◌≡◌, ◌+◌, length, ap, ◌∙◌, List, arith, sym, length-append}
use Rattle.tora_packet.specs.declared.Packet.{Packet}
use Rattle.tora_seat.specs.declared.cargo.Cargo.{Cargo}
use Rattle.tora_world.specs.Lists.{packets_of, parcels_in}
use Rattle.tora_sim.specs.Lane.{LaneView}
use Rattle.tora_sim.proofs.LaneLists.{packets_both}
use Rattle.tora_sim.proofs.store.lane.Lane.sent_count.Goals as goal

pub overflow_add-result : goal.overflow_add-result
overflow_add-result c =
    omega (arith, c.count_kept.ensures.few, c.count_put.ensures.few, c.as_slice.ensures.most)

pub returns : goal.returns
returns c =
    let l = c.self.inside in
    let life = c.args.life in
    let last = ap (λ (cs : List Cargo). length (packets_of life (parcels_in cs))) c.as_slice.ensures.items in
    let sum : c.count_kept.result + c.count_put.result ≡ length (packets_of life (parcels_in l.past.items)) + length (packets_of life (parcels_in l.cargoes.items)) =
    omega (arith, c.count_kept.ensures.count, c.count_put.ensures.count, last) in
    sum ∙ sym (length-append (packets_of life (parcels_in l.past.items)) (packets_of life (parcels_in l.cargoes.items)))
    ∙ ap (λ (ps : List Packet). length ps) (packets_both life l.past.items l.cargoes.items) ∙ ap (λ (v : LaneView). length (packets_of life (parcels_in v.put))) c.self.view_is

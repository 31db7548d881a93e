use Rattle.std.proofs.Common.{◌≡◌, length, ap, sym, ◌∙◌, arith}
use Rattle.tora_core.specs.Numbers.{has_repeat}
use Rattle.tora_seat.proofs.Places.{neighbours-length}
use Rattle.tora_seat.proofs.Goings.{sending_more, sending_all}
use Rattle.tora_seat.proofs.Marks.{ends_more}
use Rattle.tora_seat.proofs.rows.broadcast_all.Goals as goal

pub broadcast-is_over-requires-clause-lanes : goal.broadcast-is_over-requires-clause-lanes
broadcast-is_over-requires-clause-lanes g c =
    let h = c.loop-packet.invariant in
    let n : length c.loop-packet.rows ≡ length c.args.rows.now = sym (neighbours-length c.loop-packet.rows) ∙ ap length h.sending.same ∙ neighbours-length c.args.rows.now in
    omega (arith, n, h.same_count, c.requires.lanes)

pub broadcast-is_over-requires-clause-different : goal.broadcast-is_over-requires-clause-different
broadcast-is_over-requires-clause-different g c = ap has_repeat c.loop-packet.invariant.sending.same ∙ c.requires.different

pub loop-packet-preserved : goal.loop-packet-preserved
loop-packet-preserved g c = record {
  same_count = c.broadcast-is_over.ensures.count ∙ c.loop-packet.invariant.same_count;
  sending = sending_more g.O.OutLanes.did_offer c.args.packets.now c.args.rows.now c.args.outs.now c.loop-packet.packet-index c.loop-packet.rows c.loop-packet.outs c.broadcast-is_over.new.rows c.broadcast-is_over.new.outs c.packet-item.result
      c.loop-packet-test.true c.packet-item.is c.loop-packet.invariant.sending c.broadcast-is_over.ensures.goes;
  ends = ends_more c.loop-packet.is_over c.broadcast-is_over.result c.args.rows.now c.loop-packet.rows c.broadcast-is_over.new.rows c.loop-packet.invariant.ends c.broadcast-is_over.ensures.ends;
}

pub returns-clause-goes : goal.returns-clause-goes
returns-clause-goes g c =
    let at_end : c.loop-packet.packet-index ≡ length c.args.packets.now = omega (arith, c.loop-packet.auto.packet-index-end, c.loop-packet-test.false) in
    sending_all g.O.OutLanes.did_offer c.args.packets.now c.args.rows.now c.args.outs.now c.loop-packet.packet-index c.loop-packet.rows c.loop-packet.outs at_end c.loop-packet.invariant.sending

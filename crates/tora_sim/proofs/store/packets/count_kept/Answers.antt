use Rattle.std.proofs.Common.{◌+◌, ◌<◌, length, drop, ap, sym, ◌∙◌, arith}
use Rattle.tora_world.specs.Lists.{packets_of, parcels_in}
use Rattle.tora_sim.proofs.InTurn.{one_more, none_more}
use Rattle.tora_sim.proofs.KeptMore.{kept_in_turn}
use Rattle.tora_sim.proofs.store.packets.count_kept.Goals as goal
use Rattle.tora_sim.proofs.store.packets.count_kept.Goals.{then-is_some, else-is_some}

pub loop-place-preserved : goal.loop-place-preserved
loop-place-preserved c =
    let cargoes = c.args.kept.now.items in
    let less : c.loop-place.place < length cargoes = omega (arith, c.loop-place-test.true, c.len-place-end.ensures.len) in
    let size = ap length (kept_in_turn c.args.life cargoes c.loop-place.place c.packet_kept.result less c.packet_kept.ensures) in
    elim c.if-is_some.branch [
      | then-is_some w ↦ (let one = one_more c.packet_kept.result (packets_of c.args.life (parcels_in (drop (c.loop-place.place + 1) cargoes))) (sym c.is_some.ensures ∙ w.if-is_some.true) in record { few = omega arith; all = omega arith })
      | else-is_some w ↦ (let none = none_more c.packet_kept.result (packets_of c.args.life (parcels_in (drop (c.loop-place.place + 1) cargoes))) (sym c.is_some.ensures ∙ w.if-is_some.false) in record { few = omega arith; all = omega arith })
    ]

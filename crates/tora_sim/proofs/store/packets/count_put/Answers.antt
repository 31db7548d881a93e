use Rattle.std.proofs.Common.{◌+◌, List, length, drop, ap, sym, ◌∙◌, arith}
use Rattle.tora_seat.specs.declared.cargo.Cargo.{Cargo}
use Rattle.tora_world.specs.Lists.{packets_of, parcels_in}
use Rattle.tora_sim.proofs.InTurn.{turn, put_in_turn, one_more, none_more}
use Rattle.tora_sim.proofs.store.packets.count_put.Goals as goal
use Rattle.tora_sim.proofs.store.packets.count_put.Goals.{then-is_some, else-is_some}

pub loop-cargo-preserved : goal.loop-cargo-preserved
loop-cargo-preserved c =
    let size = ap length (turn (λ (cargoes : List Cargo). packets_of c.args.life (parcels_in cargoes)) (put_in_turn c.args.life) c.args.put.now c.loop-cargo.cargo-index c.cargo-item.result c.packet_put.result c.loop-cargo-test.true c.cargo-item.is c.packet_put.ensures) in
    elim c.if-is_some.branch [
      | then-is_some w ↦ (let one = one_more c.packet_put.result (packets_of c.args.life (parcels_in (drop (c.loop-cargo.cargo-index + 1) c.args.put.now))) (sym c.is_some.ensures ∙ w.if-is_some.true) in record { few = omega arith; all = omega arith })
      | else-is_some w ↦ (let none = none_more c.packet_put.result (packets_of c.args.life (parcels_in (drop (c.loop-cargo.cargo-index + 1) c.args.put.now))) (sym c.is_some.ensures ∙ w.if-is_some.false) in record { few = omega arith; all = omega arith })
    ]

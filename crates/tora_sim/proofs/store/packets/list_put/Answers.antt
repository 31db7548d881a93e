use Rattle.std.proofs.Common.{◌+◌, ◌++◌, List, drop, ap, ◌∙◌}
use Rattle.tora_seat.specs.declared.cargo.Cargo.{Cargo}
use Rattle.tora_world.specs.Lists.{packets_of, parcels_in}
use Rattle.tora_sim.proofs.InTurn.{turn, put_in_turn, put_more, put_none}
use Rattle.tora_sim.proofs.store.packets.list_put.Goals as goal
use Rattle.tora_sim.proofs.store.packets.list_put.Goals.{in-Some+in_ok-push-in-Some, in-None}

pub loop-cargo-preserved : goal.loop-cargo-preserved
loop-cargo-preserved c =
    let gives = turn (λ (cargoes : List Cargo). packets_of c.args.life (parcels_in cargoes)) (put_in_turn c.args.life) c.args.put.now c.loop-cargo.cargo-index c.cargo-item.result c.packet_put.result c.loop-cargo-test.true c.cargo-item.is c.packet_put.ensures in
    elim c.match-packet_put.branch [
      | in-Some+in_ok-push-in-Some w ↦ put_more c.loop-cargo.packets.items c.match-packet_put.packets.items (packets_of c.args.life (parcels_in (drop c.loop-cargo.cargo-index c.args.put.now))) (packets_of c.args.life (parcels_in (drop (c.loop-cargo.cargo-index + 1) c.args.put.now))) (c.args.packets.now.items ++ packets_of c.args.life (parcels_in c.args.put.now)) c.packet_put.result w.in-Some.packet w.in-Some.is (ap (λ v. v.items) w.packets-is ∙ w.in_ok-push-in-Some.ensures.items) gives c.loop-cargo.invariant
      | in-None w ↦ put_none c.loop-cargo.packets.items c.match-packet_put.packets.items (packets_of c.args.life (parcels_in (drop c.loop-cargo.cargo-index c.args.put.now))) (packets_of c.args.life (parcels_in (drop (c.loop-cargo.cargo-index + 1) c.args.put.now))) (c.args.packets.now.items ++ packets_of c.args.life (parcels_in c.args.put.now)) c.packet_put.result w.in-None.is (ap (λ v. v.items) w.packets-is) gives c.loop-cargo.invariant
    ]

use Rattle.std.proofs.Common.{◌+◌, ◌<◌, ◌++◌, length, drop, ap, ◌∙◌, arith}
use Rattle.tora_world.specs.Lists.{packets_of, parcels_in}
use Rattle.tora_sim.proofs.InTurn.{put_more, put_none}
use Rattle.tora_sim.proofs.KeptMore.{kept_in_turn}
use Rattle.tora_sim.proofs.store.packets.list_kept.Goals as goal
use Rattle.tora_sim.proofs.store.packets.list_kept.Goals.{in-Some+in_ok-push-in-Some, in-None}

pub loop-place-preserved : goal.loop-place-preserved
loop-place-preserved c =
    let cargoes = c.args.kept.now.items in
    let i = c.loop-place.place in
    let life = c.args.life in
    let all = c.args.packets.now.items ++ packets_of life (parcels_in cargoes) in
    let less : i < length cargoes = omega (arith, c.loop-place-test.true, c.len-place-end.ensures.len) in
    let gives = kept_in_turn life cargoes i c.packet_kept.result less c.packet_kept.ensures in
    elim c.match-packet_kept.branch [
      | in-Some+in_ok-push-in-Some w ↦ put_more c.loop-place.packets.items c.match-packet_kept.packets.items (packets_of life (parcels_in (drop i cargoes))) (packets_of life (parcels_in (drop (i + 1) cargoes))) all c.packet_kept.result w.in-Some.packet w.in-Some.is (ap (λ v. v.items) w.packets-is ∙ w.in_ok-push-in-Some.ensures.items) gives c.loop-place.invariant
      | in-None w ↦ put_none c.loop-place.packets.items c.match-packet_kept.packets.items (packets_of life (parcels_in (drop i cargoes))) (packets_of life (parcels_in (drop (i + 1) cargoes))) all c.packet_kept.result w.in-None.is (ap (λ v. v.items) w.packets-is) gives c.loop-place.invariant
    ]

use Rattle.tora_arq.specs.StateView.{settings_in, state_in}
use Rattle.tora_arq.proofs.RangeLemmas.{submit_kept}
use Rattle.tora_arq.proofs.PlaceLemmas.{submit_place, keeps, roomier}
use Rattle.tora_arq.proofs.growing_end.GrowingEnd.submit.Goals as goal

pub invariant_of-self : goal.invariant_of-self
invariant_of-self c =
    let s = settings_in c.self.inside.settings in
    let wide = c.make_packet_room.new.self in
    let k = roomier s c.self.inside.state wide c.make_packet_room.ensures.state c.make_packet_room.ensures.more c.self.invariant in
    keeps s wide c.submit.new.self _ c.submit.ensures.state c.submit.ensures.rooms (submit_kept s (state_in wide) c.args.life c.args.packet k.0)
    (submit_place wide.events.capacity (state_in wide) c.args.life c.args.packet k.1)

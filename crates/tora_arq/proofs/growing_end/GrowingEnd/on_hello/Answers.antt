use Rattle.std.proofs.Common.{◌<◌, ◌-◌, length, ap, arith}
use Rattle.tora_frame.specs.FrameParts.{frame_of}
use Rattle.tora_frame.specs.declared.parts.Body.TheVariants.{Hello}
use Rattle.tora_arq.specs.LinkEnd.{EndState}
use Rattle.tora_arq.specs.StateView.{settings_in, state_in}
use Rattle.tora_arq.proofs.RangeLemmas.{frame_kept}
use Rattle.tora_arq.proofs.PlaceLemmas.{frame_place, keeps, roomier}
use Rattle.tora_arq.proofs.growing_end.GrowingEnd.on_hello.Goals as goal

pub invariant_of-self : goal.invariant_of-self
invariant_of-self c =
    let s = settings_in c.self.inside.settings in
    let wide = c.make_event_room.new.self in
    let f = frame_of c.args.header.now Hello in
    let k = roomier s c.self.inside.state wide c.make_event_room.ensures.state c.make_event_room.ensures.more c.self.invariant in
    let same = ap (λ (e : EndState). length e.events) c.make_event_room.ensures.state in
    let place : length wide.events.items < wide.events.capacity - 1 = omega (arith, same, c.in-Ok.ensures.room) in
    keeps s wide c.on_hello.new.self _ c.on_hello.ensures.state c.on_hello.ensures.rooms (frame_kept s (state_in wide) f c.args.now (record { header = c.requires; body = tt }) k.0)
    (frame_place wide.events.capacity s (state_in wide) f c.args.now k.0.window (record { place = place; body = tt }))

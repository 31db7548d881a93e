use Rattle.std.proofs.Common.{◌-◌, ◌⊎◌, sym, subst}
use Rattle.tora_arq.specs.LinkEnd.{EndState}
use Rattle.tora_arq.specs.Rooms.{HasLists, HasFrameRoom}
use Rattle.tora_arq.specs.StateView.{settings_in, state_in}
use Rattle.tora_arq.proofs.RangeLemmas.{frame_kept}
use Rattle.tora_arq.proofs.PlaceLemmas.{heard_place, keeps, roomier}
use Rattle.tora_arq.proofs.growing_end.GrowingEnd.on_borrowed_frame.Goals as goal

pub invariant_of-self : goal.invariant_of-self
invariant_of-self c =
    let s = settings_in c.self.inside.settings in
    let wide = c.make_frame_room.new.self in
    let k = roomier s c.self.inside.state wide c.make_frame_room.ensures.state c.make_frame_room.ensures.more c.self.invariant in
    let room = subst (λ (e : EndState). HasLists wide.events.capacity wide.held.capacity ⊎ HasFrameRoom (wide.events.capacity - 1) c.args.frame.now e) (sym c.make_frame_room.ensures.state) c.in-Ok.ensures.room in
    let kept = frame_kept s (state_in wide) c.args.frame.now c.args.now c.on_frame.ensures.valid k.0 in
    keeps s wide c.on_frame.new.self _ c.on_frame.ensures.state c.on_frame.ensures.rooms kept (heard_place wide.events.capacity wide.held.capacity s (state_in wide) c.args.frame.now c.args.now k.0.window kept room)

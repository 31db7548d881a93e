use Rattle.std.proofs.Common.{refl}
use Rattle.tora_arq.specs.LinkEnd.{EndState}
use Rattle.tora_arq.specs.EndRange.{IsEndState}
use Rattle.tora_arq.specs.Rooms.{HasEventPlace}
use Rattle.tora_arq.specs.StateView.{settings_in, state_in}
use Rattle.tora_arq.proofs.RangeLemmas.{transmit_kept}
use Rattle.tora_arq.proofs.PlaceLemmas.{transmit_place, after_some, keeps}
use Rattle.tora_arq.proofs.growing_end.GrowingEnd.poll_hello.Goals as goal

pub invariant_of-self : goal.invariant_of-self
invariant_of-self c =
    let s = settings_in c.self.inside.settings in
    let e = state_in c.self.inside.state in
    let places = c.self.inside.state.events.capacity in
    let both = after_some (λ (x : EndState). IsEndState s x × HasEventPlace places x) c.poll_first_hello.result c.self.inside.state c.poll_first_hello.new.self _ c.poll_first_hello.ensures.state c.poll_first_hello.ensures.same c.self.invariant
    (transmit_kept s e c.args.now c.self.invariant.0, transmit_place places s e c.args.now c.self.invariant.1) in
    keeps s c.self.inside.state c.poll_first_hello.new.self (state_in c.poll_first_hello.new.self) refl c.poll_first_hello.ensures.rooms both.0 both.1

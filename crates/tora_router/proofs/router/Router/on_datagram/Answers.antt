use Rattle.std.proofs.Common.{◌≡◌, ◌<◌, List, length, refl, sym, ap, ◌∙◌, subst, arith}
use Rattle.tora_frame.specs.FrameGrammar.{frame_reading}
use Rattle.tora_router.specs.Links.{heard}
use Rattle.tora_router.specs.Router.{RouterView, router_of}
use Rattle.tora_router.proofs.Calls.{kept}
use Rattle.tora_router.proofs.router.Router.on_datagram.Goals as goal

pub invariant_of-self : goal.invariant_of-self
invariant_of-self c =
    kept (heard c.args.now (frame_reading c.args.datagram.now)) c.in-Some.place c.self.inside.links c.hear-intake.new.self (length c.self.inside.seat.core.neighbours) c.hear-intake.ensures.heard c.self.invariant

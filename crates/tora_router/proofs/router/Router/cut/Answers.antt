use Rattle.std.proofs.Common.{◌≡◌, ◌<◌, List, length, refl, sym, ap, ◌∙◌, subst, arith}
use Rattle.tora_router.specs.Links.{cut}
use Rattle.tora_router.specs.Router.{RouterView, router_of}
use Rattle.tora_router.proofs.Calls.{kept}
use Rattle.tora_router.proofs.router.Router.cut.Goals as goal

pub invariant_of-self : goal.invariant_of-self
invariant_of-self c = kept cut c.in-Some.place c.self.inside.links c.cut.new.self (length c.self.inside.seat.core.neighbours) c.cut.ensures c.self.invariant

use Rattle.std.proofs.Common.{◌≡◌, ◌<◌, List, length, refl, sym, ap, ◌∙◌, subst, arith}
use Rattle.tora_router.specs.Links.{told}
use Rattle.tora_router.specs.Router.{RouterView, router_of}
use Rattle.tora_router.proofs.Calls.{kept}
use Rattle.tora_router.proofs.router.Router.poll_change.Goals as goal

pub invariant_of-self : goal.invariant_of-self
invariant_of-self c = kept told c.in-Some.field-0-0 c.self.inside.links c.poll_news.new.self (length c.self.inside.seat.core.neighbours) c.in-Some.ensures.some c.self.invariant

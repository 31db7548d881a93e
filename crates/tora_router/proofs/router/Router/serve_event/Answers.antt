use Rattle.std.proofs.Common.{◌≡◌, None, sym, ap, ◌∙◌}
use Rattle.tora_router.specs.Links.{first_in, event_of}
use Rattle.tora_router.specs.Router.{RouterView, router_of}
use Rattle.tora_router.proofs.Calls.{was_none}
use Rattle.tora_router.proofs.Served.{none_left}
use Rattle.tora_router.proofs.router.Router.serve_event.Goals as goal

pub returns-then-not-has_event-clause-served : goal.returns-then-not-has_event-clause-served
returns-then-not-has_event-clause-served c =
    let none : first_in event_of c.args.self.now.links ≡ None = ap (λ (v : RouterView). first_in event_of v.links) (sym c.self.view_is) ∙ was_none (first_in event_of c.self.inside.links) (sym c.has_event.ensures ∙ c.if-not-has_event.true) in
    sym (none_left c.args.now (router_of c.args.self.now) none)

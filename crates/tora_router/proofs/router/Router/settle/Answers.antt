use Rattle.std.proofs.Common.{◌≡◌, None, sym, ap, ◌∙◌}
use Rattle.tora_router.specs.Links.{first_in, event_of}
use Rattle.tora_router.specs.Router.{RouterState, router_of}
use Rattle.tora_router.proofs.Calls.{was_found, was_none}
use Rattle.tora_router.proofs.Served.{none_left}
use Rattle.tora_router.proofs.Settling.{none_served, one_served, fewer_wait, all_served}
use Rattle.tora_router.proofs.router.Router.settle.Goals as goal

pub events-init : goal.events-init
events-init c = none_served c.args.now (router_of c.args.self.now)

pub events-preserved : goal.events-preserved
events-preserved c =
    let f = was_found (first_in event_of c.events.self.links) (sym c.serve_event.ensures.answer ∙ c.events-test.true) in
    one_served c.args.now (router_of c.args.self.now) (router_of c.events.self) (router_of c.serve_event.new.self) f.0 f.1 c.serve_event.ensures.served c.events.invariant

pub events-smaller : goal.events-smaller
events-smaller c =
    let f = was_found (first_in event_of c.events.self.links) (sym c.serve_event.ensures.answer ∙ c.events-test.true) in
    fewer_wait c.args.now (router_of c.events.self) (router_of c.serve_event.new.self) f.0 f.1 c.serve_event.ensures.served

pub returns-clause-settled : goal.returns-clause-settled
returns-clause-settled c =
    let e : first_in event_of c.events.self.links ≡ None = was_none (first_in event_of c.events.self.links) (sym c.serve_event.ensures.answer ∙ c.events-test.false) in
    c.serve_event.ensures.served ∙ none_left c.args.now (router_of c.events.self) e ∙ all_served c.args.now (router_of c.args.self.now) (router_of c.events.self) e c.events.invariant

pub returns-clause-none : goal.returns-clause-none
returns-clause-none c =
    let e : first_in event_of c.events.self.links ≡ None = was_none (first_in event_of c.events.self.links) (sym c.serve_event.ensures.answer ∙ c.events-test.false) in
    ap (λ (r : RouterState). first_in event_of r.links) (c.serve_event.ensures.served ∙ none_left c.args.now (router_of c.events.self) e) ∙ e

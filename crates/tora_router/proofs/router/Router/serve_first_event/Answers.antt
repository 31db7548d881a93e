use Rattle.std.proofs.Common.{◌≡◌, ◌<◌, List, length, refl, sym, ap, ◌∙◌, subst, arith}
use Rattle.tora_seat.specs.declared.what.What.{What}
use Rattle.tora_router.specs.declared.link.Link.{Link}
use Rattle.tora_router.specs.Links.{polled}
use Rattle.tora_router.specs.Router.{after_item, item_at, after_first_event}
use Rattle.tora_router.specs.Router.{RouterView, router_of}
use Rattle.tora_router.proofs.Calls.{kept, no_event, event_served}
use Rattle.tora_router.proofs.router.Router.serve_first_event.Goals as goal

pub returns-in_default-clause-served : goal.returns-in_default-clause-served
returns-in_default-clause-served c =
    let i = c.self.inside in
    let r : RouterView = record { seat = i.seat; links = i.links; hops = i.hops.items; next_life = i.next_life } in
    ap (λ (ls : List Link). router_of (record r { links = ls })) c.in_default.ensures.none ∙ no_event r c.args.now c.in_default.ensures.first ∙ ap (λ (v : RouterView). after_first_event c.args.now (router_of v)) c.self.view_is

pub invariant_of-self-2 : goal.invariant_of-self-2
invariant_of-self-2 c = kept (polled c.in-Some.event) c.in-Some.seat c.self.inside.links c.poll.new.self (length c.self.inside.seat.core.neighbours) c.in-Some.ensures.some c.self.invariant

pub returns-clause-served : goal.returns-clause-served
returns-clause-served c =
    let i = c.self.inside in
    let r : RouterView = record { seat = i.seat; links = i.links; hops = i.hops.items; next_life = i.next_life } in
    event_served r c.args.now c.poll.new.self (c.in-Some.seat, c.in-Some.event) (router_of c.serve.new.self) c.in-Some.ensures.first c.in-Some.ensures.some
    (c.serve.ensures.served ∙ ap (λ (what : What). after_item (router_of (record r { links = c.poll.new.self })) (item_at c.in-Some.seat c.args.now what)) c.what_of-what.ensures)
    ∙ ap (λ (v : RouterView). after_first_event c.args.now (router_of v)) c.self.view_is

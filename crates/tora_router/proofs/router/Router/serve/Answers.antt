use Rattle.std.proofs.Common.{◌≡◌, ◌≤◌, ℕ, List, length, refl, sym, ap, ◌∙◌, subst, arith}
use Rattle.tora_seat.specs.Serving.{Serving}
use Rattle.tora_router.specs.Router.{RouterView, router_of, serving, after_item}
use Rattle.tora_router.proofs.Served.{is_serving, item_served}
use Rattle.tora_router.proofs.router.Router.serve.Goals as goal

pub serve-requires : goal.serve-requires
serve-requires c = omega (arith, c.self.invariant)

pub invariant_of-self : goal.invariant_of-self
invariant_of-self c = c.serve.ensures.count ∙ c.self.invariant ∙ sym (ap length c.serve.ensures.neighbours)

pub returns-clause-served : goal.returns-clause-served
returns-clause-served c =
    let i = c.self.inside in
    let r : RouterView = record { seat = i.seat; links = i.links; hops = i.hops.items; next_life = i.next_life } in
    let s = c.serve.ensures.served in
    item_served r c.args.item.now c.serve.new.self c.serve.new.outs s.0 s.1 s.2 ∙ ap (λ (v : RouterView). after_item (router_of v) c.args.item.now) c.self.view_is

pub returns-clause-answer : goal.returns-clause-answer
returns-clause-answer c =
    let i = c.self.inside in
    let r : RouterView = record { seat = i.seat; links = i.links; hops = i.hops.items; next_life = i.next_life } in
    let s = c.serve.ensures.served in
    c.serve.ensures.answer
    ∙ sym (ap (λ (v : Serving). v.answer) (is_serving r c.args.item.now c.serve.new.self c.serve.new.outs s.0 s.1 s.2))
    ∙ ap (λ (v : RouterView). (serving (router_of v) c.args.item.now).answer) c.self.view_is

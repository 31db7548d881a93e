use Rattle.std.proofs.Common.{◌≡◌, ◌<◌, List, length, refl, sym, ap, ◌∙◌, subst, arith}
use Rattle.std.specs.Prelude.{option_map}
use Rattle.tora_router.specs.Links.{sent}
use Rattle.tora_router.specs.Router.{datagram_of, frame_in}
use Rattle.tora_router.specs.Router.{RouterView, router_of}
use Rattle.tora_router.proofs.Calls.{kept, datagram_given}
use Rattle.tora_router.proofs.router.Router.poll_datagram.Goals as goal

pub peer-requires : goal.peer-requires
peer-requires c =
    let many : length c.send.new.self ≡ length c.self.inside.links = kept (sent c.args.now) c.in-Some.place c.self.inside.links c.send.new.self (length c.self.inside.links) c.in-Some.ensures.sent refl in
    omega (arith, many, c.in-Some.ensures.place)

pub invariant_of-self-2 : goal.invariant_of-self-2
invariant_of-self-2 c = kept (sent c.args.now) c.in-Some.place c.self.inside.links c.send.new.self (length c.self.inside.seat.core.neighbours) c.in-Some.ensures.sent c.self.invariant

pub returns-clause-datagram : goal.returns-clause-datagram
returns-clause-datagram c =
    let i = c.self.inside in
    let r : RouterView = record { seat = i.seat; links = i.links; hops = i.hops.items; next_life = i.next_life } in
    datagram_given (router_of r) c.args.now c.in-Some.place c.in-Some.count c.peer.result c.send.new.self c.in-Some.ensures.first c.peer.ensures c.in-Some.ensures.sent
    ∙ ap (λ (v : RouterView). option_map (datagram_of (router_of v)) (frame_in c.args.now (router_of v))) c.self.view_is

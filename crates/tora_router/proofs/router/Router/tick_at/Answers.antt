use Rattle.std.proofs.Common.{◌≡◌, ◌<◌, List, length, refl, sym, ap, ◌∙◌, subst, arith}
use Rattle.tora_router.specs.Links.{ticked}
use Rattle.tora_router.specs.Router.{RouterView, router_of}
use Rattle.tora_router.proofs.Calls.{kept}
use Rattle.tora_router.proofs.router.Router.tick_at.Goals as goal

pub invariant_of-self : goal.invariant_of-self
invariant_of-self c = kept (ticked c.self.inside.next_life c.args.now) c.args.place c.self.inside.links c.tick.new.self (length c.self.inside.seat.core.neighbours) c.tick.ensures.ticked c.self.invariant

pub invariant_of-self-else-tick : goal.invariant_of-self-else-tick
invariant_of-self-else-tick c = kept (ticked c.self.inside.next_life c.args.now) c.args.place c.self.inside.links c.tick.new.self (length c.self.inside.seat.core.neighbours) c.tick.ensures.ticked c.self.invariant

pub returns-then-tick-clause-count : goal.returns-then-tick-clause-count
returns-then-tick-clause-count c =
    kept (ticked c.self.inside.next_life c.args.now) c.args.place c.self.inside.links c.tick.new.self (length c.args.self.now.links) c.tick.ensures.ticked (ap (λ (r : RouterView). length r.links) c.self.view_is)

pub returns-else-tick-clause-count : goal.returns-else-tick-clause-count
returns-else-tick-clause-count c =
    kept (ticked c.self.inside.next_life c.args.now) c.args.place c.self.inside.links c.tick.new.self (length c.args.self.now.links) c.tick.ensures.ticked (ap (λ (r : RouterView). length r.links) c.self.view_is)

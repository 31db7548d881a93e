use Rattle.std.proofs.Common.{◌≡◌, suc, ◌+◌, ◌-◌, sym, ◌∙◌, arith}
use Rattle.tora_world.specs.World.{World}
use Rattle.tora_world.specs.Walks.{walk_within}
use Rattle.tora_sim.specs.Store.{world_of}
use Rattle.tora_sim.proofs.Walking.{at_end, no_hop, next_hop}
use Rattle.tora_sim.proofs.sim.Sim.walk_within.Goals as goal

pub returns-then-at-d : goal.returns-then-at-d
returns-then-at-d c =
    let w : World = world_of c.args.self.now in
    at_end w c.args.d c.loop.at c.loop.nodes.items c.push.new.self.items (walk_within c.args.hops (world_of c.args.self.now) c.args.n c.args.d) c.in_ok-push.ensures.items (c.args.hops - c.loop.counter) c.loop.invariant c.if-at-d.true

pub returns-in_default : goal.returns-in_default
returns-in_default c =
    let w : World = world_of c.args.self.now in
    let lt = c.loop-test.true in
    let left : c.args.hops - c.loop.counter ≡ suc (c.args.hops - (c.loop.counter + 1)) = omega arith in
    no_hop w c.args.d c.loop.at c.loop.nodes.items c.push.new.self.items (walk_within c.args.hops (world_of c.args.self.now) c.args.n c.args.d) c.in_ok-push.ensures.items (c.args.hops - c.loop.counter) (c.args.hops - (c.loop.counter + 1)) left c.loop.invariant c.if-at-d.false (sym c.next_hop.ensures ∙ c.in_default.is)

pub loop-preserved : goal.loop-preserved
loop-preserved c =
    let w : World = world_of c.args.self.now in
    let lt = c.loop-test.true in
    let left : c.args.hops - c.loop.counter ≡ suc (c.args.hops - (c.loop.counter + 1)) = omega arith in
    next_hop w c.args.d c.loop.at c.loop.nodes.items c.push.new.self.items (walk_within c.args.hops (world_of c.args.self.now) c.args.n c.args.d) c.in_ok-push.ensures.items (c.args.hops - c.loop.counter) (c.args.hops - (c.loop.counter + 1)) c.in-Some.next left c.loop.invariant c.if-at-d.false (sym c.next_hop.ensures ∙ c.in-Some.is)

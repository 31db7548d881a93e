use Rattle.std.proofs.Common.{◌≡◌, ◌∙◌, ℕ, suc, ◌+◌, ◌-◌, false, sym, subst, arith}
use Rattle.tora_world.specs.declared.event.Event.TheVariants.{Transmit}
use Rattle.tora_world.specs.declared.sim_error.SimError.{SimError}
use Rattle.tora_world.specs.declared.sim_error.SimError.TheVariants as Refused
use Rattle.tora_world.specs.World.{World}
use Rattle.tora_sim.specs.Store.{SimState, world_of}
use Rattle.tora_sim.specs.Steps.{IsRefused, repeats, Happened}
use Rattle.tora_sim.proofs.Sendings.{Onward, begins, still_onward, end_of, node_of, other_cause, again, refused, starved, no_more}
use Rattle.tora_sim.proofs.sim.Sim.transmit_from.Goals as goal

pub loop-init : goal.loop-init
loop-init c =
    let w = world_of c.args.self.now in
    let all : c.args.most ≡ c.args.most - 0 = omega arith in
    record {
      sent = subst (λ (left : ℕ). Onward w (repeats c.args.most (Transmit c.args.n c.args.k) w) w false (repeats left (Transmit c.args.n c.args.k) w)) all (begins w (repeats c.args.most (Transmit c.args.n c.args.k) w));
      end = c.requires.end;
      node = c.requires.node;
    }

pub is_over-requires : goal.is_over-requires
is_over-requires c = c.loop.invariant.end.within

pub returns-then-is_over : goal.returns-then-is_over
returns-then-is_over c =
    let w = world_of c.args.self.now in
    let left : c.args.most - c.loop.counter ≡ suc (c.args.most - (c.loop.counter + 1)) = omega (arith, c.loop-test.true) in
    subst (λ (s : SimState). Happened w (repeats c.args.most (Transmit c.args.n c.args.k) w) (world_of s) c.loop.some) (sym c.is_over.ensures.same)
    (refused w (repeats c.args.most (Transmit c.args.n c.args.k) w) (world_of c.loop.self) c.loop.some (c.args.most - (c.loop.counter + 1)) (Transmit c.args.n c.args.k) (rw left at c.loop.invariant.sent)
    (c.is_over.ensures.over c.if-is_over.true c.args.n c.args.k c.loop.invariant.end))

pub transmit_first-requires-clause-end : goal.transmit_first-requires-clause-end
transmit_first-requires-clause-end c = end_of c.args.n c.args.k c.args.at c.is_over.ensures.same c.loop.invariant.end

pub transmit_first-requires-clause-node : goal.transmit_first-requires-clause-node
transmit_first-requires-clause-node c = node_of c.args.n c.args.home c.is_over.ensures.same c.loop.invariant.node

pub returns-in-Err-Memory : goal.returns-in-Err-Memory
returns-in-Err-Memory c =
    let w = world_of c.args.self.now in
    let left : c.args.most - c.loop.counter ≡ suc (c.args.most - (c.loop.counter + 1)) = omega (arith, c.loop-test.true) in
    starved w (repeats c.args.most (Transmit c.args.n c.args.k) w) (world_of c.is_over.new.self) (world_of c.transmit_first.new.self) c.loop.some (c.args.most - (c.loop.counter + 1)) c.args.n c.args.k (still_onward w (repeats c.args.most (Transmit c.args.n c.args.k) w) c.loop.some (suc (c.args.most - (c.loop.counter + 1))) (Transmit c.args.n c.args.k) c.is_over.ensures.same (rw left at c.loop.invariant.sent))
    (subst (λ (error : SimError). IsRefused (world_of c.is_over.new.self) (Transmit c.args.n c.args.k) error (world_of c.transmit_first.new.self)) c.in-Err-Memory.field-0-is c.in-Err-Memory.ensures.done)

pub returns-in-Err-NoNode : goal.returns-in-Err-NoNode
returns-in-Err-NoNode c =
    let w = world_of c.args.self.now in
    let left : c.args.most - c.loop.counter ≡ suc (c.args.most - (c.loop.counter + 1)) = omega (arith, c.loop-test.true) in
    subst (λ (v : World). Happened w (repeats c.args.most (Transmit c.args.n c.args.k) w) v c.loop.some) (sym c.in-Err-NoNode.ensures.done.world)
    (refused w (repeats c.args.most (Transmit c.args.n c.args.k) w) (world_of c.is_over.new.self) c.loop.some (c.args.most - (c.loop.counter + 1)) (Transmit c.args.n c.args.k) (still_onward w (repeats c.args.most (Transmit c.args.n c.args.k) w) c.loop.some (suc (c.args.most - (c.loop.counter + 1))) (Transmit c.args.n c.args.k) c.is_over.ensures.same (rw left at c.loop.invariant.sent))
    (other_cause (world_of c.is_over.new.self) (Transmit c.args.n c.args.k) c.in-Err-NoNode.field-0 (world_of c.transmit_first.new.self) (λ e. let z : Refused.NoNode ≡ Refused.Memory = sym c.in-Err-NoNode.field-0-is ∙ e in cc) c.in-Err-NoNode.ensures.done))

pub returns-in-Err-NotPossible : goal.returns-in-Err-NotPossible
returns-in-Err-NotPossible c =
    let w = world_of c.args.self.now in
    let left : c.args.most - c.loop.counter ≡ suc (c.args.most - (c.loop.counter + 1)) = omega (arith, c.loop-test.true) in
    subst (λ (v : World). Happened w (repeats c.args.most (Transmit c.args.n c.args.k) w) v c.loop.some) (sym c.in-Err-NotPossible.ensures.done.world)
    (refused w (repeats c.args.most (Transmit c.args.n c.args.k) w) (world_of c.is_over.new.self) c.loop.some (c.args.most - (c.loop.counter + 1)) (Transmit c.args.n c.args.k) (still_onward w (repeats c.args.most (Transmit c.args.n c.args.k) w) c.loop.some (suc (c.args.most - (c.loop.counter + 1))) (Transmit c.args.n c.args.k) c.is_over.ensures.same (rw left at c.loop.invariant.sent))
    (other_cause (world_of c.is_over.new.self) (Transmit c.args.n c.args.k) c.in-Err-NotPossible.field-0 (world_of c.transmit_first.new.self) (λ e. let z : Refused.NotPossible ≡ Refused.Memory = sym c.in-Err-NotPossible.field-0-is ∙ e in cc) c.in-Err-NotPossible.ensures.done))

pub loop-preserved : goal.loop-preserved
loop-preserved c =
    let w = world_of c.args.self.now in
    let left : c.args.most - c.loop.counter ≡ suc (c.args.most - (c.loop.counter + 1)) = omega (arith, c.loop-test.true) in
    record {
      sent = again w (repeats c.args.most (Transmit c.args.n c.args.k) w) (world_of c.is_over.new.self) (world_of c.transmit_first.new.self) c.loop.some (c.args.most - (c.loop.counter + 1)) (Transmit c.args.n c.args.k) (still_onward w (repeats c.args.most (Transmit c.args.n c.args.k) w) c.loop.some (suc (c.args.most - (c.loop.counter + 1))) (Transmit c.args.n c.args.k) c.is_over.ensures.same (rw left at c.loop.invariant.sent)) c.in-Ok.ensures.done;
      end = c.in-Ok.ensures.end;
      node = c.in-Ok.ensures.node;
    }

pub returns : goal.returns
returns c =
    let w = world_of c.args.self.now in
    let left : c.args.most - c.loop.counter ≡ 0 = omega (arith, c.loop-test.false) in
    no_more w (repeats c.args.most (Transmit c.args.n c.args.k) w) (world_of c.loop.self) c.loop.some (Transmit c.args.n c.args.k) (rw left at c.loop.invariant.sent)

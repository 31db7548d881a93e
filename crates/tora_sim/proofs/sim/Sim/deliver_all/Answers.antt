use Rattle.std.proofs.Common.{◌≡◌, ◌∙◌, suc, ◌+◌, ◌-◌, sym, subst, arith}
use Rattle.tora_world.specs.declared.event.Event.TheVariants.{Deliver}
use Rattle.tora_world.specs.declared.sim_error.SimError.{SimError}
use Rattle.tora_world.specs.declared.sim_error.SimError.TheVariants as Refused
use Rattle.tora_world.specs.World.{World}
use Rattle.tora_sim.specs.Store.{world_of}
use Rattle.tora_sim.specs.Steps.{IsRefused, repeats, Happened}
use Rattle.tora_sim.proofs.Sendings.{other_cause, again, refused, starved_of, no_memory_then, no_more}
use Rattle.tora_sim.proofs.sim.Sim.deliver_all.Goals as goal

pub returns-in-Err-Memory : goal.returns-in-Err-Memory
returns-in-Err-Memory c =
    let w = world_of c.args.self.now in
    let left : c.args.most - c.loop.counter ≡ suc (c.args.most - (c.loop.counter + 1)) = omega (arith, c.loop-test.true) in
    let r : IsRefused (world_of c.loop.self) (Deliver c.args.i) Refused.Memory (world_of c.deliver.new.self) =
    subst (λ (error : SimError). IsRefused (world_of c.loop.self) (Deliver c.args.i) error (world_of c.deliver.new.self)) c.in-Err-Memory.field-0-is c.in-Err-Memory.ensures in
    starved_of w (repeats c.args.most (Deliver c.args.i) w) (world_of c.loop.self) (world_of c.deliver.new.self) c.loop.some (c.args.most - (c.loop.counter + 1)) (Deliver c.args.i) (rw left at c.loop.invariant)
    (no_memory_then (world_of c.loop.self) c.args.i (world_of c.deliver.new.self) r) r

pub returns-in-Err-NoNode : goal.returns-in-Err-NoNode
returns-in-Err-NoNode c =
    let w = world_of c.args.self.now in
    let left : c.args.most - c.loop.counter ≡ suc (c.args.most - (c.loop.counter + 1)) = omega (arith, c.loop-test.true) in
    subst (λ (v : World). Happened w (repeats c.args.most (Deliver c.args.i) w) v c.loop.some) (sym c.in-Err-NoNode.ensures.world)
    (refused w (repeats c.args.most (Deliver c.args.i) w) (world_of c.loop.self) c.loop.some (c.args.most - (c.loop.counter + 1)) (Deliver c.args.i) (rw left at c.loop.invariant)
    (other_cause (world_of c.loop.self) (Deliver c.args.i) c.in-Err-NoNode.field-0 (world_of c.deliver.new.self) (λ e. let z : Refused.NoNode ≡ Refused.Memory = sym c.in-Err-NoNode.field-0-is ∙ e in cc) c.in-Err-NoNode.ensures))

pub returns-in-Err-NoDatagram : goal.returns-in-Err-NoDatagram
returns-in-Err-NoDatagram c =
    let w = world_of c.args.self.now in
    let left : c.args.most - c.loop.counter ≡ suc (c.args.most - (c.loop.counter + 1)) = omega (arith, c.loop-test.true) in
    subst (λ (v : World). Happened w (repeats c.args.most (Deliver c.args.i) w) v c.loop.some) (sym c.in-Err-NoDatagram.ensures.world)
    (refused w (repeats c.args.most (Deliver c.args.i) w) (world_of c.loop.self) c.loop.some (c.args.most - (c.loop.counter + 1)) (Deliver c.args.i) (rw left at c.loop.invariant)
    (other_cause (world_of c.loop.self) (Deliver c.args.i) c.in-Err-NoDatagram.field-0 (world_of c.deliver.new.self) (λ e. let z : Refused.NoDatagram ≡ Refused.Memory = sym c.in-Err-NoDatagram.field-0-is ∙ e in cc) c.in-Err-NoDatagram.ensures))

pub returns-in-Err-NotPossible : goal.returns-in-Err-NotPossible
returns-in-Err-NotPossible c =
    let w = world_of c.args.self.now in
    let left : c.args.most - c.loop.counter ≡ suc (c.args.most - (c.loop.counter + 1)) = omega (arith, c.loop-test.true) in
    subst (λ (v : World). Happened w (repeats c.args.most (Deliver c.args.i) w) v c.loop.some) (sym c.in-Err-NotPossible.ensures.world)
    (refused w (repeats c.args.most (Deliver c.args.i) w) (world_of c.loop.self) c.loop.some (c.args.most - (c.loop.counter + 1)) (Deliver c.args.i) (rw left at c.loop.invariant)
    (other_cause (world_of c.loop.self) (Deliver c.args.i) c.in-Err-NotPossible.field-0 (world_of c.deliver.new.self) (λ e. let z : Refused.NotPossible ≡ Refused.Memory = sym c.in-Err-NotPossible.field-0-is ∙ e in cc) c.in-Err-NotPossible.ensures))

pub loop-preserved : goal.loop-preserved
loop-preserved c =
    let w = world_of c.args.self.now in
    let left : c.args.most - c.loop.counter ≡ suc (c.args.most - (c.loop.counter + 1)) = omega (arith, c.loop-test.true) in
    again w (repeats c.args.most (Deliver c.args.i) w) (world_of c.loop.self) (world_of c.deliver.new.self) c.loop.some (c.args.most - (c.loop.counter + 1)) (Deliver c.args.i) (rw left at c.loop.invariant) c.in-Ok.ensures

pub returns : goal.returns
returns c =
    let w = world_of c.args.self.now in
    let left : c.args.most - c.loop.counter ≡ 0 = omega (arith, c.loop-test.false) in
    no_more w (repeats c.args.most (Deliver c.args.i) w) (world_of c.loop.self) c.loop.some (Deliver c.args.i) (rw left at c.loop.invariant)

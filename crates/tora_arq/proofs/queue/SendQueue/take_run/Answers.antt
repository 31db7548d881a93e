use Rattle.std.proofs.Common.{◌≡◌, ◌+◌, ◌-◌, ◌++◌, take, drop, length, slice_set, refl, sym, ap, subst, ◌∙◌, arith, length-set}
use Rattle.circular_buffer.specs.Buffer.{Buffer}
use Rattle.tora_arq.specs.declared.queued_packet.QueuedPacket.{QueuedPacket}
use Rattle.tora_arq.specs.SendQueue.{retried, ready_run}
use Rattle.tora_arq.proofs.QueueLemmas.{Taking, taking_on, taking_stops, taking_ends}
use Rattle.tora_arq.proofs.queue.SendQueue.take_run.Goals as goal

pub loop-at-init : goal.loop-at-init
loop-at-init c = record { taking = record { packets_are = rw c.requires.empty refl; queue_is = refl }; taken = omega (arith, ap length c.requires.empty); len = refl; room = refl }

pub returns-then-not-is_ready-clause-packets : goal.returns-then-not-is_ready-clause-packets
returns-then-not-is_ready-clause-packets c =
    (taking_stops c.args.times.now c.args.now (c.args.end - c.loop-at.at) c.loop-at.at c.loop-at.packets.items c.loop-at.self.items _ _ c.packet_at-packet.result c.packet_at-packet.ensures
    (sym c.is_ready.ensures.ready ∙ c.if-not-is_ready.true) c.loop-at.invariant.taking).0

pub returns-then-not-is_ready-clause-queue : goal.returns-then-not-is_ready-clause-queue
returns-then-not-is_ready-clause-queue c =
    (taking_stops c.args.times.now c.args.now (c.args.end - c.loop-at.at) c.loop-at.at c.loop-at.packets.items c.loop-at.self.items _ _ c.packet_at-packet.result c.packet_at-packet.ensures
    (sym c.is_ready.ensures.ready ∙ c.if-not-is_ready.true) c.loop-at.invariant.taking).1

pub loop-at-preserved : goal.loop-at-preserved
loop-at-preserved c =
    let run = ready_run c.args.times.now c.args.now (c.args.end - c.args.place) (drop c.args.place c.args.self.now.items) in
    let queue : c.set.new.self.items ≡ slice_set c.loop-at.self.items c.loop-at.at (retried c.packet_at-packet.result c.args.now) = ap (λ (b : Buffer QueuedPacket). b.items) c.set.ensures ∙ ap (slice_set c.loop-at.self.items c.loop-at.at) c.retried.ensures in
    let left : c.args.end - c.loop-at.at - 1 ≡ c.args.end - (c.loop-at.at + 1) = omega arith in
    let on = taking_on c.args.times.now c.args.now (c.args.end - c.loop-at.at) c.loop-at.at c.loop-at.packets.items c.push.new.self.items c.loop-at.self.items c.set.new.self.items _ _ c.packet_at-packet.result
    (omega (arith, c.loop-at-test.true)) c.packet_at-packet.ensures (sym c.is_ready.ensures.ready ∙ c.if-not-is_ready.false) c.push.ensures.items queue c.loop-at.invariant.taking in record {
      taking = subst (λ n. Taking c.args.times.now c.args.now n (c.loop-at.at + 1) c.push.new.self.items c.set.new.self.items run.packets (take c.args.place c.args.self.now.items ++ run.queue)) left on;
      taken = omega (arith, c.push.ensures.len, c.loop-at.invariant.taken);
      len = ap length queue ∙ length-set c.loop-at.self.items c.loop-at.at (retried c.packet_at-packet.result c.args.now) ∙ c.loop-at.invariant.len;
      room = ap (λ (b : Buffer QueuedPacket). b.capacity) c.set.ensures ∙ c.loop-at.invariant.room;
    }

pub returns-clause-packets : goal.returns-clause-packets
returns-clause-packets c =
    (taking_ends c.args.times.now c.args.now (c.args.end - c.loop-at.at) c.loop-at.at c.loop-at.packets.items c.loop-at.self.items _ _ (omega (arith, c.loop-at-test.false)) c.loop-at.invariant.taking).0

pub returns-clause-queue : goal.returns-clause-queue
returns-clause-queue c =
    (taking_ends c.args.times.now c.args.now (c.args.end - c.loop-at.at) c.loop-at.at c.loop-at.packets.items c.loop-at.self.items _ _ (omega (arith, c.loop-at-test.false)) c.loop-at.invariant.taking).1

use Rattle.std.proofs.Common.{◌≡◌, ◌+◌, ◌-◌, ◌++◌, refl, sym, ap, ◌∙◌, arith}
use Rattle.std.proofs.lemmas.Result.{err_from_is_err_and}
use Rattle.std.proofs.lemmas.List.{append-nil, append_assoc}
use Rattle.tora_packet.specs.PacketGrammar.{first_packet, behind_first}
use Rattle.tora_frame.specs.FrameGrammar.{whole_packet_fault, whole_packet_at, packets_fault}
use Rattle.tora_frame.proofs.PacketLists.{stops, goes_on, next_fault, next_at, fault_at_end, no_fault_at_end, none_left, all_push}
use Rattle.tora_frame.proofs.packets.read_list.Goals as goal

pub returns-in_err-read_packet-clause-exact : goal.returns-in_err-read_packet-clause-exact
returns-in_err-read_packet-clause-exact c =
    let p = err_from_is_err_and c.from_residual.result c.from_residual.ensures.1 in
    let left = packets_fault (c.args.many - (c.loop.counter + 1)) (behind_first c.loop.rest.now) in
    let first = rw c.cut_packet.ensures.first at c.in_err-read_packet.ensures.exact in
    rw (p.1, p.2, ← c.loop.invariant.fault, next_fault c.args.many c.loop.counter c.loop.rest.now c.loop-test.true)
    (stops (whole_packet_fault (first_packet c.loop.rest.now)) left (whole_packet_at (first_packet c.loop.rest.now)) c.in_err-read_packet.field-0.0 first)

pub loop-preserved : goal.loop-preserved
loop-preserved c =
    let first = goes_on (whole_packet_fault (first_packet c.loop.rest.now)) (whole_packet_at (first_packet c.loop.rest.now)) c.in_ok-read_packet.field-0
    (rw c.cut_packet.ensures.first at c.in_ok-read_packet.ensures.exact) in
    let fault = next_fault c.args.many c.loop.counter c.loop.rest.now c.loop-test.true in
    let more = next_at c.args.many c.loop.counter c.loop.rest.now c.loop-test.true in
    record {
      fault = rw c.cut_packet.ensures.behind (sym (rw first.0 at fault) ∙ c.loop.invariant.fault);
      items = rw (c.push.ensures.items, c.cut_packet.ensures.behind, first.1)
          (append_assoc c.loop.packets.items _ _ ∙ ap (λ xs. c.loop.packets.items ++ xs) (sym more) ∙ c.loop.invariant.items);
      valid = rw c.push.ensures.items (all_push c.loop.packets.items c.in_ok-read_packet.field-0 c.loop.invariant.valid c.in_ok-read_packet.ensures.valid);
      len = omega (arith, c.push.ensures.len, c.loop.invariant.len);
    }

pub returns-then-not-is_empty-clause-exact : goal.returns-then-not-is_empty-clause-exact
returns-then-not-is_empty-clause-exact c =
    let over : c.args.many - c.loop.counter ≡ 0 = omega (arith, c.loop-test.false) in
    let fault = rw over at c.loop.invariant.fault in
    rw (← fault, fault_at_end c.loop.rest.now (sym c.is_empty.ensures ∙ c.if-not-is_empty.true)) refl

pub returns-clause-exact : goal.returns-clause-exact
returns-clause-exact c =
    let over : c.args.many - c.loop.counter ≡ 0 = omega (arith, c.loop-test.false) in
    let fault = rw over at c.loop.invariant.fault in
    rw (← fault, no_fault_at_end c.loop.rest.now (sym c.is_empty.ensures ∙ c.if-not-is_empty.false)) refl

pub returns-clause-packets : goal.returns-clause-packets
returns-clause-packets c =
    let over : c.args.many - c.loop.counter ≡ 0 = omega (arith, c.loop-test.false) in
    sym (append-nil c.loop.packets.items) ∙ (rw (over, none_left c.loop.rest.now) at c.loop.invariant.items)

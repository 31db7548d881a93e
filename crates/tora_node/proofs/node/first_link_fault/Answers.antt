use Rattle.std.proofs.Common.{sym}
use Rattle.tora_node.proofs.Faults.{fault_behind, no_outcome, get_past, get_some}
use Rattle.tora_node.proofs.node.first_link_fault.Goals as goal

pub returns-in-None : goal.returns-in-None
returns-in-None c = sym (no_outcome c.args.neighbours.now c.args.outcomes.now c.loop-i.i (get_past c.args.outcomes.now c.loop-i.i c.in-None.ensures.lookup.3) c.loop-i.invariant)

pub loop-i-preserved : goal.loop-i-preserved
loop-i-preserved c =
    let found = get_some c.args.outcomes.now c.loop-i.i c.in-Some.outcome.now c.in-Some.ensures.lookup.3.0 c.in-Some.ensures.lookup.1 in
    fault_behind c.args.neighbours.now c.args.outcomes.now c.loop-i.i c.in-Some.outcome.now c.loop-i-test.true found c.loop-i.invariant c.in-None-fault.is

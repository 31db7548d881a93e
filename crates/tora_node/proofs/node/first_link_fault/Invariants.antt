use Rattle.std.proofs.Common.{◌≡◌, drop}
use Rattle.tora_node.specs.NodeRuns.{first_link_fault}
use Rattle.tora_node.proofs.node.first_link_fault.Given as goal

abbrev pub invariant-loop-i : goal.invariant-loop-i
invariant-loop-i l = first_link_fault l.neighbours l.outcomes ≡ first_link_fault (drop l.i l.neighbours) (drop l.i l.outcomes)

use Rattle.std.proofs.Common.{◌≡◌}
use Rattle.tora_tests_node.proofs.tests.lanes.threads.put_all.Given as goal

abbrev pub invariant-loop-number : goal.invariant-loop-number
invariant-loop-number g l = l.port.lane ≡ l.initial.port.lane

use Rattle.std.proofs.Common.{◌≡◌}
use Rattle.tora_tests_node.proofs.tests.lanes.threads.send_again.Given as goal

abbrev pub invariant-loop : goal.invariant-loop
invariant-loop g l = l.put.ring ≡ l.initial.put.ring

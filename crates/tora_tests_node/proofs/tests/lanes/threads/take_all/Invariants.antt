use Rattle.std.proofs.Common.{◌≡◌}
use Rattle.tora_tests_node.proofs.tests.lanes.threads.take_all.Given as goal

abbrev pub invariant-loop : goal.invariant-loop
invariant-loop g l = l.take.ring ≡ l.initial.take.ring

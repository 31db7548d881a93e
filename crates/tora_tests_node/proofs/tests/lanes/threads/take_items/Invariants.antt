use Rattle.std.proofs.Common.{◌≡◌}
use Rattle.tora_tests_node.proofs.tests.lanes.threads.take_items.Given as goal

abbrev pub invariant-loop : goal.invariant-loop
invariant-loop g l = l.core.lane ≡ l.initial.core.lane

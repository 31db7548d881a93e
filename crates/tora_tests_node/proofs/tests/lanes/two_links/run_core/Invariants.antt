use Rattle.std.proofs.Common.{◌≡◌}
use Rattle.tora_tests_node.proofs.tests.lanes.two_links.run_core.Given as goal

abbrev pub invariant-loop-number : goal.invariant-loop-number
invariant-loop-number g l = (l.first.ring ≡ l.initial.first.ring) × (l.second.ring ≡ l.initial.second.ring)

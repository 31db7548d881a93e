use Rattle.std.proofs.Common.{ℕ, ◌<◌, get_or}
use Rattle.tora_tests.proofs.tests.simulations.topologies.are_links.Given as goal

-- no number of the links so far is 0
abbrev pub invariant-loop-link : goal.invariant-loop-link
invariant-loop-link l = (k : ℕ) → k < l.link-index → (0 < (get_or l.links k (0, 0)).0) × (0 < (get_or l.links k (0, 0)).1)

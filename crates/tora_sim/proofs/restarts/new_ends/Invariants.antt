use Rattle.std.proofs.Common.{◌≡◌, ◌≤◌, length}
use Rattle.std.specs.Prelude.{vec_len, vec_capacity}
use Rattle.tora_sim.specs.Restarts.{AreFresh}
use Rattle.tora_sim.proofs.restarts.new_ends.Given as goal

abbrev pub invariant-loop-place : goal.invariant-loop-place
invariant-loop-place l = AreFresh l.links.items l.first l.place l.ends.items × (length l.ends.items ≡ l.place) × (vec_len l.ends ≡ l.place) × (l.count ≤ vec_capacity l.ends)

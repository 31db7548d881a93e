use Rattle.std.proofs.Common.{◌≡◌}
use Rattle.tora_router.specs.Router.{hop_change}
use Rattle.tora_router.proofs.Places.{NoneBefore}
use Rattle.tora_router.proofs.hop.poll_hops.Given as goal

abbrev pub invariant-loop-place : goal.invariant-loop-place
invariant-loop-place l = record { same : l.hops.items ≡ l.initial.hops.items; none : NoneBefore (hop_change l.core) l.hops.items l.place }

use Rattle.tora_router.specs.Links.{to_peer}
use Rattle.tora_router.proofs.Places.{NoneBefore}
use Rattle.tora_router.proofs.links.Links.place.Given as goal

abbrev pub invariant-loop-place : goal.invariant-loop-place
invariant-loop-place l = NoneBefore (to_peer l.k) l.self l.place

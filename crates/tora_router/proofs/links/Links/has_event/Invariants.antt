use Rattle.tora_router.specs.Links.{event_of}
use Rattle.tora_router.proofs.Places.{NoneBefore}
use Rattle.tora_router.proofs.links.Links.has_event.Given as goal

abbrev pub invariant-loop-place : goal.invariant-loop-place
invariant-loop-place l = NoneBefore event_of l.self l.place

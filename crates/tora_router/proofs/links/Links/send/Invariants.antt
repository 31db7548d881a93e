use Rattle.std.proofs.Common.{◌≡◌}
use Rattle.tora_router.specs.Links.{frame_of_link}
use Rattle.tora_router.proofs.Places.{NoneBefore}
use Rattle.tora_router.proofs.links.Links.send.Given as goal

abbrev pub invariant-loop-place : goal.invariant-loop-place
invariant-loop-place l = record { out : l.out ≡ l.fn.out; same : l.self-inside.list.items ≡ l.fn.self; none : NoneBefore (frame_of_link l.now) l.self-inside.list.items l.place }

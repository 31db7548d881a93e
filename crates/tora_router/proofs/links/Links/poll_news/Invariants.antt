use Rattle.std.proofs.Common.{◌≡◌}
use Rattle.tora_router.specs.Links.{link_change}
use Rattle.tora_router.proofs.Places.{NoneBefore}
use Rattle.tora_router.proofs.links.Links.poll_news.Given as goal

abbrev pub invariant-loop-place : goal.invariant-loop-place
invariant-loop-place l = record { same : l.self-inside.list.items ≡ l.fn.self; none : NoneBefore link_change l.self-inside.list.items l.place }

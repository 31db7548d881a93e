use Rattle.std.proofs.Common.{◌≡◌, ℕ, ◌<◌, take}
use Rattle.std.specs.Prelude.{nat_le}
use Rattle.std.specs.List.{list_any}
use Rattle.tora_arq.specs.Still.{last_tick}
use Rattle.tora_router.specs.Links.{is_link_due}
use Rattle.tora_router.proofs.links.Links.next_due.Given as goal

abbrev pub invariant-loop-link : goal.invariant-loop-link
invariant-loop-link l = (tick : ℕ) → tick < last_tick → nat_le l.next tick ≡ list_any (is_link_due l.number tick) (take l.link-index l.self)

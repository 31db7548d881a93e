use Rattle.std.proofs.Common.{◌≡◌, take}
use Rattle.std.specs.Prelude.{map}
use Rattle.tora_router.specs.Router.{new_link}
use Rattle.tora_router.proofs.making.new_links.Given as goal

abbrev pub invariant-loop-peer : goal.invariant-loop-peer
invariant-loop-peer l = l.list.items ≡ map (new_link l.me l.times) (take l.peer-index l.peer-items)

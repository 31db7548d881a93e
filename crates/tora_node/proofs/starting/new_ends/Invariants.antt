use Rattle.std.proofs.Common.{◌≡◌, take}
use Rattle.std.specs.Prelude.{map}
use Rattle.tora_node.specs.LinkRuns.{name_of, link_ended}
use Rattle.tora_node.proofs.starting.new_ends.Given as goal

abbrev pub invariant-loop-peer : goal.invariant-loop-peer
invariant-loop-peer l = map link_ended l.ends.items ≡ map (name_of l.me) (take l.peer-index l.peer-items)

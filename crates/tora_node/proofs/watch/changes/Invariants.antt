use Rattle.std.proofs.Common.{◌≡◌, take}
use Rattle.std.specs.Prelude.{string_bytes}
use Rattle.std.specs.List.{flat_map}
use Rattle.tora_node.specs.StatusLines.{news_of}
use Rattle.tora_node.proofs.watch.changes.Given as goal

-- the lines so far are written
abbrev pub invariant-loop-old : goal.invariant-loop-old
invariant-loop-old l = string_bytes l.out ≡ flat_map (news_of l.core) (take l.old-index l.told)

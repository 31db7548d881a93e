use Rattle.std.proofs.Common.{ℕ, List, drop}
use Rattle.tora_node.specs.CommandSteps.{Holds, Putting}
use Rattle.tora_node.proofs.commands.put_all.Given as goal

abbrev pub invariant-loop-byte : goal.invariant-loop-byte
invariant-loop-byte g l =
    (text : List ℕ) → Holds l.fn.line text → Putting g.C.Clock.did_tell text l.bytes (l.fn.port, l.fn.clock) (l.port, l.clock) l.line (drop l.byte-index l.bytes)

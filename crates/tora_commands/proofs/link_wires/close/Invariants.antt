use Rattle.std.proofs.Common.{◌≡◌, map, take, drop, ◌++◌}
use Rattle.tora_keyed.specs.Links.{cleared}
use Rattle.tora_commands.proofs.link_wires.close.Given as goal

-- the wires so far are closed
abbrev pub invariant-loop-wire : goal.invariant-loop-wire
invariant-loop-wire g l = l.wires ≡ map cleared (take l.wire-index l.initial.wires) ++ drop l.wire-index l.initial.wires

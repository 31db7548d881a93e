use Rattle.std.proofs.Common.{◌≡◌, map, ◌++◌}
use Rattle.tora_commands.proofs.link_wires.lend.Given as goal

-- the wires that are lent, and then those that are not yet
abbrev pub invariant-loop-wire : goal.invariant-loop-wire
invariant-loop-wire g l = map (λ w. w.now) l.lent.items ++ l.wire-iterator.s.now ≡ l.initial.wire-iterator.s.now

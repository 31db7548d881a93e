use Rattle.std.proofs.Common.{◌≡◌}
use Rattle.std.specs.Prelude.{replicate}
use Rattle.tora_commands.proofs.node_command.shared.Given as goal

-- a clock for each link so far
abbrev pub invariant-loop-place : goal.invariant-loop-place
invariant-loop-place g l = l.all.items ≡ replicate l.place l.fn.clock

use Rattle.std.proofs.Common.{◌≡◌, length, ◌+◌}
use Rattle.tora_commands.proofs.link_wires.bind.Given as goal

-- a wire for each endpoint so far
abbrev pub invariant-loop-endpoint : goal.invariant-loop-endpoint
invariant-loop-endpoint g l = length l.wires.items + length l.endpoint-iterator.rest.items ≡ length l.fn.endpoints.items

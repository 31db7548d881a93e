use Rattle.std.proofs.Common.{◌≡◌, length, ◌+◌}
use Rattle.tora_commands.proofs.link_wires.with_keys.Given as goal

-- a key for each endpoint so far
abbrev pub invariant-loop-endpoint : goal.invariant-loop-endpoint
invariant-loop-endpoint g l = length l.keyed.items + length l.endpoint-iterator.rest.items ≡ length l.fn.endpoints.items

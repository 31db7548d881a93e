use Rattle.std.proofs.Common.{◌≡◌, map, []}
use Rattle.tora_commands.specs.ConfigEndpoints.{said_endpoint, endpoint_beside}
use Rattle.tora_commands.proofs.ConfigLoops.{rest_of}
use Rattle.tora_commands.proofs.configuration.endpoints.endpoints_of.Given as goal

abbrev pub invariant-loop-value : goal.invariant-loop-value
invariant-loop-value l = rest_of endpoint_beside (map said_endpoint l.endpoints.items) l.value-index l.values ≡ rest_of endpoint_beside [] 0 l.values

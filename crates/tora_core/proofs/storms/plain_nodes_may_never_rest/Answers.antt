use Rattle.tora_core.proofs.StormTurns.{goes-on-1, goes-on-2, goes-on-3}
use Rattle.tora_core.proofs.storms.plain_nodes_may_never_rest.Goals as goal

pub returns : goal.returns
returns c = λ now delta low high. (goes-on-1 now delta low high, goes-on-2 now delta low high, goes-on-3 now delta low high)

use Rattle.std.proofs.Common.{rules}
use Rattle.std.proofs.lemmas.List.Sorted.{IsNonDecreasingBy-from_sort_by_key}
use Rattle.tora_commands.specs.declared.configuration.LinkConfig.{LinkConfig}
use Rattle.tora_commands.proofs.configuration.reading.in_order.Goals as goal

pub returns-clause-rising : goal.returns-clause-rising
returns-clause-rising c = IsNonDecreasingBy-from_sort_by_key (λ (link : LinkConfig). link.peer) _ c.sort_unstable_by_key.ensures.sorted (λ a r q k. search rules)

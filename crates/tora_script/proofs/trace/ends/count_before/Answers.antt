use Rattle.std.proofs.Common.{ℕ, ltb, rules, of_calls}
use Rattle.std.proofs.lemmas.List.Sorted.{IsPartitionPoint-from_clause, IsPartitionedBy-ltb}
use Rattle.tora_script.proofs.EndsByNode.{none_before}
use Rattle.tora_script.proofs.trace.ends.count_before.Goals as goal

pub returns-clause-none : goal.returns-clause-none
returns-clause-none c =
    let point = IsPartitionPoint-from_clause (λ (end : ℕ × ℕ). ltb end.0 c.args.n) _ _ c.partition_point.ensures.partitioned (IsPartitionedBy-ltb (λ (end : ℕ × ℕ). end.0) _ c.args.n c.requires) (λ a r q k. search (rules, of_calls)) in
    none_before c.args.n c.args.ends.now c.partition_point.result point.0

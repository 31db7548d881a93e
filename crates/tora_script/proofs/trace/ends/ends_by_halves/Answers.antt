use Rattle.std.proofs.Common.{ℕ, List, sym, subst}
use Rattle.std.proofs.lemmas.List.Sorted.{IsNonDecreasingBy-drop}
use Rattle.tora_script.specs.NodeEnds.{AreByNode}
use Rattle.tora_script.proofs.EndsByNode.{ends_between}
use Rattle.tora_script.proofs.trace.ends.ends_by_halves.Goals as goal

pub count_up_to-count-requires : goal.count_up_to-count-requires
count_up_to-count-requires c =
    subst (λ (ends : List (ℕ × ℕ)). AreByNode ends) (sym c.split_at.ensures.back) (IsNonDecreasingBy-drop (λ (end : ℕ × ℕ). end.0) c.count_before-first.result c.args.ends.now c.requires)

pub returns : goal.returns
returns c =
    ends_between c.args.n c.args.ends.now c.split_at.result.1.now c.split_at-2.result.0.now c.count_before-first.result c.count_up_to-count.result c.split_at.ensures.back c.split_at-2.ensures.front
    c.count_before-first.ensures.none c.count_up_to-count.ensures.none

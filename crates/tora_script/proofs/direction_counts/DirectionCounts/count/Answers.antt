use Rattle.std.proofs.Common.{◌∙◌, ◌+◌, ℕ, ap}
use Rattle.std.specs.BTreeMap.{get}
use Rattle.tora_script.specs.Pairs.{pair_cmp}
use Rattle.tora_script.proofs.DirectionCountLaws.{one_more}
use Rattle.tora_script.proofs.direction_counts.DirectionCounts.count.Goals as goal

pub returns : goal.returns
returns c =
    one_more (λ (q : ℕ × ℕ). get pair_cmp c.args.self.now.counts q) (λ (q : ℕ × ℕ). get pair_cmp c.insert.new.self q) c.args.direction c.in-Some.next (c.in-Some.ensures.1 ∙ ap (λ (n : ℕ). n + 1) c.times-before.ensures) c.in_ok-insert.ensures.updates.0

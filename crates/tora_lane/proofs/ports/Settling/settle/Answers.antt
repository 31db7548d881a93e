use Rattle.std.proofs.Common.{◌∙◌}
use Rattle.tora_lane.specs.LaneRule.{with_settled}
use Rattle.tora_lane.proofs.Moves.{merges_as, learns_as}
use Rattle.tora_lane.proofs.ports.Settling.settle.Goals as goal

pub absorb-requires-clause-rule : goal.absorb-requires-clause-rule
absorb-requires-clause-rule c = merges_as _ _ _ _ _ _ _ _ _ c.self.invariant.1 c.port.invariant.1

pub learn_as-requires-clause-rule : goal.learn_as-requires-clause-rule
learn_as-requires-clause-rule c =
    learns_as _ _ _ _ _ _ _ (c.absorb.ensures.rule ∙ (λ i. with_settled (c.self.invariant.1 i) (c.port.invariant.1 i)))

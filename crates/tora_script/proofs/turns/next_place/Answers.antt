use Rattle.std.proofs.Common.{◌≡◌, ℕ, List, Some, slice_get, subst}
use Rattle.tora_script.proofs.KnownEnds.{refused_turn}
use Rattle.tora_script.proofs.turns.next_place.Goals as goal

pub returns-then-known-clause-passed : goal.returns-then-known-clause-passed
returns-then-known-clause-passed g c kind at end from before there =
    let here = subst (λ (xs : List (ℕ × ℕ)). slice_get xs at ≡ Some end) (c.requires c.if-known.true) there in
    refused_turn kind (g.S.Simulator.world c.args.sim.now) end (c.next_due.ensures.passed at end from before here)

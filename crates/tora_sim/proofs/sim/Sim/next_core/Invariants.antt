use Rattle.std.proofs.Common.{◌≡◌, ℕ, ◌<◌, ◌≤◌, true, Some, is_some, slice_get}
use Rattle.tora_world.specs.World.{refusal_of}
use Rattle.tora_world.specs.declared.event.Event.TheVariants.{CoreTurn}
use Rattle.tora_sim.specs.Store.{world_of}
use Rattle.tora_sim.proofs.sim.Sim.next_core.Given as goal

-- no core of the nodes so far has an item
abbrev pub invariant-loop-at : goal.invariant-loop-at
invariant-loop-at l = (at n : ℕ) → l.place ≤ at → at < l.at → slice_get l.nodes at ≡ Some n → is_some (refusal_of (world_of l.self) (CoreTurn n)) ≡ true

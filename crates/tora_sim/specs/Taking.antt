-- The turns of a node's core, one after another.
use Rattle.std.specs.Prelude.{◌≡◌, ℕ, Bool, List, length, slice_index_or, slice_set, Result, MatchResult}
use Rattle.tora_frame.specs.FrameParts.{FrameParts}
use Rattle.tora_arq.specs.declared.times.Times.{Times}
use Rattle.tora_world.specs.declared.event.Event.TheVariants.{CoreTurn}
use Rattle.tora_world.specs.declared.sim_error.SimError.{SimError}
use Rattle.tora_world.specs.declared.sim_error.SimError.TheVariants as Refused
use Rattle.tora_world.specs.Topology.{Topology}
use Rattle.tora_sim.specs.Keyed.{IsFirst}
use Rattle.tora_sim.specs.Lanes.{AreOthersKept}
use Rattle.tora_sim.specs.Links.{LinkView}
use Rattle.tora_sim.specs.Nodes.{NodeView, is_of}
use Rattle.tora_sim.specs.Quiet.{AreDeadlines, AreDeadlinesBut}
use Rattle.tora_sim.specs.Steps.{Happened, StopsWith, repeats}
use Rattle.tora_sim.specs.Store.{SimState, IsStore, state_of, world_of}

-- a node and all link ends after its core took items: the node's ends are at the same indexes, other ends are unchanged,
-- and deadlines hold except at ends with a cargo
pub record AreTaken (x : NodeView) (links : List LinkView) (y : NodeView) (after : List LinkView) : Type 0 where
  pub node : y.node ≡ x.node
  pub first : y.first ≡ x.first
  pub count : y.count ≡ x.count
  pub neighbours : length y.seat.core.neighbours ≡ y.count
  pub many : length after ≡ length links
  pub others : AreOthersKept links after x.first x.count
  pub idle : (clock : ℕ) (deadlines : List ℕ) → AreDeadlines clock deadlines links
      → AreDeadlinesBut clock deadlines after x.first x.count

-- the core of node `n` took its items until none waited, at most `most`, or until memory ran out for one
pub record Takes (before after : SimState) (n most : ℕ) (result : Result Bool SimError) : Type 0 where
  pub store : IsStore after
  pub events : MatchResult result (λ some. Happened (world_of before) (repeats most (CoreTurn n) (world_of before))
      (world_of after) some)
      (λ error. (error ≡ Refused.Memory) × StopsWith (world_of before) (repeats most (CoreTurn n) (world_of before))
      Refused.Memory (world_of after))

-- the turns of a core, in any world in which this is a node at an index and these are all link ends
abbrev pub TakesItems : ℕ → NodeView → List LinkView → Result Bool SimError → NodeView → List LinkView → Type 0
TakesItems most x links result y after = (t : Topology) (times : Times) (clock : ℕ) (nodes : List NodeView)
    (ds : List FrameParts) (n home : ℕ) → IsStore (state_of t times clock nodes links ds) → IsFirst (is_of n) nodes home
    → x ≡ slice_index_or nodes home x
    → Takes (state_of t times clock nodes links ds) (state_of t times clock (slice_set nodes home y) after ds) n most
    result

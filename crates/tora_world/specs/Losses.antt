-- How a node can lose its height while a neighbour keeps an entry for it.
use Rattle.std.specs.Prelude.{◌≡◌, ◌≢◌, ℕ, Bool, true, false, Option, List, [], ◌∷◌, ◌++◌, None, Some}
use Rattle.tora_height.specs.declared.level.Level.{Level}
use Rattle.tora_height.specs.Height.{Quintuple}
use Rattle.tora_core.specs.declared.erasure.Erasure.{Erasure}
use Rattle.tora_core.specs.declared.erasure.Erasure.TheVariants.{Plain, Remembered}
use Rattle.tora_core.specs.declared.Input.{Input}
use Rattle.tora_core.specs.declared.destination.Broadcast.TheVariants as Tell
use Rattle.tora_core.specs.View.{View, known_heights, is_entry_at}
use Rattle.tora_core.specs.Rules.{cleared_level, outcome_of, view_after}
use Rattle.tora_core.specs.CoreRun.{CoreView, core_after_all, view_of}
use Rattle.tora_world.specs.Topology.{new_core, erasure_at}
use Rattle.tora_world.specs.World.{World}
use Rattle.tora_world.specs.Walks.{entry_at}
use Rattle.tora_world.specs.Rest.{LacksHeight}

-- a clear of this level removes the entry of its sender at a neighbour with this choice: if the entry is at the level,
-- or, for a neighbour that remembers erased levels, in any case
abbrev pub takes_entry : Erasure → Level → Option Quintuple → Bool
takes_entry Plain level entry = is_entry_at level entry
takes_entry Remembered level entry = true

-- an input removes this height from a view, and the broadcast does not remove the entry for it at a neighbour with this
-- choice
pub data LosesQuietly (choice : Erasure) (v : View) (input : Input) (now : ℕ) (height : Quintuple) : Type 0 where
  -- a clear of another level than that of the height is broadcast, and the neighbour does not remember erased levels
  clears_another_level : (tau oid : ℕ) → (outcome_of v input now).broadcast ≡ Some (Tell.Clear tau oid)
      → takes_entry choice (cleared_level tau oid) (Some height) ≡ false → LosesQuietly choice v input now height
  -- no entry is left, and nothing is broadcast
  loses_last_entry : (outcome_of v input now).broadcast ≡ None → (view_after v input now).height ≡ None
      → known_heights (view_after v input now) ≡ [] → LosesQuietly choice v input now height
  -- an entry is left, but the computed height is out of range, so the view has no height; nothing is broadcast
  finds_no_height : (outcome_of v input now).broadcast ≡ None → (view_after v input now).height ≡ None
      → known_heights (view_after v input now) ≢ [] → LosesQuietly choice v input now height

-- one of these inputs of a core removed the height in this way
pub record WasLost (choice : Erasure) (first : CoreView) (inputs : List (Input × ℕ)) (d : ℕ) (height : Quintuple) :
    Type 0 where
  pub before : List (Input × ℕ)
  pub input : Input
  pub now : ℕ
  pub after : List (Input × ℕ)
  pub split : inputs ≡ before ++ (input, now) ∷ after
  pub view : View
  pub found : view_of (core_after_all first before) d ≡ Some view
  pub had : view.height ≡ Some height
  pub loses : LosesQuietly choice view input now height

-- if an entry is not NULL and its neighbour has no height, the entry is a height that the neighbour lost in this way
abbrev pub StaleAreLost : World → Type 0
StaleAreLost w = (n k d : ℕ) (entry : Quintuple) → entry_at w n k d ≡ Some (Some entry) → LacksHeight w k d
    → WasLost (erasure_at w.topology n) (new_core w.topology k) (w.inputs k) d entry

-- for a node that remembers erased levels, the neighbour lost that height without a broadcast
abbrev pub RememberedAreLostInSilence : World → Type 0
RememberedAreLostInSilence w =
    (n k d : ℕ) (entry : Quintuple) → erasure_at w.topology n ≡ Remembered → entry_at w n k d ≡ Some (Some entry)
    → LacksHeight w k d
    → (lost : WasLost Remembered (new_core w.topology k) (w.inputs k) d entry)
    × ((outcome_of lost.view lost.input lost.now).broadcast ≡ None)

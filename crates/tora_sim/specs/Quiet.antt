-- Worlds in which nothing is to be done, and the deadlines of link ends.
use Rattle.std.specs.Prelude.{◌≡◌, ℕ, ◌+◌, ◌<◌, ◌⊎◌, ◌==◌, Bool, true, false, is_some, List, length, slice_get}
use Rattle.std.specs.Prelude.{slice_index, slice_set, Some}
use Rattle.tora_arq.specs.Settings.{Settings}
use Rattle.tora_arq.specs.LinkEnd.{EndState, is_closed, first_event, frame_due, after_tick}
use Rattle.tora_world.specs.declared.event.Event.TheVariants.{Open, Pull, Transmit, Pump, CoreTurn}
use Rattle.tora_world.specs.World.{World, refusal_of}
use Rattle.tora_sim.specs.Links.{LinkView}
use Rattle.tora_sim.specs.Nodes.{NodeView}
use Rattle.tora_sim.specs.Possible.{has_cargo}

-- no core has an item to take, and no link end can be opened, take a cargo, send a frame or give an event
pub record IsQuiet (w : World) : Type 0 where
  pub cores : (n : ℕ) → is_some (refusal_of w (CoreTurn n)) ≡ true
  pub opens : (n k : ℕ) → is_some (refusal_of w (Open n k)) ≡ true
  pub pulls : (n k : ℕ) → is_some (refusal_of w (Pull n k)) ≡ true
  pub sends : (n k : ℕ) → is_some (refusal_of w (Transmit n k)) ≡ true
  pub pumps : (n k : ℕ) → is_some (refusal_of w (Pump n k)) ≡ true

-- a link end can't be opened, take a cargo, send a frame or give an event
pub record IsQuietEnd (w : World) (n k : ℕ) : Type 0 where
  pub opens : is_some (refusal_of w (Open n k)) ≡ true
  pub pulls : is_some (refusal_of w (Pull n k)) ≡ true
  pub sends : is_some (refusal_of w (Transmit n k)) ≡ true
  pub pumps : is_some (refusal_of w (Pump n k)) ≡ true

-- the end is open and has no event, no cargo waits for it, and before the tick `until` no frame is due and no tick
-- changes it
pub record IsIdleEnd (until : ℕ) (settings : Settings) (state : EndState) (waits : Bool) : Type 0 where
  pub opened : is_closed state ≡ false
  pub lane : waits ≡ false
  pub events : is_some (first_event state) ≡ false
  pub frames : (tick : ℕ) → tick < until → is_some (frame_due settings state tick) ≡ false
  pub ticks : (tick : ℕ) → tick < until → after_tick settings state tick ≡ state

-- the end of a link is open, and has no cargo to take and no event to give
pub record MayOnlySend (link : LinkView) : Type 0 where
  pub opened : is_closed link.state ≡ false
  pub lane : has_cargo link ≡ false
  pub events : is_some (first_event link.state) ≡ false

abbrev pub IsIdleUntil : ℕ → LinkView → Type 0
IsIdleUntil until link = IsIdleEnd until link.settings link.state (has_cargo link)

-- `IsIdleUntil` for a deadline other than 0
abbrev pub IsDeadline : ℕ → LinkView → Type 0
IsDeadline until link = 0 < until → IsIdleUntil until link

-- no item waits for the core of a node
abbrev pub is_idle : NodeView → Bool
is_idle node = length node.items == 0

-- each link end whose deadline has not come is still until then; a deadline that has come gives no information
pub record AreDeadlines (clock : ℕ) (deadlines : List ℕ) (links : List LinkView) : Type 0 where
  pub as_many : length deadlines ≡ length links
  pub idle : (at : ℕ) (link : LinkView) → clock < slice_index deadlines at → slice_get links at ≡ Some link
      → IsIdleUntil (slice_index deadlines at) link

-- the deadlines of the `count` ends from the index `first` on are 0; each other one is unchanged, or 0
pub record AreForgotten (before deadlines : List ℕ) (first count : ℕ) : Type 0 where
  pub as_many : length deadlines ≡ length before
  pub here : (place : ℕ) → place < count → slice_index deadlines (first + place) ≡ 0
  pub others : (at : ℕ) → (slice_index deadlines at ≡ 0) ⊎ (slice_index deadlines at ≡ slice_index before at)

-- the deadline of the link end at an index is 0, or no cargo waits in its lane; the other deadlines are unchanged
abbrev pub IsForgottenWhere : List LinkView → List ℕ → List ℕ → ℕ → Type 0
IsForgottenWhere links before deadlines at = (deadlines ≡ slice_set before at 0)
    ⊎ ((deadlines ≡ before) × ((link : LinkView) → slice_get links at ≡ Some link → has_cargo link ≡ false))

-- of the `count` ends from the index `first` on, those with a waiting cargo have the deadline 0; each other deadline is
-- unchanged, or 0
pub record AreForgottenWhere (links : List LinkView) (before deadlines : List ℕ) (first count : ℕ) : Type 0 where
  pub as_many : length deadlines ≡ length before
  pub here : (place : ℕ) (link : LinkView) → place < count → slice_get links (first + place) ≡ Some link
      → has_cargo link ≡ true → slice_index deadlines (first + place) ≡ 0
  pub others : (at : ℕ) → (slice_index deadlines at ≡ 0) ⊎ (slice_index deadlines at ≡ slice_index before at)

-- `AreDeadlines`, except for those of the `count` ends from the index `first` on with a waiting cargo
pub record AreDeadlinesBut (clock : ℕ) (deadlines : List ℕ) (links : List LinkView) (first count : ℕ) : Type 0 where
  pub as_many : length deadlines ≡ length links
  pub idle : (at : ℕ) (link : LinkView) → clock < slice_index deadlines at → slice_get links at ≡ Some link
      → ((place : ℕ) → place < count → at ≡ first + place → has_cargo link ≡ false)
      → IsIdleUntil (slice_index deadlines at) link

-- Events that happened or were refused.
use Rattle.std.specs.Prelude.{◌≡◌, ◌⊎◌, ℕ, zero, suc, Bool, not, is_some, if◌then◌else◌, List, [], ◌∷◌, Result}
use Rattle.std.specs.Prelude.{MatchResult, Some, None}
use Rattle.std.specs.declared.alloc.AllocError.{AllocError}
use Rattle.tora_world.specs.declared.event.Event.{Event}
use Rattle.tora_world.specs.declared.sim_error.SimError.{SimError}
use Rattle.tora_world.specs.declared.sim_error.SimError.TheVariants as Refused
use Rattle.tora_world.specs.World.{World, is_empty, refusal_of, world_after, world_after_all}
use Rattle.tora_sim.specs.Store.{SimState, world_of}

-- the event is not refused, and leads to this world
pub record IsDone (w : World) (event : Event) (after : World) : Type 0 where
  pub accepted : refusal_of w event ≡ None
  pub world : after ≡ world_after w event

-- the event changed nothing: it is refused for this cause, or memory ran out and it is not refused
pub record IsRefused (w : World) (event : Event) (error : SimError) (after : World) : Type 0 where
  pub cause : ((error ≡ Refused.Memory) × (refusal_of w event ≡ None)) ⊎ (refusal_of w event ≡ Some error)
  pub world : after ≡ w

abbrev pub Does : SimState → Event → Result (Unit {0}) SimError → SimState → Type 0
Does before event result after = MatchResult result (λ _. IsDone (world_of before) event (world_of after)) (λ error.
    IsRefused (world_of before) event error (world_of after))

-- no event is refused, and the last one leads to this world
abbrev pub AllAreDone : World → List Event → World → Type 0
AllAreDone w [] after = after ≡ w
AllAreDone w (event ∷ events) after = (refusal_of w event ≡ None) × AllAreDone (world_after w event) events after

-- an event was refused or ran out of memory, and the world is that after the earlier events
abbrev pub StopsWith : World → List Event → SimError → World → Type 0
StopsWith w [] error after = ⊥
StopsWith w (event ∷ events) error after = IsRefused w event error after
    ⊎ ((refusal_of w event ≡ None) × StopsWith (world_after w event) events error after)

abbrev pub Runs : SimState → List Event → Result (Unit {0}) SimError → SimState → Type 0
Runs before events result after = MatchResult result (λ _. AllAreDone (world_of before) events (world_of after))
    (λ error. StopsWith (world_of before) events error (world_of after))

-- an event repeated until it is refused, at most k times
unfoldable pub repeats : ℕ → Event → World → List Event
repeats zero event w = []
repeats (suc k) event w = if is_some (refusal_of w event) then [] else event ∷ repeats k event (world_after w event)

-- these events happened; `some` is false if there are none
pub record Happened (before : World) (events : List Event) (after : World) (some : Bool) : Type 0 where
  pub after_is : after ≡ world_after_all before events
  pub some_is : some ≡ not (is_empty events)

-- an event was repeated until it is refused, or until memory ran out
abbrev pub Repeats : SimState → ℕ → Event → Result Bool AllocError → SimState → Type 0
Repeats before most event result after =
    MatchResult result (λ some. Happened (world_of before) (repeats most event (world_of before)) (world_of after) some)
    (λ error. StopsWith (world_of before) (repeats most event (world_of before)) Refused.Memory (world_of after))

-- How often an event can be repeated without another event in between.
use Rattle.std.specs.Prelude.{◌≡◌, ◌⊎◌, ℕ, zero, suc, true, is_some}
use Rattle.tora_world.specs.declared.event.Event.{Event}
use Rattle.tora_world.specs.World.{World, refusal_of, world_after}

-- the event happens at most this many times in a row, and is then refused
abbrev pub HappensAtMost : ℕ → Event → World → Type 0
HappensAtMost zero event w = is_some (refusal_of w event) ≡ true
HappensAtMost (suc most) event w = (is_some (refusal_of w event) ≡ true)
    ⊎ HappensAtMost most event (world_after w event)

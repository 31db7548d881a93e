-- When all due frames of a link end are sent.
use Rattle.std.specs.Prelude.{◌≡◌, ℕ, true, is_some}
use Rattle.tora_world.specs.declared.event.Event.TheVariants.{Transmit}
use Rattle.tora_world.specs.World.{refusal_of}
use Rattle.tora_sim.specs.Keyed.{IsFirst}
use Rattle.tora_sim.specs.Links.{is_at}
use Rattle.tora_sim.specs.Store.{SimState, world_of}

-- no frame is due at the end at an index
abbrev pub IsOver : SimState → ℕ → Type 0
IsOver s at = (n k : ℕ) → IsFirst (is_at n k) s.links at → is_some (refusal_of (world_of s) (Transmit n k)) ≡ true

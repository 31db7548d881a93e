-- The idle test of a link end, for a world at rest.
use Rattle.std.specs.Prelude.{◌&&◌, Bool}
use Rattle.tora_world.specs.World.{is_empty}
use Rattle.tora_sim.specs.Links.{LinkView, waiting}

-- no cargo waits in the lane, no event waits in the end, and all submitted packets are acknowledged
abbrev pub is_idle : LinkView → Bool
is_idle link = is_empty (waiting link) && is_empty link.state.events && is_empty link.state.queue

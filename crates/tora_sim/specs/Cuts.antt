-- A cut of the session of a link end, as after a broken link.
use Rattle.std.specs.Prelude.{ℕ, if◌then◌else◌}
use Rattle.tora_world.specs.declared.event.Event.TheVariants.{Tick}
use Rattle.tora_world.specs.Topology.{is_link}
use Rattle.tora_world.specs.World.{World, own_choice}
use Rattle.tora_world.specs.FreeWorld.{free_by}
use Rattle.tora_world.specs.FreeWorld.FreeEvent.{CutsBound}

-- the end of n towards k cuts the session that it is bound to, which is an event of the world with every schedule;
-- nothing changes if there is no such link
abbrev pub after_cut_at : World → ℕ → ℕ → World
after_cut_at w n k = if is_link w.topology n k then free_by (own_choice w Tick) w (CutsBound n k) else w

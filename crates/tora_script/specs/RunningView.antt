-- The view of a running simulation.
use Rattle.tora_world.specs.World.{World}
use Rattle.tora_script.specs.declared.running_simulation.Running.{Running}
use Rattle.tora_script.specs.InFlight.{in_flight_view}
use Rattle.tora_script.specs.SimulationText.{RunningView}

abbrev pub running_view : {S : Type 0} → (S → World) → Running S → RunningView
running_view world s = record {
  dests = s.dests.items;
  nodes = s.nodes.items;
  ends = s.ends.items;
  parted = s.parted;
  channel = s.channel;
  in_flight = in_flight_view s.in_flight;
  has_notice = s.has_notice;
  world = world s.sim;
}

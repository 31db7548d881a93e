-- The state between two lines of a simulation file, and the kind of file that it is.
use Rattle.tora_world.specs.World.{World}
use Rattle.tora_script.specs.declared.simulation.Simulation.{Simulation}
use Rattle.tora_script.specs.declared.simulation.Stage.{Stage}
use Rattle.tora_script.specs.declared.simulation.Stage.TheVariants as At
use Rattle.tora_lines.specs.LineText.{text_from}
use Rattle.tora_lines.specs.Engine.{Kind}
use Rattle.tora_lines.specs.Kinds.{long_lines_are_faults}
use Rattle.tora_script.specs.RunningView.{running_view}
use Rattle.tora_script.specs.Table.{lines_of}
use Rattle.tora_script.specs.SimulationText.{Progress, rules_with}

abbrev pub progress_of : {S : Type 0} → (S → World) → Stage S → Progress
progress_of world At.First = Progress.First
progress_of world (At.Links lines) = Progress.Links lines.dests.items lines.links.items lines.marks.items
progress_of world (At.Runs s) = Progress.Runs (running_view world s)

abbrev pub simulation_kind : {S : Type 0} → (S → World) → Kind (Simulation S)
simulation_kind world = record {
  text = λ s. text_from (rules_with s.setup (lines_of s.table)) (progress_of world s.stage);
  long = λ s line h. long_lines_are_faults (rules_with s.setup (lines_of s.table)) (progress_of world s.stage) line h;
}

-- A simulation that reports its refusals, as a kind of file.
use Rattle.tora_world.specs.World.{World}
use Rattle.tora_script.specs.declared.reported_simulation.Told.{Told}
use Rattle.tora_lines.specs.LineText.{text_from}
use Rattle.tora_lines.specs.Engine.{Kind}
use Rattle.tora_lines.specs.Kinds.{long_lines_are_faults}
use Rattle.tora_script.specs.SimulationView.{progress_of}
use Rattle.tora_script.specs.Table.{lines_of}
use Rattle.tora_script.specs.SimulationText.{rules_with}

abbrev pub told_kind : {S T : Type 0} → (S → World) → Kind (Told S T)
told_kind world = record {
  text = λ s. text_from (rules_with s.state.setup (lines_of s.state.table)) (progress_of world s.state.stage);
  long = λ s line h. long_lines_are_faults (rules_with s.state.setup (lines_of s.state.table))
      (progress_of world s.state.stage) line h;
}

-- A traced simulation as a kind of file.
use Rattle.tora_world.specs.World.{World}
use Rattle.tora_script.specs.declared.traced.traced_simulator.Traced.{Traced}
use Rattle.tora_script.specs.declared.traced.traced_simulation.Tracing.{Tracing}
use Rattle.tora_lines.specs.LineText.{text_from}
use Rattle.tora_lines.specs.Engine.{Kind}
use Rattle.tora_lines.specs.Kinds.{long_lines_are_faults}
use Rattle.tora_script.specs.SimulationView.{progress_of}
use Rattle.tora_script.specs.Table.{lines_of}
use Rattle.tora_script.specs.SimulationText.{rules_with}

-- the world of a simulator whose events are traced
abbrev pub traced_world : {S : Type 0} → (S → World) → Traced S → World
traced_world world t = world t.sim

abbrev pub tracing_kind : {S T W : Type 0} → (S → World) → Kind (Tracing S T W)
tracing_kind world = record {
  text = λ s. text_from (rules_with s.told.state.setup (lines_of s.told.state.table))
      (progress_of (traced_world world) s.told.state.stage);
  long = λ s line h. long_lines_are_faults (rules_with s.told.state.setup (lines_of s.told.state.table))
      (progress_of (traced_world world) s.told.state.stage) line h;
}

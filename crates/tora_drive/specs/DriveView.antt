-- The state between two lines of a drive, and the kind of file that it is.
use Rattle.std.specs.Prelude.{ℕ, List, Option, option_map}
use Rattle.tora_world.specs.World.{World}
use Rattle.tora_lines.specs.LineText.{text_from}
use Rattle.tora_lines.specs.Engine.{Kind}
use Rattle.tora_lines.specs.Kinds.{long_lines_are_faults}
use Rattle.tora_script.specs.SimulationView.{progress_of}
use Rattle.tora_drive.specs.declared.drive.Drive.{Drive}
use Rattle.tora_drive.specs.declared.drive_state.DriveState.{DriveState}
use Rattle.tora_drive.specs.declared.recorded.Recording.{Recording}
use Rattle.tora_drive.specs.DriveText.{StateView, DriveView, drive_rules}
use Rattle.tora_drive.specs.Recording.{recorded_rules}

-- the silent ends, and the number up to which datagrams are forgotten
abbrev pub state_view : DriveState → StateView
state_view o = record { silent = o.silent.items; forgotten = o.forgotten }

-- the record of the last line; None if there is no record
abbrev pub record_view : DriveState → Option (List ℕ)
record_view o = option_map (λ v. v.items) o.recorded

abbrev pub view_of : {S : Type 0} → (S → World) → Drive S → DriveView
view_of world d = record {
  lines = d.lines;
  place = record {
    progress = progress_of world d.stage;
    state = state_view d.state;
  };
}

abbrev pub drive_kind : {S : Type 0} → (S → World) → Kind (Drive S)
drive_kind world = record {
  text = λ d. text_from (drive_rules d.setup) (view_of world d);
  long = λ d line h. long_lines_are_faults (drive_rules d.setup) (view_of world d) line h;
}

-- the kind of file of a recorded drive
abbrev pub recording_kind : {S W : Type 0} → (S → World) → Kind (Recording S W)
recording_kind world = record {
  text = λ r. text_from (recorded_rules r.drive.setup) (view_of world r.drive);
  long = λ r line h. long_lines_are_faults (recorded_rules r.drive.setup) (view_of world r.drive) line
      h;
}

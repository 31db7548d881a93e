-- The worlds that a recorded drive can have.
use Rattle.std.specs.Prelude.{◌≡◌, ℕ, ◌+◌, ◌<◌, if◌then◌else◌, List, [], length, map, Some}
use Rattle.tora_lines.specs.declared.session.TheConstants.{LONGEST_LINE}
use Rattle.tora_lines.specs.LineText.{state_behind}
use Rattle.tora_lines.specs.Shortened.{shortened}
use Rattle.tora_world.specs.declared.event.Event.{Event}
use Rattle.tora_script.specs.declared.node_marks.Mark.{Mark}
use Rattle.tora_world.specs.World.{World, world_after_all}
use Rattle.tora_world.specs.Walks.{AreIds}
use Rattle.tora_sim.specs.Topologies.{topology_of}
use Rattle.tora_script.specs.Simulator.{started}
use Rattle.tora_script.specs.SimulationText.{RunningView, Progress}
use Rattle.tora_drive.specs.declared.setup.DriveSetup.{DriveSetup}
use Rattle.tora_drive.specs.DriveText.{DriveView, drive_rules, fault_line, cause_of}
use Rattle.tora_drive.specs.Recording.{says_notice, recorded_rules}
use Rattle.tora_drive.specs.Runs.{SaysNoNotice}

-- a line, or an empty one in place of `notice N K`; an empty line is always a fault
abbrev pub unnoticed : List ℕ → List ℕ
unnoticed line = if says_notice line then [] else line

-- lines lead a recorded drive to the same state as a drive in which no line is `notice N K`
abbrev pub RecordedAreDrives : Type 0
RecordedAreDrives =
    (setup : DriveSetup) (lines : List (List ℕ)) (v : DriveView)
    → state_behind (recorded_rules setup) (recorded_rules setup).start lines ≡ Some v
    → state_behind (drive_rules setup) (drive_rules setup).start (map unnoticed lines) ≡ Some v

abbrev pub RecordedSaysNoNotice : Type 0
RecordedSaysNoNotice = (lines : List (List ℕ)) → SaysNoNotice (map unnoticed lines)

-- a world is the result of some events, from the first world with these settings of some links, destinations and lines
-- about nodes
pub record IsOfHappened (setup : DriveSetup) (w : World) : Type 0 where
  pub links : List (ℕ × ℕ)
  pub dests : List ℕ
  pub marks : List Mark
  pub ids : AreIds (topology_of links dests)
  pub first : World
  pub begins : started setup.options links dests marks setup.times ≡ Some first
  pub events : List Event
  pub world_is : w ≡ world_after_all first events

-- a statement holds for the world after any lines of a recorded drive, if there is one
abbrev pub EveryRecordedDrive : (DriveSetup → World → Type 0) → Type 0
EveryRecordedDrive Holds =
    (setup : DriveSetup) (lines : List (List ℕ)) (v : DriveView) (s : RunningView)
    → state_behind (recorded_rules setup) (recorded_rules setup).start lines ≡ Some v
    → v.place.progress ≡ Progress.Runs s → Holds setup s.world

-- a line of more than 4,096 bytes, which counts as an empty one, is always a fault and changes nothing
abbrev pub LongLinesAreFaults : (DriveSetup → DriveView → List ℕ → DriveView × List ℕ) → Type 0
LongLinesAreFaults reply =
    (setup : DriveSetup) (v : DriveView) (line : List ℕ) → LONGEST_LINE < length line → reply setup v (shortened line)
    ≡ (record v { lines = v.lines + 1 }, fault_line (v.lines + 1) (cause_of setup.options.limits v.place.progress []))

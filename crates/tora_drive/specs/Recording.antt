-- The record of a drive: lines of a simulation file with the same effect.
use Rattle.std.specs.Prelude.{◌≡◌, ℕ, ◌+◌, Bool, true, false, if◌then◌else◌, codes, List, [], ◌∷◌, ◌++◌, Option, Some}
use Rattle.std.specs.Prelude.{None, option_map, String, string_bytes}
use Rattle.std.specs.declared.alloc.Global.{Global}
use Rattle.std.specs.List.{flat_map}
use Rattle.std.specs.Option.{option_map_or}
use Rattle.std.specs.Fmt.{decimal}
use Rattle.hex.specs.Hex.{encode_lower}
use Rattle.tora_lines.specs.declared.ended.Ended.{Ended}
use Rattle.tora_lines.specs.LineText.{Rules}
use Rattle.tora_lines.specs.Engine.{IsWholeText, IsFrontOfText}
use Rattle.tora_world.specs.declared.event.Event.{Event}
use Rattle.tora_world.specs.declared.event.Event.TheVariants as Happen
use Rattle.tora_script.specs.declared.node_marks.Mark.{Mark}
use Rattle.tora_world.specs.World.{World, world_after_all}
use Rattle.tora_script.specs.declared.script_line.SimulationLine.TheVariants.{Happens, Rounds, Part, Mend, Heights}
use Rattle.tora_script.specs.declared.script_line.SimulationLine.TheVariants.{Sent, Taken, Exact, Walk, Rest}
use Rattle.tora_script.specs.Rounds.{Happened}
use Rattle.tora_script.specs.Setup.{plain}
use Rattle.tora_script.specs.Simulator.{started}
use Rattle.tora_script.specs.SimulationGrammar.{call_text}
use Rattle.tora_script.specs.SimulationLines.{link_of, mark_of}
use Rattle.tora_script.specs.SimulationText.{RunningView, Progress, begun_in}
use Rattle.tora_drive.specs.declared.setup.DriveSetup.{DriveSetup}
use Rattle.tora_drive.specs.declared.cause.Cause.TheVariants.{Recorded}
use Rattle.tora_drive.specs.declared.line.DriveLine.{DriveLine}
use Rattle.tora_drive.specs.declared.line.DriveLine.TheVariants.{Script, Step, Needs, Near, Far, Notice, Bytes, Forget}
use Rattle.tora_drive.specs.DriveLines.{drive_line_of}
use Rattle.tora_drive.specs.DriveText.{StateView, outcome_of, place_reply, DriveView, drive_reply, drive_rules}
use Rattle.tora_drive.specs.DriveText.{fault_line, shortened_text}
use Rattle.tora_drive.specs.Steps.{step}
use Rattle.tora_drive.specs.Taking.{line_in}

-- ---- the line of an event

-- the word T of `restart N T`: `-` for no bytes, or 32 hexadecimal digits
abbrev pub torn_text : Option (List ℕ) → List ℕ
torn_text None = codes "-"
torn_text (Some bytes) = encode_lower bytes

abbrev pub pair_text : List ℕ → ℕ → ℕ → List ℕ
pair_text word n k = word ++ decimal n ++ codes " " ++ decimal k

-- the line of an event, without its LF
unfoldable pub event_text : Event → List ℕ
event_text (Happen.Need n d) = pair_text (codes "need ") n d
event_text Happen.Tick = codes "tick"
event_text (Happen.Open n k) = pair_text (codes "open ") n k
event_text (Happen.Pull n k) = pair_text (codes "pull ") n k
event_text (Happen.Transmit n k) = pair_text (codes "transmit ") n k
event_text (Happen.Deliver i) = codes "deliver " ++ decimal i
event_text (Happen.Pump n k) = pair_text (codes "pump ") n k
event_text (Happen.CoreTurn n) = codes "turn " ++ decimal n
event_text (Happen.Arm n call) = codes "arm " ++ decimal n ++ codes " " ++ call_text call
event_text (Happen.Restart n torn) = codes "restart " ++ decimal n ++ codes " " ++ torn_text torn

abbrev pub event_line : Event → List ℕ
event_line event = event_text event ++ 10 ∷ []

abbrev pub events_text : List Event → List ℕ
events_text events = flat_map event_line events

-- ---- a record, if there is one

abbrev pub Record : Type 0
Record = Option (List ℕ)

abbrev pub text_record : Option (String Global) → Record
text_record text = option_map string_bytes text

abbrev pub with_record : Record → List ℕ → Record
with_record None bytes = None
with_record (Some text) bytes = Some (text ++ bytes)

-- Events, possibly none, led from one world to another, and their lines were appended to the record.
pub record HappenedTold (before : World) (events : List Event) (after : World) (some : Bool) (old new : Record) : Type 0
  where
    pub happened : Happened before events after some
    pub told : new ≡ with_record old (events_text events)

-- `HappenedTold` without the answer whether an event happened
pub record Told (before : World) (events : List Event) (after : World) (old new : Record) : Type 0 where
  pub after_is : after ≡ world_after_all before events
  pub told : new ≡ with_record old (events_text events)

-- ---- the record after an accepted line

-- the record with a text, if there is one
abbrev pub with_text : Record → Record → Record
with_text r None = r
with_text r (Some text) = with_record r text

abbrev pub with_line : Record → List ℕ → Record
with_line r line = with_record r (line ++ 10 ∷ [])

-- the record with the events of the line, if the line is `step`
abbrev pub step_recorded : Record → RunningView → StateView → DriveLine → Record
step_recorded r s o Step = with_record r (events_text (step s.nodes s.ends o.silent s.world))
step_recorded r s o (Script line) = r
step_recorded r s o Needs = r
step_recorded r s o (Near n k) = r
step_recorded r s o (Far n k) = r
step_recorded r s o (Notice n k) = r
step_recorded r s o (Bytes i) = r
step_recorded r s o (Forget i) = r

-- the record with a line other than `step`: an event that is not refused has its line, an order has the line as it is,
-- and a line that only a drive has changes nothing
abbrev pub line_recorded : Record → DriveLine → List ℕ → Bool → Record
line_recorded r (Script (Happens event)) line refused = if refused then r else with_record r (event_line event)
line_recorded r (Script (Rounds n)) line refused = with_line r line
line_recorded r (Script (Part a b)) line refused = with_line r line
line_recorded r (Script (Mend a b)) line refused = with_line r line
line_recorded r (Script (Heights d)) line refused = with_line r line
line_recorded r (Script (Sent a b life)) line refused = with_line r line
line_recorded r (Script (Taken b a life)) line refused = with_line r line
line_recorded r (Script (Exact d)) line refused = with_line r line
line_recorded r (Script (Walk n d)) line refused = with_line r line
line_recorded r (Script Rest) line refused = with_line r line
line_recorded r Step line refused = r
line_recorded r Needs line refused = r
line_recorded r (Near n k) line refused = r
line_recorded r (Far n k) line refused = r
line_recorded r (Notice n k) line refused = r
line_recorded r (Bytes i) line refused = r
line_recorded r (Forget i) line refused = r

-- the record after a line of a running simulation; a fault has no line in it
unfoldable pub answer_recorded : Record → RunningView → StateView → List ℕ → Record
answer_recorded r s o text =
    option_map_or (λ line. option_map_or (λ q. line_recorded (step_recorded r s o line) line text q.refused)
    (outcome_of s o line) r) (line_in s.world o.forgotten text) r

-- the record of the first line after the links and the lines about nodes
abbrev pub first_recorded : Record → DriveSetup → StateView → List ℕ → List (ℕ × ℕ) → List Mark → List ℕ → Record
first_recorded r setup o dests links marks line =
    option_map_or (λ w. answer_recorded r (begun_in dests (plain setup.times) w) o line)
    (started setup.options links dests marks setup.times) r

abbrev pub link_recorded : Record → DriveSetup → StateView → List ℕ → List (ℕ × ℕ) → List Mark → List ℕ
    → Option (ℕ × ℕ) → Option Mark → Record
link_recorded r setup o dests links marks line (Some link) mark = with_line r line
link_recorded r setup o dests links marks line None (Some mark) = with_line r line
link_recorded r setup o dests links marks line None None = first_recorded r setup o dests links marks line

-- `first_recorded` at any stage; the record does not change unless the stage is `Links`
abbrev pub run_recorded : Record → DriveSetup → StateView → Progress → List ℕ → Record
run_recorded r setup o Progress.First line = r
run_recorded r setup o (Progress.Links dests links marks) line =
    first_recorded r setup o dests links marks line
run_recorded r setup o (Progress.Runs s) line = r

-- the record after any line that is accepted
unfoldable pub place_recorded : Record → DriveSetup → StateView → Progress → List ℕ → Record
place_recorded r setup o Progress.First line = with_line r line
place_recorded r setup o (Progress.Links dests links marks) line =
    link_recorded r setup o dests links marks line (link_of line) (mark_of line)
place_recorded r setup o (Progress.Runs s) line = answer_recorded r s o line

-- the emptied record, if there is a record
abbrev pub cleared : Record → Record
cleared None = None
cleared (Some text) = Some []

-- the record of this line alone, which is empty for a fault
abbrev pub drive_recorded : Record → DriveSetup → DriveView → List ℕ → Record
drive_recorded r setup v line =
    option_map_or (λ q. place_recorded (cleared r) setup v.place.state v.place.progress line)
    (place_reply setup v.place.state v.place.progress line) (cleared r)

-- ---- a recorded drive

-- the line is `notice N K`, which cuts a session; a simulation file has no such line
abbrev pub is_notice : Option DriveLine → Bool
is_notice None = false
is_notice (Some (Notice n k)) = true
is_notice (Some (Script line)) = false
is_notice (Some Step) = false
is_notice (Some Needs) = false
is_notice (Some (Near n k)) = false
is_notice (Some (Far n k)) = false
is_notice (Some (Bytes i)) = false
is_notice (Some (Forget i)) = false

abbrev pub says_notice : List ℕ → Bool
says_notice line = is_notice (drive_line_of line)

-- the answer to a line that cannot be recorded: it is a fault, which changes only the number of lines
abbrev pub unrecorded : DriveView → DriveView × List ℕ
unrecorded v = (record v { lines = v.lines + 1 }, fault_line (v.lines + 1) Recorded)

-- the answer to a line: as in any drive, except that `notice N K` is a fault
abbrev pub recorded_reply : DriveSetup → DriveView → List ℕ → DriveView × List ℕ
recorded_reply setup v line = if says_notice line then unrecorded v else drive_reply setup v line

abbrev pub recorded_rules : DriveSetup → Rules DriveView
recorded_rules setup = record {
  start = (drive_rules setup).start;
  reply = λ v line. Some (recorded_reply setup v line);
  at_end = λ v n. None;
}

-- ---- what `drive_recorded` promises

-- The known bytes grew by the answers to the lines of the input, and the input ends as the result says.
abbrev pub DrivesRecorded : DriveSetup → List ℕ → Option (List ℕ) → Option (List ℕ) → Ended → Type 0
DrivesRecorded setup input old new ended =
    IsWholeText (shortened_text (recorded_rules setup)) input old new ended

-- The reader returned some bytes, and the writer got a prefix of the answers to them.
abbrev pub IsRecordedBegun : DriveSetup → Option (List ℕ) → Option (List ℕ) → Option (List ℕ)
    → Option (List ℕ) → Type 0
IsRecordedBegun setup old_reader new_reader old_writer new_writer =
    IsFrontOfText (shortened_text (recorded_rules setup)) old_reader new_reader old_writer new_writer

-- The lines of a simulation file that have the effect of a line of a drive.
use Rattle.std.specs.Prelude.{◌≡◌, ℕ, ◌<◌, ◌^◌, Bool, if◌then◌else◌, List, [], ◌∷◌, ◌++◌, length, map, Option, Some}
use Rattle.std.specs.Prelude.{None}
use Rattle.std.specs.List.{AllByRecursion}
use Rattle.std.specs.Option.{option_map_or, option_and_then}
use Rattle.hex.specs.Hex.{IsBytes}
use Rattle.tora_lines.specs.LineText.{state_behind}
use Rattle.tora_packet.specs.PacketParts.{IsId}
use Rattle.tora_world.specs.declared.event.Event.{Event}
use Rattle.tora_world.specs.declared.event.Event.TheVariants as Happen
use Rattle.tora_script.specs.declared.node_marks.Mark.{Mark}
use Rattle.tora_world.specs.World.{World}
use Rattle.tora_script.specs.declared.script_line.SimulationLine.{SimulationLine}
use Rattle.tora_script.specs.declared.script_line.SimulationLine.TheVariants.{Happens, Rounds, Part, Mend, Heights}
use Rattle.tora_script.specs.declared.script_line.SimulationLine.TheVariants.{Sent, Taken, Exact, Walk, Rest}
use Rattle.tora_script.specs.Setup.{plain}
use Rattle.tora_script.specs.Simulator.{started}
use Rattle.tora_script.specs.SimulationLines.{link_of, mark_of, simulation_line_of}
use Rattle.tora_script.specs.SimulationText.{RunningView, Progress, begun_in, running_reply}
use Rattle.tora_drive.specs.declared.setup.DriveSetup.{DriveSetup}
use Rattle.tora_drive.specs.declared.line.DriveLine.{DriveLine}
use Rattle.tora_drive.specs.declared.line.DriveLine.TheVariants.{Script, Step, Needs, Near, Far, Notice, Bytes, Forget}
use Rattle.tora_drive.specs.DriveText.{StateView, Outcome, outcome_of, place_reply, DriveView}
use Rattle.tora_drive.specs.Recording.{event_text, says_notice, recorded_reply, recorded_rules}
use Rattle.tora_drive.specs.Steps.{step}
use Rattle.tora_drive.specs.Taking.{line_in}

-- the lines that a record has for an accepted line, refused or not
abbrev pub script_of : RunningView → StateView → DriveLine → Bool → List SimulationLine
script_of s o (Script (Happens event)) refused = if refused then [] else Happens event ∷ []
script_of s o (Script (Rounds n)) refused = Rounds n ∷ []
script_of s o (Script (Part a b)) refused = Part a b ∷ []
script_of s o (Script (Mend a b)) refused = Mend a b ∷ []
script_of s o (Script (Heights d)) refused = Heights d ∷ []
script_of s o (Script (Sent a b life)) refused = Sent a b life ∷ []
script_of s o (Script (Taken b a life)) refused = Taken b a life ∷ []
script_of s o (Script (Exact d)) refused = Exact d ∷ []
script_of s o (Script (Walk n d)) refused = Walk n d ∷ []
script_of s o (Script Rest) refused = Rest ∷ []
script_of s o Step refused = map (λ event. Happens event) (step s.nodes s.ends o.silent s.world)
script_of s o Needs refused = []
script_of s o (Near n k) refused = []
script_of s o (Far n k) refused = []
script_of s o (Notice n k) refused = []
script_of s o (Bytes i) refused = []
script_of s o (Forget i) refused = []

-- the simulation after some lines of its file; None if one is a fault
abbrev pub simulated : RunningView → List SimulationLine → Option RunningView
simulated s [] = Some s
simulated s (line ∷ lines) = option_and_then (λ r. simulated r.0 lines) (running_reply s line)

-- the line is not `notice N K`, which cuts a session
abbrev pub CutsNothing : DriveLine → Type 0
CutsNothing line = (n k : ℕ) → line ≡ Notice n k → ⊥

-- a line that cuts no session and the lines of its record lead to the same simulation
abbrev pub ScriptsStandForLines : Type 0
ScriptsStandForLines =
    (s : RunningView) (o : StateView) (line : DriveLine) (q : Outcome) → CutsNothing line → outcome_of s o line ≡ Some q
    → simulated s (script_of s o line q.refused) ≡ Some q.run

-- the bytes of a restart: none, or 16 bytes
abbrev pub IsTorn : Option (List ℕ) → Type 0
IsTorn None = Unit {0}
IsTorn (Some bytes) = (length bytes ≡ 16) × IsBytes bytes

-- the numbers in an event are in range: those of nodes are ids, and that of a datagram is below 2^64
abbrev pub HasNumbers : Event → Type 0
HasNumbers (Happen.Need n d) = IsId n × IsId d
HasNumbers Happen.Tick = Unit {0}
HasNumbers (Happen.Open n k) = IsId n × IsId k
HasNumbers (Happen.Pull n k) = IsId n × IsId k
HasNumbers (Happen.Transmit n k) = IsId n × IsId k
HasNumbers (Happen.Deliver i) = i < 2 ^ 64
HasNumbers (Happen.Pump n k) = IsId n × IsId k
HasNumbers (Happen.CoreTurn n) = IsId n
HasNumbers (Happen.Arm n call) = IsId n
HasNumbers (Happen.Restart n torn) = IsId n × IsTorn torn

-- the line of an event is read as that event
abbrev pub EventsAreRead : Type 0
EventsAreRead = (event : Event) → HasNumbers event → simulation_line_of (event_text event) ≡ Some (Happens event)

-- the line is not an event
abbrev pub IsOrder : SimulationLine → Type 0
IsOrder line = (event : Event) → line ≡ Happens event → ⊥

-- the line of an order, which a record has as it is, is read as that order
abbrev pub OrdersAreRead : Type 0
OrdersAreRead =
    (w : World) (forgotten : ℕ) (text : List ℕ) (order : SimulationLine) → IsOrder order
    → line_in w forgotten text ≡ Some (Script order) → simulation_line_of text ≡ Some order

-- the two nodes of a link end are ids
abbrev pub IsEnd : ℕ × ℕ → Type 0
IsEnd e = IsId e.0 × IsId e.1

-- the numbers of the events of a step are in range
abbrev pub StepsHaveNumbers : Type 0
StepsHaveNumbers =
    (nodes : List ℕ) (ends silent : List (ℕ × ℕ)) → AllByRecursion IsId nodes → AllByRecursion IsEnd ends → (w : World)
    → AllByRecursion HasNumbers (step nodes ends silent w)

-- ---- all lines

-- the lines of the record for the text of a line, if the line is accepted
abbrev pub script_in : RunningView → StateView → List ℕ → List SimulationLine
script_in s o text = option_map_or (λ line. option_map_or (λ q. script_of s o line q.refused) (outcome_of s o line) [])
    (line_in s.world o.forgotten text) []

abbrev pub first_script : DriveSetup → StateView → List ℕ → List (ℕ × ℕ) → List Mark → List ℕ
    → List SimulationLine
first_script setup o dests links marks line =
    option_map_or (λ w. script_in (begun_in dests (plain setup.times) w) o line)
    (started setup.options links dests marks setup.times) []

-- the recorded lines after the links, for a line before the simulation runs: none, unless this line makes the world
abbrev pub link_script : DriveSetup → StateView → List ℕ → List (ℕ × ℕ) → List Mark → List ℕ → Option (ℕ × ℕ)
    → Option Mark → List SimulationLine
link_script setup o dests links marks line (Some link) mark = []
link_script setup o dests links marks line None (Some mark) = []
link_script setup o dests links marks line None None = first_script setup o dests links marks line

unfoldable pub place_script : DriveSetup → StateView → Progress → List ℕ → List SimulationLine
place_script setup o Progress.First line = []
place_script setup o (Progress.Links dests links marks) line =
    link_script setup o dests links marks line (link_of line) (mark_of line)
place_script setup o (Progress.Runs s) line = script_in s o line

-- the recorded lines after the links, for any line; none for a fault
abbrev pub line_script : DriveSetup → DriveView → List ℕ → List SimulationLine
line_script setup v line =
    if says_notice line then [] else option_map_or (λ q. place_script setup v.place.state v.place.progress line)
    (place_reply setup v.place.state v.place.progress line) []

-- the lines of the record after the links, for the lines of a recorded drive from one on
unfoldable pub scripts : DriveSetup → DriveView → List (List ℕ) → List SimulationLine
scripts setup v [] = []
scripts setup v (line ∷ lines) = line_script setup v line
    ++ scripts setup (recorded_reply setup v line).0 lines

-- A simulation is the result of these lines, from the first world with these settings of some links, destinations and
-- lines about nodes.
pub record IsSimulated (setup : DriveSetup) (script : List SimulationLine) (s : RunningView) : Type 0 where
  pub links : List (ℕ × ℕ)
  pub dests : List ℕ
  pub marks : List Mark
  pub first : World
  pub begins : started setup.options links dests marks setup.times ≡ Some first
  pub leads : simulated (begun_in dests (plain setup.times) first) script ≡ Some s

-- after any lines of a recorded drive, its simulation is the result of the lines of the record
abbrev pub RecordsAreSimulated : Type 0
RecordsAreSimulated =
    (setup : DriveSetup) (lines : List (List ℕ)) (v : DriveView) (s : RunningView)
    → state_behind (recorded_rules setup) (recorded_rules setup).start lines ≡ Some v
    → v.place.progress ≡ Progress.Runs s
    → IsSimulated setup (scripts setup (recorded_rules setup).start lines) s

-- The answers of a drive to its lines.
use Rattle.std.specs.Prelude.{ℕ, ◌+◌, Bool, true, false, not, nat_le, max, is_some, if◌then◌else◌, codes, List, [], ◌∷◌}
use Rattle.std.specs.Prelude.{◌++◌, length, filter, map, Option, Some, None, option_map}
use Rattle.std.specs.List.{flat_map}
use Rattle.std.specs.Option.{option_map_or, option_and_then}
use Rattle.std.specs.Fmt.{decimal}
use Rattle.hex.specs.Hex.{encode_lower}
use Rattle.tora_frame.specs.FrameParts.{FrameParts}
use Rattle.tora_frame.specs.FrameGrammar.{frame_spelling}
use Rattle.tora_arq.specs.LinkEnd.{bound_life}
use Rattle.tora_lines.specs.declared.ended.Ended.{Ended}
use Rattle.tora_lines.specs.LineText.{Text, Rules, text_from}
use Rattle.tora_lines.specs.Pieces.{pieces_of}
use Rattle.tora_lines.specs.Shortened.{shortened}
use Rattle.tora_lines.specs.Engine.{IsWholeText, IsFrontOfText}
use Rattle.tora_world.specs.declared.event.Event.{Event}
use Rattle.tora_world.specs.declared.event.Event.TheVariants as Happen
use Rattle.tora_world.specs.declared.sim_error.SimError.TheVariants as Refused
use Rattle.tora_world.specs.World.{World, datagram, refusal_of, world_after_all}
use Rattle.tora_sim.specs.Cuts.{after_cut_at}
use Rattle.tora_sim.specs.Readers.{flag_at}
use Rattle.tora_script.specs.declared.script_line.SimulationLine.{SimulationLine}
use Rattle.tora_script.specs.declared.script_line.SimulationLine.TheVariants.{Happens, Rounds, Part, Mend, Heights}
use Rattle.tora_script.specs.declared.script_line.SimulationLine.TheVariants.{Sent, Taken, Exact, Walk, Rest}
use Rattle.tora_world.specs.declared.limits.Limits.{Limits}
use Rattle.tora_script.specs.declared.node_marks.Mark.{Mark}
use Rattle.tora_script.specs.Simulator.{has_topology, started}
use Rattle.tora_script.specs.Setup.{plain}
use Rattle.tora_script.specs.SimulationLines.{link_of, mark_of}
use Rattle.tora_script.specs.SimulationText.{RunningView, Progress, Reply, begun_in, has_end, refusal_text, event_reply}
use Rattle.tora_script.specs.SimulationText.{running_reply, first_progress, with_link, with_mark_line}
use Rattle.tora_drive.specs.declared.setup.DriveSetup.{DriveSetup}
use Rattle.tora_drive.specs.declared.cause.Cause.{Cause}
use Rattle.tora_drive.specs.declared.cause.Cause.TheVariants.{Dests, NoLink, Topology, Name, Word, Recorded}
use Rattle.tora_drive.specs.declared.line.DriveLine.{DriveLine}
use Rattle.tora_drive.specs.declared.line.DriveLine.TheVariants.{Script, Step, Needs, Near, Far, Notice, Bytes, Forget}
use Rattle.tora_drive.specs.DriveLines.{drive_line_of}
use Rattle.tora_drive.specs.Records.{sent_text, hops_text}
use Rattle.tora_drive.specs.Steps.{is_end, is_silent, step}
use Rattle.tora_drive.specs.Taking.{line_in}

-- ---- the state that a drive has besides the simulation

pub record StateView : Type 0 where
  pub silent : List (ℕ × ℕ)  -- the silent ends
  pub forgotten : ℕ  -- the number up to which datagrams are forgotten

abbrev pub first_state : StateView
first_state = record { silent = []; forgotten = 0 }

-- the datagram with a number, counted from 1, unless it is forgotten
abbrev pub named : StateView → World → ℕ → Option FrameParts
named o w i = if nat_le i o.forgotten then None else datagram w i

-- the silent ends with one more; an end that is already silent is not added again
abbrev pub with_silent : ℕ × ℕ → List (ℕ × ℕ) → List (ℕ × ℕ)
with_silent e silent = if is_silent silent e then silent else silent ++ e ∷ []

abbrev pub without_silent : ℕ × ℕ → List (ℕ × ℕ) → List (ℕ × ℕ)
without_silent e silent = filter (λ f. not (is_end e f)) silent

-- ---- a line of a running simulation

-- the effect of a line: the simulation and the drive's own state after it, its first output, and whether it is refused
pub record Outcome : Type 0 where
  pub run : RunningView
  pub state : StateView
  pub text : List ℕ
  pub refused : Bool

abbrev pub outcome : RunningView → StateView → List ℕ → Bool → Outcome
outcome s o text refused = record { run = s; state = o; text = text; refused = refused }

-- the outcome of a line with this reply, which is not refused
abbrev pub quiet : StateView → Reply → Outcome
quiet o r = record { run = r.0; state = o; text = r.1; refused = false }

-- the outcome of a line that is not refused, with this state and output
abbrev pub shown : RunningView → StateView → List ℕ → Outcome
shown s o text = record { run = s; state = o; text = text; refused = false }

-- the refusal of a line that names a datagram which does not exist or is forgotten
abbrev pub unnamed : RunningView → StateView → Outcome
unnamed s o = record { run = s; state = o; text = refusal_text (Some Refused.NoDatagram); refused = true }

-- the refusal of a line that is not possible now
abbrev pub impossible : RunningView → StateView → Outcome
impossible s o = record { run = s; state = o; text = refusal_text (Some Refused.NotPossible); refused = true }

-- the event is the delivery of a forgotten datagram, which can no longer be named
abbrev pub is_forgotten : StateView → Event → Bool
is_forgotten o (Happen.Deliver i) = nat_le i o.forgotten
is_forgotten o (Happen.CoreTurn n) = false
is_forgotten o (Happen.Restart n torn) = false
is_forgotten o (Happen.Need n d) = false
is_forgotten o Happen.Tick = false
is_forgotten o (Happen.Open n k) = false
is_forgotten o (Happen.Pull n k) = false
is_forgotten o (Happen.Transmit n k) = false
is_forgotten o (Happen.Pump n k) = false
is_forgotten o (Happen.Arm n call) = false

-- the outcome of an event: no output, or `refused N` if it changes nothing
abbrev pub event_outcome : RunningView → StateView → Event → Outcome
event_outcome s o event =
    if is_forgotten o event then unnamed s o
    else record {
      run = (event_reply s event).0;
      state = o;
      text = (event_reply s event).1;
      refused = is_some (refusal_of s.world event);
    }

-- the world after a step
abbrev pub after_step : RunningView → StateView → World
after_step s o = world_after_all s.world (step s.nodes s.ends o.silent s.world)

-- `need N D` if the core of N requires a route to D
unfoldable pub need_line : World → ℕ → ℕ → List ℕ
need_line w n d = if flag_at w n d then codes "need " ++ decimal n ++ codes " " ++ decimal d ++ 10 ∷ [] else []

abbrev pub needs_text : World → List ℕ → List ℕ → List ℕ
needs_text w nodes dests = flat_map (λ n. flat_map (need_line w n) dests) nodes

-- `bytes ID HEX`
unfoldable pub bytes_line : ℕ → FrameParts → List ℕ
bytes_line i f = codes "bytes " ++ decimal i ++ codes " " ++ encode_lower (frame_spelling f) ++ 10 ∷ []

-- the outcome with these silent ends; None, for a fault, if there is no such end
abbrev pub silenced : RunningView → StateView → ℕ → ℕ → List (ℕ × ℕ) → Option Outcome
silenced s o n k silent = if has_end n k s.ends then Some (shown s (record o { silent = silent }) []) else None

-- the outcome of `notice N K`: the end of n towards k cuts its session and is closed; refused if the end is not bound
abbrev pub noticed : RunningView → StateView → ℕ → ℕ → Outcome
noticed s o n k = if is_some (bound_life (s.world.ends n k)) then shown (record s { world = after_cut_at s.world n k })
    o [] else impossible s o

-- the outcome of `forget I`: the datagrams up to I are forgotten, like those forgotten before; refused if fewer were
-- sent
abbrev pub forgetting : RunningView → StateView → ℕ → Outcome
forgetting s o i =
    if nat_le i (length s.world.datagrams) then shown s (record o { forgotten = max o.forgotten i }) [] else unnamed s o

-- the outcome of a line of a simulation file, with the output of a simulation; None for a fault
abbrev pub script_outcome : RunningView → StateView → SimulationLine → Option Outcome
script_outcome s o (Happens event) = Some (event_outcome s o event)
script_outcome s o line = option_map (quiet o) (running_reply s line)

-- the outcome of a line; None for a fault
unfoldable pub outcome_of : RunningView → StateView → DriveLine → Option Outcome
outcome_of s o (Script line) = script_outcome s o line
outcome_of s o Step = Some (shown (record s { world = after_step s o }) o [])
outcome_of s o Needs = Some (shown s o (needs_text s.world s.nodes s.dests))
outcome_of s o (Near n k) = silenced s o n k (without_silent (n, k) o.silent)
outcome_of s o (Far n k) = silenced s o n k (with_silent (n, k) o.silent)
outcome_of s o (Notice n k) = if has_end n k s.ends then Some (noticed s o n k) else None
outcome_of s o (Bytes i) = Some (option_map_or (λ f. shown s o (bytes_line i f)) (named o s.world i) (unnamed s o))
outcome_of s o (Forget i) = Some (forgetting s o i)

-- the event may let a core take items, or restarts a node; no other event changes a next hop
abbrev pub may_turn : Event → Bool
may_turn (Happen.CoreTurn n) = true
may_turn (Happen.Restart n torn) = true
may_turn (Happen.Need n d) = false
may_turn Happen.Tick = false
may_turn (Happen.Open n k) = false
may_turn (Happen.Pull n k) = false
may_turn (Happen.Transmit n k) = false
may_turn (Happen.Deliver i) = false
may_turn (Happen.Pump n k) = false
may_turn (Happen.Arm n call) = false

abbrev pub may_change_hops : DriveLine → Bool
may_change_hops (Script (Happens event)) = may_turn event
may_change_hops (Script (Rounds r)) = true
may_change_hops (Script (Part a b)) = false
may_change_hops (Script (Mend a b)) = false
may_change_hops (Script (Heights d)) = false
may_change_hops (Script (Sent a b life)) = false
may_change_hops (Script (Taken b a life)) = false
may_change_hops (Script (Exact d)) = false
may_change_hops (Script (Walk n d)) = false
may_change_hops (Script Rest) = false
may_change_hops Step = true
may_change_hops Needs = false
may_change_hops (Near n k) = false
may_change_hops (Far n k) = false
may_change_hops (Notice n k) = false
may_change_hops (Bytes i) = false
may_change_hops (Forget i) = false

-- `ok`, unless the line was refused
abbrev pub closing : Bool → List ℕ
closing is_refused = if is_refused then [] else codes "ok" ++ 10 ∷ []

-- the simulation and the drive's own state after a line, and the answer
abbrev pub DriveReply : Type 0
DriveReply = RunningView × StateView × List ℕ

-- the answer to a line: the first output, then what the line changed, and `ok`
abbrev pub told : RunningView → Outcome → DriveReply
told s r = (
  r.run,
  r.state,
  r.text ++ sent_text s.world r.run.world ++ hops_text s.nodes s.dests s.world r.run.world
      ++ closing r.refused,
)

unfoldable pub answer_to : RunningView → StateView → List ℕ → Option DriveReply
answer_to s o text =
    option_and_then (λ line. option_map (told s) (outcome_of s o line)) (line_in s.world o.forgotten text)

-- ---- any line

-- the stage of a drive, with the state that only a drive has
pub record PlaceView : Type 0 where
  pub progress : Progress
  pub state : StateView

abbrev pub Placed : Type 0
Placed = PlaceView × List ℕ

abbrev pub placed : Progress → StateView → List ℕ → Placed
placed progress o text = (record { progress = progress; state = o }, text)

abbrev pub running_at : DriveReply → Placed
running_at r = (record { progress = Progress.Runs r.0; state = r.1 }, r.2)

-- the answer `ok` to a line before the simulation runs
abbrev pub acknowledged : StateView → Progress → Placed
acknowledged o progress = (record { progress = progress; state = o }, closing false)

-- the first line after the links and the lines about nodes, which makes the world: at least one link is required
abbrev pub first_answer : DriveSetup → StateView → List ℕ → List (ℕ × ℕ) → List Mark → List ℕ → Option DriveReply
first_answer setup o dests [] marks line = None
first_answer setup o dests (link ∷ links) marks line =
    option_and_then (λ w. answer_to (begun_in dests (plain setup.times) w) o line)
    (started setup.options (link ∷ links) dests marks setup.times)

-- a line after the first line: a link, a line about a node, or the first line of the running simulation
abbrev pub link_answer : DriveSetup → StateView → List ℕ → List (ℕ × ℕ) → List Mark → List ℕ → Option (ℕ × ℕ)
    → Option Mark → Option Placed
link_answer setup o dests links marks line (Some link) mark =
    option_map (acknowledged o) (with_link dests links marks link)
link_answer setup o dests links marks line None (Some mark) =
    option_map (acknowledged o) (with_mark_line setup.options.limits dests links marks mark)
link_answer setup o dests links marks line None None =
    option_map running_at (first_answer setup o dests links marks line)

-- `first_answer` at any stage; None unless the stage is `Links`
abbrev pub run_begun : DriveSetup → StateView → Progress → List ℕ → Option Placed
run_begun setup o Progress.First line = None
run_begun setup o (Progress.Links dests links marks) line =
    option_map running_at (first_answer setup o dests links marks line)
run_begun setup o (Progress.Runs s) line = None

-- the stage after a line, and the answer; None for a fault
unfoldable pub place_reply : DriveSetup → StateView → Progress → List ℕ → Option Placed
place_reply setup o Progress.First line = option_map (acknowledged o) (first_progress line)
place_reply setup o (Progress.Links dests links marks) line =
    link_answer setup o dests links marks line (link_of line) (mark_of line)
place_reply setup o (Progress.Runs s) line = option_map running_at (answer_to s o line)

-- ---- faults

-- the fault of a line after the links: it has none of the forms of a line, or names something that does not exist
abbrev pub cause_of_line : List ℕ → Cause
cause_of_line line = if is_some (drive_line_of line) then Name else Word

abbrev pub cause_behind_links : Limits → List ℕ → List (ℕ × ℕ) → List ℕ → Cause
cause_behind_links limits dests [] line = NoLink
cause_behind_links limits dests (link ∷ links) line = if has_topology limits (link ∷ links) dests then cause_of_line
    line else Topology

unfoldable pub cause_of : Limits → Progress → List ℕ → Cause
cause_of limits Progress.First line = Dests
cause_of limits (Progress.Links dests links marks) line = cause_behind_links limits dests links line
cause_of limits (Progress.Runs s) line = cause_of_line line

unfoldable pub cause_words : Cause → List ℕ
cause_words Dests = codes "the first line is `dests LIST`, the destinations"
cause_words NoLink = codes "after the first line a line `link A B` is required"
cause_words Topology = codes "the links and destinations are refused"
cause_words Name = codes "it names a node, a link or a destination that does not exist"
cause_words Word = codes "it is no line that may stand here"
cause_words Recorded = codes "no line of a record corresponds to it"

-- `fault N CAUSE`
unfoldable pub fault_line : ℕ → Cause → List ℕ
fault_line n cause = codes "fault " ++ decimal n ++ codes " " ++ cause_words cause ++ 10 ∷ []

-- ---- all lines

-- the state between two lines
pub record DriveView : Type 0 where
  pub lines : ℕ  -- the number of lines so far
  pub place : PlaceView

-- the state after a line that is not a fault, and the answer
abbrev pub taken : ℕ → Placed → DriveView × List ℕ
taken n r = (record { lines = n; place = r.0 }, r.1)

-- the state after a line, and the answer; a fault changes only the number of lines
abbrev pub drive_reply : DriveSetup → DriveView → List ℕ → DriveView × List ℕ
drive_reply setup v line =
    option_map_or (taken (v.lines + 1)) (place_reply setup v.place.state v.place.progress line)
    (record v { lines = v.lines + 1 }, fault_line (v.lines + 1) (cause_of setup.options.limits v.place.progress line))

-- the rules of a drive with these settings; no end of its input is a fault
abbrev pub drive_rules : DriveSetup → Rules DriveView
drive_rules setup = record {
  start = record {
    lines = 0;
    place = record { progress = Progress.First; state = first_state };
  };
  reply = λ v line. Some (drive_reply setup v line);
  at_end = λ v n. None;
}

-- `tora drive 1`
abbrev pub greeting : List ℕ
greeting = codes "tora drive 1" ++ 10 ∷ []

-- ---- what `drive_in` promises

-- the text of an input in which a line of more than 4,096 bytes counts as an empty one, which is always a fault
abbrev pub shortened_text : Rules DriveView → List ℕ → Text
shortened_text rules bytes = text_from rules rules.start 1 (map shortened (pieces_of bytes))

-- The known bytes grew by the answers to the lines of the input, and the input ends as the result says.
abbrev pub Drives : DriveSetup → List ℕ → Option (List ℕ) → Option (List ℕ) → Ended → Type 0
Drives setup input old new ended = IsWholeText (shortened_text (drive_rules setup)) input old new ended

-- The reader returned some bytes, and the writer got a prefix of the answers to them.
abbrev pub IsDriveBegun : DriveSetup → Option (List ℕ) → Option (List ℕ) → Option (List ℕ) → Option (List ℕ)
    → Type 0
IsDriveBegun setup old_reader new_reader old_writer new_writer =
    IsFrontOfText (shortened_text (drive_rules setup)) old_reader new_reader old_writer new_writer

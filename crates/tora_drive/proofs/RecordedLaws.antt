-- A recorded drive is a drive without lines `notice N K`.
use Rattle.std.proofs.Common.{◌≡◌, ℕ, ◌+◌, Bool, true, false, List, [], ◌∷◌, length, map, if◌then◌else◌, Option, Some, None, refl, ap, ◌∙◌}
use Rattle.std.specs.Prelude.{nat_lt, option_map}
use Rattle.std.proofs.lemmas.Bool.{lt-ltb}
use Rattle.std.specs.Option.{option_and_then}
use Rattle.tora_lines.specs.declared.session.TheConstants.{LONGEST_LINE}
use Rattle.tora_lines.specs.Fronts.{after}
use Rattle.tora_lines.specs.LineText.{reply, state_behind}
use Rattle.tora_script.specs.declared.node_marks.Mark.{Mark}
use Rattle.tora_world.specs.World.{World}
use Rattle.tora_script.specs.Setup.{plain}
use Rattle.tora_script.specs.Simulator.{started}
use Rattle.tora_script.specs.SimulationLines.{is_word, dests_of, link_of, mark_of, end_event_of, node_event_of, walk_line_of, order_line_of, simulation_line_of}
use Rattle.tora_script.specs.SimulationText.{RunningView, Progress, begun_in}
use Rattle.tora_drive.specs.declared.setup.DriveSetup.{DriveSetup}
use Rattle.tora_drive.specs.DriveLines.{own_line_of, drive_line_of}
use Rattle.tora_drive.specs.DriveText.{StateView, DriveView, answer_to, first_answer, place_reply, drive_reply, drive_rules, running_at}
use Rattle.tora_drive.specs.Recording.{says_notice, unrecorded, recorded_reply, recorded_rules}
use Rattle.tora_drive.specs.Runs.{IsNotice, SaysNoNotice, after_all_driven, IsOfEvents}
use Rattle.tora_drive.specs.RecordedRuns.{unnoticed, IsOfHappened, LongLinesAreFaults, RecordedAreDrives, RecordedSaysNoNotice, EveryRecordedDrive}
use Rattle.tora_drive.specs.Taking.{line_in}
use Rattle.tora_drive.proofs.RunLaws.{happened_all, drives_are_runs}

-- ---- an empty line is a fault at every stage

no_line : drive_line_of [] ≡ None
unfolding drive_line_of is_word simulation_line_of end_event_of node_event_of order_line_of walk_line_of own_line_of after
no_line = refl

no_answer : (s : RunningView) (o : StateView) → answer_to s o [] ≡ None
unfolding answer_to line_in after
no_answer s o = rw no_line refl

no_begin : (setup : DriveSetup) (o : StateView) (dests : List ℕ) (first : Option World) → option_map running_at (option_and_then (λ w. answer_to (begun_in dests (plain setup.times) w) o []) first) ≡ None
no_begin setup o dests None = refl
no_begin setup o dests (Some w) = rw (no_answer (begun_in dests (plain setup.times) w) o) refl

no_first : (setup : DriveSetup) (o : StateView) (dests : List ℕ) (links : List (ℕ × ℕ)) (marks : List Mark) → option_map running_at (first_answer setup o dests links marks []) ≡ None
no_first setup o dests [] marks = refl
no_first setup o dests (link ∷ links) marks = no_begin setup o dests (started setup.options (link ∷ links) dests marks setup.times)

no_place : (setup : DriveSetup) (o : StateView) (progress : Progress) → place_reply setup o progress [] ≡ None
unfolding place_reply dests_of link_of mark_of after
no_place setup o Progress.First = refl
no_place setup o (Progress.Links dests links marks) = no_first setup o dests links marks
no_place setup o (Progress.Runs s) = rw (no_answer s o) refl

-- ---- a line that is too long is like an empty one

pub long_is_fault : LongLinesAreFaults drive_reply
long_is_fault setup v line long =
    let over : nat_lt LONGEST_LINE (length line) ≡ true = lt-ltb _ _ long in
    rw (over, no_place setup v.place.state v.place.progress) refl

pub long_is_recorded_fault : LongLinesAreFaults recorded_reply
long_is_recorded_fault setup v line long =
    let over : nat_lt LONGEST_LINE (length line) ≡ true = lt-ltb _ _ long in
    rw (over, no_line, no_place setup v.place.state v.place.progress) refl

-- ---- a line `notice N K` is like an empty one

module _ (setup : DriveSetup) (last : DriveView) (line : List ℕ) (lines : List (List ℕ)) where
  on : (v : DriveView) (b c : Bool) → says_notice line ≡ b → nat_lt LONGEST_LINE (length line) ≡ c
      → ((w : DriveView) → state_behind (recorded_rules setup) w lines ≡ Some last → state_behind (drive_rules setup) w (map unnoticed lines) ≡ Some last)
      → option_and_then (λ r. state_behind (recorded_rules setup) r.0 lines) (if c then None else Some (if b then unrecorded v else drive_reply setup v line)) ≡ Some last
      → option_and_then (λ r. state_behind (drive_rules setup) r.0 (map unnoticed lines)) (reply (drive_rules setup) v (if b then [] else line)) ≡ Some last
  unfolding reply
  on v b true says long others e = absurd cc
  on v true false says long others e = rw (no_place setup v.place.state v.place.progress) (others (record v { lines = v.lines + 1 }) e)
  on v false false says long others e = rw long (others (drive_reply setup v line).0 e)

behind : (setup : DriveSetup) (lines : List (List ℕ)) (v last : DriveView) → state_behind (recorded_rules setup) v lines ≡ Some last → state_behind (drive_rules setup) v (map unnoticed lines) ≡ Some last
unfolding state_behind reply
behind setup [] v last e = e
behind setup (line ∷ lines) v last e = on setup last line lines v (says_notice line) (nat_lt LONGEST_LINE (length line)) refl refl (λ w is. behind setup lines w last is) e

pub recorded_are_drives : RecordedAreDrives
recorded_are_drives setup lines v e = behind setup lines (recorded_rules setup).start v e

pub not_notice : (line : List ℕ) (b : Bool) → says_notice line ≡ b → IsNotice (if b then [] else line) → ⊥
not_notice line true says h = let e : drive_line_of [] ≡ None = no_line in absurd cc
not_notice line false says h = let t : says_notice line ≡ true = rw h.2 refl in absurd cc

pub no_notice : RecordedSaysNoNotice
no_notice [] = tt
no_notice (line ∷ lines) = (not_notice line (says_notice line) refl, no_notice lines)

-- ---- the world of a recorded drive

of_happened : (setup : DriveSetup) (lines : List (List ℕ)) (w : World) → IsOfEvents setup (SaysNoNotice (map unnoticed lines)) w → IsOfHappened setup w
of_happened setup lines w h =
    let plain = h.plain (no_notice lines) in
    record {
      links = h.links;
      dests = h.dests;
      marks = h.marks;
      ids = h.ids;
      first = h.first;
      begins = h.begins;
      events = plain.0;
      world_is = h.world_is ∙ ap (after_all_driven h.first) plain.1 ∙ happened_all h.first plain.0;
    }

pub recorded_are_runs : EveryRecordedDrive (λ setup w. IsOfHappened setup w)
recorded_are_runs setup lines v s e is =
    of_happened setup lines s.world (drives_are_runs setup (map unnoticed lines) v s (recorded_are_drives setup lines v e) is)

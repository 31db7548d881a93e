-- The worlds that a drive can have.
use Rattle.std.specs.Prelude.{◌≡◌, ℕ, true, if◌then◌else◌, List, [], ◌∷◌, ◌++◌, map, Some}
use Rattle.std.specs.List.{AllByRecursion}
use Rattle.tora_arq.specs.declared.times.Times.{Times}
use Rattle.tora_lines.specs.LineText.{state_behind}
use Rattle.tora_world.specs.declared.event.Event.{Event}
use Rattle.tora_world.specs.declared.event.Event.TheVariants.{Tick}
use Rattle.tora_script.specs.declared.node_marks.Mark.{Mark}
use Rattle.tora_world.specs.Topology.{Topology, IsWithinLimits, is_link}
use Rattle.tora_world.specs.World.{World, own_choice, first_world, world_after}
use Rattle.tora_world.specs.FreeWorld.{Schedule, after_schedule, FreeEvent as Free}
use Rattle.tora_world.specs.Gaps.{IsWithoutGap}
use Rattle.tora_world.specs.Walks.{AreIds}
use Rattle.tora_sim.specs.Cuts.{after_cut_at}
use Rattle.tora_sim.specs.Topologies.{topology_of}
use Rattle.tora_script.specs.Simulator.{started}
use Rattle.tora_script.specs.SimulationText.{RunningView, Progress}
use Rattle.tora_drive.specs.declared.setup.DriveSetup.{DriveSetup}
use Rattle.tora_drive.specs.declared.line.DriveLine.TheVariants.{Notice}
use Rattle.tora_drive.specs.DriveLines.{drive_line_of}
use Rattle.tora_drive.specs.DriveText.{DriveView, drive_rules}

-- ---- the effect of lines on a world

-- an event of the simulator, or a cut of the session that the end of n towards k is bound to
pub data DriveEvent : Type 0 where
  Happens : Event → DriveEvent
  Cuts : (n k : ℕ) → DriveEvent

abbrev pub after_driven : World → DriveEvent → World
after_driven w (Happens event) = world_after w event
after_driven w (Cuts n k) = after_cut_at w n k

abbrev pub after_all_driven : World → List DriveEvent → World
after_all_driven w [] = w
after_all_driven w (event ∷ events) = after_all_driven (after_driven w event) events

-- events of the simulator alone
abbrev pub happening : List Event → List DriveEvent
happening events = map (λ event. Happens event) events

-- ---- the same as a schedule of the free world

abbrev pub schedule_of_one : World → DriveEvent → Schedule
schedule_of_one w (Happens event) = (Free.Happens event, own_choice w event) ∷ []
schedule_of_one w (Cuts n k) = if is_link w.topology n k then (Free.CutsBound n k, own_choice w Tick) ∷ [] else []

abbrev pub schedule_of : World → List DriveEvent → Schedule
schedule_of w [] = []
schedule_of w (event ∷ events) = schedule_of_one w event ++ schedule_of (after_driven w event) events

-- ---- the law

-- the line is `notice N K`
abbrev pub IsNotice : List ℕ → Type 0
IsNotice line = (n : ℕ) × (k : ℕ) × (drive_line_of line ≡ Some (Notice n k))

abbrev pub SaysNoNotice : List (List ℕ) → Type 0
SaysNoNotice lines = AllByRecursion (λ line. IsNotice line → ⊥) lines

-- A world is the result of some events, from the first world with these settings of some links, destinations and lines
-- about nodes. If no line cuts a session, they are events of the simulator alone.
pub record IsOfEvents (setup : DriveSetup) (CutsNothing : Type 0) (w : World) : Type 0 where
  pub links : List (ℕ × ℕ)
  pub dests : List ℕ
  pub marks : List Mark
  pub ids : AreIds (topology_of links dests)
  pub first : World
  pub begins : started setup.options links dests marks setup.times ≡ Some first
  pub events : List DriveEvent
  pub world_is : w ≡ after_all_driven first events
  pub plain : CutsNothing → (happened : List Event) × (events ≡ happening happened)

-- a statement holds for the world after any lines of a drive, if there is one
abbrev pub EveryDrive : (DriveSetup → List (List ℕ) → World → Type 0) → Type 0
EveryDrive Holds =
    (setup : DriveSetup) (lines : List (List ℕ)) (v : DriveView) (s : RunningView)
    → state_behind (drive_rules setup) (drive_rules setup).start lines ≡ Some v
    → v.place.progress ≡ Progress.Runs s → Holds setup lines s.world

-- the world after any lines of a drive is the result of events
abbrev pub DrivesAreRuns : Type 0
DrivesAreRuns = EveryDrive (λ setup lines w. IsOfEvents setup (SaysNoNotice lines) w)

-- events and cuts are a schedule of the free world
abbrev pub AreSchedules : Type 0
AreSchedules =
    (w : World) (events : List DriveEvent) → after_all_driven w events ≡ after_schedule (schedule_of w events) w

-- A world is the result of a schedule, over a topology that is not refused within some limits, and no session of a link
-- end has a gap.
pub record HasNoGaps (times : Times) (w : World) : Type 0 where
  pub topology : Topology
  pub sound : IsWithinLimits topology
  pub schedule : Schedule
  pub world_is : w ≡ after_schedule schedule (first_world topology times)
  pub gapless : (n k : ℕ) → is_link topology n k ≡ true → IsWithoutGap topology (first_world topology times) schedule w
      n k

-- The worlds of drives are the results of schedules, so the laws for all schedules hold for them.
use Rattle.std.proofs.Common.{◌≡◌, ℕ, Bool, true, false, List, [], ◌∷◌, ◌++◌, if◌then◌else◌, is_some, fold, Option, Some, None, refl, sym, ap, subst, ◌∙◌}
use Rattle.tora_arq.specs.declared.times.Times.{Times}
use Rattle.tora_core.specs.declared.errors.CoreError.{CoreError}
use Rattle.tora_world.specs.declared.event.Event.TheVariants.{Tick}
use Rattle.tora_script.specs.declared.node_marks.Mark.{Mark}
use Rattle.tora_script.specs.declared.setup.WorldOptions.{WorldOptions}
use Rattle.tora_core.specs.declared.erasure.Erasure.{Erasure}
use Rattle.tora_world.specs.declared.limits.Limits.{Limits}
use Rattle.tora_script.specs.declared.node_marks.Mark.TheVariants.{Old, Erases}
use Rattle.tora_world.specs.Topology.{Topology, IsWithinLimits, is_link, is_node, topology_fault_within}
use Rattle.tora_world.specs.World.{World, own_choice, first_world}
use Rattle.tora_world.specs.FreeWorld.{Schedule, free_by, after_schedule}
use Rattle.tora_world.specs.FreeWorld.FreeEvent.{CutsBound}
use Rattle.tora_world.specs.Law.{EveryRun, TakenBeginsSent}
use Rattle.tora_world.specs.Gaps.{EveryEnd, IsWithoutGap}
use Rattle.tora_world.specs.Walks.{AreIds, EveryWorld}
use Rattle.tora_sim.specs.Topologies.{topology_of, with_choices, with_olds, with_old}
use Rattle.tora_script.specs.Marks.{with_mark, with_marks}
use Rattle.tora_script.specs.Simulator.{mixed_topology, started}
use Rattle.tora_drive.specs.declared.setup.DriveSetup.{DriveSetup}
use Rattle.tora_drive.specs.Runs.{DriveEvent, after_driven, schedule_of_one, schedule_of, SaysNoNotice, IsOfEvents, EveryDrive, AreSchedules, HasNoGaps}
use Rattle.tora_drive.proofs.RunLaws.{drives_are_runs}

-- ---- events are a schedule

cut_by : (b : Bool) (w : World) (n k : ℕ) → after_schedule (if b then (CutsBound n k, own_choice w Tick) ∷ [] else []) w ≡ (if b then free_by (own_choice w Tick) w (CutsBound n k) else w)
unfolding after_schedule
cut_by true w n k = refl
cut_by false w n k = refl

one_by : (w : World) (event : DriveEvent) → after_schedule (schedule_of_one w event) w ≡ after_driven w event
unfolding after_schedule
one_by w (DriveEvent.Happens event) = refl
one_by w (DriveEvent.Cuts n k) = cut_by (is_link w.topology n k) w n k

schedule_append : (xs ys : Schedule) (w : World) → after_schedule (xs ++ ys) w ≡ after_schedule ys (after_schedule xs w)
unfolding after_schedule
schedule_append [] ys w = refl
schedule_append (x ∷ xs) ys w = schedule_append xs ys (free_by x.1 w x.0)

pub are_schedules : AreSchedules
unfolding after_schedule
are_schedules w [] = refl
are_schedules w (event ∷ events) =
    let rest : Schedule = schedule_of (after_driven w event) events in
    are_schedules (after_driven w event) events ∙ ap (λ (x : World). after_schedule rest x) (sym (one_by w event)) ∙ sym (schedule_append (schedule_of_one w event) rest w)

-- ---- the first world

begun_by : (fault : Option CoreError) (w first : World) → (if is_some fault then None else Some w) ≡ Some first → (fault ≡ None) × (first ≡ w)
begun_by None w first e = (refl, cc)
begun_by (Some cause) w first e = absurd cc

begun : (options : WorldOptions) (links : List (ℕ × ℕ)) (dests : List ℕ) (marks : List Mark) (times : Times) (first : World) → started options links dests marks times ≡ Some first → (topology_fault_within options.limits (topology_of links dests) ≡ None) × (first ≡ first_world (mixed_topology options.erasure links dests marks) times)
unfolding started
begun options links dests marks times first e = begun_by (topology_fault_within options.limits (topology_of links dests)) (first_world (mixed_topology options.erasure links dests marks) times) first e

-- a line about a node causes no refusal and adds no number
one_old : (limits : Limits) (b : Bool) (t : Topology) (olds : List ℕ) → topology_fault_within limits t ≡ None → topology_fault_within limits (if b then with_olds t olds else t) ≡ None
one_old limits true t olds h = h
one_old limits false t olds h = h

one_choice : (limits : Limits) (b : Bool) (t : Topology) (choices : List (ℕ × Erasure)) → topology_fault_within limits t ≡ None → topology_fault_within limits (if b then record t { choices = choices } else t) ≡ None
one_choice limits true t choices h = h
one_choice limits false t choices h = h

one_mixed : (limits : Limits) (t : Topology) (mark : Mark) → topology_fault_within limits t ≡ None → topology_fault_within limits (with_mark t mark) ≡ None
one_mixed limits t (Old n) h = one_old limits (is_node t n) t (with_old n t.olds) h
one_mixed limits t (Erases n erasure) h = one_choice limits (is_node t n) t (t.choices ++ (n, erasure) ∷ []) h

mixed : (limits : Limits) (t : Topology) (marks : List Mark) → topology_fault_within limits t ≡ None → topology_fault_within limits (with_marks t marks) ≡ None
mixed limits t [] h = h
mixed limits t (mark ∷ marks) h = mixed limits (with_mark t mark) marks (one_mixed limits t mark h)

old_ids : (b : Bool) (t : Topology) (olds : List ℕ) → AreIds t → AreIds (if b then with_olds t olds else t)
old_ids true t olds h = record { links = h.links; destinations = h.destinations }
old_ids false t olds h = h

choice_ids : (b : Bool) (t : Topology) (choices : List (ℕ × Erasure)) → AreIds t → AreIds (if b then record t { choices = choices } else t)
choice_ids true t choices h = record { links = h.links; destinations = h.destinations }
choice_ids false t choices h = h

one_mixed_ids : (t : Topology) (mark : Mark) → AreIds t → AreIds (with_mark t mark)
one_mixed_ids t (Old n) h = old_ids (is_node t n) t (with_old n t.olds) h
one_mixed_ids t (Erases n erasure) h = choice_ids (is_node t n) t (t.choices ++ (n, erasure) ∷ []) h

mixed_ids : (t : Topology) (marks : List Mark) → AreIds t → AreIds (with_marks t marks)
mixed_ids t [] h = h
mixed_ids t (mark ∷ marks) h = mixed_ids (with_mark t mark) marks (one_mixed_ids t mark h)

-- ---- the laws

-- the world is the result of a schedule, over a topology that is not refused within some limits
record IsOfRun (times : Times) (w : World) : Type 0 where
  topology : Topology
  sound : IsWithinLimits topology
  ids : AreIds topology
  schedule : Schedule
  world_is : w ≡ after_schedule schedule (first_world topology times)

of_run : (setup : DriveSetup) (CutsNothing : Type 0) (w : World) → IsOfEvents setup CutsNothing w → IsOfRun setup.times w
of_run setup CutsNothing w h =
    let first = begun setup.options h.links h.dests h.marks setup.times h.first h.begins in
    record {
      topology = mixed_topology setup.options.erasure h.links h.dests h.marks;
      sound = (setup.options.limits, mixed setup.options.limits (with_choices (topology_of h.links h.dests) setup.options.erasure []) h.marks first.0);
      ids = mixed_ids (with_choices (topology_of h.links h.dests) setup.options.erasure []) h.marks (record { links = h.ids.links; destinations = h.ids.destinations });
      schedule = schedule_of h.first h.events;
      world_is = h.world_is ∙ are_schedules h.first h.events ∙ ap (λ (x : World). after_schedule (schedule_of h.first h.events) x) first.1;
    }

pub drives_keep_the_prefix_law : EveryRun (λ first es w. TakenBeginsSent w) → EveryDrive (λ setup lines w. TakenBeginsSent w)
drives_keep_the_prefix_law law setup lines v s e is =
    let run : IsOfRun setup.times s.world = of_run setup (SaysNoNotice lines) s.world (drives_are_runs setup lines v s e is) in
    subst (λ (x : World). TakenBeginsSent x) (sym run.world_is) (law run.topology setup.times run.schedule)

pub drives_keep_the_no_gap_law : EveryEnd (λ t first es w n k. IsWithoutGap t first es w n k) → EveryDrive (λ setup lines w. HasNoGaps setup.times w)
drives_keep_the_no_gap_law law setup lines v s e is =
    let run : IsOfRun setup.times s.world = of_run setup (SaysNoNotice lines) s.world (drives_are_runs setup lines v s e is) in
    record {
      topology = run.topology;
      sound = run.sound;
      schedule = run.schedule;
      world_is = run.world_is;
      gapless = λ n k linked. subst (λ (x : World). IsWithoutGap run.topology (first_world run.topology setup.times) run.schedule x n k) (sym run.world_is) (law run.topology setup.times run.schedule n k run.sound linked);
    }

pub drives_keep_laws_of_worlds : (Holds : World → Type 0) → EveryWorld Holds → EveryDrive (λ setup lines w. Holds w)
drives_keep_laws_of_worlds Holds law setup lines v s e is =
    let run : IsOfRun setup.times s.world = of_run setup (SaysNoNotice lines) s.world (drives_are_runs setup lines v s e is) in
    subst Holds (sym run.world_is) (law run.topology setup.times run.schedule run.sound run.ids)

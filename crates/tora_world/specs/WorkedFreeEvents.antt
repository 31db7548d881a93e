-- Examples of the events that only threads make, computed on two nodes: each has an effect.
use Rattle.std.specs.Prelude.{◌≡◌, ℕ, ◌≤◌, ◌++◌, max, refl, true, false, if◌then◌else◌, List, [], ◌∷◌, length, Some}
use Rattle.std.specs.Prelude.{None}
use Rattle.std.proofs.Common.{arith, ap, ap₂, sym, ◌∙◌, subst}
use Rattle.std.proofs.lemmas.Bool.{cond_both}
use Rattle.tora_arq.specs.declared.link_event.LinkEvent.TheVariants.{Down}
use Rattle.tora_arq.specs.declared.reason.Reason.TheVariants.{Cut}
use Rattle.tora_arq.specs.declared.phase.Phase.TheVariants.{Closed, Unbound, Bound}
use Rattle.tora_life.specs.declared.numbers.Numbers.{Numbers}
use Rattle.tora_life.specs.declared.state.State.{State}
use Rattle.tora_life.specs.declared.tags.Owner.{Owner}
use Rattle.tora_life.specs.LifeFile.{file_value}
use Rattle.tora_life.specs.LifeRun.LifeDisk.{Opened, Unopened}
use Rattle.tora_life.specs.LifeRun.{LifeDisk, IsFloor, IsFloorOfOpen}
use Rattle.tora_life.specs.Numbers.{value_of}
use Rattle.tora_life.specs.State.{MayLeave}
use Rattle.tora_seat.specs.declared.what.What.TheVariants as Tells
use Rattle.tora_seat.specs.declared.cargo.Cargo.TheVariants as Gives
use Rattle.tora_world.specs.declared.event.Event.{Event}
use Rattle.tora_world.specs.declared.event.Event.TheVariants.{Open, Pull, Transmit, Deliver, Pump, CoreTurn, Restart}
use Rattle.tora_world.specs.declared.sim_error.SimError.TheVariants as Refused
use Rattle.tora_world.specs.LinkMachine.MachineStep.{Draw, Send, Close}
use Rattle.tora_world.specs.World.{World, Choice, refusal_of}
use Rattle.tora_world.specs.FreeWorld.{FreeEvent, ForgetsNothing, Schedule, after_schedule, own_schedule}
use Rattle.tora_world.specs.FreeWorld.FreeEvent.{Happens, PumpsOver, Puts, CutsBound, ChangesFile, StartsAnew}
use Rattle.tora_world.specs.MachineRun.{machine_steps}
use Rattle.tora_world.specs.Worked.{start, life, update, binding, bound_steps}
use Rattle.tora_world.specs.WorkedEvents.{copies}

-- ---- schedules

-- every call gets this tick, and every outbound message is put
abbrev pub at_tick : ℕ → Choice
at_tick tick = record { clock = tick; now = λ n k. tick; stamp = tick; answers = λ offers k. true }

abbrev pub handed : ℕ → List FreeEvent → Schedule
handed tick [] = []
handed tick (event ∷ events) = (event, at_tick tick) ∷ handed tick events

-- events as the simulator runs them, followed by these events of the free world
abbrev pub behind : List Event → ℕ → List FreeEvent → Schedule
behind events tick more = own_schedule events start ++ handed tick more

abbrev pub left : List Event → ℕ → List FreeEvent → World
left events tick more = after_schedule (behind events tick more) start

-- ---- a tick of one end

-- at tick 50 the end of node 1 has received nothing for 50 ticks, and goes down; the end of node 2 gets no tick
pub record TicksOne (w : World) : Type 0 where
  pub ticked : (w.ends 1 2).phase ≡ Closed
  pub other : (w.ends 2 1).phase ≡ Bound life
  pub clock : w.clock ≡ 0

-- ---- a full queue

-- the end of node 1 is bound, and its queue into the core is full
abbrev pub filling : List FreeEvent
filling = copies 1024 (Puts 1 1 (Tells.Need 2) tt)

abbrev pub first_binding : List Event
first_binding = Open 1 2 ∷ Open 2 1 ∷ Transmit 1 2 ∷ Deliver 1 ∷ Transmit 2 1 ∷ Deliver 2 ∷ []

pub record PumpsOverOne : Type 0 where
  pub refused : refusal_of (left first_binding 0 filling) (Pump 1 2) ≡ Some Refused.NotPossible
  pub put : length ((left first_binding 0 (filling ++ PumpsOver 1 2 ∷ [])).items 1) ≡ 1025
  pub polled : ((left first_binding 0 (filling ++ PumpsOver 1 2 ∷ [])).ends 1 2).events ≡ []

-- ---- items of a link that report no session

pub record PutsBeats : Type 0 where
  -- a beat of node 1's link, from its seat, with its tick
  pub beat : (left [] 7 (Puts 1 0 Tells.Beat tt ∷ [])).items 1 ≡ record {
    seat = 0;
    number = 1;
    now = 7;
    what = Tells.Beat;
  } ∷ []
  -- the core takes it, and this is not a step of the link machine
  pub taken : (left [] 7 (Puts 1 0 Tells.Beat tt ∷ Happens (CoreTurn 1) ∷ [])).items 1 ≡ []
  pub steps : machine_steps (behind [] 7 (Puts 1 0 Tells.Beat tt ∷ Happens (CoreTurn 1) ∷ [])) start [] ≡ []

-- ---- a wire that fails

-- the session is current at both cores, and node 1 has sent its update in it
abbrev pub upping : List Event
upping = binding ++ CoreTurn 1 ∷ []

abbrev pub telling_down : List FreeEvent
telling_down = CutsBound 1 2 ∷ Happens (Pump 1 2) ∷ Happens (CoreTurn 1) ∷ []

pub record CutsOne : Type 0 where
  pub current : ((left upping 0 []).seats 1).current 2 ≡ Some life
  -- the end of node 1 goes down, and its Down event waits there
  pub closed : ((left upping 0 (CutsBound 1 2 ∷ [])).ends 1 2).phase ≡ Closed
  pub waits : ((left upping 0 (CutsBound 1 2 ∷ [])).ends 1 2).events ≡ Down life Cut ∷ []
  -- the core takes the Down item, and its link goes down: the machine closes the session
  pub over : ((left upping 0 telling_down).seats 1).current 2 ≡ None
  pub down : ((left upping 0 telling_down).seats 1).core.up ≡ []
  pub steps : machine_steps (behind upping 0 telling_down) start []
      ≡ Close 1 2 life ∷ Send 1 2 life update ∷ bound_steps
  -- an end that is not bound has no session to cut
  pub none : ((left (Open 1 2 ∷ []) 0 (CutsBound 1 2 ∷ [])).ends 1 2).phase ≡ Unbound 1

-- ---- a requested cut

-- an item requests a cut of node 1's session with node 2, and the core of node 1 takes it
abbrev pub asking_cut : List FreeEvent
asking_cut = Puts 1 1 (Tells.Cut 2) tt ∷ Happens (CoreTurn 1) ∷ []

pub record AsksForCut : Type 0 where
  -- the session is over at the core, and its link is down: the machine closes the session
  pub over : ((left upping 0 asking_cut).seats 1).current 2 ≡ None
  pub down : ((left upping 0 asking_cut).seats 1).core.up ≡ []
  pub steps : machine_steps (behind upping 0 asking_cut) start [] ≡ Close 1 2 life ∷ Send 1 2 life update ∷ bound_steps
  -- the cut is put after the packets sent in the session, and the end goes down when it takes the cut
  pub cargoes : (left upping 0 asking_cut).cargoes 1 2 ≡ Gives.Packet life update ∷ Gives.Cut life ∷ []
  pub closed : ((left upping 0 (asking_cut ++ Happens (Pull 1 2) ∷ Happens (Pull 1 2) ∷ [])).ends 1 2).phase ≡ Closed
  -- if no session is current, nothing is put
  pub none : (left [] 0 asking_cut).cargoes 1 2 ≡ []

-- ---- a life file that changes

-- the reserved numbers are skipped, as when the file is closed and opened again
abbrev pub passed_over : Owner → Numbers → State → LifeDisk
passed_over owner numbers s =
    if numbers.failed then Opened owner numbers s else Opened owner (record numbers { drawn = value_of numbers }) s

abbrev pub passes_over : LifeDisk → LifeDisk
passes_over (Opened owner numbers s) = passed_over owner numbers s
passes_over (Unopened owner s) = Unopened owner s

-- whatever a crash leaves has those numbers reserved
pub passed_floor : (n : ℕ) (owner : Owner) (numbers : Numbers) (s : State) → numbers.failed ≡ false
    → IsFloorOfOpen n owner numbers s → IsFloorOfOpen n owner (record numbers { drawn = value_of numbers }) s
passed_floor n owner numbers s sound h = record {
  whole = h.whole;
  kept = record {
    room = omega arith;
    reach = λ less. absurd (omega (arith, less));
    images = λ told c left. record { value = above c left; tag = (h.kept.images told c left).tag };
    only = h.kept.only;
    first = h.kept.first;
    second = h.kept.second;
  };
  drawn = omega (arith, h.drawn, h.kept.room);
}
  where
    above : (c : List ℕ) → MayLeave s c → value_of numbers ≤ file_value c
    above c left = subst (λ x. value_of numbers ≤ x) (ap₂ max (h.kept.first refl sound) (h.kept.second refl sound) ∙ sym
        (ap file_value (h.kept.only refl sound c left))) (omega arith)

abbrev pub passes_no_floor : ForgetsNothing passes_over
passes_no_floor n (Opened owner numbers s) h = cond_both numbers.failed _ _ (IsFloor n) (λ _. h) (λ sound.
    passed_floor n owner numbers s sound h)
passes_no_floor n (Unopened owner s) h = h

-- node 1's end has gone down, and is opened again
pub record ChangesOne : Type 0 where
  pub as_it_was : ((left binding 0 (CutsBound 1 2 ∷ Happens (Open 1 2) ∷ [])).ends 1 2).phase ≡ Unbound 2
  pub changed : ((left binding 0 (CutsBound 1 2 ∷ ChangesFile 1 2 passes_over passes_no_floor ∷ Happens (Open 1 2)
      ∷ [])).ends 1 2).phase ≡ Unbound 17
  pub steps : machine_steps (behind binding 0 (CutsBound 1 2 ∷ ChangesFile 1 2 passes_over passes_no_floor
      ∷ Happens (Open 1 2) ∷ [])) start [] ≡ Draw 1 2 17 ∷ bound_steps

-- ---- a node that starts anew

-- the session is current at both cores, and node 1 starts anew
pub record StartsOne : Type 0 where
  pub closed : ((left upping 0 (StartsAnew 1 ∷ [])).ends 1 2).phase ≡ Closed
  pub over : ((left upping 0 (StartsAnew 1 ∷ [])).seats 1).current 2 ≡ None
  pub other : ((left upping 0 (StartsAnew 1 ∷ [])).ends 2 1).phase ≡ Bound life
  -- the machine closes the session, and keeps what was sent in it
  pub steps : machine_steps (behind upping 0 (StartsAnew 1 ∷ [])) start []
      ≡ Close 1 2 life ∷ Send 1 2 life update ∷ bound_steps
  -- the life file is unchanged: the next number is drawn, while a Restart would skip the reserved ones
  pub drawn : ((left upping 0 (StartsAnew 1 ∷ Happens (Open 1 2) ∷ [])).ends 1 2).phase ≡ Unbound 2
  pub restarted : ((left upping 0 (Happens (Restart 1 None) ∷ Happens (Open 1 2) ∷ [])).ends 1 2).phase ≡ Unbound 17

-- The free world: the events of the simulator with any ticks and any results of queues, and the events that only the
-- threads of a running node make.
use Rattle.std.specs.Prelude.{◌≡◌, ℕ, if◌then◌else◌, List, [], ◌∷◌, None}
use Rattle.tora_arq.specs.LinkEnd.{bound_life, after_tick, first_event}
use Rattle.tora_life.specs.LifeRun.{LifeDisk, IsFloor}
use Rattle.tora_seat.specs.Between.{after_cut_of_bound}
use Rattle.tora_seat.specs.declared.what.What.{What}
use Rattle.tora_seat.specs.declared.what.What.TheVariants as Tells
use Rattle.tora_world.specs.declared.event.Event.{Event}
use Rattle.tora_world.specs.declared.event.Event.TheVariants.{Restart}
use Rattle.tora_world.specs.Topology.{is_link}
use Rattle.tora_world.specs.LinkMachine.{put_at}
use Rattle.tora_world.specs.World.{World, Choice, settings, with_end, with_item, after_pump, world_by, own_choice}
use Rattle.tora_world.specs.World.{world_after}

-- ---- the events

-- an item that reports no session and no packet
abbrev pub TellsNoLife : What → Type 0
TellsNoLife (Tells.Up life) = ⊥
TellsNoLife (Tells.Packet life packet) = ⊥
TellsNoLife (Tells.Down life reason) = ⊥
TellsNoLife Tells.Beat = Unit {0}
TellsNoLife (Tells.Need d) = Unit {0}
TellsNoLife (Tells.Cut k) = Unit {0}
TellsNoLife Tells.Show = Unit {0}
TellsNoLife (Tells.Status status) = Unit {0}
TellsNoLife Tells.Quit = Unit {0}

-- a change of a life file that allows no number which the old file would not draw
abbrev pub ForgetsNothing : (LifeDisk → LifeDisk) → Type 0
ForgetsNothing change = (n : ℕ) (disk : LifeDisk) → IsFloor n disk → IsFloor n (change disk)

-- some such change turns the first file into the second
abbrev pub MayBecome : LifeDisk → LifeDisk → Type 0
MayBecome before after = (change : LifeDisk → LifeDisk) × ForgetsNothing change × (change before ≡ after)

-- an event of the simulator, or an event that only threads make
pub data FreeEvent : Type 0 where
  Happens : Event → FreeEvent
  -- one link end gets a tick, and the others do not
  TicksEnd : (n k : ℕ) → FreeEvent
  -- an event of an end goes into the queue, however many items wait there
  PumpsOver : (n k : ℕ) → FreeEvent
  -- an item that reports no session goes into the queue, from any seat
  Puts : (n seat : ℕ) (what : What) → TellsNoLife what → FreeEvent
  -- the bound session is cut, for instance because the wire has failed
  CutsBound : (n k : ℕ) → FreeEvent
  -- a life file changes, because calls of it failed or a crash came in the middle of a call
  ChangesFile : (n k : ℕ) (change : LifeDisk → LifeDisk) → ForgetsNothing change → FreeEvent
  -- the core, the ends and the queues of a node are new, as after a Restart, and its life files are unchanged
  StartsAnew : (n : ℕ) → FreeEvent

-- the value of a function for an event of the simulator; its value for a Restart for StartsAnew; and the given value
-- for all other events
abbrev pub if_happens : {A : Type 0} → (Event → A) → A → FreeEvent → A
if_happens f value (Happens event) = f event
if_happens f value (TicksEnd n k) = value
if_happens f value (PumpsOver n k) = value
if_happens f value (Puts n seat what silent) = value
if_happens f value (CutsBound n k) = value
if_happens f value (ChangesFile n k change kept) = value
if_happens f value (StartsAnew n) = f (Restart n None)

-- ---- the effects of the events

-- the world after the event, with the ticks and results of this choice
abbrev pub free_by : Choice → World → FreeEvent → World
free_by c w (Happens event) = world_by c w event
free_by c w (TicksEnd n k) = with_end w n k (after_tick (settings w n k) (w.ends n k) (c.now n k))
free_by c w (PumpsOver n k) = if is_link w.topology n k then after_pump w c n k (first_event (w.ends n k)) else w
free_by c w (Puts n seat what silent) = with_item w n seat c.stamp what
free_by c w (CutsBound n k) = with_end w n k (after_cut_of_bound (w.ends n k) (bound_life (w.ends n k)))
free_by c w (ChangesFile n k change kept) = record w { files = put_at w.files n k (change (w.files n k)) }
free_by c w (StartsAnew n) = record (world_by c w (Restart n None)) { files = w.files }

-- the event may lead to this world, with some ticks and some results
abbrev pub MayHappen : World → FreeEvent → World → Type 0
MayHappen w event after = (c : Choice) × (after ≡ free_by c w event)

-- ---- schedules

-- events, each with the ticks and results of its calls
abbrev pub Schedule : Type 0
Schedule = List (FreeEvent × Choice)

unfoldable pub after_schedule : Schedule → World → World
after_schedule [] w = w
after_schedule (e ∷ es) w = after_schedule es (free_by e.1 w e.0)

-- a schedule of these events of the simulator, each with its choice
abbrev pub happening : List (Event × Choice) → Schedule
happening [] = []
happening (e ∷ es) = (Happens e.0, e.1) ∷ happening es

-- the schedule of these events as the simulator runs them
abbrev pub own_schedule : List Event → World → Schedule
own_schedule [] w = []
own_schedule (event ∷ events) w = (Happens event, own_choice w event) ∷ own_schedule events (world_after w event)

-- Runs of a life file on a disk in memory: draws, failing calls of the disk, and crashes.
use Rattle.std.specs.Prelude.{ℕ, ◌≤◌, ◌<◌, ⊤, List, [], ◌∷◌, ◌++◌, Result, Ok, Err}
use Rattle.tora_life.specs.declared.numbers.Numbers.{Numbers}
use Rattle.tora_life.specs.declared.numbers.LifeError.{LifeError}
use Rattle.tora_life.specs.declared.tags.Owner.{Owner}
use Rattle.tora_life.specs.declared.state.State.{State}
use Rattle.tora_life.specs.declared.state.DiskCall.{DiskCall}
use Rattle.tora_life.specs.LifeFile.{file_value}
use Rattle.tora_life.specs.Numbers.{numbers_after}
use Rattle.tora_life.specs.State.{IsWhole, MayLeave, armed}
use Rattle.tora_life.specs.InMemory.{open_answer, open_state, draw_answer, draw_state, IsKeptOn}

-- an open life file with its owner and its numbers, or the disk of one that did not open for its owner
pub data LifeDisk : Type 0 where
  Opened : Owner → Numbers → State → LifeDisk
  Unopened : Owner → State → LifeDisk

abbrev pub state_in : LifeDisk → State
state_in (Opened owner numbers s) = s
state_in (Unopened owner s) = s

abbrev pub owner_in : LifeDisk → Owner
owner_in (Opened owner numbers s) = owner
owner_in (Unopened owner s) = owner

abbrev pub opened_as : Owner → Result Numbers LifeError → State → LifeDisk
opened_as owner (Ok numbers) s = Opened owner numbers s
opened_as owner (Err _) s = Unopened owner s

-- a disk after its life file was opened for an owner
abbrev pub opened : Owner → State → LifeDisk
opened owner s = opened_as owner (open_answer owner s) (open_state owner s)

-- a draw; a call of the disk that is armed to fail; a crash that leaves this disk, after which the file is opened again
-- for its owner
pub data LifeEvent : Type 0 where
  Draw : LifeEvent
  Arm : DiskCall → LifeEvent
  Restart : State → LifeEvent

-- a crash of the old disk may leave every file that a crash of the new one may leave
pub record IsLeftBy (old new : State) : Type 0 where
  pub whole : IsWhole new
  pub images : (c : List ℕ) → MayLeave new c → MayLeave old c

-- the event is possible; a restart is possible with every disk that a crash of this disk may leave
abbrev pub MayHappen : LifeEvent → LifeDisk → Type 0
MayHappen Draw disk = ⊤
MayHappen (Arm call) disk = ⊤
MayHappen (Restart new) disk = IsLeftBy (state_in disk) new

abbrev pub after_event : LifeEvent → LifeDisk → LifeDisk
after_event Draw (Opened owner numbers s) = Opened owner (numbers_after (draw_answer numbers s) numbers)
    (draw_state numbers s)
after_event Draw (Unopened owner s) = Unopened owner s
after_event (Arm call) (Opened owner numbers s) = Opened owner numbers (armed call s)
after_event (Arm call) (Unopened owner s) = Unopened owner (armed call s)
after_event (Restart new) disk = opened (owner_in disk) new

abbrev pub number_in : Result ℕ LifeError → List ℕ
number_in (Ok n) = n ∷ []
number_in (Err _) = []

-- the number that an event draws, if any
abbrev pub drawn_by : LifeEvent → LifeDisk → List ℕ
drawn_by Draw (Opened owner numbers s) = number_in (draw_answer numbers s)
drawn_by Draw (Unopened owner s) = []
drawn_by (Arm call) disk = []
drawn_by (Restart new) disk = []

abbrev pub IsRun : LifeDisk → List LifeEvent → Type 0
IsRun disk [] = ⊤
IsRun disk (event ∷ events) = MayHappen event disk × IsRun (after_event event disk) events

-- all numbers drawn in a run, in order
abbrev pub drawn_numbers : LifeDisk → List LifeEvent → List ℕ
drawn_numbers disk [] = []
drawn_numbers disk (event ∷ events) = drawn_by event disk ++ drawn_numbers (after_event event disk) events

-- each of these numbers is greater than n, and than each one before it
abbrev pub RisesAbove : ℕ → List ℕ → Type 0
RisesAbove n [] = ⊤
RisesAbove n (x ∷ xs) = (n < x) × RisesAbove x xs

pub record IsFloorOfOpen (n : ℕ) (owner : Owner) (numbers : Numbers) (s : State) : Type 0 where
  pub whole : IsWhole s
  pub kept : IsKeptOn owner numbers s
  pub drawn : n ≤ numbers.drawn

pub record IsFloorOfDisk (n : ℕ) (s : State) : Type 0 where
  pub whole : IsWhole s
  pub images : (c : List ℕ) → MayLeave s c → n ≤ file_value c

-- no number up to n is drawn again
abbrev pub IsFloor : ℕ → LifeDisk → Type 0
IsFloor n (Opened owner numbers s) = IsFloorOfOpen n owner numbers s
IsFloor n (Unopened owner s) = IsFloorOfDisk n s

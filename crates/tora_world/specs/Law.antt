-- What holds for every run of the world.
use Rattle.std.specs.Prelude.{◌≡◌, ℕ, ◌≤◌, ◌⊎◌, ◌+◌, Bool, false, not, ◌&&◌, if◌then◌else◌, List, [], ◌∷◌}
use Rattle.tora_arq.specs.declared.life.Life.{Life}
use Rattle.tora_arq.specs.declared.times.Times.{Times}
use Rattle.tora_arq.specs.declared.phase.Phase.{Phase}
use Rattle.tora_arq.specs.declared.phase.Phase.TheVariants.{Closed, Unbound, Bound}
use Rattle.tora_arq.specs.Lives.{is_same_life, reversed}
use Rattle.tora_core.specs.CoreRun.{core_after_all}
use Rattle.tora_world.specs.Topology.{Topology, new_core}
use Rattle.tora_world.specs.Lists.{parcels_in, Begins}
use Rattle.tora_world.specs.LinkMachine.{MachineStep, machine_after, IsMachineRun}
use Rattle.tora_world.specs.World.{World, first_world, sent_packets, taken_packets}
use Rattle.tora_world.specs.FreeWorld.{Schedule, free_by, after_schedule}

-- a statement about the first world, the schedule and the world after it holds for every run
abbrev pub EveryRun : (World → Schedule → World → Type 0) → Type 0
EveryRun Holds = (t : Topology) (times : Times) (es : Schedule) →
    Holds (first_world t times) es (after_schedule es (first_world t times))

-- what was taken in a session is a prefix of what was sent in it
abbrev pub TakenBeginsSent : World → Type 0
TakenBeginsSent w = (a b : ℕ) (life : Life) → Begins (taken_packets w b a (reversed life)) (sent_packets w a b life)

-- these are steps of the link machine, each allowed when it was made, and the machine's lists are those of this world
pub record IsOfMachine (steps : List MachineStep) (w : World) : Type 0 where
  pub is_run : IsMachineRun steps
  pub sent : (n k : ℕ) → (machine_after steps n k).sent ≡ parcels_in (w.put n k)
  pub taken : (n k : ℕ) → (machine_after steps n k).taken ≡ w.steps n k

-- a statement holds in some world of the run
abbrev pub Sometime : (World → Type 0) → Schedule → World → Type 0
Sometime P [] w = P w
Sometime P (e ∷ es) w = P w ⊎ Sometime P es (free_by e.1 w e.0)

-- the end of n towards k is bound in this session, and has accepted at least this many packets
pub record HasAccepted (n k : ℕ) (life : Life) (count : ℕ) (w : World) : Type 0 where
  pub bound : (w.ends n k).phase ≡ Bound life
  pub accepted : count ≤ (w.ends n k).accepted

-- the other end has accepted the packets that an end counts as acknowledged
abbrev pub AcknowledgedIsAccepted : World → Schedule → World → Type 0
AcknowledgedIsAccepted first es w =
    (a b : ℕ) (life : Life) → (w.ends a b).phase ≡ Bound life
    → ((w.ends a b).acknowledged ≡ 0) ⊎ Sometime (HasAccepted b a (reversed life) (w.ends a b).acknowledged) es first

abbrev pub is_bound_to : Life → Phase → Bool
is_bound_to life Closed = false
is_bound_to life (Unbound own) = false
is_bound_to life (Bound other) = is_same_life life other

-- how many events of the run bind the end of n towards k to this session
abbrev pub times_bound : ℕ → ℕ → Life → Schedule → World → ℕ
times_bound n k life [] w = 0
times_bound n k life (e ∷ es) w =
    (if is_bound_to life ((free_by e.1 w e.0).ends n k).phase && not (is_bound_to life (w.ends n k).phase) then 1
    else 0)
    + times_bound n k life es (free_by e.1 w e.0)

-- each end binds each pair of numbers at most once
abbrev pub BindsOnce : World → Schedule → Type 0
BindsOnce first es = (n k : ℕ) (life : Life) → times_bound n k life es first ≤ 1

-- each core has the state that the rules give for the inputs that it accepted
abbrev pub CoresFollow : Topology → World → Type 0
CoresFollow t w = (n : ℕ) → (w.seats n).core ≡ core_after_all (new_core t n) (w.inputs n)

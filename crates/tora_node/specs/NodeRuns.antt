-- The result of a node.
use Rattle.std.specs.Prelude.{◌≡◌, ◌⊎◌, ℕ, ◌<◌, ◌==◌, Bool, List, [], ◌∷◌, length, slice_get, Option, Some, None}
use Rattle.std.specs.Prelude.{option_and_then}
use Rattle.std.specs.List.{position}
use Rattle.tora_core.specs.CoreRun.{CoreView, core_after_all}
use Rattle.tora_lane.specs.declared.limits.TheConstants.{MOST_LINKS}
use Rattle.tora_node.specs.declared.fault.NodeError.{NodeError}
use Rattle.tora_node.specs.declared.fault.NodeError.TheVariants as Fault
use Rattle.tora_neighbour.specs.declared.tally.Tally.{Tally}
use Rattle.tora_seat.specs.Serving.{SeatState}
use Rattle.tora_seat.specs.declared.item.Item.{Item}
use Rattle.tora_seat.specs.Rows.{SeatView, state_of, first_seat}
use Rattle.tora_neighbour.specs.declared.fault.LinkFault.{LinkFault}
use Rattle.tora_neighbour.specs.declared.fault.LinkFault.TheVariants as Of
use Rattle.tora_node.specs.declared.link_task.Outcome.{Outcome}
use Rattle.tora_node.specs.CoreRuns.{ServedItem, AreServed, inputs_stepped, EndsSo}

-- the core at the end, the tally of each neighbour, in ascending order, the items that the core took, and whether its
-- port returned Gone
pub record EndedView : Type 0 where
  pub core : CoreView
  pub tallies : List Tally
  pub taken : List Item
  pub gone : Bool

-- the index of a neighbour, in ascending order
abbrev pub place_of : List ℕ → ℕ → Option ℕ
place_of neighbours peer = position (λ n. n == peer) neighbours

abbrev pub tally_of : EndedView → ℕ → Option Tally
tally_of e peer = option_and_then (slice_get e.tallies) (place_of e.core.neighbours peer)

-- ---- faults

-- the fault of the thread of this neighbour
abbrev pub fault_of_link : ℕ → LinkFault → NodeError
fault_of_link peer (Of.Life error) = Fault.Life peer error
fault_of_link peer Of.Wire = Fault.Wire peer

abbrev pub fault_or : ℕ → Option LinkFault → Option NodeError → Option NodeError
fault_or peer (Some fault) others = Some (fault_of_link peer fault)
fault_or peer None others = others

-- the fault of the lowest neighbour that has one, by the results of all neighbours' threads, in ascending order
abbrev pub first_link_fault : List ℕ → List Outcome → Option NodeError
first_link_fault [] outcomes = None
first_link_fault (k ∷ ks) [] = None
first_link_fault (k ∷ ks) (outcome ∷ outcomes) = fault_or k outcome.fault (first_link_fault ks outcomes)

abbrev pub or_else : Option NodeError → Option NodeError → Option NodeError
or_else (Some fault) other = Some fault
or_else None other = other

-- the core's fault, or else that of the lowest neighbour
abbrev pub first_fault : Option NodeError → List ℕ → List Outcome → Option NodeError
first_fault fault neighbours outcomes = or_else fault (first_link_fault neighbours outcomes)

-- the peer is one of the neighbours
abbrev pub IsNeighbour : List ℕ → ℕ → Type 0
IsNeighbour neighbours peer = (place : ℕ) × (slice_get neighbours place ≡ Some peer)

-- a fault that a node with these neighbours can have; Lane only without neighbours, or with more than there can be
-- queues for
abbrev pub IsNodeFault : List ℕ → NodeError → Type 0
IsNodeFault neighbours Fault.Memory = Unit {0}
IsNodeFault neighbours Fault.Lane = (length neighbours ≡ 0) ⊎ (MOST_LINKS < length neighbours)
IsNodeFault neighbours (Fault.Life peer error) = IsNeighbour neighbours peer
IsNodeFault neighbours (Fault.Wire peer) = IsNeighbour neighbours peer
IsNodeFault neighbours Fault.Output = Unit {0}

-- ---- the core

-- the faults of a core's thread
abbrev pub IsCoreFault : Option NodeError → Type 0
IsCoreFault None = Unit {0}
IsCoreFault (Some Fault.Memory) = Unit {0}
IsCoreFault (Some Fault.Lane) = ⊥
IsCoreFault (Some (Fault.Life peer error)) = ⊥
IsCoreFault (Some (Fault.Wire peer)) = ⊥
IsCoreFault (Some Fault.Output) = Unit {0}

-- Some items were served one after another from the first seat on, and the core is the run of the inputs that this
-- made. Only the last item may be Quit, and it fits the fault
abbrev pub IsServedCore : SeatView → Option NodeError → CoreView → Type 0
IsServedCore first fault core =
    (xs : List ServedItem) × (after : SeatState) × (gone : Bool)
    × AreServed first.core.neighbours (state_of first) xs after
    × (core ≡ core_after_all first.core (inputs_stepped first.core.neighbours (state_of first) xs))
    × EndsSo fault xs gone

-- the result of a core's thread
abbrev pub IsCoreRun : SeatView → SeatView → Option NodeError → Type 0
IsCoreRun first last fault =
    IsServedCore first fault last.core × (last.core.neighbours ≡ first.core.neighbours) × IsCoreFault fault

-- the core of a node that began with the first one and ended without a fault
abbrev pub IsRunOf : CoreView → CoreView → Type 0
IsRunOf first core = IsServedCore (first_seat first) None core

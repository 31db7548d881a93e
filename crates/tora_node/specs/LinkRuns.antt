-- The results of the threads of a node's links.
use Rattle.std.specs.Prelude.{◌≡◌, ◌⊎◌, ◌<◌, ℕ, List, [], ◌∷◌, ◌++◌, map, slice_get, Option, Some, None, Result, Ok}
use Rattle.std.specs.Prelude.{Err}
use Rattle.tora_arq.specs.LinkEnd.{EndState, first_end}
use Rattle.tora_arq.specs.Settings.{Settings, settings_of}
use Rattle.tora_arq.specs.declared.times.TheConstants.Times.{STANDARD}
use Rattle.tora_core.specs.CoreRun.{CoreView}
use Rattle.tora_frame.specs.declared.parts.Version.TheVariants.{Two}
use Rattle.tora_life.specs.declared.disk.Disk as Disk
use Rattle.tora_life.specs.declared.numbers.LifeError.{LifeError}
use Rattle.tora_neighbour.specs.Causes.{fault_of}
use Rattle.tora_neighbour.specs.Tally.{first_tally}
use Rattle.tora_neighbour.specs.Turns.{Turn, IsTurnRun, tally_after}
use Rattle.tora_neighbour.specs.declared.ending.Ending.{Ending}
use Rattle.tora_node.specs.declared.fault.NodeError.{NodeError}
use Rattle.tora_node.specs.declared.fault.NodeError.TheVariants as Fault
use Rattle.tora_neighbour.specs.declared.tally.Tally.{Tally}
use Rattle.tora_neighbour.specs.declared.wire.Wire as Wire
use Rattle.tora_seat.specs.Rows.{SeatView, first_seat}
use Rattle.tora_node.specs.declared.start.NewEnd.{NewEnd}
use Rattle.tora_node.specs.declared.start.NewLink.{NewLink}
use Rattle.tora_neighbour.specs.declared.fault.LinkFault.{LinkFault}
use Rattle.tora_node.specs.declared.link_task.Outcome.{Outcome}
use Rattle.tora_node.specs.NodeRuns.{first_fault, IsNodeFault, IsCoreRun}

-- ---- the name of a link

-- the link of a node to a peer
pub record LinkName : Type 0 where
  pub me : ℕ
  pub peer : ℕ

-- the link of node `me` to this peer
abbrev pub name_of : ℕ → ℕ → LinkName
name_of me peer = record { me = me; peer = peer }

-- the link of a link end
abbrev pub name_in : Settings → LinkName
name_in settings = name_of settings.me settings.peer

abbrev pub link_ended : NewEnd → LinkName
link_ended new = name_in new.end.settings

module _ {D W : Type 0} {disk : Disk.Ghosts D} {wire : Wire.Ghosts W} where
  abbrev pub link_made : NewLink D W disk wire → LinkName
  link_made new = name_in new.link.end.settings

  abbrev pub wire_made : NewLink D W disk wire → W
  wire_made new = new.link.wire

  -- the life file of a new link was opened on this disk
  abbrev pub OpenedOn : (ℕ → ℕ → D → Result ℕ LifeError → Type 0) → D → NewLink D W disk wire → Type 0
  OpenedOn opened of new =
      opened new.link.end.settings.me new.link.end.settings.peer of (Ok new.link.file.numbers.drawn)

-- the links of a node that begins with this core, in ascending order of their peers
abbrev pub links_of : CoreView → List LinkName
links_of first = map (name_of first.me) first.neighbours

-- ---- the result of a link's thread

-- The run of a link's thread: some turns and a last one, from a new end of version 2 with the standard times. The tally
-- counts the datagrams of these turns, and the fault is that of the ending of the last turn
pub record IsLinkRun (me peer : ℕ) (fault : Option LinkFault) (tally : Tally) : Type 0 where
  pub turns : List Turn
  pub last : Turn
  pub ending : Ending
  pub after : EndState
  pub runs : IsTurnRun (settings_of Two me peer STANDARD) first_end turns last ending after
  pub fault_is : fault ≡ fault_of ending
  pub tally_is : tally ≡ tally_after first_tally (turns ++ last ∷ [])

-- the results of the links' threads, in order
abbrev pub AreLinkRuns : List LinkName → List Outcome → Type 0
AreLinkRuns [] [] = Unit {0}
AreLinkRuns [] (outcome ∷ outcomes) = ⊥
AreLinkRuns (link ∷ links) [] = ⊥
AreLinkRuns (link ∷ links) (outcome ∷ outcomes) = IsLinkRun link.me link.peer outcome.fault outcome.tally
    × AreLinkRuns links outcomes

-- the tallies of the links' threads, in order, all without a fault
abbrev pub AreFaultless : List LinkName → List Tally → Type 0
AreFaultless [] [] = Unit {0}
AreFaultless [] (tally ∷ tallies) = ⊥
AreFaultless (link ∷ links) [] = ⊥
AreFaultless (link ∷ links) (tally ∷ tallies) = IsLinkRun link.me link.peer None tally × AreFaultless links tallies

-- ---- why a node ends with a fault

-- memory ran out, or the life file of one of these links did not open
abbrev pub IsOpening : List LinkName → NodeError → Type 0
IsOpening links Fault.Memory = Unit {0}
IsOpening links Fault.Lane = ⊥
IsOpening links (Fault.Life peer error) = (place : ℕ) × (link : LinkName) × (slice_get links place ≡ Some link)
    × (link.peer ≡ peer)
IsOpening links (Fault.Wire peer) = ⊥
IsOpening links Fault.Output = ⊥

-- the life file of the link to this peer did not open, for this reason, and the earlier ones did
pub record LifeFailed {D : Type 0} (opened : ℕ → ℕ → D → Result ℕ LifeError
    → Type 0) (links : List LinkName) (disks : List D) (peer : ℕ) (error : LifeError) : Type 0 where
  pub place : ℕ
  pub link : LinkName
  pub disk : D
  pub at_link : slice_get links place ≡ Some link
  pub at_disk : slice_get disks place ≡ Some disk
  pub peer_is : link.peer ≡ peer
  pub failed : opened link.me link.peer disk (Err error)
  pub before : (k : ℕ) (other : LinkName) (file : D) → k < place → slice_get links k ≡ Some other
      → slice_get disks k ≡ Some file → (drawn : ℕ) × opened other.me other.peer file (Ok drawn)

-- memory ran out, or the life file of one of these links did not open on its disk
abbrev pub FailsToOpen : {D : Type 0} → (ℕ → ℕ → D → Result ℕ LifeError → Type 0) → List LinkName → List D → NodeError
    → Type 0
FailsToOpen opened links disks Fault.Memory = Unit {0}
FailsToOpen opened links disks Fault.Lane = ⊥
FailsToOpen opened links disks (Fault.Life peer error) = LifeFailed opened links disks peer error
FailsToOpen opened links disks (Fault.Wire peer) = ⊥
FailsToOpen opened links disks Fault.Output = ⊥

-- a fault before the threads were started, or of starting them, with these disks for the life files
abbrev pub FailsToStart : {D : Type 0} → (ℕ → ℕ → D → Result ℕ LifeError → Type 0) → CoreView → List D → NodeError
    → Type 0
FailsToStart opened first disks Fault.Memory = Unit {0}
FailsToStart opened first disks Fault.Lane = IsNodeFault first.neighbours Fault.Lane
FailsToStart opened first disks (Fault.Life peer error) = LifeFailed opened (links_of first) disks peer error
FailsToStart opened first disks (Fault.Wire peer) = ⊥
FailsToStart opened first disks Fault.Output = ⊥

-- a fault before the threads were started, or of starting them
abbrev pub IsStartFault : CoreView → NodeError → Type 0
IsStartFault first Fault.Memory = Unit {0}
IsStartFault first Fault.Lane = IsNodeFault first.neighbours Fault.Lane
IsStartFault first (Fault.Life peer error) = IsNodeFault first.neighbours (Fault.Life peer error)
IsStartFault first (Fault.Wire peer) = ⊥
IsStartFault first Fault.Output = ⊥

-- the first fault in the results of the threads of the core and the links
pub record IsThreadsFault (first : CoreView) (e : NodeError) : Type 0 where
  pub last : SeatView
  pub fault : Option NodeError
  pub outcomes : List Outcome
  pub core : IsCoreRun (first_seat first) last fault
  pub links : AreLinkRuns (links_of first) outcomes
  pub first_is : first_fault fault first.neighbours outcomes ≡ Some e

abbrev pub IsCause : CoreView → NodeError → Type 0
IsCause first e = IsStartFault first e ⊎ IsThreadsFault first e

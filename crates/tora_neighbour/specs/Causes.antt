-- Why a neighbour's thread ends, and what it requires of its life file.
use Rattle.std.specs.Prelude.{◌≡◌, ℕ, ◌≤◌, Bool, true, List, Option, Some, None, Result, Ok, Err, IsTrue}
use Rattle.tora_frame.specs.FrameParts.{FrameParts}
use Rattle.tora_arq.specs.Settings.{Settings}
use Rattle.tora_life.specs.declared.numbers.LifeError.{LifeError}
use Rattle.tora_life.specs.declared.numbers.LifeError.TheVariants as Fault
use Rattle.tora_life.specs.Disk.{HasCause}
use Rattle.tora_life.specs.declared.numbers.Numbers.{Numbers}
use Rattle.tora_life.specs.Numbers.{IsSpent}
use Rattle.tora_arq.specs.LinkEnd.{EndState, frame_due, after_transmit}
use Rattle.tora_neighbour.specs.declared.ending.BrokenAt.{BrokenAt}
use Rattle.tora_neighbour.specs.declared.ending.BrokenAt.TheVariants.{Send, Receive}
use Rattle.tora_neighbour.specs.declared.fault.LinkFault.{LinkFault}
use Rattle.tora_neighbour.specs.declared.fault.LinkFault.TheVariants.{Life, Wire}
use Rattle.tora_neighbour.specs.declared.ending.Ending.{Ending}
use Rattle.tora_neighbour.specs.declared.ending.Ending.TheVariants as Because
use Rattle.tora_neighbour.specs.Datagrams.{RoseBy}
use Rattle.tora_neighbour.specs.declared.intake.Intake.{Intake}
use Rattle.tora_neighbour.specs.Intake.{Reading, intake_in, after_came}
use Rattle.tora_neighbour.specs.Turns.{AreDue, after_frames}
use Rattle.tora_neighbour.specs.declared.turn_parts.TheConstants.{MOST_FAILURES}

-- the file draws only numbers above that of the end's last session
abbrev pub IsReady : EndState → Numbers → Type 0
IsReady e numbers = e.last_life ≤ numbers.drawn

-- why a file draws no number: a call of the disk failed, an earlier draw returned `Disk`, or the numbers are used up
abbrev pub IsLifeCause : LifeError → Numbers → Numbers → ℕ → ℕ → Type 0
IsLifeCause Fault.Disk before after failed now = HasCause failed now
IsLifeCause Fault.Failed before after failed now = IsTrue before.failed
IsLifeCause Fault.Spent before after failed now = IsSpent after
IsLifeCause Fault.Damaged before after failed now = ⊥
IsLifeCause Fault.Foreign before after failed now = ⊥

-- these frames are sent, then at most one datagram is received; the result of that datagram, and the end after it
abbrev pub IsExchange : Settings → EndState → ℕ → List FrameParts → Option Reading → Option Intake
    → Result (Unit {0}) BrokenAt → EndState → Type 0
IsExchange s e now frames came intake (Ok done) after =
    AreDue s e now frames
    × (frame_due s (after_frames s e now frames) now ≡ None)
    × (intake ≡ intake_in s (after_transmit s (after_frames s e now frames) now) now came)
    × (after ≡ after_came s (after_transmit s (after_frames s e now frames) now) now came)
IsExchange s e now frames came intake (Err Send) after = AreDue s e now frames × (came ≡ None) × (intake ≡ None)
    × (after ≡ after_frames s e now frames)
IsExchange s e now frames came intake (Err Receive) after =
    AreDue s e now frames
    × (frame_due s (after_frames s e now frames) now ≡ None)
    × (came ≡ None)
    × (intake ≡ None)
    × (after ≡ after_transmit s (after_frames s e now frames) now)

-- why a turn is the last one: the file draws no number, a hundred calls of the wire in a row failed, or the hub
-- returned Gone
abbrev pub IsCause : Ending → Numbers → Numbers → ℕ → ℕ → ℕ → Bool → Type 0
IsCause (Because.NoNumber error) before after failed now row gone = IsLifeCause error before after failed now
IsCause (Because.Broken at) before after failed now row gone = row ≡ MOST_FAILURES
IsCause Because.Refused before after failed now row gone = gone ≡ true

-- the fault that a thread returns
abbrev pub fault_of : Ending → Option LinkFault
fault_of (Because.NoNumber error) = Some (Life error)
fault_of (Because.Broken at) = Some Wire
fault_of Because.Refused = None

-- why a thread has ended. None: its hub returned Gone. Wire: the wire's count of failures rose by at least a hundred.
-- Life: the file drew no number
abbrev pub IsEndOf : Option LinkFault → Numbers → Numbers → ℕ → ℕ → ℕ → ℕ → Bool → Type 0
IsEndOf None before after disk_failed disk_now wire_failed wire_now gone = gone ≡ true
IsEndOf (Some Wire) before after disk_failed disk_now wire_failed wire_now gone =
    RoseBy MOST_FAILURES wire_failed wire_now
IsEndOf (Some (Life error)) before after disk_failed disk_now wire_failed wire_now gone =
    IsLifeCause error before after disk_failed disk_now

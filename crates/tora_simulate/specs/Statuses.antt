-- The exit statuses of a replay or a simulation.
use Rattle.std.specs.Prelude.{ℕ, Bool, true, false, Result, Ok, Err}
use Rattle.tora_lines.specs.declared.ended.Ended.{Ended}
use Rattle.tora_lines.specs.declared.ended.Ended.TheVariants.{Whole, Fault}
use Rattle.tora_lines.specs.declared.ended.ReplayError.{ReplayError}
use Rattle.tora_lines.specs.declared.ended.ReplayError.TheVariants.{Memory, Read, Write}

-- 0 at the end of the input, 1 at a fault or if reading or writing failed, 5 if memory ran out
abbrev pub status_of : Result Ended ReplayError → ℕ
status_of (Ok Whole) = 0
status_of (Ok (Fault n)) = 1
status_of (Err Memory) = 5
status_of (Err Read) = 1
status_of (Err Write) = 1

-- the status of a traced run: 1 instead of 0 if the trace could not be written
abbrev pub traced_status : Bool → Result Ended ReplayError → ℕ
traced_status false ended = status_of ended
traced_status true (Ok Whole) = 1
traced_status true (Ok (Fault n)) = 1
traced_status true (Err Memory) = 5
traced_status true (Err Read) = 1
traced_status true (Err Write) = 1

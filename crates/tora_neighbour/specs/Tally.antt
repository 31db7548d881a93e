-- Counts of the received datagrams.
use Rattle.std.specs.Prelude.{ℕ, ◌+◌, ◌-◌, ◌^◌, ◌==◌, min, if◌then◌else◌, Option, Some, None}
use Rattle.tora_frame.specs.declared.FrameError.{FrameError}
use Rattle.tora_frame.specs.declared.FrameError.TheVariants as Fault
use Rattle.tora_arq.specs.declared.verdict.Verdict.{Verdict}
use Rattle.tora_arq.specs.declared.verdict.Verdict.TheVariants.{Accepted, Repeated, Ahead, Stale, Foreign, Busy}
use Rattle.tora_neighbour.specs.declared.tally.Tally.{Tally}
use Rattle.tora_neighbour.specs.declared.intake.Intake.{Intake}
use Rattle.tora_neighbour.specs.declared.intake.Intake.TheVariants.{Bad, Seen}

abbrev pub first_tally : Tally
first_tally = record {
  accepted = 0;
  repeated = 0;
  ahead = 0;
  stale = 0;
  foreign = 0;
  busy = 0;
  short = 0;
  long = 0;
  version = 0;
  kind = 0;
  length = 0;
  id = 0;
  life = 0;
  number = 0;
  packet = 0;
  count = 0;
}

-- a count after one more; it stops at 2^64 - 1
abbrev pub one_more : ℕ → ℕ
one_more n = min (n + 1) (2 ^ 64 - 1)

-- adds 1 to the count of this verdict
abbrev pub with_verdict : Verdict → Tally → Tally
with_verdict Accepted t = record t { accepted = one_more t.accepted }
with_verdict Repeated t = record t { repeated = one_more t.repeated }
with_verdict Ahead t = record t { ahead = one_more t.ahead }
with_verdict Stale t = record t { stale = one_more t.stale }
with_verdict Foreign t = record t { foreign = one_more t.foreign }
with_verdict Busy t = record t { busy = one_more t.busy }

-- adds 1 to the count of this error
abbrev pub with_fault : FrameError → Tally → Tally
with_fault Fault.Short t = record t { short = one_more t.short }
with_fault Fault.Long t = record t { long = one_more t.long }
with_fault Fault.Version t = record t { version = one_more t.version }
with_fault Fault.Kind t = record t { kind = one_more t.kind }
with_fault Fault.Length t = record t { length = one_more t.length }
with_fault Fault.Id t = record t { id = one_more t.id }
with_fault Fault.Life t = record t { life = one_more t.life }
with_fault Fault.Number t = record t { number = one_more t.number }
with_fault (Fault.Packet e) t = record t { packet = one_more t.packet }
with_fault Fault.Count t = record t { count = one_more t.count }

-- the tally after a datagram was passed to the end
abbrev pub counted : Intake → Tally → Tally
counted (Bad error) t = with_fault error t
counted (Seen verdict) t = with_verdict verdict t

-- the tally after a receive, which may have returned no datagram
abbrev pub counted_in : Option Intake → Tally → Tally
counted_in None t = t
counted_in (Some intake) t = counted intake t

abbrev pub count_of_verdict : Verdict → Tally → ℕ
count_of_verdict Accepted t = t.accepted
count_of_verdict Repeated t = t.repeated
count_of_verdict Ahead t = t.ahead
count_of_verdict Stale t = t.stale
count_of_verdict Foreign t = t.foreign
count_of_verdict Busy t = t.busy

-- the count of the error with this number; 0 for any other number
abbrev pub count_of_fault : ℕ → Tally → ℕ
count_of_fault n t =
    if n == 1 then t.short
    else if n == 2 then t.long
    else if n == 3 then t.version
    else if n == 4 then t.kind
    else if n == 5 then t.length
    else if n == 6 then t.id
    else if n == 7 then t.life
    else if n == 8 then t.number
    else if n == 9 then t.packet
    else if n == 10 then t.count
    else 0

-- The times, changes and tallies of a router as C reads them.
use Rattle.std.specs.Prelude.{ℕ, ◌==◌, if◌then◌else◌, Option}
use Rattle.std.specs.Option.{option_map_or}
use Rattle.tora_arq.specs.declared.times.Times.{Times}
use Rattle.tora_arq.specs.declared.times.TheConstants.Times.{STANDARD}
use Rattle.tora_arq.specs.Lives.{reason_number}
use Rattle.tora_router.specs.declared.change.Change.{Change}
use Rattle.tora_router.specs.declared.change.Change.TheVariants as Changes
use Rattle.tora_router.specs.declared.tally.Tally.{Tally}
use Rattle.tora_c.specs.declared.router_parts.ChangeParts.{ChangeParts}
use Rattle.tora_c.specs.declared.router_parts.TallyParts.{TallyParts}
use Rattle.tora_c.specs.declared.router_parts.TimesParts.{TimesParts}

abbrev pub or_standard : ℕ → ℕ → ℕ
or_standard part standard = if part == 0 then standard else part

abbrev pub times_of : TimesParts → Times
times_of parts = record {
  hello = or_standard parts.hello STANDARD.hello;
  silent = or_standard parts.silent STANDARD.silent;
  retry = or_standard parts.retry STANDARD.retry;
  tries = or_standard parts.tries STANDARD.tries;
}

-- the parts of a next hop; 0, which is not the number of a node, means that there is none
abbrev pub next_hop_parts : ℕ → Option ℕ → ChangeParts
next_hop_parts d hop = record { kind = 3; node = d; hop = option_map_or (λ k. k) hop 0; reason = 0 }

abbrev pub change_parts : Change → ChangeParts
change_parts (Changes.LinkUp k) = record { kind = 1; node = k; hop = 0; reason = 0 }
change_parts (Changes.LinkDown k reason) = record { kind = 2; node = k; hop = 0; reason = reason_number reason }
change_parts (Changes.NextHop d hop) = next_hop_parts d hop

abbrev pub tally_parts : Tally → TallyParts
tally_parts t = record {
  accepted = t.accepted;
  repeated = t.repeated;
  ahead = t.ahead;
  stale = t.stale;
  foreign = t.foreign;
  busy = t.busy;
  bad = t.bad;
}

-- The ticks of the system's clock.
use Rattle.std.specs.Prelude.{◌≡◌, ℕ, ◌/◌, ◌-◌, ◌^◌, min, Result, Ok, Err}
use Rattle.std.specs.Time.{system_time_nanos}
use Rattle.std.specs.declared.io.Error.{Error}
use Rattle.std.specs.declared.time.SystemTime.{SystemTime}
use Rattle.tora_neighbour.specs.declared.clock.TheConstants.{TICK}

-- the whole units of 100 ms in this many nanoseconds, at most 2^64 - 1
abbrev pub ticks_in : ℕ → ℕ
ticks_in nanos = min (nanos / 1_000_000 / TICK) (2 ^ 64 - 1)

-- the whole units of 100 ms since 1970, at most 2^64 - 1; 0 if the clock cannot be read
abbrev pub tick_of : Result SystemTime Error → ℕ
tick_of (Ok time) = ticks_in (system_time_nanos time)
tick_of (Err _) = 0

-- the tick of a reading that was made of the clock
abbrev pub IsTickRead : (Result SystemTime Error → Type 0) → ℕ → Type 0
IsTickRead did_read tick = (reading : Result SystemTime Error) × did_read reading × (tick ≡ tick_of reading)

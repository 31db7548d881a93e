-- The number of a node and a port in a value, or the fault of the value.
use Rattle.std.specs.Prelude.{ℕ, ◌^◌, ◌&&◌, nat_lt, if◌then◌else◌, ℤ, pos, negsuc, Option, Some, None, Result, Ok, Err}
use Rattle.tora_commands.specs.declared.configuration.reason.Reason.{Reason}
use Rattle.tora_commands.specs.declared.configuration.reason.Reason.TheVariants as Is

-- the number of a node, from 1 to 2^32 - 1, or the fault of the value
abbrev pub id_in : Option ℤ → Result ℕ Reason
id_in None = Err Is.NoNumber
id_in (Some (negsuc n)) = Err Is.NoId
id_in (Some (pos n)) = if nat_lt 0 n && nat_lt n (2 ^ 32) then Ok n else Err Is.NoId

-- a port, from 1 to 2^16 - 1, or the fault of the value
abbrev pub port_in : Option ℤ → Result ℕ Reason
port_in None = Err Is.NoNumber
port_in (Some (negsuc n)) = Err Is.NoPort
port_in (Some (pos n)) = if nat_lt 0 n && nat_lt n (2 ^ 16) then Ok n else Err Is.NoPort

-- The faults of a table that is not a configuration, and of its values.
use Rattle.std.specs.Prelude.{ℕ, codes, bytes_eq, if◌then◌else◌, List, Option, Some, None, Result, Ok, Err}
use Rattle.toml.specs.Data.{Data, Items, as_integer, as_str, as_array}
use Rattle.tora_core.specs.declared.erasure.Erasure.{Erasure}
use Rattle.tora_core.specs.declared.erasure.Erasure.TheVariants.{Plain, Remembered}
use Rattle.tora_core.specs.declared.errors.CoreError.{CoreError}
use Rattle.tora_commands.specs.declared.configuration.fault.Place.{Place}
use Rattle.tora_commands.specs.declared.configuration.reason.Reason.{Reason}
use Rattle.tora_commands.specs.declared.configuration.reason.Reason.TheVariants as Is
use Rattle.tora_commands.specs.ConfigAddresses.{end_in, port_of_end}
use Rattle.tora_commands.specs.ConfigNumbers.{id_in}
use Rattle.std.specs.declared.net.socket_addr.SocketAddr.{SocketAddr}

pub data Fault : Type 0 where
  unknown_key : List ℕ → Fault
  unknown_link_key : ℕ → List ℕ → Fault
  refused : Place → Reason → Fault
  no_core : CoreError → Fault

-- the value at a key, as `read` reads it, or `Missing` if the key is missing
abbrev pub found : {A : Type 0} → (Data → Result A Reason) → Option Data → Result A Reason
found read None = Err Is.Missing
found read (Some value) = read value

abbrev pub id_at : Option Data → Result ℕ Reason
id_at stands = found (λ value. id_in (as_integer value)) stands

abbrev pub port_at : Option Data → Result ℕ Reason
port_at stands = found (λ value. port_of_end (end_in value)) stands

abbrev pub end_at : Option Data → Result SocketAddr Reason
end_at stands = found end_in stands

abbrev pub ok_or : {A : Type 0} → Reason → Option A → Result A Reason
ok_or reason None = Err reason
ok_or reason (Some a) = Ok a

abbrev pub text_at : Option Data → Result (List ℕ) Reason
text_at stands = found (λ value. ok_or Is.NoText (as_str value)) stands

abbrev pub list_at : Option Data → Result Items Reason
list_at stands = found (λ value. ok_or Is.NoList (as_array value)) stands

-- the treatment of erased levels that a word names
abbrev pub erasure_of : List ℕ → Option Erasure
erasure_of word =
    if bytes_eq word (codes "plain") then Some Plain
    else if bytes_eq word (codes "remembered") then Some Remembered
    else None

abbrev pub erasure_said : Option (List ℕ) → Result Erasure Reason
erasure_said None = Err Is.NoText
erasure_said (Some word) = ok_or Is.NoErasure (erasure_of word)

-- the treatment of erased levels at its key, which is plain if the key is missing
abbrev pub erasure_at : Option Data → Result Erasure Reason
erasure_at None = Ok Plain
erasure_at (Some value) = erasure_said (as_str value)

-- the value that was read at a key, or the fault with the key and the reason
abbrev pub at_place : {A : Type 0} → Place → Result A Reason → Result A Fault
at_place place (Ok a) = Ok a
at_place place (Err reason) = Err (refused place reason)

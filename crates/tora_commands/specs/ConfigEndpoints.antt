-- The addresses and key files of links in a text.
use Rattle.std.specs.Prelude.{codes, string_bytes, ℕ, ◌&&◌, Bool, List, [], ◌+◌, length, not, Option, Some, None}
use Rattle.std.specs.Prelude.{option_map, Result, Ok, Err}
use Rattle.std.specs.Option.{is_some}
use Rattle.std.specs.declared.net.socket_addr.SocketAddr.{SocketAddr}
use Rattle.toml.specs.Data.{Data, Members, as_table, as_str, get_member}
use Rattle.tora_commands.specs.ConfigAddresses.{is_loopback}
use Rattle.tora_commands.specs.declared.configuration.reason.Reason.{Reason}
use Rattle.tora_commands.specs.declared.configuration.reason.Reason.TheVariants as Is
use Rattle.tora_commands.specs.declared.configuration.fault.Place.TheVariants as At
use Rattle.tora_commands.specs.declared.configuration.endpoints.LinkEndpoint.{LinkEndpoint}
use Rattle.tora_commands.specs.ConfigRefusal.{Fault, refused, id_at, end_at, list_at, ok_or, at_place}
use Rattle.tora_commands.specs.ConfigReading.{◌>>=◌, refuse_if, each_from}

pub record EndpointSaid : Type 0 where
  pub peer : ℕ
  pub local : SocketAddr
  pub remote : SocketAddr
  pub key_file : Option (List ℕ)

abbrev pub said_endpoint : LinkEndpoint → EndpointSaid
said_endpoint endpoint = record {
  peer = endpoint.peer;
  local = endpoint.local;
  remote = endpoint.remote;
  key_file = option_map string_bytes endpoint.key_file;
}

-- a text, if there is one; a missing one is not a fault
abbrev pub some_text : Result (List ℕ) Reason → Result (Option (List ℕ)) Reason
some_text (Ok text) = Ok (Some text)
some_text (Err reason) = Err reason

abbrev pub key_file_at : Option Data → Result (Option (List ℕ)) Reason
key_file_at None = Ok None
key_file_at (Some value) = some_text (ok_or Is.NoText (as_str value))

-- whether a link without a key would leave the loopback
abbrev pub is_open : SocketAddr → SocketAddr → Option (List ℕ) → Bool
is_open local remote key_file = not (is_some key_file) && not (is_loopback local && is_loopback remote)

-- the addresses and the key file of the link with the number n; one that leaves the loopback has a key
unfoldable pub endpoint_in : ℕ → Data → Result EndpointSaid Fault
endpoint_in n value = do
  table ← at_place (At.Link n) (ok_or Is.NoTable (as_table value))
  peer ← at_place (At.Peer n) (id_at (get_member (codes "peer") table))
  local ← at_place (At.Local n) (end_at (get_member (codes "local") table))
  remote ← at_place (At.Remote n) (end_at (get_member (codes "remote") table))
  key_file ← at_place (At.KeyFile n) (key_file_at (get_member (codes "key_file") table))
  _ ← refuse_if (is_open local remote key_file) (refused (At.KeyFile n) Is.Unkeyed)
  Ok (record { peer = peer; local = local; remote = remote; key_file = key_file })

abbrev pub endpoint_beside : List EndpointSaid → Data → Result EndpointSaid Fault
endpoint_beside before value = endpoint_in (length before + 1) value

-- the addresses and the key file of each link, in the order of the text
unfoldable pub endpoints_in : Members → Result (List EndpointSaid) Fault
endpoints_in table = do
  values ← at_place At.Links (list_at (get_member (codes "link") table))
  each_from endpoint_beside [] values

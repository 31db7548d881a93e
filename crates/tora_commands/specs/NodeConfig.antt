-- What holds for each configuration that is read.
use Rattle.std.specs.Prelude.{codes, string_bytes, ◌≡◌, ℕ, ◌+◌, ◌<◌, ℤ, pos, List, map, length, slice_index, All}
use Rattle.std.specs.Prelude.{Option, Some, None, option_and_then, IsPermutation}
use Rattle.toml.specs.Data.{Data, Members, as_integer, as_str, as_array, get, get_member}
use Rattle.toml.specs.View.{items_of}
use Rattle.std.specs.Result.{result_ok}
use Rattle.tora_commands.specs.ConfigAddresses.{end_in, port_of_end}
use Rattle.tora_core.specs.declared.erasure.Erasure.{Erasure}
use Rattle.tora_core.specs.CoreRun.{core_refusal}
use Rattle.tora_commands.specs.ConfigRefusal.{erasure_at}
use Rattle.tora_commands.specs.declared.configuration.LinkConfig.{LinkConfig}
use Rattle.tora_commands.specs.declared.configuration.NodeConfig.{NodeConfig}

-- no number of it is 0
pub record IsLinkConfig (link : LinkConfig) : Type 0 where
  pub peer : 0 < link.peer
  pub local : 0 < link.local
  pub remote : 0 < link.remote

-- each number is greater than the one before it
abbrev pub IsAscending : List ℕ → Type 0
IsAscending numbers = (k : ℕ) → k + 1 < length numbers → slice_index numbers k < slice_index numbers (k + 1)

abbrev pub peers_of : List LinkConfig → List ℕ
peers_of links = map (λ link. link.peer) links

-- there is a link, no number is 0, and the links are by ascending peer. A core of these is refused only if memory runs
-- out
pub record IsNodeConfig (c : NodeConfig) : Type 0 where
  pub node : 0 < c.node
  pub dests : All (λ d. 0 < d) c.dests.items
  pub links : All IsLinkConfig c.links.items
  pub some_link : 0 < length c.links.items
  pub ascending : IsAscending (peers_of c.links.items)
  pub accepted : core_refusal c.node (peers_of c.links.items) c.dests.items ≡ None

-- ---- the contents of a text

-- the whole number, the text and the values of a list at a key of a table
abbrev pub number_at : List ℕ → Members → Option ℤ
number_at key table = option_and_then as_integer (get_member key table)

abbrev pub text_at : List ℕ → Members → Option (List ℕ)
text_at key table = option_and_then as_str (get_member key table)

abbrev pub IsListAt : List ℕ → Members → List Data → Type 0
IsListAt key table values = option_and_then as_array (get_member key table) ≡ Some (items_of values)

-- the whole number at a key of a value, which is a table
abbrev pub number_in : List ℕ → Data → Option ℤ
number_in key value = option_and_then as_integer (get key value)

-- the port in a value, as a number or in the text of an address
abbrev pub port_said : Data → Option ℕ
port_said value = result_ok (port_of_end (end_in value))

abbrev pub port_at : List ℕ → Members → Option ℕ
port_at key table = option_and_then port_said (get_member key table)

abbrev pub port_in : List ℕ → Data → Option ℕ
port_in key value = option_and_then port_said (get key value)

-- the peer and the two ports of a link, as the TOML value has them
abbrev pub says_of_link : Data → Option ℤ × (Option ℕ × Option ℕ)
says_of_link value = (number_in (codes "peer") value, (port_in (codes "local") value, port_in (codes "remote") value))

abbrev pub said_link : LinkConfig → Option ℤ × (Option ℕ × Option ℕ)
said_link link = (Some (pos link.peer), (Some link.local, Some link.remote))

-- The links are those in the list, possibly in another order.
abbrev pub AreLinksOf : List Data → List LinkConfig → Type 0
AreLinksOf values links =
    (written : List LinkConfig) × (map says_of_link values ≡ map said_link written) × IsPermutation written links

-- the treatment of erased levels in a table
abbrev pub erasure_in : Members → Option Erasure
erasure_in table = result_ok (erasure_at (get_member (codes "erasure") table))

-- The configuration has the values of the table of a text, key by key.
pub record IsWritten (table : Members) (c : NodeConfig) : Type 0 where
  pub node : number_at (codes "node") table ≡ Some (pos c.node)
  pub dests : (values : List Data) × IsListAt (codes "dests") table values
      × (map as_integer values ≡ map (λ d. Some (pos d)) c.dests.items)
  pub life_dir : text_at (codes "life_dir") table ≡ Some (string_bytes c.life_dir)
  pub erasure : erasure_in table ≡ Some c.erasure
  pub links : (values : List Data) × IsListAt (codes "link") table values × AreLinksOf values c.links.items

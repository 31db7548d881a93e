-- The result of reading a table: a configuration, or its first fault.
use Rattle.std.specs.Prelude.{codes, string_bytes, bytes_eq, ◌≡◌, ◌==◌, ◌+◌, ℕ, Bool, List, [], ◌∷◌, ◌++◌, length}
use Rattle.std.specs.Prelude.{if◌then◌else◌, Option, Some, None, Result, Ok, Err, IsPermutation}
use Rattle.std.specs.List.{list_any}
use Rattle.toml.specs.Data.{Data, Items, no_items, item, Members, no_members, member, as_table, as_integer, get_member}
use Rattle.tora_core.specs.declared.erasure.Erasure.{Erasure}
use Rattle.tora_core.specs.declared.errors.CoreError.{CoreError}
use Rattle.tora_core.specs.CoreRun.{core_refusal}
use Rattle.tora_core.specs.Numbers.{has_number}
use Rattle.tora_commands.specs.declared.configuration.LinkConfig.{LinkConfig}
use Rattle.tora_commands.specs.declared.configuration.NodeConfig.{NodeConfig}
use Rattle.tora_commands.specs.declared.configuration.fault.ConfigError.{ConfigError}
use Rattle.tora_commands.specs.declared.configuration.fault.ConfigError.TheVariants as Error
use Rattle.tora_commands.specs.declared.configuration.fault.Place.TheVariants as At
use Rattle.tora_commands.specs.declared.configuration.reason.Reason.TheVariants as Is
use Rattle.tora_commands.specs.NodeConfig.{peers_of}
use Rattle.tora_commands.specs.ConfigNumbers.{id_in}
use Rattle.tora_commands.specs.ConfigRefusal.{Fault, unknown_key, unknown_link_key, refused, no_core, id_at, port_at}
use Rattle.tora_commands.specs.ConfigRefusal.{text_at, list_at, erasure_at, ok_or, at_place}

-- one step after another, up to the first fault
infixl 10 ◌>>=◌
abbrev pub ◌>>=◌ : {A B : Type 0} → Result A Fault → (A → Result B Fault) → Result B Fault
(Ok x) >>= f = f x
(Err e) >>= f = Err e

abbrev pub refuse_if : Bool → Fault → Result (Unit {0}) Fault
refuse_if holds fault = if holds then Err fault else Ok tt

-- ---- keys

-- the keys of a table, in its order
abbrev pub keys_in : Members → List (List ℕ)
keys_in no_members = []
keys_in (member key value members) = key ∷ keys_in members

-- The first unknown key, if there is one, is a fault.
abbrev pub only_known : List (List ℕ) → (List ℕ → Fault) → List (List ℕ) → Result (Unit {0}) Fault
only_known known fault [] = Ok tt
only_known known fault (key ∷ keys) = if list_any (bytes_eq key) known then only_known known fault keys
    else Err (fault key)

abbrev pub keys_of_configuration : List (List ℕ)
keys_of_configuration = codes "node" ∷ codes "dests" ∷ codes "life_dir" ∷ codes "erasure" ∷ codes "link" ∷ []

abbrev pub keys_of_link : List (List ℕ)
keys_of_link = codes "peer" ∷ codes "local" ∷ codes "remote" ∷ codes "key_file" ∷ []

-- ---- lists

-- reads the values in turn, each one checked against the items before it; the result is all items, or the first fault
abbrev pub each_from : {A : Type 0} → (List A → Data → Result A Fault) → List A → Items → Result (List A) Fault
each_from read before no_items = Ok before
each_from read before (item value values) = do
  next ← read before value
  each_from read (before ++ next ∷ []) values

-- a destination that differs from those before it
unfoldable pub dest_in : List ℕ → Data → Result ℕ Fault
dest_in before value = do
  dest ← at_place (At.Dest (length before + 1)) (id_in (as_integer value))
  _ ← refuse_if (has_number dest before) (refused (At.Dest (length before + 1)) Is.Repeated)
  Ok dest

unfoldable pub dests_in : Members → Result (List ℕ) Fault
dests_in table = do
  values ← at_place At.Dests (list_at (get_member (codes "dests") table))
  each_from dest_in [] values

-- the link with the number n
unfoldable pub link_in : ℕ → Data → Result LinkConfig Fault
link_in n value = do
  table ← at_place (At.Link n) (ok_or Is.NoTable (as_table value))
  _ ← only_known keys_of_link (unknown_link_key n) (keys_in table)
  peer ← at_place (At.Peer n) (id_at (get_member (codes "peer") table))
  local ← at_place (At.Local n) (port_at (get_member (codes "local") table))
  remote ← at_place (At.Remote n) (port_at (get_member (codes "remote") table))
  Ok (record { peer = peer; local = local; remote = remote })

abbrev pub has_peer : ℕ → List LinkConfig → Bool
has_peer peer links = list_any (λ link. link.peer == peer) links

abbrev pub has_local : ℕ → List LinkConfig → Bool
has_local local links = list_any (λ link. link.local == local) links

-- a link whose peer is neither this node nor an earlier peer, and whose local port is not an earlier one
unfoldable pub link_beside : ℕ → List LinkConfig → Data → Result LinkConfig Fault
link_beside node before value = do
  link ← link_in (length before + 1) value
  _ ← refuse_if (link.peer == node) (refused (At.Peer (length before + 1)) Is.OwnId)
  _ ← refuse_if (has_peer link.peer before) (refused (At.Peer (length before + 1)) Is.Repeated)
  _ ← refuse_if (has_local link.local before) (refused (At.Local (length before + 1)) Is.Repeated)
  Ok link

unfoldable pub listed_links : ℕ → Members → Result (List LinkConfig) Fault
listed_links node table = do
  values ← at_place At.Links (list_at (get_member (codes "link") table))
  each_from (link_beside node) [] values

-- at least one link
unfoldable pub links_in : ℕ → Members → Result (List LinkConfig) Fault
links_in node table = do
  links ← listed_links node table
  _ ← refuse_if (length links == 0) (refused At.Links Is.Missing)
  Ok links

-- ---- the whole configuration

abbrev pub has_core : Option CoreError → Result (Unit {0}) Fault
has_core None = Ok tt
has_core (Some e) = Err (no_core e)

-- a configuration as numbers and bytes, with its links in the order of the text
pub record Configuration : Type 0 where
  pub node : ℕ
  pub dests : List ℕ
  pub life_dir : List ℕ
  pub erasure : Erasure
  pub links : List LinkConfig

unfoldable pub configuration_in : Members → Result Configuration Fault
configuration_in table = do
  _ ← only_known keys_of_configuration unknown_key (keys_in table)
  node ← at_place At.Node (id_at (get_member (codes "node") table))
  dests ← dests_in table
  life_dir ← at_place At.LifeDir (text_at (get_member (codes "life_dir") table))
  erasure ← at_place At.Erasure (erasure_at (get_member (codes "erasure") table))
  links ← links_in node table
  _ ← has_core (core_refusal node (peers_of links) dests)
  Ok (record { node = node; dests = dests; life_dir = life_dir; erasure = erasure; links = links })

-- ---- the results of the functions

-- An error other than `Memory` is the fault that reading found. `Syntax` does not occur, as a table is valid TOML.
abbrev pub Fails : {Y : Type 0} → ConfigError → Result Y Fault → Type 0
Fails Error.Memory read = Unit {0}
Fails (Error.Syntax e) read = ⊥
Fails (Error.UnknownKey key) read = read ≡ Err (unknown_key (string_bytes key))
Fails (Error.UnknownLinkKey n key) read = read ≡ Err (unknown_link_key n (string_bytes key))
Fails (Error.Value place reason) read = read ≡ Err (refused place reason)
Fails (Error.Core e) read = read ≡ Err (no_core e)

-- The function returns what reading gives, or `Memory`.
abbrev pub Gives : {X Y : Type 0} → (X → Y) → Result X ConfigError → Result Y Fault → Type 0
Gives view (Ok x) read = read ≡ Ok (view x)
Gives view (Err e) read = Fails e read

-- The configuration has the values that were read, with its links possibly in another order.
pub record IsOf (c : NodeConfig) (read : Configuration) : Type 0 where
  pub node : c.node ≡ read.node
  pub dests : c.dests.items ≡ read.dests
  pub life_dir : string_bytes c.life_dir ≡ read.life_dir
  pub erasure : c.erasure ≡ read.erasure
  pub links : IsPermutation read.links c.links.items

-- The function returns the configuration that reading gives, its fault, or `Memory`.
abbrev pub Reads : Result NodeConfig ConfigError → Result Configuration Fault → Type 0
Reads (Ok c) read = (x : Configuration) × (read ≡ Ok x) × IsOf c x
Reads (Err e) read = Fails e read

-- The result is the error `Syntax` or `Memory`.
abbrev pub IsNoToml : {X : Type 0} → Result X ConfigError → Type 0
IsNoToml (Err (Error.Syntax e)) = Unit {0}
IsNoToml (Err Error.Memory) = Unit {0}
IsNoToml _ = ⊥

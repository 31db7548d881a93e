-- The exit statuses of a node, and how it ends.
use Rattle.std.specs.Prelude.{◌≡◌, ◌≢◌, ◌⊎◌, ℕ, Bool, true, false, List, length, replicate, Option, Some, None, Result}
use Rattle.std.specs.Prelude.{Ok, Err}
use Rattle.std.specs.declared.io.Error.{Error}
use Rattle.toml.specs.Data.{Members}
use Rattle.toml.specs.Parse.{parse_document}
use Rattle.tora_core.specs.CoreRun.{CoreView, first_core_of}
use Rattle.tora_commands.specs.NodeConfig.{IsNodeConfig, IsWritten, peers_of}
use Rattle.tora_commands.specs.ConfigReading.{Fails, IsNoToml, Reads, configuration_in}
use Rattle.tora_commands.specs.ConfigEndpoints.{EndpointSaid, endpoints_in}
use Rattle.tora_commands.specs.declared.configuration.NodeConfig.{NodeConfig}
use Rattle.tora_commands.specs.declared.configuration.fault.ConfigError.{ConfigError}
use Rattle.tora_commands.specs.declared.configuration.fault.ConfigError.TheVariants.{Memory as NoRoom}
use Rattle.tora_life.specs.declared.disk.Disk as Disk
use Rattle.tora_neighbour.specs.declared.clock.Clock as Clock
use Rattle.tora_neighbour.specs.declared.wire.Wire as Wire
use Rattle.tora_node.specs.NewLinks.{IsOpened}
use Rattle.tora_node.specs.NodeRuns.{EndedView}
use Rattle.tora_node.specs.WholeRuns.{NodeAnswers}
use Rattle.tora_simulate.specs.Paths.{IsRead, IsUnread, IsFailed}
use Rattle.tora_commands.specs.declared.node_command.Fault.{Fault as NodeFault}
use Rattle.tora_commands.specs.declared.node_command.Fault.TheVariants.{Memory as NoMemory, Config as NoConfig}
use Rattle.tora_commands.specs.declared.node_command.Fault.TheVariants.{Socket as NoSocket, Life as NoLife}
use Rattle.tora_node.specs.declared.fault.NodeError.{NodeError}
use Rattle.tora_node.specs.declared.fault.NodeError.TheVariants as Node

-- the status of a node that is not started: 5 if memory ran out, 1 for the configuration, 3 for a socket, 4 for a life
-- file
abbrev pub status_of_fault : NodeFault → ℕ
status_of_fault NoMemory = 5
status_of_fault NoConfig = 1
status_of_fault NoSocket = 3
status_of_fault NoLife = 4

-- 0 if the commands ended the node; otherwise the status of its fault
abbrev pub status_of_node : {A : Type 0} → Result A NodeError → ℕ
status_of_node (Ok ended) = 0
status_of_node (Err Node.Memory) = 5
status_of_node (Err Node.Lane) = 1
status_of_node (Err (Node.Life peer error)) = 4
status_of_node (Err (Node.Wire peer)) = 3
status_of_node (Err Node.Output) = 1

-- the core that the node of a configuration begins with
abbrev pub core_of : NodeConfig → CoreView
core_of config = first_core_of config.erasure config.node (peers_of config.links.items) config.dests.items

-- ---- the configuration of a node

-- What `read_config` promises for a text that gives this configuration.
pub record IsConfigOf (text : List ℕ) (config : NodeConfig) : Type 0 where
  pub range : IsNodeConfig config
  pub written : (table : Members) × (parse_document text ≡ Some table) × IsWritten table config
  pub exact : (table : Members) → parse_document text ≡ Some table → Reads (Ok config) (configuration_in table)

-- an error other than `Memory`
abbrev pub IsFaulty : ConfigError → Type 0
IsFaulty NoRoom = ⊥
IsFaulty _ = Unit {0}

-- `read_config` returns this error for the text.
pub record IsNoConfig (text : List ℕ) (status : ℕ) : Type 0 where
  pub error : ConfigError
  pub is : IsFaulty error
  pub exact : (table : Members) → parse_document text ≡ Some table → Fails error (configuration_in table)
  pub syntax : parse_document text ≡ None → IsNoToml {X = NodeConfig} (Err error)
  pub status_is : status ≡ 1

-- `read_endpoints` returns this error for the text.
pub record HasNoEndpoints (text : List ℕ) (status : ℕ) : Type 0 where
  pub error : ConfigError
  pub is : IsFaulty error
  pub exact : (table : Members) → parse_document text ≡ Some table → Fails error (endpoints_in table)
  pub status_is : status ≡ 1

-- `read_endpoints` returns this many endpoints from the text.
pub record HasEndpoints (text : List ℕ) (count : ℕ) : Type 0 where
  pub endpoints : List EndpointSaid
  pub exact : (table : Members) → parse_document text ≡ Some table → endpoints_in table ≡ Ok endpoints
  pub count_is : length endpoints ≡ count

-- There are not as many endpoints as links.
pub record IsUneven (text : List ℕ) (config : NodeConfig) (status : ℕ) : Type 0 where
  pub count : ℕ
  pub endpoints : HasEndpoints text count
  pub uneven : count ≢ length config.links.items
  pub status_is : status ≡ 1

-- Opening the key file of a link gave an error, or the file cannot be read or has no key.
pub record HasNoKey {R : Type 0} (did_open : List ℕ → Result R Error → Type 0) (status : ℕ) : Type 0 where
  pub path : List ℕ
  pub file : Result R Error
  pub opens : did_open path file
  pub status_is : status ≡ 1

-- The text is not a configuration, or does not give the addresses of its links, or a key file has no key; or memory ran
-- out.
abbrev pub IsRefused : {R : Type 0} → (List ℕ → Result R Error → Type 0) → List ℕ → ℕ → Type 0
IsRefused did_open text status =
    IsNoConfig text status
    ⊎ (((config : NodeConfig) × IsConfigOf text config × IsUneven text config status)
    ⊎ (HasNoEndpoints text status ⊎ (HasNoKey did_open status ⊎ (status ≡ 5))))

-- Opening or reading the file at a path gave an error, or its text is refused.
abbrev pub IsUnconfigured : {R : Type 0} → (List ℕ → Result R Error → Type 0) → (R → Result (List ℕ) Error → Type 0)
    → (R → Option (List ℕ)) → List ℕ → ℕ → Type 0
IsUnconfigured did_open did_read remaining path status =
    IsFailed (IsUnread (did_open path) did_read) status
    ⊎ ((text : List ℕ) × IsRead (did_open path) did_read remaining text × IsRefused did_open text status)

-- The file at a path was opened and read to its end, and its text gives this configuration.
pub record IsConfigured {R : Type 0} (did_open : List ℕ → Result R Error → Type 0) (did_read : R → Result (List ℕ) Error
    → Type 0) (remaining : R → Option (List ℕ)) (path : List ℕ) (config : NodeConfig) : Type 0 where
  pub text : List ℕ
  pub read : IsRead (did_open path) did_read remaining text
  pub says : IsConfigOf text config

-- ---- how a node ends

-- the status of a node that is not started: 3 if a socket cannot be bound, 4 if a life file cannot be opened, 5 if
-- memory ran out
abbrev pub IsUnstarted : ℕ → Type 0
IsUnstarted status = (status ≡ 3) ⊎ ((status ≡ 4) ⊎ (status ≡ 5))

-- A node that began with this core ran over some wires and life files, and a clock that its threads share.
-- `NodeAnswers` holds for its result, with this input, this writer, and the writer that was returned.
abbrev pub RanNode : {W C D Wr : Type 0} → Wire.Ghosts W → Clock.Ghosts C → Disk.Ghosts D → (Wr → Option (List ℕ))
    → CoreView → Option (List ℕ) → Wr → Option Wr → Result EndedView NodeError → Type 0
RanNode {W = W} {C = C} {D = D} wire clock disk contents first input writer left ended =
    (shared : C) × (wires : List W) × (disks : List D)
    × NodeAnswers wire.did_send wire.did_receive clock.did_tell (IsOpened disk.syncs disk.reads disk.writes) contents
    first wires disks (replicate (length disks) shared) shared input writer left ended

-- A node ran, and the status is that of its result.
pub record RanAndEnded (answers : Result EndedView NodeError → Type 0) (status : ℕ) : Type 0 where
  pub ended : Result EndedView NodeError
  pub answer : answers ended
  pub status_is : status ≡ status_of_node ended

-- How a node ends whose configuration is at a path: without a configuration; with 0 if the configuration is only
-- checked; before it is started; or with the result of `run_node`. Nothing is written unless the node ran.
abbrev pub EndsNode : {R W : Type 0} → Bool → (List ℕ → Result R Error → Type 0) → (R → Result (List ℕ) Error → Type 0)
    → (R → Option (List ℕ)) → List ℕ → (NodeConfig → Result EndedView NodeError → Type 0) → W → W → ℕ → Type 0
EndsNode is_check did_open did_read remaining path answers old new status =
    (IsUnconfigured did_open did_read remaining path status × (new ≡ old))
    ⊎ ((config : NodeConfig) × IsConfigured did_open did_read remaining path config
    × (((is_check ≡ true) × (status ≡ 0) × (new ≡ old))
    ⊎ ((is_check ≡ false) × ((IsUnstarted status × (new ≡ old)) ⊎ RanAndEnded (answers config) status))))

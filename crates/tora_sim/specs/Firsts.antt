-- Nodes and link ends at the start.
use Rattle.std.specs.Prelude.{◌≡◌, ℕ, suc, ◌+◌, ◌≤◌, false, List, [], ◌∷◌, ◌++◌, map, replicate, length, slice_get}
use Rattle.std.specs.Prelude.{Some}
use Rattle.std.specs.List.{flat_map}
use Rattle.tora_arq.specs.declared.times.Times.{Times}
use Rattle.tora_frame.specs.declared.parts.Version.{Version}
use Rattle.tora_arq.specs.Settings.{settings_of}
use Rattle.tora_arq.specs.LinkEnd.{first_end}
use Rattle.tora_life.specs.State.{fresh_state}
use Rattle.tora_life.specs.LifeRun.{opened}
use Rattle.tora_seat.specs.Rows.{first_seat}
use Rattle.tora_world.specs.Topology.{Topology, version_at, neighbours_of, new_core}
use Rattle.tora_world.specs.World.{owner_of}
use Rattle.tora_seat.specs.Offers.{place_of}
use Rattle.tora_sim.specs.declared.nodes.Sending.TheVariants.{Goes}
use Rattle.tora_sim.specs.Links.{LinkView, key_of}
use Rattle.tora_sim.specs.Nodes.{NodeView}
use Rattle.tora_sim.specs.Store.{EachOf}
use Rattle.tora_sim.specs.Readers.{ends_at}

-- the end of node n towards k at the start, with this version, these times and this index of k among the neighbours of
-- n
pub record IsFirstEnd (version : Version) (times : Times) (n k place : ℕ) (link : LinkView) : Type 0 where
  pub node : link.node ≡ n
  pub peer : link.peer ≡ k
  pub seat : link.seat ≡ place
  pub settings : link.settings ≡ settings_of version n k times
  pub state : link.state ≡ first_end
  pub file : link.file ≡ opened (owner_of n k) (fresh_state [])
  pub put : link.put ≡ []
  pub pulled : link.pulled ≡ 0
  pub steps : link.steps ≡ []

abbrev pub IsFirstLink : Topology → Times → LinkView → Type 0
IsFirstLink t times link =
    IsFirstEnd (version_at t link.node) times link.node link.peer (place_of link.peer (neighbours_of t link.node)) link

pub record IsFirstNode (t : Topology) (node : NodeView) : Type 0 where
  pub count : node.count ≡ length (neighbours_of t node.node)
  pub seat : node.seat ≡ first_seat (new_core t node.node)
  pub inputs : node.inputs ≡ []
  pub items : node.items ≡ []
  pub counts : node.counts ≡ replicate (suc node.count) 0
  pub sending : node.sending ≡ Goes
  pub receive : node.receive ≡ false

-- the keys of a node's link ends are adjacent, from `node.first` on, in the order of its neighbours
pub record HasEnds (t : Topology) (keys : List (ℕ × ℕ)) (node : NodeView) : Type 0 where
  pub within : node.first + length (neighbours_of t node.node) ≤ length keys
  pub at : (place k : ℕ) → slice_get (neighbours_of t node.node) place ≡ Some k
      → slice_get keys (node.first + place) ≡ Some (node.node, k)

-- the ends of one more node were added
pub record AreAdded (t : Topology) (times : Times) (n : ℕ) (links new : List LinkView) : Type 0 where
  pub keys : map key_of new ≡ map key_of links ++ ends_at t n
  pub each : EachOf (IsFirstLink t times) links → EachOf (IsFirstLink t times) new

-- the stored nodes are these, and the stored link ends are theirs
pub record AreMade (t : Topology) (times : Times) (ns : List ℕ) (nodes : List NodeView) (links : List LinkView) : Type 0
  where
    pub names : map (λ node. node.node) nodes ≡ ns
    pub keys : map key_of links ≡ flat_map (ends_at t) ns
    pub each_node : EachOf (IsFirstNode t) nodes
    pub each_link : EachOf (IsFirstLink t times) links
    pub ends : EachOf (HasEnds t (map key_of links)) nodes

-- the stored nodes are one more, with its link ends
abbrev pub IsMade : Topology → Times → ℕ → List NodeView → List LinkView → List NodeView → List LinkView → Type 0
IsMade t times n nodes links more_nodes more_links =
    (ns : List ℕ) → AreMade t times ns nodes links → AreMade t times (ns ++ n ∷ []) more_nodes more_links

-- Reading one node, and one link end with its lists.
use Rattle.std.proofs.Common.{◌≡◌, sym, ap, ◌∙◌, ℕ, true, false, get_or, if◌then◌else◌, Some, None, is_some}
use Rattle.std.proofs.lemmas.Option.{slice_get-get_or}
use Rattle.tora_arq.specs.declared.life.Life.{Life}
use Rattle.tora_core.specs.CoreRun.{height_of, entry_of, hop_of, flag_of}
use Rattle.tora_world.specs.Topology.{is_node}
use Rattle.tora_world.specs.World.{sent_packets, taken_packets}
use Rattle.tora_world.specs.Lists.{packets_of, parcels_in}
use Rattle.tora_sim.specs.Keyed.{IsFirst}
use Rattle.tora_sim.specs.Nodes.{NodeView, is_of}
use Rattle.tora_sim.specs.Links.{LinkView, is_at}
use Rattle.tora_sim.specs.Store.{SimState, IsStore, node_at, link_at, seat_in, put_in, steps_in, world_of}
use Rattle.tora_world.specs.Walks.{height_at, hop_at, entry_at}
use Rattle.tora_sim.specs.Readers.{flag_at}
use Rattle.tora_sim.proofs.Keys.{found}

-- ---- one node

module _ (s : SimState) (h : IsStore s) (n i : ℕ) (x : NodeView) (first : IsFirst (is_of n) s.nodes i) (is : x ≡ get_or s.nodes i x) where
  node_found : node_at s.nodes n ≡ Some x
  node_found = found (is_of n) s.nodes i x first (slice_get-get_or s.nodes i x first.within ∙ ap Some (sym is))

  named : is_node s.topology n ≡ true
  named = h.nodes n ∙ ap is_some node_found

  pub height_found : (d : ℕ) → height_of x.seat.core d ≡ height_at (world_of s) n d
  height_found d =
      sym (ap (λ b. if b then height_of (seat_in s.topology n (node_at s.nodes n)).core d else None) named ∙ ap (λ o. height_of (seat_in s.topology n o).core d) node_found)

  pub entry_found : (d k : ℕ) → entry_of x.seat.core d k ≡ entry_at (world_of s) n k d
  entry_found d k =
      sym (ap (λ b. if b then entry_of (seat_in s.topology n (node_at s.nodes n)).core d k else None) named ∙ ap (λ o. entry_of (seat_in s.topology n o).core d k) node_found)

  pub hop_found : (d : ℕ) → hop_of x.seat.core d ≡ hop_at (world_of s) n d
  hop_found d =
      sym (ap (λ b. if b then hop_of (seat_in s.topology n (node_at s.nodes n)).core d else None) named ∙ ap (λ o. hop_of (seat_in s.topology n o).core d) node_found)

  pub flag_found : (d : ℕ) → flag_of x.seat.core d ≡ flag_at (world_of s) n d
  flag_found d =
      sym (ap (λ b. if b then flag_of (seat_in s.topology n (node_at s.nodes n)).core d else false) named ∙ ap (λ o. flag_of (seat_in s.topology n o).core d) node_found)

-- ---- one link end

module _ (s : SimState) (a b i : ℕ) (x : LinkView) (first : IsFirst (is_at a b) s.links i) (is : x ≡ get_or s.links i x) where
  link_found : link_at s.links a b ≡ Some x
  link_found = found (is_at a b) s.links i x first (slice_get-get_or s.links i x first.within ∙ ap Some (sym is))

  pub sent_found : (life : Life) → packets_of life (parcels_in x.put) ≡ sent_packets (world_of s) a b life
  sent_found life = sym (ap (λ o. packets_of life (parcels_in (put_in o))) link_found)

  pub taken_found : (life : Life) → packets_of life x.steps ≡ taken_packets (world_of s) a b life
  taken_found life = sym (ap (λ o. packets_of life (steps_in o)) link_found)

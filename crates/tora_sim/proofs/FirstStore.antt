-- The stored data at the start has the invariant, and represents the first world.
use Rattle.std.proofs.Common.{◌≡◌, refl, sym, ap, ap₂, ◌∙◌, subst, ℕ, zero, suc, ◌+◌, ◌==◌, ◌&&◌, Bool, true, false, List, [], ◌∷◌, map, drop, length, replicate, slice_get, slice_index, Option, Some, None, is_some, arith, if◌then◌else◌, eqb-true}
use Rattle.tora_core.proofs.AfterInputs.{has-ascending}
use Rattle.std.specs.Prelude.{option_map}
use Rattle.std.proofs.lemmas.Bool.{and_parts}
use Rattle.std.proofs.lemmas.List.{length-map, length-replicate}
use Rattle.std.proofs.lemmas.Option.{slice_get-map}
use mathlib.Core.Path.{fun_ext}
use Rattle.tora_arq.specs.declared.times.Times.{Times}
use Rattle.tora_arq.specs.LinkEnd.{first_end}
use Rattle.tora_life.specs.State.{fresh_state}
use Rattle.tora_life.specs.LifeRun.{opened}
use Rattle.tora_core.specs.declared.erasure.Erasure.{Erasure}
use Rattle.tora_core.specs.CoreRun.{CoreView}
use Rattle.tora_core.specs.View.{first_view_of}
use Rattle.tora_core.specs.Kept.{destinations_of}
use Rattle.tora_core.specs.Numbers.{has_number, ascending, IsAscending}
use Rattle.tora_seat.specs.Serving.{SeatState}
use Rattle.tora_seat.specs.Rows as Rows
use Rattle.tora_seat.specs.Rows.{new_row, current_of, pending_of}
use Rattle.tora_world.specs.Topology.{Topology, erasure_at, nodes_in, neighbours_of, other_ends, is_node, is_link, new_core}
use Rattle.tora_world.specs.World.{first_world, first_seat, owner_of}
use Rattle.tora_world.specs.World.Sending.{Goes}
use Rattle.tora_sim.specs.Topologies.{IsTopology}
use Rattle.tora_sim.specs.Links.{LinkView, is_at, key_of}
use Rattle.tora_sim.specs.Nodes.{NodeView, is_of, sending_of}
use Rattle.tora_sim.specs.Store.{SimState, IsStore, IsNodeOf, IsLinkOf, AreEndsOf, state_of, world_of, node_at, link_at, seat_in, items_in, inputs_in, counts_in, arms_in, end_in, file_in, lane_in, put_in, steps_in}
use Rattle.tora_sim.specs.Firsts.{IsFirstLink, IsFirstNode, AreMade}
use Rattle.tora_sim.proofs.Peers.{PutInOrder, StaysInOrder, neighbours-ascend, nodes-ascend, stay-ascending}
use Rattle.tora_sim.proofs.KeyLists.{has_key, AreOrdered, found-name, found-key, found-there, key-in, of-node, key-there, other-way, ends-ordered, links-rise, nodes-rise}

-- ---- a seat at its start

no-life : (k : ℕ) (ks : List ℕ) → current_of (map new_row ks) k ≡ None
no-life k [] = refl
no-life k (j ∷ ks) = go (k == j) (no-life k ks)
  where
    go : (b : Bool) → current_of (map new_row ks) k ≡ None → (if b then None else current_of (map new_row ks) k) ≡ None
    go true e = refl
    go false e = e

no-cut : (k : ℕ) (ks : List ℕ) → pending_of (map new_row ks) k ≡ None
no-cut k [] = refl
no-cut k (j ∷ ks) = go (k == j) (no-cut k ks)
  where
    go : (b : Bool) → pending_of (map new_row ks) k ≡ None → (if b then None else pending_of (map new_row ks) k) ≡ None
    go true e = refl
    go false e = e

abbrev seat_of : CoreView → SeatState
seat_of core = record { core = core; current = λ k. None; pending = λ k. None }

first-state : (core : CoreView) → Rows.state_of (Rows.first_seat core) ≡ seat_of core
first-state core =
    let lives = fun_ext (λ (k : ℕ). no-life k core.neighbours) in
    let cuts = fun_ext (λ (k : ℕ). no-cut k core.neighbours) in
    λ i. record { core = core; current = lives i; pending = cuts i }

same-destinations : (choice : Erasure) (me : ℕ) (ds : List ℕ) → destinations_of (map (first_view_of choice me) ds) ≡ ds
same-destinations choice me [] = refl
same-destinations choice me (d ∷ ds) = ap (λ (xs : List ℕ). d ∷ xs) (same-destinations choice me ds)

zeros : (n i : ℕ) → slice_index (replicate n 0) i ≡ 0
zeros zero i = refl
zeros (suc n) zero = refl
zeros (suc n) (suc i) = zeros n i

module _ (order : PutInOrder) (stays : StaysInOrder) (t : Topology) (times : Times) (h : IsTopology t) (nodes : List NodeView) (links : List LinkView) (m : AreMade t times (nodes_in t.links) nodes links) where
  abbrev start : SimState
  start = state_of t times 0 nodes links []

  -- ---- the invariant

  node-is : (n : ℕ) → is_node t n ≡ is_some (node_at nodes n)
  node-is n = sym (found-name n nodes ∙ ap (has_number n) m.names)

  key-is : (n k : ℕ) → has_key n k (map key_of links) ≡ (has_number n (nodes_in t.links) && is_link t n k)
  key-is n k = ap (has_key n k) m.keys ∙ key-in t n k (nodes_in t.links)

  link-is : (n k : ℕ) → is_link t n k ≡ is_some (link_at links n k)
  link-is n k = sym (found-key n k links ∙ key-is n k ∙ of-node t n k)

  node-kept : (x : NodeView) → IsFirstNode t x → IsNodeOf t x
  node-kept x f = record {
    count = f.count;
    seats = ap length f.counts ∙ length-replicate (suc x.count) 0;
    me = ap (λ (s : Rows.SeatView). s.core.me) f.seat;
    erasure = ap (λ (s : Rows.SeatView). s.core.erasure) f.seat;
    neighbours = ap (λ (s : Rows.SeatView). s.core.neighbours) f.seat ∙ stay-ascending (neighbours_of t x.node) (neighbours-ascend order t h x.node);
    destinations = ap (λ (s : Rows.SeatView). destinations_of s.core.views) f.seat ∙ same-destinations (erasure_at t x.node) x.node (ascending t.destinations);
  }

  link-kept : (i : ℕ) (x : LinkView) → slice_get links i ≡ Some x → IsLinkOf t times x
  link-kept i x e =
      let f = m.each_link i x e in
      let both = and_parts (has_number x.node (nodes_in t.links)) (is_link t x.node x.peer) (sym (key-is x.node x.peer) ∙ key-there links i x e) in
      record {
        settings = f.settings;
        seat = f.seat;
        home = both.0;
        back = has-ascending x.node (other_ends x.peer t.links) ∙ other-way x.peer x.node t.links ∙ sym (has-ascending x.peer (other_ends x.node t.links)) ∙ both.1;
        pulled = (let p = f.pulled in omega arith);
      }

  ends-kept : (i : ℕ) (x : NodeView) → slice_get nodes i ≡ Some x → AreEndsOf t links x
  ends-kept i x e =
      let f = m.each_node i x e in
      let ends = m.ends i x e in
      record {
        within = (let w = ends.within in let s : length (map key_of links) ≡ length links = length-map links key_of in let c = f.count in omega arith);
        at = λ place k link there read.
            let named : slice_get (map key_of links) (x.first + place) ≡ Some (key_of link) = slice_get-map key_of links (x.first + place) ∙ ap (option_map key_of) read in
            let expected : slice_get (map key_of links) (x.first + place) ≡ Some (x.node, k) = ends.at place k there in
            let pair : Some (link.node, link.peer) ≡ Some (x.node, k) = sym named ∙ expected in
            let same : (link.node, link.peer) ≡ (x.node, k) = cc in
            (ap (λ (p : ℕ × ℕ). p.0) same, ap (λ (p : ℕ × ℕ). p.1) same);
      }

  pub is-store : IsStore start
  is-store = record {
    nodes = node-is;
    links = link-is;
    keys = m.keys;
    rising_nodes = nodes-rise nodes (subst (λ (ns : List ℕ). IsAscending ns) (sym m.names) (nodes-ascend stays t.links));
    rising_links = links-rise links (subst (λ (keys : List (ℕ × ℕ)). AreOrdered keys) (sym m.keys) (ends-ordered t (neighbours-ascend order t h) (nodes_in t.links) (nodes-ascend stays t.links)));
    each_node = λ i x e. node-kept x (m.each_node i x e);
    each_link = link-kept;
    each_ends = ends-kept;
    each_datagram = λ i x e. absurd (let z : None ≡ Some x = e in cc);
  }

  -- ---- the first world

  node-read : {A : Type 0} → (f : Option NodeView → A) (a : A) → f None ≡ a → ((x : NodeView) → IsFirstNode t x → f (Some x) ≡ a) → (n : ℕ) → f (node_at nodes n) ≡ a
  node-read {A} f a none some n = go (node_at nodes n) refl
    where
      go : (o : Option NodeView) → node_at nodes n ≡ o → f o ≡ a
      go None e = none
      go (Some x) e = let w = found-there (is_of n) nodes x e in some x (m.each_node w.1.0 x w.1.1)

  link-read : {A : Type 0} → (f : Option LinkView → A) (a : A) → f None ≡ a → ((x : LinkView) → IsFirstLink t times x → f (Some x) ≡ a) → (n k : ℕ) → f (link_at links n k) ≡ a
  link-read {A} f a none some n k = go (link_at links n k) refl
    where
      go : (o : Option LinkView) → link_at links n k ≡ o → f o ≡ a
      go None e = none
      go (Some x) e = let w = found-there (is_at n k) links x e in some x (m.each_link w.1.0 x w.1.1)

  file-read : (n k : ℕ) → file_in n k (link_at links n k) ≡ opened (owner_of n k) (fresh_state [])
  file-read n k = go (link_at links n k) refl
    where
      go : (o : Option LinkView) → link_at links n k ≡ o → file_in n k o ≡ opened (owner_of n k) (fresh_state [])
      go None e = refl
      go (Some x) e =
          let w = found-there (is_at n k) links x e in
          let q = and_parts _ _ w.0 in
          (m.each_link w.1.0 x w.1.1).file ∙ ap₂ (λ a b. opened (owner_of a b) (fresh_state [])) (eqb-true x.node n q.0) (eqb-true x.peer k q.1)

  seat-read : (n : ℕ) → seat_in t n (node_at nodes n) ≡ first_seat t n
  seat-read n = go (node_at nodes n) refl
    where
      go : (o : Option NodeView) → node_at nodes n ≡ o → seat_in t n o ≡ first_seat t n
      go None e = refl
      go (Some x) e =
          let w = found-there (is_of n) nodes x e in
          let f = m.each_node w.1.0 x w.1.1 in
          ap Rows.state_of f.seat ∙ first-state (new_core t x.node) ∙ ap (first_seat t) (eqb-true x.node n w.0)

  pub is-first : world_of start ≡ first_world t times
  is-first =
      let s = fun_ext seat-read in
      let e = fun_ext (λ (n : ℕ). fun_ext (link-read end_in first_end refl (λ x f. f.state) n)) in
      let d = fun_ext (λ (n : ℕ). fun_ext (file-read n)) in
      let w = fun_ext (node-read items_in [] refl (λ x f. f.items)) in
      let c = fun_ext (node-read counts_in (λ seat. 0) refl (λ x f. fun_ext (λ (seat : ℕ). ap (λ (cs : List ℕ). slice_index cs seat) f.counts ∙ zeros (suc x.count) seat))) in
      let l = fun_ext (λ (n : ℕ). fun_ext (link-read lane_in [] refl (λ x f. ap₂ (λ p xs. drop p xs) f.pulled f.put) n)) in
      let a = fun_ext (node-read arms_in (record { sending = Goes; receive = false }) refl (λ x f. ap₂ (λ p q. record { sending = sending_of p; receive = q }) f.sending f.receive)) in
      let p = fun_ext (λ (n : ℕ). fun_ext (link-read put_in [] refl (λ x f. f.put) n)) in
      let q = fun_ext (node-read inputs_in [] refl (λ x f. f.inputs)) in
      let r = fun_ext (λ (n : ℕ). fun_ext (link-read steps_in [] refl (λ x f. f.steps) n)) in
      λ i. record {
        topology = t;
        times = times;
        clock = 0;
        seats = s i;
        ends = e i;
        files = d i;
        items = w i;
        counts = c i;
        cargoes = l i;
        arms = a i;
        datagrams = [];
        put = p i;
        inputs = q i;
        steps = r i;
      }

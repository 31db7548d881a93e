-- In a world at rest each entry that is not NULL is the height of its neighbour, or the neighbour has no height.
use Rattle.std.proofs.Common.{◌≡◌, ◌≢◌, ℕ, Bool, true, false, true≢false, ◌⊎◌, inl, inr, ⊎_elim, List, [], ◌∷◌, map, Option, None, Some, nat_eq, if◌then◌else◌, refl, sym, ap, ◌∙◌, subst, eqb-true, eq-eqb}
use Rattle.std.proofs.lemmas.Bool.{cases_Bool}
use Rattle.std.specs.Prelude.{find, option_map, option_and_then, is_some}
use Rattle.std.specs.List.{AllByRecursion}
use Rattle.tora_height.specs.Height.{Quintuple, destination_height}
use Rattle.tora_packet.specs.PacketParts.{IsId}
use Rattle.tora_arq.specs.declared.life.Life.{Life}
use Rattle.tora_arq.specs.declared.times.Times.{Times}
use Rattle.tora_arq.specs.declared.phase.Phase.{Phase}
use Rattle.tora_arq.specs.declared.phase.Phase.TheVariants.{Closed, Unbound, Bound}
use Rattle.tora_arq.specs.LinkEnd.{life_in}
use Rattle.tora_core.specs.declared.erasure.Erasure.{Erasure}
use Rattle.tora_core.specs.declared.erasure.Erasure.TheVariants.{Remembered}
use Rattle.tora_core.specs.declared.Input.{Input}
use Rattle.tora_core.specs.Rules.{outcome_of}
use Rattle.tora_core.specs.declared.rows.Row.{Row}
use Rattle.tora_core.specs.Numbers.{has_number, ascending, IsAscending}
use Rattle.tora_core.specs.View.{View, first_view_of}
use Rattle.tora_core.specs.CoreRun.{CoreView, core_after_all, view_of, height_of, entry_in, entry_of}
use Rattle.tora_core.specs.Kept.{IsRow, destinations_of}
use Rattle.tora_world.specs.Topology.{Topology, neighbours_of, is_node, is_link, erasure_at, new_core, IsWithinLimits}
use Rattle.tora_world.specs.Lists.{packets_of, parcels_in}
use Rattle.tora_arq.specs.Lives.{reversed}
use Rattle.tora_world.specs.World.{World, first_world}
use Rattle.tora_world.specs.FreeWorld.{Schedule, after_schedule}
use Rattle.tora_world.specs.Gaps.{broadcast_packets}
use Rattle.tora_world.specs.Layers.{LinkLaws, LifeLaws, CoreLaws, SeatLaws, RuleLaws}
use Rattle.tora_world.specs.Walks.{height_at, entry_at, AreIds}
use Rattle.tora_world.specs.Rest.{life_at, IsAtRest, IsInOneLife, LacksHeight, EntriesAreHeights}
use Rattle.tora_world.specs.Losses.{LosesQuietly, RememberedAreLostInSilence, WasLost, StaleAreLost}
use Rattle.tora_world.specs.Losses.LosesQuietly.{clears_another_level, loses_last_entry, finds_no_height}
use Rattle.tora_world.proofs.NeighboursApart.{neighbours_apart}
use Rattle.tora_world.proofs.RunsWithoutGap.{without_gap}
use Rattle.tora_world.proofs.KeptCores.{IsKeeping, topology_kept, cores_kept}
use Rattle.tora_world.proofs.SoundCores.{node_id, keeping}
use Rattle.tora_world.proofs.Entries.{IsCoreOf, core_of_run, view_in, row_number}
use Rattle.tora_world.proofs.ReceivedInRuns.{NodesEnd, nodes_end}
use Rattle.tora_world.proofs.SentAtRest.{taken_is_sent}
use Rattle.tora_world.proofs.TurnedLinks.{turned_link, node_of_link}
use Rattle.tora_world.proofs.Received.{received_from}
use Rattle.tora_world.proofs.ToldHeights.{heard, IsHeard, heights_told, destinations_after, tables_alike}
use Rattle.tora_world.proofs.HeardEntries.{entries_heard}

-- at another node, the row of the destination has the destination's height
row_of_destination : (me d : ℕ) (rows : List Row) (x : Quintuple) → AllByRecursion (IsRow me d) rows → option_map (λ (row : Row). row.entry) (find (λ (row : Row). nat_eq row.neighbour d) rows) ≡ Some (Some x) → me ≢ d → x ≡ destination_height d
row_of_destination me d [] x all e away = absurd cc
row_of_destination me d (row ∷ rows) x all e away = go (nat_eq row.neighbour d) refl e (λ f. row_of_destination me d rows x all.1 f away)
  where
    go : (b : Bool) → nat_eq row.neighbour d ≡ b → option_map (λ (r : Row). r.entry) (if b then Some row else find (λ (r : Row). nat_eq r.neighbour d) rows) ≡ Some (Some x) →
        (option_map (λ (r : Row). r.entry) (find (λ (r : Row). nat_eq r.neighbour d) rows) ≡ Some (Some x) → x ≡ destination_height d) → x ≡ destination_height d
    go true t f again = let q : Some (destination_height d) ≡ Some x = sym (all.0.zero away (eqb-true row.neighbour d t)) ∙ (let z : row.entry ≡ Some x = cc in z) in let y : destination_height d ≡ x = cc in sym y
    go false t f again = again f

-- at the destination, every row is NULL
row_at_destination : (me d k : ℕ) (rows : List Row) (x : Quintuple) → AllByRecursion (IsRow me d) rows → option_map (λ (row : Row). row.entry) (find (λ (row : Row). nat_eq row.neighbour k) rows) ≡ Some (Some x) → me ≡ d → ⊥
row_at_destination me d k [] x all e here = absurd cc
row_at_destination me d k (row ∷ rows) x all e here = go (nat_eq row.neighbour k) e (λ f. row_at_destination me d k rows x all.1 f here)
  where
    go : (b : Bool) → option_map (λ (r : Row). r.entry) (if b then Some row else find (λ (r : Row). nat_eq r.neighbour k) rows) ≡ Some (Some x) →
        (option_map (λ (r : Row). r.entry) (find (λ (r : Row). nat_eq r.neighbour k) rows) ≡ Some (Some x) → ⊥) → ⊥
    go true f again = absurd (let q : None ≡ Some x = sym (all.0.at_destination here) ∙ (let z : row.entry ≡ Some x = cc in z) in cc)
    go false f again = again f

-- a new core has a view of each destination
first_destinations : (choice : Erasure) (me : ℕ) (ds : List ℕ) → destinations_of (map (first_view_of choice me) ds) ≡ ds
first_destinations choice me [] = refl
first_destinations choice me (d ∷ ds) = ap (λ xs. d ∷ xs) (first_destinations choice me ds)

-- if a neighbour that remembers erased levels does not learn of a loss, nothing was broadcast
lost_in_silence : (v : View) (input : Input) (now : ℕ) (g : Quintuple) → LosesQuietly Remembered v input now g → (outcome_of v input now).broadcast ≡ None
lost_in_silence v input now g (clears_another_level tau oid said outlasts) = absurd cc
lost_in_silence v input now g (loses_last_entry silent null none) = silent
lost_in_silence v input now g (finds_no_height silent null some) = silent

-- a node that has an entry, with its view
pub record HasEntry (w : World) (n k d : ℕ) (x : Quintuple) : Type 0 where
  pub node : is_node w.topology n ≡ true
  pub view : View
  pub found : view_of (w.seats n).core d ≡ Some view
  pub entry : entry_in k view ≡ Some (Some x)

pub has_entry : (w : World) (n k d : ℕ) (x : Quintuple) → entry_at w n k d ≡ Some (Some x) → HasEntry w n k d x
has_entry w n k d x e = go (is_node w.topology n) (view_of (w.seats n).core d) refl refl e
  where
    go : (b : Bool) (o : Option View) → is_node w.topology n ≡ b → view_of (w.seats n).core d ≡ o → (if b then option_and_then (entry_in k) o else None) ≡ Some (Some x) → HasEntry w n k d x
    go true None is found f = absurd cc
    go true (Some v) is found f = record { node = is; view = v; found = found; entry = f }
    go false o is found f = absurd cc

module _ (laws : LinkLaws) (lows : LifeLaws) (cores : CoreLaws) (seats : SeatLaws) (rules : RuleLaws) (t : Topology) (times : Times) (es : Schedule) (accepted : IsWithinLimits t) (ids : AreIds t) where
  abbrev last : World
  last = after_schedule es (first_world t times)

  keeps : IsKeeping t
  keeps = keeping cores rules t accepted ids

  same : last.topology ≡ t
  same = topology_kept laws lows t keeps times es

  end : NodesEnd t last
  end = nodes_end laws lows cores seats t times es

  core_of : (n : ℕ) → is_node last.topology n ≡ true → IsCoreOf t n (last.seats n).core
  core_of n there = core_of_run cores t keeps n (node_id t ids n (ap (λ (u : Topology). is_node u n) (sym same) ∙ there)) (last.seats n).core (cores_kept laws lows t keeps times es n (node_id t ids n (ap (λ (u : Topology). is_node u n) (sym same) ∙ there)))

  -- the views of a new core are in ascending order
  first_ascends : (n : ℕ) → IsId n → IsAscending (destinations_of (new_core t n).views)
  first_ascends n id = (keeps.laws n id [] tt).ascending_destinations

  -- every table has the same destinations
  destinations_in : (n : ℕ) → destinations_of (last.seats n).core.views ≡ ascending t.destinations
  destinations_in n =
      ap (λ (c : CoreView). destinations_of c.views) (end.received.follows n) ∙ destinations_after (new_core t n) (last.inputs n) ∙ first_destinations (erasure_at t n) n (ascending t.destinations)

  -- facts about a link that is up at a core
  record IsUp (n k : ℕ) : Type 0 where
    link : is_link last.topology n k ≡ true
    life : Life
    current : (last.seats n).current k ≡ Some life

  up_link : (n k : ℕ) (there : is_node last.topology n ≡ true) → has_number k (last.seats n).core.up ≡ true → IsUp n k
  up_link n k there up = go ((last.seats n).current k) refl
    where
      near : has_number k (neighbours_of last.topology n) ≡ true
      near = ap (λ (u : Topology). has_number k (neighbours_of u n)) same ∙ sym ((core_of n there).near k) ∙ rules.up (last.seats n).core k (core_of n there).kept up

      go : (o : Option Life) → (last.seats n).current k ≡ o → IsUp n k
      go None e = absurd ((end.nodes.seats n).settled k (record { neighbour = near; up = up; none = e }))
      go (Some l) e = record { link = near; life = l; current = e }

  -- both ends of a link that is up in a world at rest
  record AreUp (n k : ℕ) (life : Life) : Type 0 where
    node : is_node last.topology k ≡ true
    link : is_link t k n ≡ true
    other : (last.seats k).current n ≡ Some (reversed life)
    taken : packets_of life (last.steps n k) ≡ packets_of (reversed life) (parcels_in (last.put k n))

  -- the session of a link is the current one at its core
  life_is : (n k : ℕ) → is_link last.topology n k ≡ true → life_at last n k ≡ (last.seats n).current k
  life_is n k there = ap (λ (b : Bool). if b then (last.seats n).current k else None) there

  bound_is : (l : Life) (ph : Phase) → life_in ph ≡ Some l → ph ≡ Bound l
  bound_is l Closed e = absurd cc
  bound_is l (Unbound own) e = absurd cc
  bound_is l (Bound j) e = let q : j ≡ l = cc in ap Bound q

  both_up : IsAtRest last → (n k : ℕ) → is_node last.topology n ≡ true → (u : IsUp n k) → AreUp n k u.life
  both_up rest n k there u =
      let back : is_link last.topology k n ≡ true = turned_link cores last.topology n k u.link in
      let here : IsInOneLife last n k = rest.lives n k u.link in
      let away : IsInOneLife last k n = rest.lives k n back in
      let on : life_at last n k ≡ Some u.life = life_is n k u.link ∙ u.current in
      let other : life_at last k n ≡ Some (reversed u.life) = away.same ∙ ap (option_map reversed) on in
      record {
        node = node_of_link cores last.topology k n back;
        link = ap (λ (v : Topology). is_link v k n) (sym same) ∙ back;
        other = sym (life_is k n back) ∙ other;
        taken = taken_is_sent laws lows t times es n k u.life (rest.items n there) (rest.idle n k u.link) (rest.idle k n back)
            (bound_is u.life (last.ends n k).phase (here.bound u.life on)) (bound_is (reversed u.life) (last.ends k n).phase (away.bound (reversed u.life) other)) u.current;
      }

  -- the packets that n has accepted from k since the link came up are those that k has broadcast since then
  all_received : IsAtRest last → (n k : ℕ) → is_node last.topology n ≡ true → IsUp n k → received_from k (new_core t n) (last.inputs n) [] ≡ broadcast_packets t last k n
  all_received rest n k there u =
      let b = both_up rest n k there u in
      let gap = without_gap cores seats t k n (neighbours_apart cores t k accepted) b.link laws lows times es in
      sym (end.received.same n k u.life u.current) ∙ b.taken ∙ gap.now (reversed u.life) b.other

  -- the height of k is the one that k broadcast last, or k has none
  told_of : IsAtRest last → (n k d : ℕ) → is_node last.topology n ≡ true → (u : IsUp n k) → (v : View) → view_of (last.seats k).core d ≡ Some v → IsHeard (erasure_at t n) (WasLost (erasure_at t n) (new_core t k) (last.inputs k) d) (heard (erasure_at t n) d None (broadcast_packets t last k n)) v.height
  told_of rest n k d there u v found =
      let b = both_up rest n k there u in
      let c : IsCoreOf t k (last.seats k).core = core_of k b.node in
      let id : IsId k = node_id t ids k (ap (λ (w : Topology). is_node w k) (sym same) ∙ b.node) in
      let follows : (last.seats k).core ≡ core_after_all (new_core t k) (last.inputs k) = end.received.follows k in
      let up : has_number n (core_after_all (new_core t k) (last.inputs k)).up ≡ true =
      ap (λ (x : CoreView). has_number n x.up) (sym follows) ∙ (end.nodes.seats k).up n (reversed u.life) (turned_link cores last.topology n k u.link) b.other in
      heights_told (erasure_at t n) cores (new_core t k) d n (last.inputs k) (first_ascends k id) refl up v (ap (λ (x : CoreView). view_of x d) (sym follows) ∙ found)

  -- the height of a node is the one in its view of the destination
  height_of_view : (k d : ℕ) (v : View) → is_node last.topology k ≡ true → view_of (last.seats k).core d ≡ Some v → height_at last k d ≡ Some v.height
  height_of_view k d v there found = ap (λ (b : Bool). if b then height_of (last.seats k).core d else None) there ∙ ap (option_map (λ (x : View). x.height)) found

  -- the neighbour has no height, and lost it in this way
  abbrev Gone : ℕ → ℕ → ℕ → Quintuple → Type 0
  Gone n k d x = LacksHeight last k d × WasLost (erasure_at t n) (new_core t k) (last.inputs k) d x

  entry_is : IsAtRest last → (n k d : ℕ) (x : Quintuple) → entry_at last n k d ≡ Some (Some x) → (height_at last k d ≡ Some (Some x)) ⊎ Gone n k d x
  entry_is rest n k d x e = by (cases_Bool (nat_eq k d))
    where
      h : HasEntry last n k d x
      h = has_entry last n k d x e

      c : IsCoreOf t n (last.seats n).core
      c = core_of n h.node

      u : IsUp n k
      u = up_link n k h.node (ap (has_number k) (sym (view_in (last.seats n).core d h.view c.kept h.found).view.neighbours) ∙ row_number k h.view.rows (Some x) h.entry)

      away : n ≢ d
      away q =
          let vi = view_in (last.seats n).core d h.view c.kept h.found in
          row_at_destination h.view.me h.view.destination k h.view.rows x vi.view.kept.rows h.entry (vi.view.owner ∙ c.me ∙ q ∙ sym vi.destination)

      b : AreUp n k u.life
      b = both_up rest n k h.node u

      -- the table of k has the destination as well
      other_view : (o : Option View) → view_of (last.seats k).core d ≡ o → (v : View) × (view_of (last.seats k).core d ≡ Some v)
      other_view (Some v) q = (v, q)
      other_view None q =
          let alike : is_some (view_of (last.seats n).core d) ≡ is_some (view_of (last.seats k).core d) =
          tables_alike d (last.seats n).core (last.seats k).core (destinations_in n ∙ sym (destinations_in k)) in
          absurd (true≢false (sym (ap is_some h.found) ∙ alike ∙ ap is_some q))

      its : (v : View) × (view_of (last.seats k).core d ≡ Some v)
      its = other_view (view_of (last.seats k).core d) refl

      as_height : (o : Option Quintuple) → its.0.height ≡ o → height_at last k d ≡ Some o
      as_height o q = height_of_view k d its.0 b.node its.1 ∙ ap Some q

      -- the neighbour is the destination
      own : k ≡ d → (height_at last k d ≡ Some (Some x)) ⊎ Gone n k d x
      own q =
          let vi = view_in (last.seats n).core d h.view c.kept h.found in
          let vk = view_in (last.seats k).core d its.0 (core_of k b.node).kept its.1 in
          let is : x ≡ destination_height h.view.destination =
          row_of_destination h.view.me h.view.destination h.view.rows x vi.view.kept.rows (ap (λ m. entry_in m h.view) (sym (q ∙ sym vi.destination)) ∙ h.entry) (λ r. away (sym (vi.view.owner ∙ c.me) ∙ r ∙ vi.destination)) in
          let height : its.0.height ≡ Some (destination_height its.0.destination) = vk.view.kept.at_destination (vk.view.owner ∙ (core_of k b.node).me ∙ q ∙ sym vk.destination) in
          inl (as_height (Some x) (height ∙ ap (λ m. Some (destination_height m)) (vk.destination ∙ sym vi.destination) ∙ ap Some (sym is)))

      -- the entry comes from a packet of the neighbour
      another : k ≢ d → (height_at last k d ≡ Some (Some x)) ⊎ Gone n k d x
      another other =
          let received : heard (erasure_at t n) d None (received_from k (new_core t n) (last.inputs n) []) ≡ Some x =
          entries_heard (erasure_at t n) cores n d k other away (neighbours_of t n) t.destinations (last.inputs n) x
          (ap (λ (y : CoreView). entry_of y d k) (sym (end.received.follows n)) ∙ ap (option_and_then (entry_in k)) h.found ∙ h.entry) in
          let told : heard (erasure_at t n) d None (broadcast_packets t last k n) ≡ Some x = ap (heard (erasure_at t n) d None) (sym (all_received rest n k h.node u)) ∙ received in
          let is : IsHeard (erasure_at t n) (WasLost (erasure_at t n) (new_core t k) (last.inputs k) d) (Some x) its.0.height = subst (λ (o : Option Quintuple). IsHeard (erasure_at t n) (WasLost (erasure_at t n) (new_core t k) (last.inputs k) d) o its.0.height) told (told_of rest n k d h.node u its.0 its.1) in
          ⊎_elim (λ q. inl (as_height (Some x) q)) (λ q. inr (as_height None q.0, q.1)) is

      by : (nat_eq k d ≡ true) ⊎ (nat_eq k d ≡ false) → (height_at last k d ≡ Some (Some x)) ⊎ Gone n k d x
      by (inl i) = own (eqb-true k d i)
      by (inr o) = another (λ q. true≢false (sym (eq-eqb k d q) ∙ o))

  pub entries_are_heights : IsAtRest last → EntriesAreHeights last
  entries_are_heights rest n k d x e = ⊎_elim (λ q. inl q) (λ q. inr q.0) (entry_is rest n k d x e)

  pub stale_are_lost : IsAtRest last → StaleAreLost last
  stale_are_lost rest n k d x e lacks =
      subst (λ (u : Topology). WasLost (erasure_at u n) (new_core u k) (last.inputs k) d x) (sym same)
      (⊎_elim (λ q. absurd (let z : Some (Some x) ≡ Some None = sym q ∙ lacks in cc)) (λ q. q.1) (entry_is rest n k d x e))

  pub remembered_are_silent : IsAtRest last → RememberedAreLostInSilence last
  remembered_are_silent rest n k d x is e lacks =
      let lost : WasLost Remembered (new_core last.topology k) (last.inputs k) d x =
      subst (λ (choice : Erasure). WasLost choice (new_core last.topology k) (last.inputs k) d x) is (stale_are_lost rest n k d x e lacks) in
      (lost, lost_in_silence lost.view lost.input lost.now x lost.loses)

-- A node restarts.
use Rattle.std.proofs.Common.{◌≡◌, ℕ, zero, suc, ◌<◌, ◌⊎◌, ◌&&◌, inl, inr, Bool, true, false, true≢false, List, [], ◌∷◌, ◌++◌, map, length, set, get_or, Option, Some, None, refl, sym, ap, ap₂, ◌∙◌, subst, arith, is_some, if◌then◌else◌, nat_eq, nat_lt, eqb-true, option_map, append_assoc, append-nil, fold}
use Rattle.std.proofs.lemmas.Bool.{cases_Bool, and_parts}
use Rattle.std.proofs.lemmas.Bool.Decides.{nat_tests}
use Rattle.std.proofs.lemmas.List.{drop_all, length-replicate}
use Rattle.std.specs.Prelude.{replicate, slice_index_or}
use Rattle.std.specs.List.{AllByRecursion}
use mathlib.Core.Path.{fun_ext}
use Rattle.tora_frame.specs.FrameParts.{FrameParts}
use Rattle.tora_arq.specs.declared.times.Times.{Times}
use Rattle.tora_arq.specs.declared.life.Life.{Life}
use Rattle.tora_arq.specs.LinkEnd.{first_end}
use Rattle.tora_life.specs.LifeRun.{LifeDisk}
use Rattle.tora_core.specs.Numbers.{with_number, ascending, IsAscending}
use Rattle.tora_core.specs.View.{first_view_of}
use Rattle.tora_core.specs.declared.erasure.Erasure.{Erasure}
use Rattle.tora_core.specs.CoreRun.{CoreView, first_core_of}
use Rattle.tora_core.specs.Kept.{IsCore, destinations_of}
use Rattle.tora_seat.specs.declared.cargo.Cargo.{Cargo}
use Rattle.tora_seat.specs.Serving.{put_one}
use Rattle.tora_seat.specs.Rows.{SeatView, new_row, current_of, pending_of}
use Rattle.tora_seat.specs.Rows as Rows
use Rattle.tora_world.specs.declared.event.Event.TheVariants.{Restart}
use Rattle.tora_world.specs.declared.sim_error.SimError.TheVariants as Refused
use Rattle.tora_world.specs.Topology.{Topology, erasure_at, is_link, neighbours_of, new_core}
use Rattle.tora_world.specs.World.{World, refusal_of, effect_by, world_after, first_seat, after_restart, reopened}
use Rattle.tora_sim.specs.Keyed.{IsFirst}
use Rattle.tora_sim.specs.Links.{LinkView, is_at, at_node, AreChanged}
use Rattle.tora_sim.specs.Nodes.{NodeView, is_of}
use Rattle.tora_sim.specs.Restarts.{restarted, restarted_node, core_again}
use Rattle.tora_sim.specs.Store.{state_of, world_of, IsStore, link_at, end_in, file_in, lane_in, put_in, steps_in, node_at, seat_in, items_in, inputs_in, counts_in, arms_in}
use Rattle.tora_sim.specs.Steps.{IsDone, IsRefused}
use Rattle.tora_sim.proofs.Stores.{is_found, IsSameLink, IsSameNode, node_changes, node_changes_by, node_stays, store_set_node}
use Rattle.tora_sim.proofs.SameLinks.{same_map, store_same, map_found}
use Rattle.tora_sim.proofs.Opens.{effect_is, links_same}
use Rattle.tora_sim.proofs.Needs.{nodes_same, at_there}
use Rattle.tora_sim.proofs.AtNode.{IsAt, is_at_place}
use Rattle.tora_sim.proofs.NodeEnds.{changed_is}

-- ---- numbers in ascending order

-- a number above all others is added at the end
at_end : (n : ℕ) (ns : List ℕ) → AllByRecursion (λ (m : ℕ). m < n) ns → with_number n ns ≡ ns ++ n ∷ []
at_end n [] h = refl
at_end n (m ∷ ns) h =
    let lt = h.0 in
    let off : nat_lt n m ≡ false = grind (arith, nat_tests, lt) in
    ap (λ (b : Bool). if b then n ∷ m ∷ ns else m ∷ with_number n ns) off ∙ ap (λ xs. m ∷ xs) (at_end n ns h.1)

above_one : (a n : ℕ) (acc ns : List ℕ) → AllByRecursion (λ (m : ℕ). a < m) (acc ++ n ∷ ns) → a < n
above_one a n [] ns h = h.0
above_one a n (m ∷ acc) ns h = above_one a n acc ns h.1

all_below : (n : ℕ) (acc ns : List ℕ) → IsAscending (acc ++ n ∷ ns) → AllByRecursion (λ (m : ℕ). m < n) acc
all_below n [] ns h = tt
all_below n (a ∷ acc) ns h = (above_one a n acc ns h.0, all_below n acc ns h.1)

sorted_on : (acc ns : List ℕ) → IsAscending (acc ++ ns) → fold (λ sorted n. with_number n sorted) acc ns ≡ acc ++ ns
sorted_on acc [] h = sym (append-nil acc)
sorted_on acc (n ∷ ns) h =
    ap (λ xs. fold (λ sorted m. with_number m sorted) xs ns) (at_end n acc (all_below n acc ns h))
    ∙ sorted_on (acc ++ n ∷ []) ns (subst IsAscending (sym (append_assoc acc (n ∷ []) ns)) h)
    ∙ append_assoc acc (n ∷ []) ns

pub sorted_stays : (ns : List ℕ) → IsAscending ns → ascending ns ≡ ns
sorted_stays ns h = sorted_on [] ns h

pub first_destinations : (choice : Erasure) (me : ℕ) (ds : List ℕ) → destinations_of (map (first_view_of choice me) ds) ≡ ds
first_destinations choice me [] = refl
first_destinations choice me (d ∷ ds) = ap (λ xs. d ∷ xs) (first_destinations choice me ds)

-- ---- a new seat

no_current : (ks : List ℕ) (k : ℕ) → current_of (map new_row ks) k ≡ None
no_current [] k = refl
no_current (j ∷ ks) k = go (nat_eq k j) (no_current ks k)
  where
    go : (b : Bool) → current_of (map new_row ks) k ≡ None → (if b then None else current_of (map new_row ks) k) ≡ None
    go true again = refl
    go false again = again

no_pending : (ks : List ℕ) (k : ℕ) → pending_of (map new_row ks) k ≡ None
no_pending [] k = refl
no_pending (j ∷ ks) k = go (nat_eq k j) (no_pending ks k)
  where
    go : (b : Bool) → pending_of (map new_row ks) k ≡ None → (if b then None else pending_of (map new_row ks) k) ≡ None
    go true again = refl
    go false again = again

pub new_state : (core : CoreView) → Rows.state_of (Rows.first_seat core) ≡ record { core = core; current = λ k. None; pending = λ k. None }
new_state core =
    ap₂ (λ (c p : ℕ → Option Life). record { core = core; current = c; pending = p }) (fun_ext (λ k. no_current core.neighbours k)) (fun_ext (λ k. no_pending core.neighbours k))

zeros : (count seat : ℕ) → ◌≡◌ {A = ℕ} (get_or (replicate count 0) seat 0) 0
zeros zero seat = refl
zeros (suc count) zero = refl
zeros (suc count) (suc seat) = zeros count seat

module _ (t : Topology) (times : Times) (clock : ℕ) (nodes : List NodeView) (links : List LinkView) (ds : List FrameParts) (h : IsStore (state_of t times clock nodes links ds))
    (n i : ℕ) (x : NodeView) (first : IsFirst (is_of n) nodes i) (read : x ≡ slice_index_or nodes i x) (torn : Option (List ℕ)) where
  abbrev w : World
  w = world_of (state_of t times clock nodes links ds)

  at : IsAt t nodes links n i x
  at = is_at_place t times clock nodes links ds h n i x first read

  possible : refusal_of w (Restart n torn) ≡ None
  possible = at_there t times clock nodes links ds h n i x first read true true refl

  pub restart_starved : IsRefused w (Restart n torn) Refused.Memory w
  restart_starved = record { cause = inl (refl, possible); world = refl }

  effect : world_after w (Restart n torn) ≡ after_restart w n torn
  unfolding effect_by
  effect = effect_is w (Restart n torn) possible

  abbrev after : List LinkView
  after = map (at_node n (restarted torn)) links

  same_end : (link : LinkView) → IsSameLink link (at_node n (restarted torn) link)
  same_end link = go (nat_eq link.node n)
    where
      go : (b : Bool) → IsSameLink link (if b then restarted torn link else link)
      go true = record { node = refl; peer = refl; seat = refl; settings = refl; pulled = λ q. omega arith }
      go false = record { node = refl; peer = refl; seat = refl; settings = refl; pulled = λ q. q }

  found_after : (a k : ℕ) → link_at after a k ≡ option_map (at_node n (restarted torn)) (link_at links a k)
  found_after a k = map_found (at_node n (restarted torn)) same_end a k links

  stays : {A : Type 0} → (f : Option LinkView → A) → ((link : LinkView) → f (Some (restarted torn link)) ≡ f (Some link)) → ◌≡◌ {A = ℕ → ℕ → A} (λ a k. f (link_at after a k)) (λ a k. f (link_at links a k))
  stays {A} f same = fun_ext (λ a. fun_ext (λ k. ap f (found_after a k) ∙ go (link_at links a k)))
    where
      cases : (link : LinkView) (b : Bool) → f (Some (if b then restarted torn link else link)) ≡ f (Some link)
      cases link true = same link
      cases link false = refl

      go : (o : Option LinkView) → f (option_map (at_node n (restarted torn)) o) ≡ f o
      go None = refl
      go (Some link) = cases link (nat_eq link.node n)

  -- reading an end of the node, and an end of another node
  changes : {A : Type 0} → (f : Option LinkView → A) (new : A) → ((link : LinkView) → f (Some (restarted torn link)) ≡ new) → f None ≡ new
      → ◌≡◌ {A = ℕ → ℕ → A} (λ a k. f (link_at after a k)) (λ a k. if nat_eq a n then new else f (link_at links a k))
  changes {A} f new same none = fun_ext (λ a. fun_ext (λ k. ap f (found_after a k) ∙ go a k (link_at links a k) refl (cases_Bool (nat_eq a n))))
    where
      go : (a k : ℕ) (o : Option LinkView) → link_at links a k ≡ o → (nat_eq a n ≡ true) ⊎ (nat_eq a n ≡ false) → f (option_map (at_node n (restarted torn)) o) ≡ (if nat_eq a n then new else f o)
      go a k None e (inl q) = none ∙ sym (ap (λ (b : Bool). if b then new else f None) q)
      go a k None e (inr q) = sym (ap (λ (b : Bool). if b then new else f None) q)
      go a k (Some link) e r =
          let node : link.node ≡ a = eqb-true link.node a (and_parts _ _ (is_found (is_at a k) links link e).passes).0 in
          ap (λ m. f (Some (if nat_eq m n then restarted torn link else link))) node ∙ cases a link r
        where
          cases : (a : ℕ) (link : LinkView) → (nat_eq a n ≡ true) ⊎ (nat_eq a n ≡ false) → f (Some (if nat_eq a n then restarted torn link else link)) ≡ (if nat_eq a n then new else f (Some link))
          cases a link (inl q) = ap (λ (b : Bool). f (Some (if b then restarted torn link else link))) q ∙ same link ∙ sym (ap (λ (b : Bool). if b then new else f (Some link)) q)
          cases a link (inr q) = ap (λ (b : Bool). f (Some (if b then restarted torn link else link))) q ∙ sym (ap (λ (b : Bool). if b then new else f (Some link)) q)

  files_reopen : ◌≡◌ {A = ℕ → ℕ → LifeDisk} (λ a k. file_in a k (link_at after a k)) (λ a k. if nat_eq a n && is_link t a k then reopened torn (file_in a k (link_at links a k)) else file_in a k (link_at links a k))
  files_reopen = fun_ext (λ a. fun_ext (λ k. ap (file_in a k) (found_after a k) ∙ go a k (link_at links a k) refl (is_link t a k) refl))
    where
      off : (c : Bool) (disk : LifeDisk) → disk ≡ (if c && false then reopened torn disk else disk)
      off true disk = refl
      off false disk = refl

      on : (c : Bool) (link : LinkView) → (if c then restarted torn link else link).file ≡ (if c && true then reopened torn link.file else link.file)
      on true link = refl
      on false link = refl

      go : (a k : ℕ) (o : Option LinkView) → link_at links a k ≡ o → (b : Bool) → is_link t a k ≡ b → file_in a k (option_map (at_node n (restarted torn)) o) ≡ (if nat_eq a n && b then reopened torn (file_in a k o) else file_in a k o)
      go a k None e true l = absurd (true≢false (sym l ∙ h.links a k ∙ ap is_some e))
      go a k None e false l = off (nat_eq a n) (file_in a k None)
      go a k (Some link) e false l = absurd (true≢false (sym (ap is_some e) ∙ sym (h.links a k) ∙ l))
      go a k (Some link) e true l =
          let q = eqb-true link.node a (and_parts _ _ (is_found (is_at a k) links link e).passes).0 in
          on (nat_eq link.node n) link ∙ ap (λ c. if nat_eq c n && true then reopened torn link.file else link.file) q

  -- ---- the node

  module _ (core_kept : IsCore x.seat.core) where
    abbrev seat : SeatView
    seat = Rows.first_seat (core_again x.seat.core)

    abbrev y : NodeView
    y = restarted_node seat x

    core_is : core_again x.seat.core ≡ new_core t n
    core_is =
        ap (λ (choice : Erasure). first_core_of choice x.seat.core.me x.seat.core.neighbours (destinations_of x.seat.core.views)) (at.kept.erasure ∙ ap (erasure_at t) at.node)
        ∙ ap₂ (λ me ks. first_core_of (erasure_at t n) me ks (destinations_of x.seat.core.views)) (at.kept.me ∙ at.node) at.neighbours
        ∙ ap (λ sorted. record { me = n; erasure = erasure_at t n; neighbours = ascending (neighbours_of t n); up = []; views = map (first_view_of (erasure_at t n) n) sorted }) (sorted_stays (destinations_of x.seat.core.views) core_kept.ascending_destinations ∙ at.kept.destinations)

    same : IsSameNode x y
    same = record {
      node = refl;
      first = refl;
      count = refl;
      me = refl;
      erasure = refl;
      neighbours = sorted_stays x.seat.core.neighbours core_kept.ascending_neighbours;
      destinations = first_destinations x.seat.core.erasure x.seat.core.me (ascending (destinations_of x.seat.core.views)) ∙ sorted_stays (destinations_of x.seat.core.views) core_kept.ascending_destinations;
      seats = length-replicate (length x.counts) 0;
    }

    seat_is : Rows.state_of seat ≡ first_seat t n
    seat_is = new_state (core_again x.seat.core) ∙ ap (λ core. record { core = core; current = λ k. None; pending = λ k. None }) core_is

    restarted_world : world_of (state_of t times clock (set nodes i y) after ds) ≡ after_restart w n torn
    restarted_world =
        let ends_fresh = changes end_in first_end (λ link. refl) refl in
        let lanes_empty = changes lane_in [] (λ link. drop_all (length link.put) link.put (omega arith)) refl ∙ lanes_as_put in
        let puts = stays put_in (λ link. refl) in
        let steps = stays steps_in (λ link. refl) in
        let seats = node_changes_by n nodes i x y first at.place same (seat_in t) ∙ ap (λ s. put_one (λ a. seat_in t a (node_at nodes a)) n s) seat_is in
        let inputs = node_changes n nodes i x y first at.place same inputs_in in
        let items = node_changes n nodes i x y first at.place same items_in in
        let counts = node_changes n nodes i x y first at.place same counts_in
        ∙ ap (λ (f : ℕ → ℕ). put_one (λ a. counts_in (node_at nodes a)) n f) (fun_ext (λ seat. zeros (length x.counts) seat)) in
        let arms = node_stays n nodes i x y first at.place same arms_in refl in
        let u = world_of (state_of t times clock (set nodes i y) links ds) in
        links_same u ends_fresh files_reopen lanes_empty puts steps
        ∙ nodes_same (record w {
          ends = λ a k. if nat_eq a n then first_end else w.ends a k;
          files = λ a k. if nat_eq a n && is_link t a k then reopened torn (w.files a k) else w.files a k;
          cargoes = put_one w.cargoes n (λ k. []);
        }) seats inputs items counts arms
      where
        lanes_as_put : ◌≡◌ {A = ℕ → ℕ → List Cargo} (λ a k. if nat_eq a n then [] else lane_in (link_at links a k)) (put_one {A = ℕ → List Cargo} (λ a k. lane_in (link_at links a k)) n (λ k. []))
        lanes_as_put = fun_ext (λ a. fun_ext (λ k. go a k (nat_eq a n)))
          where
            go : (a k : ℕ) (b : Bool) → (if b then [] else lane_in (link_at links a k)) ≡ if◌then◌else◌ {A = ℕ → List Cargo} b (λ j. []) (λ j. lane_in (link_at links a j)) k
            go a k true = refl
            go a k false = refl

    pub restart_done : (made : SeatView) (node : NodeView) (links' : List LinkView) → made ≡ Rows.first_seat (core_again x.seat.core) → node ≡ restarted_node made x → AreChanged (restarted torn) links links' x.first x.count
        → IsDone w (Restart n torn) (world_of (state_of t times clock (set nodes i node) links' ds))
    restart_done made node links' a b d = record {
      accepted = possible;
      world =
          ap₂ (λ z xs. world_of (state_of t times clock (set nodes i z) xs ds)) (b ∙ ap (λ s. restarted_node s x) a) (changed_is t times clock nodes links ds h n i x first read (restarted torn) links' d)
          ∙ restarted_world ∙ sym effect;
    }

    pub restart_store : (made : SeatView) (node : NodeView) (links' : List LinkView) → made ≡ Rows.first_seat (core_again x.seat.core) → node ≡ restarted_node made x → AreChanged (restarted torn) links links' x.first x.count
        → IsStore (state_of t times clock (set nodes i node) links' ds)
    restart_store made node links' a b d =
        subst (λ z. IsStore (state_of t times clock (set nodes i z) links' ds)) (sym (b ∙ ap (λ s. restarted_node s x) a))
        (subst (λ xs. IsStore (state_of t times clock (set nodes i y) xs ds)) (sym (changed_is t times clock nodes links ds h n i x first read (restarted torn) links' d))
        (store_set_node n nodes i x y first at.place same t times clock after ds
        (store_same t times clock nodes links after ds (same_map (at_node n (restarted torn)) same_end links) h)))

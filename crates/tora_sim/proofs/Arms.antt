-- Calls that are armed to fail.
use Rattle.std.proofs.Common.{◌≡◌, ℕ, zero, suc, ◌<◌, Bool, true, false, ◌&&◌, List, [], ◌∷◌, map, Option, Some, None, refl, sym, ap, ap₂, ◌∙◌, subst, arith, length, set, slice_get, is_some, cond, option_map, if◌then◌else◌, nat_eq, eqb-true, true≢false}
use Rattle.std.proofs.lemmas.Bool.{and_parts}
use Rattle.std.specs.Prelude.{slice_index_or}
use mathlib.Core.Path.{fun_ext}
use Rattle.tora_frame.specs.FrameParts.{FrameParts}
use Rattle.tora_arq.specs.declared.times.Times.{Times}
use Rattle.tora_life.specs.declared.state.DiskCall.{DiskCall}
use Rattle.tora_life.specs.declared.state.DiskCall.TheVariants as Disk
use Rattle.tora_life.specs.LifeRun.{LifeDisk, after_event}
use Rattle.tora_life.specs.LifeRun.LifeEvent.{Arm as ArmsDisk}
use Rattle.tora_world.specs.declared.call.Call.{Call}
use Rattle.tora_world.specs.declared.call.Call.TheVariants as Fails
use Rattle.tora_world.specs.declared.event.Event.TheVariants as Happens
use Rattle.tora_world.specs.declared.sim_error.SimError.TheVariants as Refused
use Rattle.tora_world.specs.Topology.{Topology, is_node, is_link}
use Rattle.tora_world.specs.World.{World, refusal_of, effect_by, world_after, unless_possible, after_arming, with_armed_files}
use Rattle.tora_seat.specs.Serving.{put_one}
use Rattle.tora_core.specs.Kept.{destinations_of}
use Rattle.tora_seat.specs.Rows.{SeatView}
use Rattle.tora_seat.specs.Rows as Rows
use Rattle.tora_sim.specs.declared.nodes.Sending.{Sending as DeclaredSending}
use Rattle.tora_sim.specs.declared.nodes.Sending.TheVariants as Sends
use Rattle.tora_sim.specs.Keyed.{IsFirst}
use Rattle.tora_sim.specs.Links.{LinkView, is_at, key_of, after_arm, at_node}
use Rattle.tora_sim.specs.Nodes.{NodeView, is_of, sending_of}
use Rattle.tora_sim.specs.Store.{state_of, world_of, IsStore, IsLinkOf, link_at, end_in, file_in, lane_in, put_in, steps_in, node_at, seat_in, items_in, inputs_in, counts_in, arms_in, call_of}
use Rattle.tora_sim.specs.Steps.{IsDone}
use Rattle.tora_sim.specs.Links as Links
use Rattle.tora_sim.proofs.Stores.{is_found, each_map, ordered_map, ends_map, keys_map, IsSameLink, IsSameNode, node_changes, node_stays, node_stays_by, store_set_node}
use Rattle.tora_sim.proofs.Keys.{found}
use Rattle.tora_sim.proofs.Opens.{effect_is, links_same}
use Rattle.tora_sim.proofs.Needs.{nodes_same, node_place, is_there, is_noded}

get_at : (xs : List NodeView) (i : ℕ) → i < length xs → (x : NodeView) × (slice_get xs i ≡ Some x)
get_at [] i lt = absurd (omega arith)
get_at (x ∷ xs) zero lt = (x, refl)
get_at (x ∷ xs) (suc i) lt = get_at xs i (omega arith)

abbrev pub armed_of : ℕ → DiskCall → LinkView → LinkView
armed_of n call = at_node n (λ link. after_arm link call)

module _ (t : Topology) (times : Times) (clock : ℕ) (nodes : List NodeView) (links : List LinkView) (ds : List FrameParts) (h : IsStore (state_of t times clock nodes links ds)) (n : ℕ) where
  abbrev w : World
  w = world_of (state_of t times clock nodes links ds)

  possible : (call : Call) → is_node t n ≡ true → refusal_of w (Happens.Arm n call) ≡ None
  possible call e = ap (λ (b : Bool). if b then unless_possible true else Some Refused.NoNode) e

  effect : (call : Call) → is_node t n ≡ true → world_after w (Happens.Arm n call) ≡ after_arming w n call
  unfolding effect_by
  effect call e = effect_is w (Happens.Arm n call) (possible call e)

  -- ---- the next send or receive of the node

  module _ (i : ℕ) (x : NodeView) (first : IsFirst (is_of n) nodes i) (read : x ≡ slice_index_or nodes i x) where
    at : slice_get nodes i ≡ Some x
    at = node_place t times clock nodes links ds h n i x first read

    there : node_at nodes n ≡ Some x
    there = is_there t times clock nodes links ds h n i x first read

    pub noded : is_node t n ≡ true
    noded = is_noded t times clock nodes links ds h n i x first read

    module _ (new : NodeView) (same : IsSameNode x new) (seat : new.seat ≡ x.seat) (inputs : new.inputs ≡ x.inputs) (items : new.items ≡ x.items) (counts : new.counts ≡ x.counts) where
      armed_world : world_of (state_of t times clock (set nodes i new) links ds) ≡ record w { arms = put_one w.arms n (arms_in (Some new)) }
      armed_world =
          nodes_same w
          (node_stays_by n nodes i x new first at same (seat_in t) (ap Rows.state_of seat))
          (node_stays n nodes i x new first at same inputs_in inputs)
          (node_stays n nodes i x new first at same items_in items)
          (node_stays n nodes i x new first at same counts_in (ap (λ (xs : List ℕ). counts_in (Some (record x { counts = xs }))) counts))
          (node_changes n nodes i x new first at same arms_in)

      pub armed_store : IsStore (state_of t times clock (set nodes i new) links ds)
      armed_store = store_set_node n nodes i x new first at same t times clock links ds h

      pub armed_done : (call : Call) → record w { arms = put_one w.arms n (arms_in (Some new)) } ≡ after_arming w n call → IsDone w (Happens.Arm n call) (world_of (state_of t times clock (set nodes i new) links ds))
      armed_done call e = record { accepted = possible call noded; world = armed_world ∙ e ∙ sym (effect call noded) }

    abbrev as_it_was : (new : NodeView) → new.node ≡ x.node → new.first ≡ x.first → new.count ≡ x.count → new.seat ≡ x.seat → new.counts ≡ x.counts → IsSameNode x new
    as_it_was new a f b s c = record { node = a; first = f; count = b; me = ap (λ (seat : SeatView). seat.core.me) s; erasure = ap (λ (seat : SeatView). seat.core.erasure) s; neighbours = ap (λ (seat : SeatView). seat.core.neighbours) s; destinations = ap (λ (seat : SeatView). destinations_of seat.core.views) s; seats = ap length c }

    -- its next send is armed, or its next receive
    sends_done : (sending : DeclaredSending) (call : Call) → ((v : World) → after_arming v n call ≡ record v { arms = put_one v.arms n (record (v.arms n) { sending = sending_of sending }) }) →
        IsDone w (Happens.Arm n call) (world_of (state_of t times clock (set nodes i (record x { sending = sending })) links ds))
    sends_done sending call e =
        armed_done (record x { sending = sending }) (as_it_was (record x { sending = sending }) refl refl refl refl refl) refl refl refl refl call
        (ap (λ o. record w { arms = put_one w.arms n (record (arms_in o) { sending = sending_of sending }) }) (sym there) ∙ sym (e w))

    pub lost_done : (new : NodeView) (call : Call) → call ≡ Fails.SendLost → new ≡ record x { sending = Sends.IsLost } → IsDone w (Happens.Arm n call) (world_of (state_of t times clock (set nodes i new) links ds))
    lost_done new call q e = subst (λ z. IsDone w (Happens.Arm n call) (world_of (state_of t times clock (set nodes i z) links ds))) (sym e) (subst (λ m. IsDone w (Happens.Arm n m) (world_of (state_of t times clock (set nodes i (record x { sending = Sends.IsLost })) links ds))) (sym q) (sends_done Sends.IsLost Fails.SendLost (λ v. refl)))

    pub gone_done : (new : NodeView) (call : Call) → call ≡ Fails.SendGone → new ≡ record x { sending = Sends.IsGone } → IsDone w (Happens.Arm n call) (world_of (state_of t times clock (set nodes i new) links ds))
    gone_done new call q e = subst (λ z. IsDone w (Happens.Arm n call) (world_of (state_of t times clock (set nodes i z) links ds))) (sym e) (subst (λ m. IsDone w (Happens.Arm n m) (world_of (state_of t times clock (set nodes i (record x { sending = Sends.IsGone })) links ds))) (sym q) (sends_done Sends.IsGone Fails.SendGone (λ v. refl)))

    pub sends_store : (sending : DeclaredSending) (new : NodeView) → new ≡ record x { sending = sending } → IsStore (state_of t times clock (set nodes i new) links ds)
    sends_store sending new e = subst (λ z. IsStore (state_of t times clock (set nodes i z) links ds)) (sym e) (armed_store (record x { sending = sending }) (as_it_was (record x { sending = sending }) refl refl refl refl refl) refl refl refl refl)

    pub receive_done : (new : NodeView) (call : Call) → call ≡ Fails.Receive → new ≡ record x { receive = true } → IsDone w (Happens.Arm n call) (world_of (state_of t times clock (set nodes i new) links ds))
    receive_done new call q e =
        subst (λ z. IsDone w (Happens.Arm n call) (world_of (state_of t times clock (set nodes i z) links ds))) (sym e) (subst (λ m. IsDone w (Happens.Arm n m) (world_of (state_of t times clock (set nodes i (record x { receive = true })) links ds))) (sym q)
        (armed_done (record x { receive = true }) (as_it_was (record x { receive = true }) refl refl refl refl refl) refl refl refl refl Fails.Receive
        (ap (λ o. record w { arms = put_one w.arms n (record (arms_in o) { receive = true }) }) (sym there))))

    pub receive_store : (new : NodeView) → new ≡ record x { receive = true } → IsStore (state_of t times clock (set nodes i new) links ds)
    receive_store new e = subst (λ z. IsStore (state_of t times clock (set nodes i z) links ds)) (sym e) (armed_store (record x { receive = true }) (as_it_was (record x { receive = true }) refl refl refl refl refl) refl refl refl refl)

  pub noded_at : (i : ℕ) → IsFirst (is_of n) nodes i → is_node t n ≡ true
  noded_at i first = go (get_at nodes i first.within)
    where
      go : (x : NodeView) × (slice_get nodes i ≡ Some x) → is_node t n ≡ true
      go (x, e) = h.nodes n ∙ ap is_some (found (is_of n) nodes i x first e)

  -- ---- the life files of the node

  by_case : (call : DiskCall) (x : LinkView) (P : LinkView → Type 0) → P x → P (after_arm x call) → P (armed_of n call x)
  by_case call x P p q = go (nat_eq x.node n)
    where
      go : (b : Bool) → P (if b then after_arm x call else x)
      go true = q
      go false = p

  link_map : (call : DiskCall) (a k : ℕ) (xs : List LinkView) → link_at (map (armed_of n call) xs) a k ≡ option_map (armed_of n call) (link_at xs a k)
  link_map call a k [] = refl
  link_map call a k (x ∷ xs) =
      ap₂ (λ (b : Bool) (r : Option LinkView). cond b (Some (armed_of n call x)) r) (by_case call x (λ y. is_at a k y ≡ is_at a k x) refl refl) (link_map call a k xs)
      ∙ go (is_at a k x)
    where
      go : (b : Bool) → cond b (Some (armed_of n call x)) (option_map (armed_of n call) (link_at xs a k)) ≡ option_map (armed_of n call) (cond b (Some x) (link_at xs a k))
      go true = refl
      go false = refl

  stays : {A : Type 0} → (f : Option LinkView → A) (call : DiskCall) → ((x : LinkView) → f (Some (after_arm x call)) ≡ f (Some x)) → ◌≡◌ {A = ℕ → ℕ → A} (λ a k. f (link_at (map (armed_of n call) links) a k)) (λ a k. f (link_at links a k))
  stays {A} f call same = fun_ext (λ a. fun_ext (λ k. ap f (link_map call a k links) ∙ go (link_at links a k)))
    where
      go : (o : Option LinkView) → f (option_map (armed_of n call) o) ≡ f o
      go None = refl
      go (Some x) = by_case call x (λ y. f (Some y) ≡ f (Some x)) refl (same x)

  file_armed : (call : DiskCall) (a k : ℕ) (o : Option LinkView) → link_at links a k ≡ o → (b : Bool) → is_link t a k ≡ b →
      file_in a k (option_map (armed_of n call) o) ≡ (if nat_eq a n && b then after_event (ArmsDisk call) (file_in a k o) else file_in a k o)
  file_armed call a k None e true l = absurd (true≢false (sym l ∙ h.links a k ∙ ap is_some e))
  file_armed call a k None e false l = go (nat_eq a n)
    where
      go : (c : Bool) → file_in a k None ≡ (if c && false then after_event (ArmsDisk call) (file_in a k None) else file_in a k None)
      go true = refl
      go false = refl
  file_armed call a k (Some x) e false l = absurd (true≢false (sym (ap is_some e) ∙ sym (h.links a k) ∙ l))
  file_armed call a k (Some x) e true l =
      let q = eqb-true x.node a (and_parts _ _ (is_found (is_at a k) links x e).passes).0 in
      go (nat_eq x.node n) ∙ ap (λ c. if nat_eq c n && true then after_event (ArmsDisk call) x.file else x.file) q
    where
      go : (c : Bool) → (if c then after_arm x call else x).file ≡ (if c && true then after_event (ArmsDisk call) x.file else x.file)
      go true = refl
      go false = refl

  files_world : (call : DiskCall) → world_of (state_of t times clock nodes (map (armed_of n call) links) ds) ≡ with_armed_files w n call
  files_world call =
      let ends = stays end_in call (λ x. refl) in
      let lanes = stays lane_in call (λ x. refl) in
      let puts = stays put_in call (λ x. refl) in
      let steps = stays steps_in call (λ x. refl) in
      let files : ◌≡◌ {A = ℕ → ℕ → LifeDisk} (λ a k. file_in a k (link_at (map (armed_of n call) links) a k)) (λ a k. if nat_eq a n && is_link t a k then after_event (ArmsDisk call) (file_in a k (link_at links a k)) else file_in a k (link_at links a k)) =
      fun_ext (λ a. fun_ext (λ k. ap (file_in a k) (link_map call a k links) ∙ file_armed call a k (link_at links a k) refl (is_link t a k) refl)) in
      links_same w ends files lanes puts steps

  armed_is : (call : DiskCall) → after_arming w n (call_of call) ≡ with_armed_files w n call
  armed_is Disk.Read = refl
  armed_is Disk.Write = refl
  armed_is Disk.Sync = refl

  pub files_done : (call : DiskCall) (after : List LinkView) → is_node t n ≡ true → after ≡ map (armed_of n call) links → IsDone w (Happens.Arm n (call_of call)) (world_of (state_of t times clock nodes after ds))
  files_done call after e f = record {
    accepted = possible (call_of call) e;
    world = ap (λ xs. world_of (state_of t times clock nodes xs ds)) f ∙ files_world call ∙ sym (effect (call_of call) e ∙ armed_is call);
  }

  pub files_store : (call : DiskCall) (after : List LinkView) → after ≡ map (armed_of n call) links → IsStore (state_of t times clock nodes after ds)
  files_store call after f = subst (λ xs. IsStore (state_of t times clock nodes xs ds)) (sym f) (record {
    nodes = h.nodes;
    links = λ a k. h.links a k ∙ sym (ap (λ (g : ℕ → ℕ → Bool). g a k) (stays is_some call (λ x. refl)));
    keys = keys_map (armed_of n call) (λ x. by_case call x (λ z. key_of z ≡ key_of x) refl refl) links ∙ h.keys;
    rising_nodes = h.rising_nodes;
    rising_links = ordered_map Links.ComesBefore (armed_of n call) (λ x y b. by_case call x (λ z. Links.ComesBefore z (armed_of n call y)) (by_case call y (Links.ComesBefore x) b b) (by_case call y (Links.ComesBefore (after_arm x call)) b b)) links h.rising_links;
    each_node = h.each_node;
    each_link = each_map (IsLinkOf t times) (armed_of n call) (λ x f. by_case call x (IsLinkOf t times) f (record { settings = f.settings; seat = f.seat; home = f.home; back = f.back; pulled = f.pulled })) links h.each_link;
    each_ends = λ m y q. ends_map t links (armed_of n call) (λ x. by_case call x (λ z. IsSameLink x z) (record { node = refl; peer = refl; seat = refl; settings = refl; pulled = λ b. b }) (record { node = refl; peer = refl; seat = refl; settings = refl; pulled = λ b. b })) y (h.each_ends m y q);
    each_datagram = h.each_datagram;
  })

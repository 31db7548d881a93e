-- Every end is ticked.
use Rattle.std.proofs.Common.{◌≡◌, ℕ, suc, ◌+◌, Bool, true, false, List, [], ◌∷◌, map, Option, Some, None, refl, sym, ap, ap₂, ◌∙◌, subst, arith, cond, is_some, option_map, eqb-true}
use Rattle.std.proofs.lemmas.Bool.{and_parts}
use mathlib.Core.Path.{fun_ext}
use Rattle.tora_frame.specs.FrameParts.{FrameParts}
use Rattle.tora_arq.specs.declared.times.Times.{Times}
use Rattle.tora_arq.specs.Settings.{Settings, settings_of}
use Rattle.tora_arq.specs.LinkEnd.{EndState, after_tick}
use Rattle.tora_world.specs.declared.event.Event.TheVariants.{Tick}
use Rattle.tora_world.specs.Topology.{version_at, Topology}
use Rattle.tora_world.specs.World.{effect_by, world_by, world_after}
use Rattle.tora_sim.specs.Links.{LinkView, is_at, ticked}
use Rattle.tora_sim.specs.Nodes.{NodeView}
use Rattle.tora_sim.specs.Store.{state_of, world_of, IsStore, IsLinkOf, link_at, end_in, file_in, lane_in, put_in, steps_in}
use Rattle.tora_sim.specs.Steps.{IsDone}
use Rattle.tora_sim.specs.Links as Links
use Rattle.tora_sim.proofs.Opens.{links_same}
use Rattle.tora_sim.proofs.Stores.{each_at, is_found, each_map, ordered_map, ends_map, keys_map}

link_map : (now n k : ℕ) (links : List LinkView) → link_at (map (ticked now) links) n k ≡ option_map (ticked now) (link_at links n k)
link_map now n k [] = refl
link_map now n k (x ∷ links) = go (is_at n k x) (link_map now n k links)
  where
    go : (b : Bool) → link_at (map (ticked now) links) n k ≡ option_map (ticked now) (link_at links n k) →
        cond b (Some (ticked now x)) (link_at (map (ticked now) links) n k) ≡ option_map (ticked now) (cond b (Some x) (link_at links n k))
    go true again = refl
    go false again = again

module _ (t : Topology) (times : Times) (clock : ℕ) (nodes : List NodeView) (links : List LinkView) (ds : List FrameParts) (h : IsStore (state_of t times clock nodes links ds)) where
  ticked_end : (n k now : ℕ) (o : Option LinkView) → link_at links n k ≡ o → end_in (option_map (ticked now) o) ≡ after_tick (settings_of (version_at t n) n k times) (end_in o) now
  unfolding after_tick
  ticked_end n k now None e = refl
  ticked_end n k now (Some x) e =
      let f = is_found (is_at n k) links x e in
      let q = and_parts _ _ f.passes in
      ap (λ (s : Settings). after_tick s x.state now) ((h.each_link f.place x f.there).settings ∙ ap₂ (λ y z. settings_of (version_at t y) y z times) (eqb-true x.node n q.0) (eqb-true x.peer k q.1))

  stays : {A : Type 0} → (f : Option LinkView → A) (now : ℕ) → ((x : LinkView) → f (Some (ticked now x)) ≡ f (Some x)) → ◌≡◌ {A = ℕ → ℕ → A} (λ n k. f (link_at (map (ticked now) links) n k)) (λ n k. f (link_at links n k))
  stays {A} f now same = fun_ext (λ n. fun_ext (λ k. ap f (link_map now n k links) ∙ go (link_at links n k)))
    where
      go : (o : Option LinkView) → f (option_map (ticked now) o) ≡ f o
      go None = refl
      go (Some x) = same x

  pub tick_world : world_of (state_of t times (clock + 1) nodes (map (ticked (clock + 1)) links) ds) ≡ world_after (world_of (state_of t times clock nodes links ds)) Tick
  unfolding world_by effect_by
  tick_world =
      let plus : clock + 1 ≡ suc clock = omega arith in
      let ends : ◌≡◌ {A = ℕ → ℕ → EndState} (λ n k. end_in (link_at (map (ticked (clock + 1)) links) n k)) (λ n k. after_tick (settings_of (version_at t n) n k times) (end_in (link_at links n k)) (suc clock)) =
      fun_ext (λ n. fun_ext (λ k. ap end_in (link_map (clock + 1) n k links) ∙ ticked_end n k (clock + 1) (link_at links n k) refl ∙ ap (λ now. after_tick (settings_of (version_at t n) n k times) (end_in (link_at links n k)) now) plus)) in
      let files = each_at file_in (link_at (map (ticked (clock + 1)) links)) (link_at links) (λ a b. stays (file_in a b) (clock + 1) (λ x. refl)) in
      let lanes = stays lane_in (clock + 1) (λ x. refl) in
      let puts = stays put_in (clock + 1) (λ x. refl) in
      let steps = stays steps_in (clock + 1) (λ x. refl) in
      links_same (world_of (state_of t times (clock + 1) nodes links ds)) ends files lanes puts steps
      ∙ ap (λ (now : ℕ). record (world_of (state_of t times clock nodes links ds)) { clock = now; ends = λ n k. after_tick (settings_of (version_at t n) n k times) (end_in (link_at links n k)) (suc clock) }) plus

  tick_store_at : IsStore (state_of t times (clock + 1) nodes (map (ticked (clock + 1)) links) ds)
  tick_store_at = record {
    nodes = h.nodes;
    links = λ n k. h.links n k ∙ sym (ap (λ (g : ℕ → ℕ → Bool). g n k) (stays is_some (clock + 1) (λ x. refl)));
    keys = keys_map (ticked (clock + 1)) (λ x. refl) links ∙ h.keys;
    rising_nodes = h.rising_nodes;
    rising_links = ordered_map Links.ComesBefore (ticked (clock + 1)) (λ x y b. b) links h.rising_links;
    each_node = h.each_node;
    each_link = each_map (IsLinkOf t times) (ticked (clock + 1)) (λ x f. record { settings = f.settings; seat = f.seat; home = f.home; back = f.back; pulled = f.pulled }) links h.each_link;
    each_ends = λ m y q. ends_map t links (ticked (clock + 1)) (λ x. record { node = refl; peer = refl; seat = refl; settings = refl; pulled = λ b. b }) y (h.each_ends m y q);
    each_datagram = h.each_datagram;
  }

  pub tick_store : (now : ℕ) (after : List LinkView) → now ≡ clock + 1 → after ≡ map (ticked now) links → IsStore (state_of t times now nodes after ds)
  tick_store now after e f =
      subst (λ (m : ℕ). IsStore (state_of t times m nodes after ds)) (sym e) (subst (λ (xs : List LinkView). IsStore (state_of t times (clock + 1) nodes xs ds)) (sym (f ∙ ap (λ m. map (ticked m) links) e)) tick_store_at)

  pub tick_done : (now : ℕ) (after : List LinkView) → now ≡ clock + 1 → after ≡ map (ticked now) links → IsDone (world_of (state_of t times clock nodes links ds)) Tick (world_of (state_of t times now nodes after ds))
  tick_done now after e f = record {
    accepted = refl;
    world = ap₂ (λ (m : ℕ) (xs : List LinkView). world_of (state_of t times m nodes xs ds)) e (f ∙ ap (λ m. map (ticked m) links) e) ∙ tick_world;
  }

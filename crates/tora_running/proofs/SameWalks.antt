-- Heights, entries, hops and walks depend only on the topology and the cores. Whether a world is at rest depends on
-- ends and queues as well.
use Rattle.std.proofs.Common.{◌≡◌, ℕ, zero, suc, inl, inr, ⊎_elim, List, [], ◌∷◌, length, Option, Some, None, if◌then◌else◌, refl, sym, ap, ap₂, ◌∙◌, subst}
use Rattle.std.specs.Prelude.{◌==◌, ◌≤◌, option_map}
use Rattle.tora_height.specs.Height.{Quintuple}
use Rattle.tora_core.specs.CoreRun.{height_of, entry_of, hop_of}
use Rattle.tora_world.specs.Topology.{Topology, nodes_in, is_node, is_link}
use Rattle.tora_world.specs.World.{World}
use Rattle.tora_arq.specs.LinkEnd.{EndState, bound_life}
use Rattle.tora_seat.specs.declared.item.Item.{Item}
use Rattle.tora_seat.specs.declared.cargo.Cargo.{Cargo}
use Rattle.tora_arq.specs.Lives.{reversed}
use Rattle.tora_world.specs.Rest.{IsAtRest, EntriesAreHeights, LacksHeight, IsReached, itself, further, life_at}
use Rattle.tora_world.specs.Walks.{height_at, hop_at, entry_at, IsExact, LeadsOn, FallsFrom, walk_within, Arrives}

module _ (w v : World) (top : w.topology ≡ v.topology) (seats : w.seats ≡ v.seats) where
  height_same : (n d : ℕ) → height_at w n d ≡ height_at v n d
  height_same n d = ap₂ (λ t f. if is_node t n then height_of (f n).core d else None) top seats

  hop_same : (n d : ℕ) → hop_at w n d ≡ hop_at v n d
  hop_same n d = ap₂ (λ t f. if is_node t n then hop_of (f n).core d else None) top seats

  entry_same : (n k d : ℕ) → entry_at w n k d ≡ entry_at v n k d
  entry_same n k d = ap₂ (λ t f. if is_node t n then entry_of (f n).core d k else None) top seats

  pub same_exact : (d : ℕ) → IsExact v d → IsExact w d
  same_exact d h n k height e = height_same k d ∙ h n k height (sym (entry_same n k d) ∙ e)

  same_leads : (d n : ℕ) (nodes : List ℕ) → LeadsOn w d n nodes → LeadsOn v d n nodes
  same_leads d n [] h = h
  same_leads d n (k ∷ nodes) h = (h.0, sym (hop_same n d) ∙ h.1, same_leads d k nodes h.2)

  same_falls : (d n : ℕ) (nodes : List ℕ) → FallsFrom w d n nodes → FallsFrom v d n nodes
  same_falls d n [] h = tt
  same_falls d n (k ∷ nodes) h =
      (record { low = h.0.low; high = h.0.high; lower = sym (height_same k d) ∙ h.0.lower; upper = sym (height_same n d) ∙ h.0.upper; order = h.0.order }, same_falls d k nodes h.1)

  same_within : (hops n d : ℕ) → walk_within hops w n d ≡ walk_within hops v n d
  same_within zero n d = refl
  same_within (suc hops) n d =
      ap₂ (λ (hop : Option ℕ) (walk : ℕ → Option (List ℕ)). if n == d then Some (n ∷ []) else elim hop [ None ↦ None | Some k ↦ option_map (λ nodes. n ∷ nodes) (walk k) ]) (hop_same n d) (λ i k. same_within hops k d i)

  pub same_arrives : (n d : ℕ) → Arrives w n d → Arrives v n d
  same_arrives n d h = record {
    after = h.after;
    leads = same_leads d n h.after h.leads;
    within = subst (λ (t : Topology). length h.after ≤ length (nodes_in t.links)) top h.within;
    falls = same_falls d n h.after h.falls;
    walk = sym (same_within (length (nodes_in v.topology.links)) n d) ∙ ap (λ (t : Topology). walk_within (length (nodes_in t.links)) w n d) (sym top) ∙ h.walk;
  }

  pub same_height : (n d : ℕ) (height : Option (Option Quintuple)) → height_at v n d ≡ height → height_at w n d ≡ height
  same_height n d height e = height_same n d ∙ e

  pub same_lacks : (k d : ℕ) → LacksHeight w k d → LacksHeight v k d
  same_lacks k d h = sym (height_same k d) ∙ h

  pub same_entries : EntriesAreHeights w → EntriesAreHeights v
  same_entries h n k d entry e = ⊎_elim (λ x. inl (sym (height_same k d) ∙ x)) (λ x. inr (same_lacks k d x)) (h n k d entry (entry_same n k d ∙ e))

  pub same_reached : (d n k : ℕ) → IsReached w d n k → IsReached v d n k
  same_reached d n k itself = itself
  same_reached d n k (further {j = j} r e) = further (same_reached d n j r) (sym (entry_same j k d) ∙ e)

  life_same : (n k : ℕ) → life_at w n k ≡ life_at v n k
  life_same n k = ap₂ (λ t f. if is_link t n k then (f n).current k else None) top seats

  pub same_rest : w.items ≡ v.items → w.cargoes ≡ v.cargoes → w.ends ≡ v.ends → IsAtRest v → IsAtRest w
  same_rest items cargoes ends h = record {
    items = λ n e. ap (λ (f : ℕ → List Item). f n) items ∙ h.items n (ap (λ t. is_node t n) (sym top) ∙ e);
    idle = λ n k e. let x = h.idle n k (ap (λ t. is_link t n k) (sym top) ∙ e) in record {
      cargoes = ap (λ (f : ℕ → ℕ → List Cargo). f n k) cargoes ∙ x.cargoes;
      events = ap (λ (f : ℕ → ℕ → EndState). (f n k).events) ends ∙ x.events;
      queue = ap (λ (f : ℕ → ℕ → EndState). (f n k).queue) ends ∙ x.queue;
    };
    lives = λ n k e. let x = h.lives n k (ap (λ t. is_link t n k) (sym top) ∙ e) in record {
      same = life_same n k ∙ x.same ∙ ap (option_map reversed) (sym (life_same k n));
      bound = λ life q. ap (λ (f : ℕ → ℕ → EndState). bound_life (f n k)) ends ∙ x.bound life (sym (life_same n k) ∙ q);
    };
  }

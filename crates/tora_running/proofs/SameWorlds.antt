-- Heights, entries, walks and rest are the same in the world of the hosts and in that of their network.
use Rattle.std.proofs.Common.{◌≡◌, ℕ, Bool, true, false, true≢false, ◌||◌, List, [], ◌∷◌, Some, None, nat_eq, if◌then◌else◌, refl, sym, ap, ap₂, ◌∙◌, eqb-true}
use Rattle.std.specs.Prelude.{option_map}
use Rattle.tora_arq.specs.declared.times.Times.{Times}
use Rattle.tora_arq.specs.EndRange.{LinkEndView, link_end_of}
use Rattle.tora_arq.specs.LinkEnd.{EndState, bound_life}
use Rattle.tora_arq.specs.Lives.{reversed}
use Rattle.tora_arq.specs.Settings.{settings_of}
use Rattle.tora_core.specs.Numbers.{has_number}
use Rattle.tora_frame.specs.declared.parts.Version.{Version}
use Rattle.tora_router.specs.declared.link.Link.{Link}
use Rattle.tora_seat.specs.Serving.{SeatState}
use Rattle.tora_world.specs.Topology.{Topology, is_link}
use Rattle.tora_world.specs.World.{World}
use Rattle.tora_world.specs.Rest.{IsAtRest, life_at}
use Rattle.tora_running.specs.Network.{Network}
use Rattle.tora_running.specs.Laws as running
use Rattle.tora_running.proofs.SameWalks.{same_exact, same_arrives, same_height, same_lacks, same_entries, same_reached}
use Rattle.tora_running.specs.Hosts.{Hosts}
use Rattle.tora_running.specs.RouterLaws.{AreEnds, IsNetworkOf, end_to, shown, HoldsOfSound}

end_is : (version : Version) (n : ℕ) (times : Times) (ends : ℕ → EndState) (k : ℕ) (ks : List ℕ) (links : List Link) → AreEnds (λ j. link_end_of (settings_of version n j times) (ends j)) ks links → has_number k ks ≡ true → end_to k links ≡ ends k
end_is version n times ends k [] links h i = absurd (true≢false (sym i))
end_is version n times ends k (j ∷ ks) [] h i = absurd h
end_is version n times ends k (j ∷ ks) (link ∷ links) h i =
    ap (λ (x : LinkEndView). if nat_eq x.settings.peer k then x.state else end_to k links) h.0 ∙ go (nat_eq j k) refl (λ e. end_is version n times ends k ks links h.1 e)
  where
    go : (b : Bool) → nat_eq j k ≡ b → (has_number k ks ≡ true → end_to k links ≡ ends k) → (if b then ends j else end_to k links) ≡ ends k
    go true q more = ap ends (eqb-true j k q)
    go false q more = more (sym (ap (λ b. b || has_number k ks) q) ∙ i)

module _ (t : Topology) (times : Times) (hosts : Hosts) (network : Network) (is : IsNetworkOf t times hosts network) where
  abbrev w : World
  w = running.shown network

  abbrev v : World
  v = shown t times hosts

  top : w.topology ≡ v.topology
  top = is.topology

  seats : w.seats ≡ v.seats
  seats = λ i n. is.seats n i

  link_of : (n k : ℕ) → is_link w.topology n k ≡ true → is_link v.topology n k ≡ true
  link_of n k e = ap (λ (x : Topology). is_link x n k) (sym top) ∙ e

  same_end : (n k : ℕ) → is_link w.topology n k ≡ true → w.ends n k ≡ v.ends n k
  same_end n k e = sym (end_is _ n network.times (network.ends n) k _ (hosts n).router.links (is.ends n) e)

  same_life : (n k : ℕ) → life_at w n k ≡ life_at v n k
  same_life n k = ap₂ (λ (x : Topology) (f : ℕ → SeatState). if is_link x n k then (f n).current k else None) top seats

  rests : IsAtRest v → IsAtRest w
  rests h = record {
    items = λ n e. is.items n;
    idle = λ n k e. let x = h.idle n k (link_of n k e) in record {
      cargoes = is.cargoes n k;
      events = ap (λ (y : EndState). y.events) (same_end n k e) ∙ x.events;
      queue = ap (λ (y : EndState). y.queue) (same_end n k e) ∙ x.queue;
    };
    lives = λ n k e. let x = h.lives n k (link_of n k e) in record {
      same = same_life n k ∙ x.same ∙ ap (option_map reversed) (sym (same_life k n));
      bound = λ life q. ap bound_life (same_end n k e) ∙ x.bound life (sym (same_life n k) ∙ q);
    };
  }

  pub walks_arrive : running.HoldsOfSound running.WalksArrive t network → HoldsOfSound running.WalksArrive t times hosts
  walks_arrive law sound ids d n height exact e =
      same_arrives w v top seats n d (law sound ids d n height (same_exact w v top seats d exact) (same_height w v top seats n d (Some (Some height)) e))

  pub resting_entries : running.HoldsOfSound running.RestingEntriesAreHeights t network → HoldsOfSound running.RestingEntriesAreHeights t times hosts
  resting_entries law sound ids r = same_entries w v top seats (law sound ids (rests r))

  pub resting_routes : running.HoldsOfSound running.RestingRoutesArrive t network → HoldsOfSound running.RestingRoutesArrive t times hosts
  resting_routes law sound ids r d n height e all =
      same_arrives w v top seats n d (law sound ids (rests r) d n height (same_height w v top seats n d (Some (Some height)) e)
      (λ k reached lacks. all k (same_reached w v top seats d n k reached) (same_lacks w v top seats k d lacks)))

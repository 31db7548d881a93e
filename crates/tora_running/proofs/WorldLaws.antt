-- The laws of the free world, applied to a network.
use Rattle.std.proofs.Common.{◌≡◌, ℕ, true, List, [], Some, sym, ap, ap₂, ◌∙◌, subst}
use Rattle.tora_arq.specs.declared.life.Life.{Life}
use Rattle.tora_arq.specs.declared.times.Times.{Times}
use Rattle.tora_core.specs.declared.Input.{Input}
use Rattle.tora_core.specs.CoreRun.{core_after_all, has_destination}
use Rattle.tora_seat.specs.declared.cargo.Cargo.{Cargo}
use Rattle.tora_seat.specs.declared.item.Item.{Item}
use Rattle.tora_seat.specs.Serving.{SeatState, Parcel, serving_of}
use Rattle.tora_world.specs.Topology.{Topology, IsWithinLimits, neighbours_of, new_core, is_link}
use Rattle.tora_world.specs.Lists.{packets_of, parcels_in, Begins}
use Rattle.tora_arq.specs.Lives.{reversed}
use Rattle.tora_world.specs.World.{World, first_world}
use Rattle.tora_world.specs.FreeWorld.{after_schedule}
use Rattle.tora_world.specs.Law as world
use Rattle.tora_world.specs.Gaps as gaps
use Rattle.tora_world.specs.Gaps.{EveryEnd, broadcast_from}
use Rattle.tora_running.specs.Network.{Network}
use Rattle.tora_world.specs.Refusals.{OnlyNeedsAreRefused}
use Rattle.tora_world.specs.Rest.{IsAtRest}
use Rattle.tora_world.specs.Walks.{EveryWorld, AreIds}
use Rattle.tora_running.specs.Laws.{IsWorldOf, IsOfWorld, TakenBeginsSent, CoresFollow, IsWithoutGap, shown, RefusesOnlyNeeds, HoldsOfSound, WalksArrive, RestingEntriesAreHeights, RestingRoutesArrive}
use Rattle.tora_running.proofs.SameWalks.{same_exact, same_arrives, same_height, same_lacks, same_entries, same_reached, same_rest}

module _ (t : Topology) (times : Times) (network : Network) (h : IsOfWorld t times network) where
  abbrev w : World
  w = after_schedule h.0 (first_world t times)

  is : IsWorldOf network w
  is = h.1

  taken_begins : world.TakenBeginsSent w → TakenBeginsSent network
  taken_begins law a b life =
      subst (λ (f : ℕ → ℕ → List Parcel). Begins (packets_of (reversed life) (f b a)) (packets_of life (parcels_in (network.put a b)))) is.steps
      (subst (λ (f : ℕ → ℕ → List Cargo). Begins (packets_of (reversed life) (w.steps b a)) (packets_of life (parcels_in (f a b)))) is.put (law a b life))

  cores : world.CoresFollow t w → CoresFollow t network
  cores law n = ap (λ (f : ℕ → SeatState). (f n).core) (sym is.seats) ∙ law n ∙ ap (λ (f : ℕ → List (Input × ℕ)). core_after_all (new_core t n) (f n)) is.inputs

  gapless : ((n k : ℕ) → IsWithinLimits t → is_link t n k ≡ true → (life : Life) → (w.seats n).current k ≡ Some life → packets_of life (parcels_in (w.put n k)) ≡ broadcast_from k (new_core t n) (w.inputs n) []) → IsWithoutGap t network
  gapless law sound n k life link now =
      ap (λ (f : ℕ → ℕ → List Cargo). packets_of life (parcels_in (f n k))) (sym is.put) ∙ law n k sound link life (ap (λ (f : ℕ → SeatState). (f n).current k) is.seats ∙ now)
      ∙ ap (λ (f : ℕ → List (Input × ℕ)). broadcast_from k (new_core t n) (f n) []) is.inputs

pub taken_begins_sent : world.EveryRun (λ first es w. world.TakenBeginsSent w) → (t : Topology) (times : Times) (network : Network) → IsOfWorld t times network → TakenBeginsSent network
taken_begins_sent law t times network h = taken_begins t times network h (law t times h.0)

pub cores_follow : world.EveryRun (λ first es w. world.CoresFollow first.topology w) → (t : Topology) (times : Times) (network : Network) → IsOfWorld t times network → CoresFollow t network
cores_follow law t times network h = cores t times network h (law t times h.0)

pub without_gap : EveryEnd (λ t first es w n k. gaps.IsWithoutGap t first es w n k) → (t : Topology) (times : Times) (network : Network) → IsOfWorld t times network → IsWithoutGap t network
without_gap law t times network h = gapless t times network h (λ n k sound link. (law t times h.0 n k sound link).now)

pub refuses_only_needs : world.EveryRun (λ first es w. OnlyNeedsAreRefused w) → (t : Topology) (times : Times) (network : Network) → IsOfWorld t times network → RefusesOnlyNeeds network
refuses_only_needs law t times network h n answers item items error q r =
    let is = h.1 in
    let x = law t times h.0 n answers item items error (ap (λ (f : ℕ → List Item). f n) is.items ∙ q) (ap₂ (λ (u : Topology) (f : ℕ → SeatState). (serving_of answers (neighbours_of u n) (f n) item).answer) is.topology is.seats ∙ r) in
    (x.0, x.1, ap (λ (f : ℕ → SeatState). has_destination x.0 (f n).core.views) (sym is.seats) ∙ x.2, x.3)

module _ (t : Topology) (times : Times) (network : Network) (h : IsOfWorld t times network) (sound : IsWithinLimits t) (ids : AreIds t) where
  abbrev left : World
  left = after_schedule h.0 (first_world t times)

  top : left.topology ≡ network.topology
  top = h.1.topology

  seats : left.seats ≡ network.seats
  seats = h.1.seats

  walks : EveryWorld (λ w. WalksArrive w) → WalksArrive (shown network)
  walks law d n height exact e = same_arrives left (shown network) top seats n d (law t times h.0 sound ids d n height (same_exact left (shown network) top seats d exact) (same_height left (shown network) top seats n d (Some (Some height)) e))

  rests : IsAtRest (shown network) → IsAtRest left
  rests r = same_rest left (shown network) top seats h.1.items h.1.cargoes h.1.ends r

  resting_entries : EveryWorld (λ w. RestingEntriesAreHeights w) → RestingEntriesAreHeights (shown network)
  resting_entries law r = same_entries left (shown network) top seats (law t times h.0 sound ids (rests r))

  resting_routes : EveryWorld (λ w. RestingRoutesArrive w) → RestingRoutesArrive (shown network)
  resting_routes law r d n height e all =
      same_arrives left (shown network) top seats n d (law t times h.0 sound ids (rests r) d n height (same_height left (shown network) top seats n d (Some (Some height)) e)
      (λ k reached lacks. all k (same_reached left (shown network) top seats d n k reached) (same_lacks left (shown network) top seats k d lacks)))

pub walks_arrive : EveryWorld (λ w. WalksArrive w) → (t : Topology) (times : Times) (network : Network) → IsOfWorld t times network → HoldsOfSound WalksArrive t network
walks_arrive law t times network h sound ids = walks t times network h sound ids law

pub entries_are_heights : EveryWorld (λ w. RestingEntriesAreHeights w) → (t : Topology) (times : Times) (network : Network) → IsOfWorld t times network → HoldsOfSound RestingEntriesAreHeights t network
entries_are_heights law t times network h sound ids = resting_entries t times network h sound ids law

pub routes_arrive : EveryWorld (λ w. RestingRoutesArrive w) → (t : Topology) (times : Times) (network : Network) → IsOfWorld t times network → HoldsOfSound RestingRoutesArrive t network
routes_arrive law t times network h sound ids = resting_routes t times network h sound ids law

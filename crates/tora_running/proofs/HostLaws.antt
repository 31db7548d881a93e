-- The laws of running nodes, applied to the hosts.
use Rattle.std.proofs.Common.{ℕ, List, [], sym, ap, ◌∙◌, subst}
use Rattle.tora_arq.specs.declared.times.Times.{Times}
use Rattle.tora_arq.specs.Lives.{reversed}
use Rattle.tora_core.specs.declared.Input.{Input}
use Rattle.tora_core.specs.CoreRun.{core_after_all}
use Rattle.tora_seat.specs.declared.cargo.Cargo.{Cargo}
use Rattle.tora_seat.specs.Serving.{SeatState, Parcel}
use Rattle.tora_world.specs.Topology.{Topology, new_core}
use Rattle.tora_world.specs.Lists.{packets_of, parcels_in, Begins}
use Rattle.tora_world.specs.Gaps.{broadcast_from}
use Rattle.tora_running.specs.Network.{Network}
use Rattle.tora_running.specs.Laws as running
use Rattle.tora_running.specs.Hosts.{Hosts}
use Rattle.tora_running.specs.RouterLaws.{IsNetworkOf, TakenBeginsSent, CoresFollow, IsWithoutGap}

module _ (t : Topology) (times : Times) (hosts : Hosts) (w : Network) (is : IsNetworkOf t times hosts w) where
  pub taken_begins : running.TakenBeginsSent w → TakenBeginsSent hosts
  taken_begins law a b life =
      subst (λ (xs : List Parcel). Begins (packets_of (reversed life) xs) (packets_of life (parcels_in ((hosts a).history.put b)))) (is.steps b a)
      (subst (λ (cs : List Cargo). Begins (packets_of (reversed life) (w.steps b a)) (packets_of life (parcels_in cs))) (is.put a b) (law a b life))

  pub cores_follow : running.CoresFollow t w → CoresFollow t hosts
  cores_follow law n = sym (ap (λ (x : SeatState). x.core) (is.seats n)) ∙ law n ∙ ap (core_after_all (new_core t n)) (is.inputs n)

  pub without_gap : running.IsWithoutGap t w → IsWithoutGap t hosts
  without_gap law sound n k life link now =
      sym (ap (λ (cs : List Cargo). packets_of life (parcels_in cs)) (is.put n k)) ∙ law sound n k life link (ap (λ (x : SeatState). x.current k) (is.seats n) ∙ now)
      ∙ ap (λ (xs : List (Input × ℕ)). broadcast_from k (new_core t n) xs []) (is.inputs n)

-- Compressed cargoes, after more origins and more uncompressed cargoes were appended.
use Rattle.std.proofs.Common.{◌≡◌, ℕ, ◌+◌, ◌<◌, List, [], ◌∷◌, ◌++◌, map, length, drop, slice_get, Some, Option, refl, sym, ap, ◌∙◌, subst, arith, length-append}
use Rattle.std.specs.Prelude.{option_to_list}
use Rattle.std.specs.List.{AllByRecursion}
use Rattle.std.proofs.lemmas.List.{map-append}
use Rattle.std.proofs.lemmas.Option.{get_or_from_slice_get}
use Rattle.tora_height.specs.Height.{quintuple}
use Rattle.tora_packet.specs.PacketParts.{IsUpdate, update_of}
use Rattle.tora_packet.specs.declared.Packet.{Packet}
use Rattle.tora_packet.specs.declared.Packet.TheVariants.{Qry, Upd}
use Rattle.tora_arq.specs.declared.life.Life.{Life}
use Rattle.tora_seat.specs.declared.cargo.Cargo.{Cargo}
use Rattle.tora_seat.specs.declared.cargo.Cargo.TheVariants as Gives
use Rattle.tora_world.specs.Lists.{packets_of, parcels_in}
use Rattle.tora_sim.specs.declared.store.kept_cargoes.KeptCargo.{KeptCargo}
use Rattle.tora_sim.specs.declared.store.kept_cargoes.KeptCargo.TheVariants as Keeps
use Rattle.tora_sim.specs.Datagrams.{IsMore}
use Rattle.tora_sim.specs.declared.store.kept_cargoes.Origin.{Origin}
use Rattle.tora_sim.specs.KeptCargoes.{origin_in, tau_of, apart_in, cargo_in, IsKeptCargo}
use Rattle.tora_sim.proofs.SentFrames.{item_at, stays_at}
use Rattle.tora_sim.proofs.InTurn.{turn, put_in_turn}

module _ (origins : List Origin) (apart : List Cargo) (omore : List Origin) (amore : List Cargo) where
  cargo_stays : (kept : KeptCargo) → IsKeptCargo origins apart kept → cargo_in (origins ++ omore) (apart ++ amore) kept ≡ cargo_in origins apart kept
  cargo_stays (Keeps.Cut origin) h = ap (λ (o : Option Origin). Gives.Cut (origin_in o).life) (stays_at origins omore origin h)
  cargo_stays (Keeps.Qry origin destination) h = ap (λ (o : Option Origin). Gives.Packet (origin_in o).life (Qry destination)) (stays_at origins omore origin h.0)
  cargo_stays (Keeps.Upd r origin destination oid low high delta) h =
      ap (λ (o : Option Origin). Gives.Packet (origin_in o).life (Upd (update_of destination (quintuple (tau_of low high) oid r delta (origin_in o).id)))) (stays_at origins omore origin h.0)
  cargo_stays (Keeps.Apart place) h = ap apart_in (stays_at apart amore place h)

  kept_stays : (kept : KeptCargo) → IsKeptCargo origins apart kept → IsKeptCargo (origins ++ omore) (apart ++ amore) kept
  kept_stays (Keeps.Cut origin) h = omega (arith, h, length-append origins omore)
  kept_stays (Keeps.Qry origin destination) h = (omega (arith, h.0, length-append origins omore), h.1)
  kept_stays (Keeps.Upd r origin destination oid low high delta) h = (
    omega (arith, h.0, length-append origins omore),
    subst (λ (o : Option Origin). IsUpdate (update_of destination (quintuple (tau_of low high) oid r delta (origin_in o).id))) (sym (stays_at origins omore origin h.0)) h.1,
  )
  kept_stays (Keeps.Apart place) h = omega (arith, h, length-append apart amore)

  cargoes_stay : (cargoes : List KeptCargo) → AllByRecursion (IsKeptCargo origins apart) cargoes → map (cargo_in (origins ++ omore) (apart ++ amore)) cargoes ≡ map (cargo_in origins apart) cargoes
  cargoes_stay [] h = refl
  cargoes_stay (kept ∷ cargoes) h =
      ap (λ (c : Cargo). c ∷ map (cargo_in (origins ++ omore) (apart ++ amore)) cargoes) (cargo_stays kept h.0)
      ∙ ap (λ (cs : List Cargo). cargo_in origins apart kept ∷ cs) (cargoes_stay cargoes h.1)

  all_kept : (cargoes : List KeptCargo) (one : KeptCargo) → AllByRecursion (IsKeptCargo origins apart) cargoes → IsKeptCargo (origins ++ omore) (apart ++ amore) one
      → AllByRecursion (IsKeptCargo (origins ++ omore) (apart ++ amore)) (cargoes ++ one ∷ [])
  all_kept [] one h is = (is, tt)
  all_kept (kept ∷ cargoes) one h is = (kept_stays kept h.0, all_kept cargoes one h.1 is)

-- one more cargo, which is stored
module _ (origins after_origins : List Origin) (apart after_apart : List Cargo) (cargoes after : List KeptCargo) (kept : KeptCargo) (cargo : Cargo)
    (more_origins : IsMore origins after_origins) (more_apart : IsMore apart after_apart) (value : cargo_in after_origins after_apart kept ≡ cargo) (there : IsKeptCargo after_origins after_apart kept)
    (one : after ≡ cargoes ++ kept ∷ []) (h : AllByRecursion (IsKeptCargo origins apart) cargoes) where
  stay : map (cargo_in after_origins after_apart) cargoes ≡ map (cargo_in origins apart) cargoes
  stay =
      ap (λ (os : List Origin). map (cargo_in os after_apart) cargoes) more_origins.1
      ∙ ap (λ (cs : List Cargo). map (cargo_in (origins ++ more_origins.0) cs) cargoes) more_apart.1
      ∙ cargoes_stay origins apart more_origins.0 more_apart.0 cargoes h

  pub pushed : map (cargo_in after_origins after_apart) after ≡ map (cargo_in origins apart) cargoes ++ cargo ∷ []
  pushed =
      ap (map (cargo_in after_origins after_apart)) one
      ∙ map-append (cargo_in after_origins after_apart) cargoes (kept ∷ [])
      ∙ ap (λ (cs : List Cargo). cs ++ cargo_in after_origins after_apart kept ∷ []) stay
      ∙ ap (λ (c : Cargo). map (cargo_in origins apart) cargoes ++ c ∷ []) value

  pub pushed_kept : AllByRecursion (IsKeptCargo after_origins after_apart) after
  pushed_kept =
      let now : IsKeptCargo (origins ++ more_origins.0) (apart ++ more_apart.0) kept =
      subst (λ (cs : List Cargo). IsKeptCargo (origins ++ more_origins.0) cs kept) more_apart.1 (subst (λ (os : List Origin). IsKeptCargo os after_apart kept) more_origins.1 there) in
      subst (λ (ks : List KeptCargo). AllByRecursion (IsKeptCargo after_origins after_apart) ks) (sym one)
      (subst (λ (os : List Origin). AllByRecursion (IsKeptCargo os after_apart) (cargoes ++ kept ∷ [])) (sym more_origins.1)
      (subst (λ (cs : List Cargo). AllByRecursion (IsKeptCargo (origins ++ more_origins.0) cs) (cargoes ++ kept ∷ [])) (sym more_apart.1)
      (all_kept origins apart more_origins.0 more_apart.0 cargoes kept h now)))

-- the packets of the cargoes from index i on are the packet of cargo i and those of the cargoes after it
pub kept_in_turn : (life : Life) (cargoes : List Cargo) (i : ℕ) (o : Option Packet) → i < length cargoes
    → ((cargo : Cargo) → slice_get cargoes i ≡ Some cargo → option_to_list o ≡ packets_of life (parcels_in (cargo ∷ [])))
    → packets_of life (parcels_in (drop i cargoes)) ≡ option_to_list o ++ packets_of life (parcels_in (drop (i + 1) cargoes))
kept_in_turn life cargoes i o lt gives =
    let here = item_at cargoes i lt in
    turn (λ (cs : List Cargo). packets_of life (parcels_in cs)) (put_in_turn life) cargoes i here.0 o lt
    (sym (get_or_from_slice_get cargoes i here.0 here.0 here.1)) (gives here.0 here.1)

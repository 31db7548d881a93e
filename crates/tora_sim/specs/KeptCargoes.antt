-- Compressed cargoes: their origins (session, and node of the height) are in one list, and cargoes with large numbers
-- are in another, uncompressed.
use Rattle.std.specs.Prelude.{◌≡◌, ℕ, suc, ◌+◌, ◌*◌, ◌<◌, Bool, List, Option, None, Some, length, slice_get}
use Rattle.std.specs.Prelude.{if◌then◌else◌}
use Rattle.tora_height.specs.Height.{quintuple}
use Rattle.tora_packet.specs.PacketParts.{IsId, IsUpdate, update_of}
use Rattle.tora_packet.specs.declared.Packet.TheVariants.{Qry, Upd, Clr}
use Rattle.tora_seat.specs.declared.cargo.Cargo.{Cargo}
use Rattle.tora_seat.specs.declared.cargo.Cargo.TheVariants as Gives
use Rattle.tora_sim.specs.declared.store.kept_cargoes.KeptCargo.{KeptCargo}
use Rattle.tora_sim.specs.declared.store.kept_cargoes.KeptCargo.TheVariants as Keeps
use Rattle.tora_sim.specs.declared.store.kept_cargoes.Origin.{Origin}

-- the cargoes in order, and for how many more there is room: one or none
pub record CargoList : Type 0 where
  pub items : List Cargo
  pub places : ℕ

-- the compressed cargoes in order, and how many inline places are free
pub record KeptItems : Type 0 where
  pub items : List KeptCargo
  pub places : ℕ

-- the origin that was found, or a placeholder if there is none
abbrev pub origin_in : Option Origin → Origin
origin_in None = record { life = record { own = 0; peer = 0 }; id = 0 }
origin_in (Some origin) = origin

abbrev pub origin_at : List Origin → ℕ → Origin
origin_at origins number = origin_in (slice_get origins number)

-- the uncompressed cargo that was found, or a placeholder if there is none
abbrev pub apart_in : Option Cargo → Cargo
apart_in None = Gives.Cut (record { own = 0; peer = 0 })
apart_in (Some cargo) = cargo

-- the origin has the session of the cargo and, for an update, the node of the height
abbrev pub IsOrigin : Cargo → Origin → Type 0
IsOrigin (Gives.Packet life (Qry destination)) origin = origin.life ≡ life
IsOrigin (Gives.Packet life (Upd update)) origin = (origin.life ≡ life) × (origin.id ≡ update.height.id)
IsOrigin (Gives.Packet life (Clr clear)) origin = origin.life ≡ life
IsOrigin (Gives.Cut life) origin = origin.life ≡ life

-- the origin at this index is that of the cargo
abbrev pub HasOrigin : List Origin → ℕ → Cargo → Type 0
HasOrigin origins number cargo = (number < length origins) × IsOrigin cargo (origin_at origins number)

-- the time tag with these low 16 and high 8 bits
abbrev pub tau_of : ℕ → ℕ → ℕ
tau_of low high = 65536 * high + low

-- the cargo in compressed form is this one
abbrev pub cargo_in : List Origin → List Cargo → KeptCargo → Cargo
cargo_in origins apart (Keeps.Cut origin) = Gives.Cut (origin_at origins origin).life
cargo_in origins apart (Keeps.Qry origin destination) = Gives.Packet (origin_at origins origin).life (Qry destination)
cargo_in origins apart (Keeps.Upd r origin destination oid low high delta) =
    Gives.Packet (origin_at origins origin).life (Upd (update_of destination
    (quintuple (tau_of low high) oid r delta (origin_at origins origin).id)))
cargo_in origins apart (Keeps.Apart place) = apart_in (slice_get apart place)

-- the index is that of an origin or an uncompressed cargo, and the packet is within its ranges
abbrev pub IsKeptCargo : List Origin → List Cargo → KeptCargo → Type 0
IsKeptCargo origins apart (Keeps.Cut origin) = origin < length origins
IsKeptCargo origins apart (Keeps.Qry origin destination) = (origin < length origins) × IsId destination
IsKeptCargo origins apart (Keeps.Upd r origin destination oid low high delta) =
    (origin < length origins) × IsUpdate (update_of destination (quintuple (tau_of low high) oid r delta
    (origin_at origins origin).id))
IsKeptCargo origins apart (Keeps.Apart place) = place < length apart

-- the compressed form of a cargo whose origin has this index, for any lists in which that origin is at the index
pub record IsShort (number : ℕ) (cargo : Cargo) (kept : KeptCargo) : Type 0 where
  pub value : (origins : List Origin) (apart : List Cargo) → HasOrigin origins number cargo
      → cargo_in origins apart kept ≡ cargo
  pub within : (origins : List Origin) (apart : List Cargo) → HasOrigin origins number cargo
      → IsKeptCargo origins apart kept

-- the last origin of a list, if there is one, is this one
abbrev pub IsLastOrigin : Origin → List Origin → Type 0
IsLastOrigin last origins = (n : ℕ) → suc n ≡ length origins → slice_get origins n ≡ Some last

abbrev pub one_if : Bool → ℕ
one_if spare = if spare then 1 else 0

-- Packets by the sessions in which they are sent.
use Rattle.std.specs.Prelude.{◌≡◌, ◌⊎◌, if◌then◌else◌, List, [], ◌∷◌, ◌++◌}
use Rattle.tora_packet.specs.declared.Packet.{Packet}
use Rattle.tora_arq.specs.declared.life.Life.{Life}
use Rattle.tora_arq.specs.Lives.{is_same_life}
use Rattle.tora_seat.specs.declared.cargo.Cargo.{Cargo}
use Rattle.tora_seat.specs.declared.cargo.Cargo.TheVariants as Gives
use Rattle.tora_seat.specs.Serving.{Parcel}

abbrev pub parcel_of : Life → Packet → Parcel
parcel_of life packet = record { life = life; packet = packet }

-- the packet, if it is of this session
abbrev pub packet_where : Life → Parcel → List Packet
packet_where life x = if is_same_life life x.life then x.packet ∷ [] else []

-- the packets of one session, in order
abbrev pub packets_of : Life → List Parcel → List Packet
packets_of life [] = []
packets_of life (x ∷ xs) = packet_where life x ++ packets_of life xs

-- the packets among outbound messages, with their sessions
abbrev pub parcels_in : List Cargo → List Parcel
parcels_in [] = []
parcels_in (Gives.Packet life packet ∷ cargoes) = parcel_of life packet ∷ parcels_in cargoes
parcels_in (Gives.Cut life ∷ cargoes) = parcels_in cargoes

-- one list is a prefix of another
abbrev pub Begins : List Packet → List Packet → Type 0
Begins xs ys = (rest : List Packet) × (xs ++ rest ≡ ys)

abbrev pub IsIn : {A : Type 0} → A → List A → Type 0
IsIn x [] = ⊥
IsIn x (y ∷ ys) = (x ≡ y) ⊎ IsIn x ys

-- a property holds for each item
abbrev pub Each : {A : Type 0} → (A → Type 0) → List A → Type 0
Each P [] = Unit {0}
Each P (x ∷ xs) = P x × Each P xs

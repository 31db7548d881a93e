-- The packets of a session among items, item by item.
use Rattle.std.proofs.Common.{◌≡◌, refl, sym, ap, ◌∙◌, ℕ, ◌+◌, ◌<◌, true, false, List, [], ◌∷◌, ◌++◌, length, drop, get_or, arith, Option, Some, None, is_some}
use Rattle.std.specs.Prelude.{option_to_list}
use Rattle.std.proofs.lemmas.List.{at_drop_more, append_assoc, append-nil}
use Rattle.tora_packet.specs.declared.Packet.{Packet}
use Rattle.tora_arq.specs.declared.life.Life.{Life}
use Rattle.tora_seat.specs.declared.cargo.Cargo.{Cargo}
use Rattle.tora_seat.specs.declared.cargo.Cargo.TheVariants as Gives
use Rattle.tora_world.specs.Lists.{packets_of, parcels_in, packet_where, parcel_of}

-- the result for a list is that for its first item, followed by that for the others
abbrev pub IsInTurn : {X : Type 0} → (List X → List Packet) → Type 0
IsInTurn {X} F = (x : X) (xs : List X) → F (x ∷ xs) ≡ F (x ∷ []) ++ F xs

pub put_in_turn : (life : Life) → IsInTurn (λ (cargoes : List Cargo). packets_of life (parcels_in cargoes))
put_in_turn life (Gives.Packet other packet) cargoes =
    ap (λ ps. ps ++ packets_of life (parcels_in cargoes)) (sym (append-nil (packet_where life (parcel_of other packet))))
put_in_turn life (Gives.Cut other) cargoes = refl

pub turn : {X : Type 0} → (F : List X → List Packet) → IsInTurn F → (xs : List X) (i : ℕ) (x : X) (o : Option Packet)
    → i < length xs → x ≡ get_or xs i x → option_to_list o ≡ F (x ∷ []) → F (drop i xs) ≡ option_to_list o ++ F (drop (i + 1) xs)
turn F in_turn xs i x o lt is gives =
    at_drop_more F xs i x lt ∙ ap (λ y. F (y ∷ drop (i + 1) xs)) (sym is) ∙ in_turn x (drop (i + 1) xs) ∙ ap (λ ps. ps ++ F (drop (i + 1) xs)) (sym gives)

pub one_more : (o : Option Packet) (ps : List Packet) → is_some o ≡ true → length (option_to_list o ++ ps) ≡ 1 + length ps
one_more None ps e = absurd cc
one_more (Some p) ps e = omega arith

pub none_more : (o : Option Packet) (ps : List Packet) → is_some o ≡ false → length (option_to_list o ++ ps) ≡ length ps
none_more None ps e = refl
none_more (Some p) ps e = absurd cc

pub put_more : (items new more rest all : List Packet) (o : Option Packet) (p : Packet) → o ≡ Some p → new ≡ items ++ p ∷ [] → more ≡ option_to_list o ++ rest → items ++ more ≡ all → new ++ rest ≡ all
put_more items new more rest all o p is put gives e =
    ap (λ ps. ps ++ rest) put ∙ append_assoc items (p ∷ []) rest ∙ sym (ap (λ ps. items ++ ps) (gives ∙ ap (λ q. option_to_list q ++ rest) is)) ∙ e

pub put_none : (items new more rest all : List Packet) (o : Option Packet) → o ≡ None → new ≡ items → more ≡ option_to_list o ++ rest → items ++ more ≡ all → new ++ rest ≡ all
put_none items new more rest all o is same gives e =
    ap (λ ps. ps ++ rest) same ∙ sym (ap (λ ps. items ++ ps) (gives ∙ ap (λ q. option_to_list q ++ rest) is)) ∙ e

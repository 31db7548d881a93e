-- The packets of a frame: how many bytes they have, and their two laws.
use Rattle.std.proofs.Common.{◌≡◌, ℕ, zero, suc, ◌+◌, ◌*◌, ◌<◌, ◌≤◌, Bool, true, false, cond, eqb, List, [], ◌∷◌, ◌++◌, length, take, drop, Option, Some, None, Result, Ok, Err, ◌-◌, MatchOption, IsOk, refl, sym, ap, ◌∙◌, arith}
use Rattle.std.specs.List.{AllByRecursion}
use Rattle.std.proofs.lemmas.Bool.{eqb-true}
use Rattle.std.proofs.lemmas.List.{length-append}
use Rattle.std.proofs.lemmas.List.Sums.{sum_by-cons}
use Rattle.tora_packet.specs.declared.Packet.{Packet}
use Rattle.tora_packet.specs.declared.Packet.TheVariants.{Qry, Upd, Clr}
use Rattle.tora_packet.specs.declared.PacketError.{PacketError}
use Rattle.tora_packet.specs.AnyPacket.{IsPacket}
use Rattle.tora_packet.specs.declared.lengths.TheConstants.{SHORTEST_PACKET, LONGEST_PACKET}
use Rattle.tora_packet.specs.PacketGrammar.{packet_spelling, packet_length, packet_fault, packet_at, packet_or, packet_reading, length_of, kind_of, begins_packet, first_packet, behind_first}
use Rattle.tora_packet.proofs.Fields.{IsBytes, joined}
use Rattle.tora_packet.proofs.GrammarLaws as packets
use Rattle.tora_packet.specs.declared.PacketError.TheVariants.{Long}
use Rattle.tora_frame.specs.declared.FrameError.{FrameError}
use Rattle.tora_frame.specs.declared.FrameError.TheVariants as Fault
use Rattle.tora_frame.specs.FrameGrammar.{packets_length, packets_spelling, refused_packet, fault_or, whole_packet_fault, whole_packet_at, packets_fault, packets_at}
use Rattle.tora_frame.proofs.FrameFields.{neither, drop_bytes, take_bytes}

-- ---- lengths

pub length-packets_spelling : (ps : List Packet) → length (packets_spelling ps) ≡ packets_length ps
length-packets_spelling [] = refl
length-packets_spelling (p ∷ ps) =
    omega (arith, length-append (packet_spelling p) (packets_spelling ps), packets.length-packet_spelling p, length-packets_spelling ps, sum_by-cons packet_length p ps)

pub packets_length_least : (ps : List Packet) → SHORTEST_PACKET * length ps ≤ packets_length ps
packets_length_least [] = omega arith
packets_length_least (p ∷ ps) = omega (arith, packets.packet_length_least p, packets_length_least ps, sum_by-cons packet_length p ps)

pub packets_length_most : (ps : List Packet) → packets_length ps ≤ LONGEST_PACKET * length ps
packets_length_most [] = omega arith
packets_length_most (p ∷ ps) = omega (arith, packets.packet_length_most p, packets_length_most ps, sum_by-cons packet_length p ps)

-- ---- the first packet

front_and_rest : (n : ℕ) (bytes : List ℕ) → take n bytes ++ drop (length (take n bytes)) bytes ≡ bytes
front_and_rest zero bytes = refl
front_and_rest (suc n) [] = refl
front_and_rest (suc n) (b ∷ bytes) = ap (λ (xs : List ℕ). b ∷ xs) (front_and_rest n bytes)

all_and_none : (bytes : List ℕ) → bytes ++ drop (length bytes) bytes ≡ bytes
all_and_none [] = refl
all_and_none (b ∷ bytes) = ap (λ (xs : List ℕ). b ∷ xs) (all_and_none bytes)

-- a property of the front and of the whole list holds for either choice
chosen : (P : List ℕ → Type 0) (b : Bool) (front all : List ℕ) → P front → P all → P (cond b front all)
chosen P true front all h k = h
chosen P false front all h k = k

pub first_and_behind : (bytes : List ℕ) → first_packet bytes ++ behind_first bytes ≡ bytes
unfolding first_packet
first_and_behind bytes =
    chosen (λ first. first ++ drop (length first) bytes ≡ bytes) (begins_packet bytes) (take (length_of (kind_of bytes)) bytes) bytes
    (front_and_rest (length_of (kind_of bytes)) bytes) (all_and_none bytes)

first_bytes : (bytes : List ℕ) → IsBytes bytes → IsBytes (first_packet bytes)
unfolding first_packet
first_bytes bytes fits =
    chosen IsBytes (begins_packet bytes) (take (length_of (kind_of bytes)) bytes) bytes (take_bytes bytes (length_of (kind_of bytes)) fits) fits

-- a packet is the first of the bytes that begin with it
first_again : (p : Packet) (rest : List ℕ) → first_packet (packet_spelling p ++ rest) ≡ packet_spelling p
unfolding first_packet
first_again (Qry q) rest = refl
first_again (Upd u) rest = refl
first_again (Clr c) rest = refl

drop_again : (p : Packet) (rest : List ℕ) → drop (length (packet_spelling p)) (packet_spelling p ++ rest) ≡ rest
drop_again (Qry q) rest = refl
drop_again (Upd u) rest = refl
drop_again (Clr c) rest = refl

behind_again : (p : Packet) (rest : List ℕ) → behind_first (packet_spelling p ++ rest) ≡ rest
behind_again p rest = ap (λ (first : List ℕ). drop (length first) (packet_spelling p ++ rest)) (first_again p rest) ∙ drop_again p rest

-- ---- decoded values are encodings

no_refusal : (f : Option PacketError) → refused_packet f ≡ None → f ≡ None
no_refusal None h = refl
no_refusal (Some e) h = absurd cc

-- the packet that all of the bytes together are
pub packet_spelt : (bytes : List ℕ) → IsBytes bytes → whole_packet_fault bytes ≡ None → bytes ≡ packet_spelling (whole_packet_at bytes)
unfolding whole_packet_fault whole_packet_at
packet_spelt bytes fits h = packets.spelt bytes fits (no_refusal (packet_fault bytes) h)

pub packets_spelt : (many : ℕ) (bytes : List ℕ) → IsBytes bytes → packets_fault many bytes ≡ None → bytes ≡ packets_spelling (packets_at many bytes)
unfolding packets_fault packets_at
packets_spelt zero [] fits h = refl
packets_spelt zero (b ∷ bytes) fits h = absurd cc
packets_spelt (suc many) bytes fits h =
    let n = neither (whole_packet_fault (first_packet bytes)) (packets_fault many (behind_first bytes)) h in
    let first = packet_spelt (first_packet bytes) (first_bytes bytes fits) n.0 in
    let rest = packets_spelt many (behind_first bytes) (drop_bytes bytes (length (first_packet bytes)) fits) n.1 in
    sym (first_and_behind bytes) ∙ joined first rest

pub length-packets_at : (many : ℕ) (bytes : List ℕ) → length (packets_at many bytes) ≡ many
unfolding packets_at
length-packets_at zero bytes = refl
length-packets_at (suc many) bytes = ap suc (length-packets_at many (behind_first bytes))

-- ---- encodings are decoded

abbrev pub ReadAgain : List Packet → Type 0
ReadAgain ps = (packets_fault (length ps) (packets_spelling ps) ≡ None) × (packets_at (length ps) (packets_spelling ps) ≡ ps)

pub packet_again : (p : Packet) → IsPacket p → (whole_packet_fault (packet_spelling p) ≡ None) × (whole_packet_at (packet_spelling p) ≡ p)
unfolding whole_packet_fault whole_packet_at
packet_again p ok =
    let a = packets.read_again (packet_spelling p) p (record { valid = ok; bytes_are = refl }) in
    (ap refused_packet a.0, a.1)

one_again : (p : Packet) (rest : List ℕ) → IsPacket p → (whole_packet_fault (first_packet (packet_spelling p ++ rest)) ≡ None) × (whole_packet_at (first_packet (packet_spelling p ++ rest)) ≡ p)
one_again p rest ok = rw (first_again p rest) (packet_again p ok)

pub packets_again : (ps : List Packet) → AllByRecursion IsPacket ps → ReadAgain ps
unfolding packets_fault packets_at
packets_again [] ok = (refl, refl)
packets_again (p ∷ ps) ok =
    let one = one_again p (packets_spelling ps) ok.0 in
    let more = packets_again ps ok.1 in
    let behind = behind_again p (packets_spelling ps) in
    (rw (one.0, behind) more.0, rw (one.1, behind, more.1) refl)

-- ---- the packet that was read

abbrev made : Packet → Result Packet PacketError
made p = Ok p

abbrev refused : PacketError → Result Packet PacketError
refused e = Err e

read_by : (f : Option PacketError) (q p : Packet) → made p ≡ packet_or f q → (refused_packet f ≡ None) × (q ≡ p)
read_by None q p h = (refl, cc)
read_by (Some e) q p h = absurd cc

refused_by : (f : Option PacketError) (q : Packet) (e : PacketError) → refused e ≡ packet_or f q → refused_packet f ≡ Some (Fault.Packet e)
refused_by None q e h = absurd cc
refused_by (Some x) q e h = cc

pub read_as : (bytes : List ℕ) (p : Packet) → made p ≡ packet_reading bytes → (whole_packet_fault bytes ≡ None) × (whole_packet_at bytes ≡ p)
unfolding packet_reading whole_packet_fault whole_packet_at
read_as bytes p h = read_by (packet_fault bytes) (packet_at bytes) p h

pub refused_as : (bytes : List ℕ) (e : PacketError) → refused e ≡ packet_reading bytes → whole_packet_fault bytes ≡ Some (Fault.Packet e)
unfolding packet_reading whole_packet_fault
refused_as bytes e h = refused_by (packet_fault bytes) (packet_at bytes) e h

-- ---- reading packet by packet

-- a value that is read if there is no fault, and the fault otherwise
abbrev pub Reads : {A : Type 0} → Option FrameError → A → Result A FrameError → Type 0
Reads f x r = MatchOption f (r ≡ Ok x) (λ e. r ≡ Err e)

abbrev pub stopped : FrameError → Result (Unit {0}) FrameError
stopped e = Err e

-- a packet that is refused is the fault of the packets from there on
pub stops : (f g : Option FrameError) (q : Packet) (x : FrameError) → Reads f q (Err x) → MatchOption (fault_or f g) (IsOk (stopped x)) (λ e. stopped x ≡ Err e)
stops None g q x h = absurd cc
stops (Some e) g q x h = cc

pub goes_on : (f : Option FrameError) (q p : Packet) → Reads f q (Ok p) → (f ≡ None) × (p ≡ q)
goes_on None q p h = (refl, cc)
goes_on (Some e) q p h = absurd cc

-- the first of the remaining packets
pub next_fault : (many done : ℕ) (rest : List ℕ) → done < many → packets_fault (many - done) rest ≡ fault_or (whole_packet_fault (first_packet rest)) (packets_fault (many - (done + 1)) (behind_first rest))
unfolding packets_fault
next_fault many done rest more =
    let e : many - done ≡ suc (many - (done + 1)) = omega arith in
    rw e refl

pub next_at : (many done : ℕ) (rest : List ℕ) → done < many → packets_at (many - done) rest ≡ whole_packet_at (first_packet rest) ∷ packets_at (many - (done + 1)) (behind_first rest)
unfolding packets_at
next_at many done rest more =
    let e : many - done ≡ suc (many - (done + 1)) = omega arith in
    rw e refl

-- no packet is left
pub fault_at_end : (rest : List ℕ) → eqb (length rest) 0 ≡ false → packets_fault 0 rest ≡ Some (Fault.Packet Long)
unfolding packets_fault
fault_at_end [] h = absurd cc
fault_at_end (b ∷ rest) h = refl

pub no_fault_at_end : (rest : List ℕ) → eqb (length rest) 0 ≡ true → packets_fault 0 rest ≡ None
unfolding packets_fault
no_fault_at_end [] h = refl
no_fault_at_end (b ∷ rest) h = absurd (omega (arith, eqb-true _ _ h))

pub none_left : (rest : List ℕ) → packets_at 0 rest ≡ []
unfolding packets_at
none_left rest = refl

pub all_push : (ps : List Packet) (p : Packet) → AllByRecursion IsPacket ps → IsPacket p → AllByRecursion IsPacket (ps ++ p ∷ [])
all_push [] p all ok = (ok, tt)
all_push (q ∷ ps) p all ok = (all.0, all_push ps p all.1 ok)

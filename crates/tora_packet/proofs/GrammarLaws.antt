-- The two laws: the bytes are the encoding of the decoded value, and every encoding decodes to its value.
use Rattle.std.proofs.Common.{◌≡◌, ◌⊎◌, ℕ, ◌^◌, ◌<◌, ◌≤◌, Bool, true, false, ltb, eqb, List, [], ◌∷◌, ◌++◌, length, get_or, drop, Some, None, Result, Ok, Err, refl, sym, ap, ◌∙◌, arith, inl, inr, ◌&&◌, ◌==◌, pos, to_z, of_z, MatchOption, IfOk, IsOk}
use Rattle.std.specs.Prelude.{slice_range, int_lt}
use Rattle.std.specs.Int.{w32, to_be_bytes}
use Rattle.std.proofs.lemmas.Bool.{le-ltb, eqb-true}
use Rattle.std.proofs.lemmas.Bool.Decides.{nat_tests}
use Rattle.std.proofs.lemmas.Int.{ints, of_z-to_z}
use Rattle.std.proofs.lemmas.List.{nil_from_length, length-drop, length-append, append-nil, get_or_append_left}
use Rattle.std.proofs.lemmas.Nat.{from_be_bytes-to_be_bytes_4, from_be_bytes-to_be_bytes_8}
use Rattle.tora_height.proofs.Ranges.{height_has_no_fault}
use Rattle.tora_packet.specs.PacketParts.{UpdateParts, ClearParts, IsId, IsUpdate, IsClear, is_bad_update, is_bad_clear}
use Rattle.tora_packet.specs.AnyPacket.{IsPacket}
use Rattle.tora_packet.specs.PacketGrammar.{packet_spelling, packet_length, SpellsPacket}
use Rattle.tora_packet.specs.PacketGrammar.{u32_at, u64_at, kind_of, is_kind, length_of, is_zero_at, height_at, packet_fault}
use Rattle.tora_packet.specs.PacketGrammar.{packet_at, packet_or, packet_reading}
use Rattle.tora_packet.specs.declared.Packet.{Packet}
use Rattle.tora_packet.specs.declared.Packet.TheVariants.{Qry, Upd, Clr}
use Rattle.tora_packet.specs.declared.PacketError.{PacketError}
use Rattle.tora_packet.specs.declared.lengths.TheConstants.{SHORTEST_PACKET, LONGEST_PACKET}
use Rattle.tora_packet.proofs.Fields.{IsBytes, IsSound, sound, no_fault, step, number_back, wide_back, number_fits, four_at, joined}

-- the encoding of a packet has the length of its kind
pub length-packet_spelling : (p : Packet) → length (packet_spelling p) ≡ packet_length p
length-packet_spelling (Qry q) = refl
length-packet_spelling (Upd u) = refl
length-packet_spelling (Clr c) = refl

pub packet_length_least : (p : Packet) → SHORTEST_PACKET ≤ packet_length p
packet_length_least (Qry q) = omega arith
packet_length_least (Upd u) = omega arith
packet_length_least (Clr c) = omega arith

pub packet_length_most : (p : Packet) → packet_length p ≤ LONGEST_PACKET
packet_length_most (Qry q) = omega arith
packet_length_most (Upd u) = omega arith
packet_length_most (Clr c) = omega arith

kinds : (k : ℕ) → is_kind k ≡ true → (k ≡ 1) ⊎ (k ≡ 2) ⊎ (k ≡ 3)
kinds k h = grind (arith, nat_tests)

and_first : (a b : Bool) → a && b ≡ true → (a ≡ true) × (b ≡ true)
and_first true b h = (refl, h)
and_first false b h = absurd cc

ended : (bytes : List ℕ) (n : ℕ) → length bytes ≡ n → drop n bytes ≡ []
ended bytes n h = nil_from_length (drop n bytes) (simp length-drop (omega arith))

front : (bytes : List ℕ) (k : ℕ) → IsSound bytes → kind_of bytes ≡ k → 4 ≤ length bytes → slice_range bytes 0 4 ≡ 1 ∷ k ∷ 0 ∷ 0 ∷ []
front bytes k s e h =
    let z = and_first (is_zero_at 2 bytes && is_zero_at 3 bytes) _ s.kept in
    let y = and_first (is_zero_at 2 bytes) (is_zero_at 3 bytes) z.0 in
    four_at bytes 0 1 k 0 0 h s.version e (eqb-true _ _ y.0) (eqb-true _ _ y.1)

spelt_qry : (bytes : List ℕ) → IsBytes bytes → IsSound bytes → kind_of bytes ≡ 1 → bytes ≡ packet_spelling (packet_at bytes)
spelt_qry bytes fits s e =
    let len : length bytes ≡ 8 = s.len ∙ rw e refl in
    let parted = step bytes 0 4 ∙ joined (front bytes 1 s e (omega arith)) (step bytes 4 4 ∙ joined (number_back bytes 4 fits (omega arith)) (ended bytes 8 len)) in
    rw e parted

spelt_clr : (bytes : List ℕ) → IsBytes bytes → IsSound bytes → kind_of bytes ≡ 3 → bytes ≡ packet_spelling (packet_at bytes)
spelt_clr bytes fits s e =
    let len : length bytes ≡ 20 = s.len ∙ rw e refl in
    let parted = step bytes 0 4 ∙ joined (front bytes 3 s e (omega arith)) (step bytes 4 4 ∙ joined (number_back bytes 4 fits (omega arith))
    (step bytes 8 8 ∙ joined (wide_back bytes 8 fits (omega arith)) (step bytes 16 4 ∙ joined (number_back bytes 16 fits (omega arith)) (ended bytes 20 len)))) in
    rw e parted

spelt_upd : (bytes : List ℕ) → IsBytes bytes → IsSound bytes → kind_of bytes ≡ 2 → bytes ≡ packet_spelling (packet_at bytes)
spelt_upd bytes fits s e =
    let len : length bytes ≡ 32 = s.len ∙ rw e refl in
    let z = (and_first (is_zero_at 2 bytes && is_zero_at 3 bytes) _ s.kept).1 in
    let y = and_first (is_zero_at 21 bytes && is_zero_at 22 bytes) (is_zero_at 23 bytes) (rw e at z) in
    let x = and_first (is_zero_at 21 bytes) (is_zero_at 22 bytes) y.0 in
    let delta : of_z w32 (to_z w32 (u32_at 24 bytes)) ≡ u32_at 24 bytes = of_z-to_z w32 (u32_at 24 bytes) (number_fits bytes 24 fits) in
    let delta_back = number_back bytes 24 fits (omega arith) ∙ ap (to_be_bytes w32) (sym delta) in
    let parted = step bytes 0 4 ∙ joined (front bytes 2 s e (omega arith)) (step bytes 4 4 ∙ joined (number_back bytes 4 fits (omega arith))
    (step bytes 8 8 ∙ joined (wide_back bytes 8 fits (omega arith)) (step bytes 16 4 ∙ joined (number_back bytes 16 fits (omega arith))
    (step bytes 20 4 ∙ joined (four_at bytes 20 (get_or bytes 20 0) 0 0 0 (omega arith) refl (eqb-true _ _ x.0) (eqb-true _ _ x.1) (eqb-true _ _ y.1))
    (step bytes 24 4 ∙ joined delta_back (step bytes 28 4 ∙ joined (number_back bytes 28 fits (omega arith)) (ended bytes 32 len))))))) in
    rw e parted

pub spelt : (bytes : List ℕ) → IsBytes bytes → packet_fault bytes ≡ None → bytes ≡ packet_spelling (packet_at bytes)
spelt bytes fits h =
    let s = sound bytes h in
    elim (kinds (kind_of bytes) s.kind) [
      | inl e ↦ spelt_qry bytes fits s e
      | inr r ↦ elim r [
        | inl e ↦ spelt_upd bytes fits s e
        | inr e ↦ spelt_clr bytes fits s e
      ]
    ]

-- ---- encodings are decoded

qry_number : (n : ℕ) → n < 2 ^ 32 → u32_at 4 (packet_spelling (Qry n)) ≡ n
unfolding u32_at
qry_number n h = from_be_bytes-to_be_bytes_4 n h

clr_number : (c : ClearParts) → c.destination < 2 ^ 32 → u32_at 4 (packet_spelling (Clr c)) ≡ c.destination
unfolding u32_at
clr_number c h = from_be_bytes-to_be_bytes_4 c.destination h

clr_tau : (c : ClearParts) → c.tau < 2 ^ 64 → u64_at 8 (packet_spelling (Clr c)) ≡ c.tau
unfolding u64_at
clr_tau c h = from_be_bytes-to_be_bytes_8 c.tau h

clr_oid : (c : ClearParts) → c.oid < 2 ^ 32 → u32_at 16 (packet_spelling (Clr c)) ≡ c.oid
unfolding u32_at
clr_oid c h = from_be_bytes-to_be_bytes_4 c.oid h

upd_number : (u : UpdateParts) → u.destination < 2 ^ 32 → u32_at 4 (packet_spelling (Upd u)) ≡ u.destination
unfolding u32_at
upd_number u h = from_be_bytes-to_be_bytes_4 u.destination h

upd_tau : (u : UpdateParts) → u.height.tau < 2 ^ 64 → u64_at 8 (packet_spelling (Upd u)) ≡ u.height.tau
unfolding u64_at
upd_tau u h = from_be_bytes-to_be_bytes_8 u.height.tau h

upd_oid : (u : UpdateParts) → u.height.oid < 2 ^ 32 → u32_at 16 (packet_spelling (Upd u)) ≡ u.height.oid
unfolding u32_at
upd_oid u h = from_be_bytes-to_be_bytes_4 u.height.oid h

upd_delta : (u : UpdateParts) → of_z w32 u.height.delta < 2 ^ 32 → u32_at 24 (packet_spelling (Upd u)) ≡ of_z w32 u.height.delta
unfolding u32_at
upd_delta u h = from_be_bytes-to_be_bytes_4 (of_z w32 u.height.delta) h

upd_id : (u : UpdateParts) → u.height.id < 2 ^ 32 → u32_at 28 (packet_spelling (Upd u)) ≡ u.height.id
unfolding u32_at
upd_id u h = from_be_bytes-to_be_bytes_4 u.height.id h

again_qry : (n : ℕ) → IsId n → (packet_fault (packet_spelling (Qry n)) ≡ None) × (packet_at (packet_spelling (Qry n)) ≡ Qry n)
again_qry n ok =
    let d = qry_number n ok.1 in
    let z : eqb (u32_at 4 (packet_spelling (Qry n))) 0 ≡ false = rw d (grind (arith, nat_tests)) in
    (no_fault (packet_spelling (Qry n)) (record { long = omega arith; version = refl; kind = refl; len = refl; kept = refl; value = rw z refl }), ap Qry d)

not_bad_clear : (c : ClearParts) → IsClear c → is_bad_clear c.tau c.oid ≡ false
unfolding is_bad_clear
not_bad_clear c ok =
    let a : eqb c.tau 0 ≡ false = grind (arith, nat_tests) in
    let b : ltb (2 ^ 62) c.tau ≡ false = le-ltb _ _ ok.tau.1 in
    let d : eqb c.oid 0 ≡ false = grind (arith, nat_tests) in
    rw (a, b, d) refl

again_clr : (c : ClearParts) → IsClear c → (packet_fault (packet_spelling (Clr c)) ≡ None) × (packet_at (packet_spelling (Clr c)) ≡ Clr c)
again_clr c ok =
    let d = clr_number c ok.destination.1 in
    let t = clr_tau c (omega arith) in
    let o = clr_oid c ok.oid.1 in
    let z : eqb (u32_at 4 (packet_spelling (Clr c))) 0 ≡ false = rw d (grind (arith, nat_tests)) in
    let bad : is_bad_clear (u64_at 8 (packet_spelling (Clr c))) (u32_at 16 (packet_spelling (Clr c))) ≡ false = rw (t, o) (not_bad_clear c ok) in
    (no_fault (packet_spelling (Clr c)) (record { long = omega arith; version = refl; kind = refl; len = refl; kept = refl; value = rw (z, bad) refl }), rw (d, t, o) refl)

not_bad_update : (u : UpdateParts) → IsUpdate u → is_bad_update u.destination u.height ≡ false
unfolding is_bad_update
not_bad_update u ok =
    let b : eqb u.height.id u.destination ≡ false = grind (arith, nat_tests) in
    let d : ((u.height.tau == 0) && (u.height.r == 0) && int_lt u.height.delta (pos 1)) ≡ false = grind (arith, nat_tests, ints) in
    rw (height_has_no_fault u.height ok.height, b, d) refl

again_upd : (u : UpdateParts) → IsUpdate u → (packet_fault (packet_spelling (Upd u)) ≡ None) × (packet_at (packet_spelling (Upd u)) ≡ Upd u)
again_upd u ok =
    let d = upd_number u ok.destination.1 in
    let t = upd_tau u (omega arith) in
    let o = upd_oid u ok.height.level.oid in
    let i = upd_id u ok.height.id_fits in
    let e = upd_delta u (omega (arith, ints)) in
    let f : to_z w32 (of_z w32 u.height.delta) ≡ u.height.delta = omega (arith, ints) in
    let h : height_at (packet_spelling (Upd u)) ≡ u.height = rw (t, o, i, e, f) refl in
    let z : eqb (u32_at 4 (packet_spelling (Upd u))) 0 ≡ false = rw d (grind (arith, nat_tests)) in
    let bad : is_bad_update (u32_at 4 (packet_spelling (Upd u))) (height_at (packet_spelling (Upd u))) ≡ false = rw (d, t, o, i, e, f) (not_bad_update u ok) in
    (no_fault (packet_spelling (Upd u)) (record { long = omega arith; version = refl; kind = refl; len = refl; kept = refl; value = rw (z, bad) refl }), rw (d, t, o, i, e, f) refl)

again : (p : Packet) → IsPacket p → (packet_fault (packet_spelling p) ≡ None) × (packet_at (packet_spelling p) ≡ p)
again (Qry n) ok = again_qry n ok
again (Upd u) ok = again_upd u ok
again (Clr c) ok = again_clr c ok

pub read_again : (bytes : List ℕ) (p : Packet) → SpellsPacket bytes p → (packet_fault bytes ≡ None) × (packet_at bytes ≡ p)
read_again bytes p s = rw s.bytes_are (again p s.valid)

pub is_found : (bytes : List ℕ) (r : Result Packet PacketError) → IsBytes bytes → MatchOption (packet_fault bytes) (r ≡ Ok (packet_at bytes)) (λ e. r ≡ Err e) → IfOk r IsPacket → IfOk r (SpellsPacket bytes)
is_found bytes r fits exact valid =
    elim (packet_fault bytes) as (λ f. packet_fault bytes ≡ f → MatchOption f (r ≡ Ok (packet_at bytes)) (λ e. r ≡ Err e) → IfOk r (SpellsPacket bytes)) [
      | None ↦ λ e h. rw h (record { valid = rw h at valid; bytes_are = spelt bytes fits e })
      | Some x ↦ λ e h. rw h tt
    ] refl exact

abbrev done : Packet → Result Packet PacketError
done p = Ok p

pub is_only : (bytes : List ℕ) (r : Result Packet PacketError) → MatchOption (packet_fault bytes) (r ≡ Ok (packet_at bytes)) (λ e. r ≡ Err e) → (p : Packet) → SpellsPacket bytes p → r ≡ Ok p
is_only bytes r exact p s =
    let a = read_again bytes p s in
    (rw a.0 at exact) ∙ ap done a.1

pub is_fault : (bytes : List ℕ) (r : Result Packet PacketError) → MatchOption (packet_fault bytes) (r ≡ Ok (packet_at bytes)) (λ e. r ≡ Err e) → MatchOption (packet_fault bytes) (IsOk r) (λ e. r ≡ Err e)
is_fault bytes r =
    elim (packet_fault bytes) as (λ f. MatchOption f (r ≡ Ok (packet_at bytes)) (λ e. r ≡ Err e) → MatchOption f (IsOk r) (λ e. r ≡ Err e)) [
      | None ↦ λ h. rw h refl
      | Some x ↦ λ h. h
    ]

-- no encoding of a packet is a prefix of another
pub prefix_free : (a b rest : List ℕ) (p q : Packet) → SpellsPacket a p → SpellsPacket b q → a ++ rest ≡ b → (rest ≡ []) × (a ≡ b) × (p ≡ q)
prefix_free a b rest p q s t e =
    let ra = read_again a p s in
    let rb = read_again b q t in
    let sa = sound a ra.0 in
    let sb = sound b rb.0 in
    let long : 1 < length a = omega (arith, sa.long) in
    let kind : kind_of b ≡ kind_of a = rw (← e) (get_or_append_left a rest 0 1 long) in
    let len : length a ≡ length b = sa.len ∙ sym (sb.len ∙ ap length_of kind) in
    let none : rest ≡ [] = nil_from_length rest (omega (arith, len, length-append a rest, ap length e)) in
    let same : a ≡ b = sym (append-nil a) ∙ ap (λ (x : List ℕ). a ++ x) (sym none) ∙ e in
    (none, same, sym ra.1 ∙ ap packet_at same ∙ rb.1)

pub is_reading : (bytes : List ℕ) (r : Result Packet PacketError) → MatchOption (packet_fault bytes) (r ≡ Ok (packet_at bytes)) (λ e. r ≡ Err e) → r ≡ packet_reading bytes
unfolding packet_reading
is_reading bytes r =
    elim (packet_fault bytes) as (λ f. MatchOption f (r ≡ Ok (packet_at bytes)) (λ e. r ≡ Err e) → r ≡ packet_or f (packet_at bytes)) [
      | None ↦ λ h. h
      | Some x ↦ λ h. h
    ]

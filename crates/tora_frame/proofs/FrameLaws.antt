-- The two laws: the bytes are the encoding of the decoded value, and every encoding decodes to its value.
use Rattle.std.proofs.Common.{◌≡◌, ◌⊎◌, ℕ, ◌+◌, ◌-◌, ◌*◌, ◌^◌, ◌<◌, ◌≤◌, true, false, not, ltb, List, [], ◌∷◌, ◌++◌, length, get_or, drop, Some, None, Result, Ok, Err, refl, sym, ap, ◌∙◌, arith, inl, inr, MatchOption, IfOk, IsOk, ◌==◌, ◌||◌}
use Rattle.std.specs.Prelude.{slice_range}
use Rattle.std.specs.List.{AllByRecursion}
use Rattle.std.specs.Int.{w16, w64, to_be_bytes}
use Rattle.std.proofs.lemmas.Bool.{eqb-true}
use Rattle.std.proofs.lemmas.Bool.Decides.{nat_tests}
use Rattle.std.proofs.lemmas.List.{nil_from_length, length-drop, length-append, append-nil}
use Rattle.std.proofs.lemmas.Nat.{from_be_bytes-to_be_bytes_2, from_be_bytes-to_be_bytes_4, from_be_bytes-to_be_bytes_8}
use Rattle.tora_packet.specs.declared.Packet.{Packet}
use Rattle.tora_packet.specs.declared.Packet.TheVariants.{Qry, Upd, Clr}
use Rattle.tora_packet.specs.declared.lengths.TheConstants.{SHORTEST_PACKET, LONGEST_PACKET}
use Rattle.tora_packet.specs.AnyPacket.{IsPacket}
use Rattle.tora_packet.specs.PacketGrammar.{packet_spelling, u32_at, u64_at}
use Rattle.tora_packet.proofs.Fields.{IsBytes, step, number_back, wide_back, four_at, joined}
use Rattle.tora_frame.specs.declared.FrameError.{FrameError}
use Rattle.tora_frame.specs.declared.FrameError.TheVariants as Fault
use Rattle.tora_frame.specs.declared.layout.TheConstants.{PACKET_HEAD, BATCH_HEAD, PACKET_OFFSET, LONGEST_BATCH}
use Rattle.tora_frame.specs.declared.parts.TheConstants.{MOST_PACKETS, GREATEST_NUMBER}
use Rattle.tora_frame.specs.declared.parts.Version.{Version}
use Rattle.tora_frame.specs.declared.parts.Version.TheVariants.{One, Two}
use Rattle.tora_frame.specs.declared.parts.Header.{Header}
use Rattle.tora_frame.specs.declared.parts.Body.{Body}
use Rattle.tora_frame.specs.declared.parts.Body.TheVariants.{Hello, Data, Ack}
use Rattle.tora_frame.specs.FrameParts.{FrameParts, IsFrame, IsHeader, IsBatchSize, IsBody, IsData, IsAck, batch, frame_of}
use Rattle.tora_frame.specs.FrameGrammar.{version_number, version_at, version_of, header_spelling, data_head_length, batch_size_spelling, packets_length, packets_spelling, frame_spelling, SpellsFrame}
use Rattle.tora_frame.specs.FrameGrammar.{u16_at, kind_at, is_kind, is_data_length, is_payload_length, header_at, layout_fault, header_fault, body_fault, packets_fault, packets_at, batch_size_at, is_bad_batch_size, batch_fault, whole_packet_fault, whole_packet_at, fault_inside, packets_inside, frame_fault}
use Rattle.tora_frame.specs.FrameGrammar.{frame_at, frame_or, frame_reading}
use Rattle.tora_frame.proofs.FrameFields.{next_test, neither, versions, version_back, version_again, is_version_number, IsLaidOut, laid_out, no_layout_fault, kinds, no_header_fault, body_at_hello, body_at_data, body_at_ack, no_fault_in_hello, no_fault_in_data, no_fault_in_ack, first_two, drop_bytes, length_back, u16_at-append}
use Rattle.tora_frame.proofs.PacketLists.{length-packets_spelling, packets_length_least, packets_length_most, length-packets_at, packet_spelt, packets_spelt, packet_again, packets_again}

-- ---- decoded values are encodings

-- the first 28 bytes are the header
front : (bytes : List ℕ) (kind n : ℕ) (rest : List ℕ) → IsBytes bytes → IsLaidOut bytes → kind_at bytes ≡ kind → u16_at 2 bytes ≡ n → drop 28 bytes ≡ rest → bytes ≡ header_spelling kind n (header_at bytes) ++ rest
front bytes kind n rest fits s k e r =
    let l = s.long in
    let len = length_back bytes fits (omega arith) ∙ ap (to_be_bytes w16) e in
    step bytes 0 2 ∙ joined (first_two bytes (version_number (version_of (version_at bytes))) kind (omega arith) (sym (version_back (version_at bytes) s.version)) k) (step bytes 2 2 ∙ joined len
    (step bytes 4 4 ∙ joined (number_back bytes 4 fits (omega arith)) (step bytes 8 4 ∙ joined (number_back bytes 8 fits (omega arith))
    (step bytes 12 8 ∙ joined (wide_back bytes 12 fits (omega arith)) (step bytes 20 8 ∙ joined (wide_back bytes 20 fits (omega arith)) r)))))

ended : (bytes : List ℕ) (n : ℕ) → length bytes ≡ n → drop n bytes ≡ []
ended bytes n h = nil_from_length (drop n bytes) (simp length-drop (omega arith))

spelt_hello : (bytes : List ℕ) → IsBytes bytes → IsLaidOut bytes → kind_at bytes ≡ 1 → bytes ≡ frame_spelling (frame_at bytes)
spelt_hello bytes fits s e =
    let n : u16_at 2 bytes ≡ 0 = eqb-true _ _ (rw e at s.payload) in
    let parted = front bytes 1 0 [] fits s e n (ended bytes 28 (omega (arith, s.len, n))) in
    rw (body_at_hello bytes e) parted

spelt_ack : (bytes : List ℕ) → IsBytes bytes → IsLaidOut bytes → kind_at bytes ≡ 3 → bytes ≡ frame_spelling (frame_at bytes)
spelt_ack bytes fits s e =
    let n : u16_at 2 bytes ≡ 8 = eqb-true _ _ (rw e at s.payload) in
    let len : length bytes ≡ 36 = omega (arith, s.len, n) in
    let count = step bytes 28 8 ∙ joined (wide_back bytes 28 fits (omega arith)) (ended bytes 36 len) in
    let parted = front bytes 3 8 (to_be_bytes w64 (u64_at 28 bytes)) fits s e n count in
    rw (body_at_ack bytes e) parted

-- a DATA frame without a fault has no fault in its packets
no_data_fault : (bytes : List ℕ) → kind_at bytes ≡ 2 → body_fault bytes ≡ None → fault_inside bytes ≡ None
unfolding body_fault
no_data_fault bytes e h = (next_test _ Fault.Number _ (rw e at h)).1

no_fault_of_one : (bytes : List ℕ) → version_at bytes ≡ 1 → fault_inside bytes ≡ None → whole_packet_fault (drop 44 bytes) ≡ None
no_fault_of_one bytes v h = rw v at h

no_fault_of_batch : (bytes : List ℕ) → version_at bytes ≡ 2 → fault_inside bytes ≡ None → (is_bad_batch_size bytes ≡ false) × (packets_fault (batch_size_at bytes) (drop 48 bytes) ≡ None)
unfolding batch_fault
no_fault_of_batch bytes v h = next_test (is_bad_batch_size bytes) Fault.Count _ (rw v at h)

one_inside : (bytes : List ℕ) → version_at bytes ≡ 1 → packets_inside bytes ≡ whole_packet_at (drop 44 bytes) ∷ []
unfolding packets_inside
one_inside bytes v = rw v refl

batch_inside : (bytes : List ℕ) → version_at bytes ≡ 2 → packets_inside bytes ≡ packets_at (batch_size_at bytes) (drop 48 bytes)
unfolding packets_inside
batch_inside bytes v = rw v refl

-- a DATA frame has room for its numbers and its packets
data_lengths : (version n : ℕ) → is_data_length version n ≡ true → PACKET_HEAD + SHORTEST_PACKET ≤ n
data_lengths version n h = grind (arith, nat_tests)

data_long : (bytes : List ℕ) → IsLaidOut bytes → kind_at bytes ≡ 2 → PACKET_OFFSET + SHORTEST_PACKET ≤ length bytes
data_long bytes s e =
    let n = data_lengths (version_at bytes) (u16_at 2 bytes) (rw e at s.payload) in omega (arith, s.len)

pub head_least : (version : Version) → PACKET_HEAD ≤ data_head_length version
head_least One = omega arith
head_least Two = omega arith

pub length_behind : (version : Version) (ps : List Packet) → length (batch_size_spelling version (length ps) ++ packets_spelling ps) ≡ data_head_length version - PACKET_HEAD + packets_length ps
length_behind One ps = omega (arith, length-packets_spelling ps)
length_behind Two ps = omega (arith, length-packets_spelling ps)

-- the bytes after the numbers of a DATA frame are the encoding of its packets
abbrev Behind : List ℕ → Type 0
Behind bytes = drop 44 bytes ≡ batch_size_spelling (version_of (version_at bytes)) (length (packets_inside bytes)) ++ packets_spelling (packets_inside bytes)

behind_one : (bytes : List ℕ) → IsBytes bytes → version_at bytes ≡ 1 → fault_inside bytes ≡ None → Behind bytes
behind_one bytes fits v h =
    let inside = packet_spelt (drop 44 bytes) (drop_bytes bytes 44 fits) (no_fault_of_one bytes v h) in
    rw (one_inside bytes v, v) (inside ∙ sym (append-nil (packet_spelling (whole_packet_at (drop 44 bytes)))))

-- the four bytes with the number of packets
size_back : (bytes : List ℕ) → 48 ≤ length bytes → is_bad_batch_size bytes ≡ false → slice_range bytes 44 48 ≡ batch_size_at bytes ∷ 0 ∷ 0 ∷ 0 ∷ []
size_back bytes h good =
    let a : get_or bytes 45 0 ≡ 0 = grind (arith, nat_tests) in
    let b : get_or bytes 46 0 ≡ 0 = grind (arith, nat_tests) in
    let c : get_or bytes 47 0 ≡ 0 = grind (arith, nat_tests) in
    four_at bytes 44 (batch_size_at bytes) 0 0 0 h refl a b c

behind_batch : (bytes : List ℕ) → IsBytes bytes → 48 ≤ length bytes → version_at bytes ≡ 2 → fault_inside bytes ≡ None → Behind bytes
behind_batch bytes fits long v h =
    let n = no_fault_of_batch bytes v h in
    let inside = packets_spelt (batch_size_at bytes) (drop 48 bytes) (drop_bytes bytes 48 fits) n.1 in
    let many = length-packets_at (batch_size_at bytes) (drop 48 bytes) in
    rw (batch_inside bytes v, v, many) (step bytes 44 4 ∙ joined (size_back bytes long n.0) inside)

behind : (bytes : List ℕ) → IsBytes bytes → IsLaidOut bytes → kind_at bytes ≡ 2 → fault_inside bytes ≡ None → Behind bytes
behind bytes fits s e h =
    elim (versions (version_at bytes) s.version) [
      | inl v ↦ behind_one bytes fits v h
      | inr v ↦ behind_batch bytes fits (omega (arith, data_long bytes s e)) v h
    ]

spelt_data : (bytes : List ℕ) → IsBytes bytes → IsLaidOut bytes → kind_at bytes ≡ 2 → body_fault bytes ≡ None → bytes ≡ frame_spelling (frame_at bytes)
spelt_data bytes fits s e h =
    let version = version_of (version_at bytes) in
    let ps = packets_inside bytes in
    let inside = behind bytes fits s e (no_data_fault bytes e h) in
    let long = data_long bytes s e in
    let len : length (drop 44 bytes) ≡ data_head_length version - PACKET_HEAD + packets_length ps = ap length inside ∙ length_behind version ps in
    let n : u16_at 2 bytes ≡ data_head_length version + packets_length ps = omega (arith, s.len, head_least version, simp length-drop at len) in
    let rest = step bytes 28 8 ∙ joined (wide_back bytes 28 fits (omega arith)) (step bytes 36 8 ∙ joined (wide_back bytes 36 fits (omega arith)) inside) in
    let parted = front bytes 2 (data_head_length version + packets_length ps) _ fits s e n rest in
    rw (body_at_data bytes e) parted

pub spelt : (bytes : List ℕ) → IsBytes bytes → frame_fault bytes ≡ None → bytes ≡ frame_spelling (frame_at bytes)
spelt bytes fits h =
    let a = neither (layout_fault bytes) _ h in
    let b = neither (header_fault (kind_at bytes) (header_at bytes)) (body_fault bytes) a.1 in
    let s = laid_out bytes a.0 in
    elim (kinds (kind_at bytes) s.kind) [
      | inl e ↦ spelt_hello bytes fits s e
      | inr r ↦ elim r [
        | inl e ↦ spelt_data bytes fits s e b.1
        | inr e ↦ spelt_ack bytes fits s e
      ]
    ]

-- ---- encodings are decoded

-- a header before any payload
abbrev spelled : ℕ → ℕ → Header → List ℕ → List ℕ
spelled kind n h rest = header_spelling kind n h ++ rest

again_length : (kind n : ℕ) (h : Header) (rest : List ℕ) → n < 2 ^ 16 → u16_at 2 (spelled kind n h rest) ≡ n
unfolding u16_at
again_length kind n h rest fits = from_be_bytes-to_be_bytes_2 n fits

again_sender : (kind n : ℕ) (h : Header) (rest : List ℕ) → h.sender < 2 ^ 32 → u32_at 4 (spelled kind n h rest) ≡ h.sender
unfolding u32_at
again_sender kind n h rest fits = from_be_bytes-to_be_bytes_4 h.sender fits

again_receiver : (kind n : ℕ) (h : Header) (rest : List ℕ) → h.receiver < 2 ^ 32 → u32_at 8 (spelled kind n h rest) ≡ h.receiver
unfolding u32_at
again_receiver kind n h rest fits = from_be_bytes-to_be_bytes_4 h.receiver fits

again_life : (kind n : ℕ) (h : Header) (rest : List ℕ) → h.life < 2 ^ 64 → u64_at 12 (spelled kind n h rest) ≡ h.life
unfolding u64_at
again_life kind n h rest fits = from_be_bytes-to_be_bytes_8 h.life fits

again_heard : (kind n : ℕ) (h : Header) (rest : List ℕ) → h.heard < 2 ^ 64 → u64_at 20 (spelled kind n h rest) ≡ h.heard
unfolding u64_at
again_heard kind n h rest fits = from_be_bytes-to_be_bytes_8 h.heard fits

again_header : (kind n : ℕ) (h : Header) (rest : List ℕ) → IsHeader h → header_at (spelled kind n h rest) ≡ h
again_header kind n h rest ok =
    let a = again_sender kind n h rest ok.sender.1 in
    let b = again_receiver kind n h rest ok.receiver.1 in
    let c = again_life kind n h rest (omega arith) in
    let d = again_heard kind n h rest (omega (arith, ok.heard)) in
    rw (version_again h.version, a, b, c, d) refl

again_layout : (kind n : ℕ) (h : Header) (rest : List ℕ) → is_kind kind ≡ true → is_payload_length (version_number h.version) kind n ≡ true → n < 2 ^ 16 → length rest ≡ n → IsLaidOut (spelled kind n h rest)
again_layout kind n h rest k p fits len =
    let e = again_length kind n h rest fits in
    record {
      long = omega arith;
      version = is_version_number h.version;
      kind = k;
      payload = rw e p;
      len = rw e (omega (arith, len));
    }

-- if the first 28 bytes have no fault, the fault is that of the rest
again_front : (kind n : ℕ) (h : Header) (rest : List ℕ) → IsHeader h → (kind ≡ 1) ⊎ (0 < h.heard) → IsLaidOut (spelled kind n h rest) → body_fault (spelled kind n h rest) ≡ None → frame_fault (spelled kind n h rest) ≡ None
again_front kind n h rest ok heard s body =
    let a = no_layout_fault (spelled kind n h rest) s in
    let b : header_fault kind (header_at (spelled kind n h rest)) ≡ None = rw (again_header kind n h rest ok) (no_header_fault kind h ok heard) in
    rw (a, b, body) refl

first_number : (kind n : ℕ) (h : Header) (m : ℕ) (rest : List ℕ) → m < 2 ^ 64 → u64_at 28 (spelled kind n h (to_be_bytes w64 m ++ rest)) ≡ m
unfolding u64_at
first_number kind n h m rest fits = from_be_bytes-to_be_bytes_8 m fits

second_number : (kind n : ℕ) (h : Header) (m c : ℕ) (rest : List ℕ) → c < 2 ^ 64 → u64_at 36 (spelled kind n h (to_be_bytes w64 m ++ to_be_bytes w64 c ++ rest)) ≡ c
unfolding u64_at
second_number kind n h m c rest fits = from_be_bytes-to_be_bytes_8 c fits

-- the bytes of a DATA frame
abbrev data_spelled : Header → ℕ → ℕ → List Packet → List ℕ
data_spelled h m c ps =
    spelled 2 (data_head_length h.version + packets_length ps) h
    (to_be_bytes w64 m ++ to_be_bytes w64 c ++ batch_size_spelling h.version (length ps) ++ packets_spelling ps)

abbrev Inside : List ℕ → List Packet → Type 0
Inside bytes ps = (fault_inside bytes ≡ None) × (packets_inside bytes ≡ ps)

again_one : (h : Header) (m c : ℕ) (p : Packet) → h.version ≡ One → IsPacket p → Inside (data_spelled h m c (p ∷ [])) (p ∷ [])
unfolding packets_inside
again_one h m c p v ok =
    let a = packet_again p ok in
    rw (v, append-nil (packet_spelling p), a.0, a.1) (refl, refl)

good_size : (m k : ℕ) → 0 < k → k ≤ MOST_PACKETS → m + k ≤ GREATEST_NUMBER + 1 → ((k == 0) || ltb MOST_PACKETS k || not true || ltb GREATEST_NUMBER (m + k - 1)) ≡ false
good_size m k a b c = grind (arith, nat_tests)

again_size : (h : Header) (m c : ℕ) (ps : List Packet) → h.version ≡ Two → m < 2 ^ 64 → 0 < length ps → length ps ≤ MOST_PACKETS → m + length ps ≤ GREATEST_NUMBER + 1 → is_bad_batch_size (data_spelled h m c ps) ≡ false
again_size h m c ps v fits one most last =
    let rest = to_be_bytes w64 c ++ batch_size_spelling h.version (length ps) ++ packets_spelling ps in
    let number : u64_at 28 (data_spelled h m c ps) ≡ m = first_number 2 (data_head_length h.version + packets_length ps) h m rest fits in
    rw (number, v) (good_size m (length ps) one most last)

again_batch : (h : Header) (m c : ℕ) (ps : List Packet) → h.version ≡ Two → m < 2 ^ 64 → 0 < length ps → length ps ≤ MOST_PACKETS → m + length ps ≤ GREATEST_NUMBER + 1 → AllByRecursion IsPacket ps → Inside (data_spelled h m c ps) ps
unfolding batch_fault packets_inside
again_batch h m c ps v fits one most last ok =
    let a = packets_again ps ok in
    let good = again_size h m c ps v fits one most last in
    rw (good, v, a.0, a.1) (refl, refl)

again_inside : (v : Version) (h : Header) (m c : ℕ) (ps : List Packet) → h.version ≡ v → IsData h m c ps → Inside (data_spelled h m c ps) ps
again_inside One h m c [] v d = absurd (omega (arith, rw v at d.many))
again_inside One h m c (p ∷ []) v d = again_one h m c p v d.packets.0
again_inside One h m c (p ∷ q ∷ ps) v d = absurd (omega (arith, rw v at d.many))
again_inside Two h m c ps v d =
    let many = rw v at d.many in
    again_batch h m c ps v (omega (arith, d.last, many.0)) many.0 many.1 d.last d.packets

abbrev Again : FrameParts → Type 0
Again f = (frame_fault (frame_spelling f) ≡ None) × (frame_at (frame_spelling f) ≡ f)

again_hello : (h : Header) → IsHeader h → Again (frame_of h Hello)
again_hello h ok =
    let bytes = spelled 1 0 h [] in
    let s = again_layout 1 0 h [] refl refl (omega arith) refl in
    let body = body_at_hello bytes refl in
    (again_front 1 0 h [] ok (inl refl) s (no_fault_in_hello bytes refl), rw (again_header 1 0 h [] ok, body) refl)

again_ack : (h : Header) (c : ℕ) → IsHeader h → IsAck h.heard c → Again (frame_of h (Ack c))
again_ack h c ok a =
    let rest = to_be_bytes w64 c in
    let bytes = spelled 3 8 h rest in
    let s = again_layout 3 8 h rest refl refl (omega arith) refl in
    let n : u64_at 28 bytes ≡ c = first_number 3 8 h c [] (omega (arith, a.count)) in
    let f = no_fault_in_ack bytes refl (rw n a.count) in
    (again_front 3 8 h rest ok (inr a.heard) s f, rw (again_header 3 8 h rest ok, body_at_ack bytes refl, n) refl)

is_one_length : (p : Packet) → is_data_length 1 (PACKET_HEAD + packets_length (p ∷ [])) ≡ true
is_one_length (Qry q) = refl
is_one_length (Upd u) = refl
is_one_length (Clr c) = refl

is_batch_length : (n : ℕ) → SHORTEST_PACKET ≤ n → n ≤ MOST_PACKETS * LONGEST_PACKET → is_data_length 2 (BATCH_HEAD + n) ≡ true
is_batch_length n a b = grind (arith, nat_tests)

-- the packets of a frame have a length that its version has
is_length : (v : Version) (ps : List Packet) → IsBatchSize v (length ps) → is_data_length (version_number v) (data_head_length v + packets_length ps) ≡ true
is_length One [] many = absurd (omega (arith, many))
is_length One (p ∷ []) many = is_one_length p
is_length One (p ∷ q ∷ ps) many = absurd (omega (arith, many))
is_length Two ps many = is_batch_length (packets_length ps) (omega (arith, packets_length_least ps, many.0)) (omega (arith, packets_length_most ps, many.1))

pub data_length_most : (v : Version) (ps : List Packet) → IsBatchSize v (length ps) → data_head_length v + packets_length ps ≤ LONGEST_BATCH
data_length_most One ps many = omega (arith, packets_length_most ps, many)
data_length_most Two ps many = omega (arith, packets_length_most ps, many.1)

number_most : (v : Version) (m : ℕ) (ps : List Packet) → IsBatchSize v (length ps) → m + length ps ≤ GREATEST_NUMBER + 1 → m ≤ GREATEST_NUMBER
number_most One m ps many last = omega (arith, many, last)
number_most Two m ps many last = omega (arith, many.0, last)

again_data : (h : Header) (m c : ℕ) (ps : List Packet) → IsHeader h → IsData h m c ps → Again (frame_of h (Data m c (batch ps)))
again_data h m c ps ok d =
    let n = data_head_length h.version + packets_length ps in
    let size = batch_size_spelling h.version (length ps) in
    let rest = to_be_bytes w64 m ++ to_be_bytes w64 c ++ size ++ packets_spelling ps in
    let bytes = spelled 2 n h rest in
    let most = number_most h.version m ps d.many d.last in
    let len : length rest ≡ n = omega (arith, length_behind h.version ps, head_least h.version) in
    let s = again_layout 2 n h rest refl (is_length h.version ps d.many) (omega (arith, data_length_most h.version ps d.many)) len in
    let number : u64_at 28 bytes ≡ m = first_number 2 n h m (to_be_bytes w64 c ++ size ++ packets_spelling ps) (omega (arith, most)) in
    let count : u64_at 36 bytes ≡ c = second_number 2 n h m c (size ++ packets_spelling ps) (omega (arith, d.count)) in
    let i = again_inside h.version h m c ps refl d in
    let f = no_fault_in_data bytes refl (rw number d.first) (rw number most) (rw count d.count) i.0 in
    (again_front 2 n h rest ok (inr d.heard) s f, rw (again_header 2 n h rest ok, body_at_data bytes refl, number, count, i.1) refl)

again : (h : Header) (b : Body) → IsHeader h → IsBody h b → Again (frame_of h b)
again h Hello ok v = again_hello h ok
again h (Data m c packets) ok v = again_data h m c packets.items ok v
again h (Ack c) ok v = again_ack h c ok v

pub read_again : (bytes : List ℕ) (f : FrameParts) → SpellsFrame bytes f → (frame_fault bytes ≡ None) × (frame_at bytes ≡ f)
read_again bytes f s = rw s.bytes_are (again f.header f.body s.valid.header s.valid.body)

pub frame_reading-frame_spelling : (f : FrameParts) → IsFrame f → frame_reading (frame_spelling f) ≡ Ok f
unfolding frame_reading
frame_reading-frame_spelling f ok =
    let a = again f.header f.body ok.header ok.body in
    rw (a.0, a.1) refl

-- ---- the clauses

pub is_found : (bytes : List ℕ) (r : Result FrameParts FrameError) → IsBytes bytes → MatchOption (frame_fault bytes) (r ≡ Ok (frame_at bytes)) (λ e. r ≡ Err e) → IfOk r IsFrame → IfOk r (SpellsFrame bytes)
is_found bytes r fits exact valid =
    elim (frame_fault bytes) as (λ f. frame_fault bytes ≡ f → MatchOption f (r ≡ Ok (frame_at bytes)) (λ e. r ≡ Err e) → IfOk r (SpellsFrame bytes)) [
      | None ↦ λ e h. rw h (record { valid = rw h at valid; bytes_are = spelt bytes fits e })
      | Some x ↦ λ e h. rw h tt
    ] refl exact

abbrev done : FrameParts → Result FrameParts FrameError
done f = Ok f

pub is_only : (bytes : List ℕ) (r : Result FrameParts FrameError) → MatchOption (frame_fault bytes) (r ≡ Ok (frame_at bytes)) (λ e. r ≡ Err e) → (f : FrameParts) → SpellsFrame bytes f → r ≡ Ok f
is_only bytes r exact f s =
    let a = read_again bytes f s in
    (rw a.0 at exact) ∙ ap done a.1

pub is_fault : (bytes : List ℕ) (r : Result FrameParts FrameError) → MatchOption (frame_fault bytes) (r ≡ Ok (frame_at bytes)) (λ e. r ≡ Err e) → MatchOption (frame_fault bytes) (IsOk r) (λ e. r ≡ Err e)
is_fault bytes r =
    elim (frame_fault bytes) as (λ f. MatchOption f (r ≡ Ok (frame_at bytes)) (λ e. r ≡ Err e) → MatchOption f (IsOk r) (λ e. r ≡ Err e)) [
      | None ↦ λ h. rw h refl
      | Some x ↦ λ h. h
    ]

pub is_reading : (bytes : List ℕ) (r : Result FrameParts FrameError) → MatchOption (frame_fault bytes) (r ≡ Ok (frame_at bytes)) (λ e. r ≡ Err e) → r ≡ frame_reading bytes
unfolding frame_reading
is_reading bytes r =
    elim (frame_fault bytes) as (λ f. MatchOption f (r ≡ Ok (frame_at bytes)) (λ e. r ≡ Err e) → r ≡ frame_or f (frame_at bytes)) [
      | None ↦ λ h. h
      | Some x ↦ λ h. h
    ]

-- no encoding is a prefix of another
pub prefix_free : (a b rest : List ℕ) (f g : FrameParts) → SpellsFrame a f → SpellsFrame b g → a ++ rest ≡ b → (rest ≡ []) × (a ≡ b) × (f ≡ g)
prefix_free a b rest f g s t e =
    let ra = read_again a f s in
    let rb = read_again b g t in
    let sa = laid_out a (neither (layout_fault a) _ ra.0).0 in
    let sb = laid_out b (neither (layout_fault b) _ rb.0).0 in
    let long : 4 ≤ length a = omega (arith, sa.long) in
    let payload : u16_at 2 b ≡ u16_at 2 a = rw (← e) (u16_at-append a rest long) in
    let len : length a ≡ length b = omega (arith, sa.len, sb.len, payload) in
    let none : rest ≡ [] = nil_from_length rest (omega (arith, len, length-append a rest, ap length e)) in
    let same : a ≡ b = sym (append-nil a) ∙ ap (λ (x : List ℕ). a ++ x) (sym none) ∙ e in
    (none, same, sym ra.1 ∙ ap frame_at same ∙ rb.1)

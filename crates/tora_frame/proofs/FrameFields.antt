-- The checks of frames, and the fields of bytes that pass them.
use Rattle.std.proofs.Common.{◌≡◌, ◌⊎◌, ℕ, ◌+◌, ◌<◌, ◌≤◌, Bool, true, false, cond, not, ltb, eqb, List, [], ◌∷◌, ◌++◌, length, get_or, take, drop, Option, Some, None, refl, sym, ◌∙◌, arith, inl, inr}
use Rattle.std.specs.Prelude.{slice_range}
use Rattle.std.specs.Int.{w16, to_be_bytes}
use Rattle.std.proofs.lemmas.Bool.{cases_lt, not-false, ltb-false, le-ltb}
use Rattle.std.proofs.lemmas.Bool.Decides.{nat_tests}
use Rattle.std.proofs.lemmas.List.{length-take, length-take-le, length-drop, get_or-drop, get_or-take, get_or_past, drop-append-le, take-append-le}
use Rattle.std.proofs.lemmas.Nat.{be_bytes_2}
use Rattle.tora_packet.specs.PacketGrammar.{u64_at}
use Rattle.tora_packet.proofs.Fields.{IsBytes}
use Rattle.tora_frame.specs.declared.parts.TheConstants.{GREATEST_NUMBER}
use Rattle.tora_frame.specs.declared.FrameError.{FrameError}
use Rattle.tora_frame.specs.declared.FrameError.TheVariants as Fault
use Rattle.tora_frame.specs.declared.parts.Version.{Version}
use Rattle.tora_frame.specs.declared.parts.Version.TheVariants.{One, Two}
use Rattle.tora_frame.specs.declared.parts.Header.{Header}
use Rattle.tora_frame.specs.declared.parts.Body.TheVariants.{Hello, Data, Ack}
use Rattle.tora_frame.specs.FrameParts.{IsHeader, batch}
use Rattle.tora_frame.specs.FrameGrammar.{u16_at, version_number, version_at, version_of, is_version, kind_at, is_kind, is_payload_length, layout_fault, is_bad_pair, is_bad_life, header_fault, fault_or, packets_inside, fault_inside, body_at, body_fault}

-- a check that found no fault, and the checks after it
pub next_test : (b : Bool) (e : FrameError) (x : Option FrameError) → cond b (Some e) x ≡ None → (b ≡ false) × (x ≡ None)
next_test true e x h = absurd cc
next_test false e x h = (refl, h)

-- two groups of checks without a fault
pub neither : (a b : Option FrameError) → fault_or a b ≡ None → (a ≡ None) × (b ≡ None)
neither None b h = (refl, h)
neither (Some e) b h = absurd cc

-- ---- the versions

pub versions : (v : ℕ) → is_version v ≡ true → (v ≡ 1) ⊎ (v ≡ 2)
versions v h = grind (arith, nat_tests)

-- the number of a version that was read from it
pub version_back : (v : ℕ) → is_version v ≡ true → version_number (version_of v) ≡ v
version_back v h = elim (versions v h) [ inl e ↦ rw e refl | inr e ↦ rw e refl ]

-- the version that is read from its number
pub version_again : (v : Version) → version_of (version_number v) ≡ v
version_again One = refl
version_again Two = refl

pub is_version_number : (v : Version) → is_version (version_number v) ≡ true
is_version_number One = refl
is_version_number Two = refl

-- ---- the layout

-- bytes whose version, kind and lengths have no fault
pub record IsLaidOut (bytes : List ℕ) : Type 0 where
  pub long : 28 ≤ length bytes
  pub version : is_version (version_at bytes) ≡ true
  pub kind : is_kind (kind_at bytes) ≡ true
  pub payload : is_payload_length (version_at bytes) (kind_at bytes) (u16_at 2 bytes) ≡ true
  pub len : length bytes ≡ 28 + u16_at 2 bytes

pub laid_out : (bytes : List ℕ) → layout_fault bytes ≡ None → IsLaidOut bytes
unfolding layout_fault
laid_out bytes h =
    let a = next_test (ltb (length bytes) 28) Fault.Short _ h in
    let b = next_test (not (is_version (version_at bytes))) Fault.Version _ a.1 in
    let c = next_test (not (is_kind (kind_at bytes))) Fault.Kind _ b.1 in
    let d = next_test (not (is_payload_length (version_at bytes) (kind_at bytes) (u16_at 2 bytes))) Fault.Length _ c.1 in
    let e = next_test (ltb (length bytes) (28 + u16_at 2 bytes)) Fault.Short _ d.1 in
    let f = next_test (ltb (28 + u16_at 2 bytes) (length bytes)) Fault.Long _ e.1 in
    let below : 28 + u16_at 2 bytes ≤ length bytes = ltb-false _ _ e.0 in
    let above : length bytes ≤ 28 + u16_at 2 bytes = ltb-false _ _ f.0 in
    record {
      long = ltb-false _ _ a.0;
      version = not-false _ b.0;
      kind = not-false _ c.0;
      payload = not-false _ d.0;
      len = omega (arith, below, above);
    }

pub no_layout_fault : (bytes : List ℕ) → IsLaidOut bytes → layout_fault bytes ≡ None
unfolding layout_fault
no_layout_fault bytes s =
    let a : ltb (length bytes) 28 ≡ false = le-ltb _ _ s.long in
    let e : ltb (length bytes) (28 + u16_at 2 bytes) ≡ false = le-ltb _ _ (omega (arith, s.len)) in
    let f : ltb (28 + u16_at 2 bytes) (length bytes) ≡ false = le-ltb _ _ (omega (arith, s.len)) in
    rw (a, s.version, s.kind, s.payload, e, f) refl

pub kinds : (k : ℕ) → is_kind k ≡ true → (k ≡ 1) ⊎ (k ≡ 2) ⊎ (k ≡ 3)
kinds k h = grind (arith, nat_tests)

-- ---- the header

pub no_header_fault : (kind : ℕ) (h : Header) → IsHeader h → (kind ≡ 1) ⊎ (0 < h.heard) → header_fault kind h ≡ None
unfolding header_fault
no_header_fault kind h ok heard =
    let pair : is_bad_pair h ≡ false = grind (arith, nat_tests) in
    let life : is_bad_life kind h ≡ false = grind (arith, nat_tests) in
    rw (pair, life) refl

-- ---- the body

pub body_at_hello : (bytes : List ℕ) → kind_at bytes ≡ 1 → body_at bytes ≡ Hello
unfolding body_at
body_at_hello bytes e = rw e refl

pub body_at_data : (bytes : List ℕ) → kind_at bytes ≡ 2 → body_at bytes ≡ Data (u64_at 28 bytes) (u64_at 36 bytes) (batch (packets_inside bytes))
unfolding body_at
body_at_data bytes e = rw e refl

pub body_at_ack : (bytes : List ℕ) → kind_at bytes ≡ 3 → body_at bytes ≡ Ack (u64_at 28 bytes)
unfolding body_at
body_at_ack bytes e = rw e refl

pub no_fault_in_hello : (bytes : List ℕ) → kind_at bytes ≡ 1 → body_fault bytes ≡ None
unfolding body_fault
no_fault_in_hello bytes e = rw e refl

pub no_fault_in_ack : (bytes : List ℕ) → kind_at bytes ≡ 3 → u64_at 28 bytes ≤ GREATEST_NUMBER → body_fault bytes ≡ None
unfolding body_fault
no_fault_in_ack bytes e h =
    let a : ltb GREATEST_NUMBER (u64_at 28 bytes) ≡ false = le-ltb _ _ h in
    rw (e, a) refl

-- if the numbers are in their ranges, the fault is that of the packets
data_fault_inside : (bytes : List ℕ) → kind_at bytes ≡ 2 → 0 < u64_at 28 bytes → u64_at 28 bytes ≤ GREATEST_NUMBER → u64_at 36 bytes ≤ GREATEST_NUMBER → body_fault bytes ≡ fault_inside bytes
unfolding body_fault
data_fault_inside bytes e one number count =
    let z : eqb (u64_at 28 bytes) 0 ≡ false = grind (arith, nat_tests) in
    let a : ltb GREATEST_NUMBER (u64_at 28 bytes) ≡ false = le-ltb _ _ number in
    let b : ltb GREATEST_NUMBER (u64_at 36 bytes) ≡ false = le-ltb _ _ count in
    rw (e, z, a, b) refl

pub no_fault_in_data : (bytes : List ℕ) → kind_at bytes ≡ 2 → 0 < u64_at 28 bytes → u64_at 28 bytes ≤ GREATEST_NUMBER → u64_at 36 bytes ≤ GREATEST_NUMBER → fault_inside bytes ≡ None → body_fault bytes ≡ None
no_fault_in_data bytes e one number count inside = data_fault_inside bytes e one number count ∙ inside

-- ---- two bytes

two : (xs : List ℕ) → length xs ≡ 2 → xs ≡ get_or xs 0 0 ∷ get_or xs 1 0 ∷ []
two [] h = absurd (omega arith)
two (a ∷ []) h = absurd (omega arith)
two (a ∷ b ∷ []) h = refl
two (a ∷ b ∷ c ∷ xs) h = absurd (omega arith)

two_long : (bytes : List ℕ) (i : ℕ) → i + 2 ≤ length bytes → length (take 2 (drop i bytes)) ≡ 2
two_long bytes i h = length-take-le 2 (drop i bytes) (simp length-drop (omega arith))

-- the first two bytes
pub first_two : (bytes : List ℕ) (a b : ℕ) → 2 ≤ length bytes → get_or bytes 0 0 ≡ a → get_or bytes 1 0 ≡ b → slice_range bytes 0 2 ≡ a ∷ b ∷ []
first_two bytes a b h p q =
    let e0 : get_or (take 2 bytes) 0 0 ≡ a = get_or-take 2 bytes 0 0 (omega arith) ∙ p in
    let e1 : get_or (take 2 bytes) 1 0 ≡ b = get_or-take 2 bytes 1 0 (omega arith) ∙ q in
    two (take 2 bytes) (two_long bytes 0 h) ∙ rw (e0, e1) refl

pub drop_bytes : (bytes : List ℕ) (i : ℕ) → IsBytes bytes → IsBytes (drop i bytes)
drop_bytes bytes i fits j = rw get_or-drop (fits (i + j))

pub take_bytes : (bytes : List ℕ) (n : ℕ) → IsBytes bytes → IsBytes (take n bytes)
take_bytes bytes n fits j =
    elim (cases_lt j n) [
      | inl lt ↦ rw (get_or-take n bytes j 0 lt) (fits j)
      | inr le ↦ rw (get_or_past (take n bytes) j 0 (simp length-take (omega arith))) (omega arith)
    ]

pub length_back : (bytes : List ℕ) → IsBytes bytes → 4 ≤ length bytes → slice_range bytes 2 4 ≡ to_be_bytes w16 (u16_at 2 bytes)
unfolding u16_at
length_back bytes fits h =
    sym (be_bytes_2 (slice_range bytes 2 4) _ (two_long bytes 2 h) (take_bytes (drop 2 bytes) 2 (drop_bytes bytes 2 fits)) refl)

-- bytes that follow do not change the payload length
pub u16_at-append : (a rest : List ℕ) → 4 ≤ length a → u16_at 2 (a ++ rest) ≡ u16_at 2 a
unfolding u16_at
u16_at-append a rest h =
    let long : 2 ≤ length a = omega arith in
    let long' : 2 ≤ length (drop 2 a) = simp length-drop (omega arith) in
    rw (drop-append-le 2 a rest long, take-append-le 2 (drop 2 a) rest long') refl

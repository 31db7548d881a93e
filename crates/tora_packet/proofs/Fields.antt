-- The bytes are the encoding of the decoded value, and every encoding decodes to its value.
use Rattle.std.proofs.Common.{◌≡◌, ℕ, ◌+◌, ◌-◌, ◌^◌, ◌<◌, ◌≤◌, Bool, true, false, cond, not, ltb, List, [], ◌∷◌, ◌++◌, length, get_or, drop, Option, Some, None, Result, Ok, Err, refl, sym, ◌∙◌, arith, inl, inr, MatchOption, ◌==◌, ℤ, to_z, of_z, eq-eqb}
use Rattle.std.specs.Prelude.{slice_range}
use Rattle.std.specs.Int.{w32, w64, to_be_bytes}
use Rattle.std.proofs.lemmas.Bool.{cases_lt, ltb-false, le-ltb, eqb-true}
use Rattle.std.proofs.lemmas.Int.{ints}
use Rattle.std.proofs.lemmas.List.{take-append-drop, length-take, length-drop, get_or-drop, get_or-take, get_or_past, drop-drop}
use Rattle.std.proofs.lemmas.Nat.{be_bytes_4, be_bytes_8}
use Rattle.tora_height.specs.Height.{Quintuple}
use Rattle.tora_height.specs.Height.{height_fault}
use Rattle.tora_height.specs.declared.height_error.HeightError.{HeightError}
use Rattle.tora_packet.specs.PacketGrammar.{u32_at, u64_at, kind_of, is_kind, length_of, is_reserved_zero, is_bad_value, packet_fault}
use Rattle.tora_packet.specs.declared.PacketError.{PacketError}
use Rattle.tora_packet.specs.declared.PacketError.TheVariants as errors

abbrev made : Quintuple → Result Quintuple HeightError
made h = Ok h

-- a value that was made of these parts has these parts
pub made_is : (p h : Quintuple) → MatchOption (height_fault p) (made h ≡ made p) (λ e. made h ≡ Err e) → h ≡ p
made_is p h = elim (height_fault p) as (λ f. MatchOption f (made h ≡ made p) (λ e. made h ≡ Err e) → h ≡ p) [ None ↦ λ e. cc | Some x ↦ λ e. absurd cc ]

-- a signed number is the same after its conversion to an unsigned one and back
pub passed : (n : ℕ) (z : ℤ) → z ≡ to_z w32 n → n < 2 ^ 32 → to_z w32 (of_z w32 z) ≡ to_z w32 n
passed n z e small = rw e (omega (arith, ints))

abbrev pub IsBytes : List ℕ → Type 0
IsBytes bytes = (i : ℕ) → get_or bytes i 0 < 256

-- a check that found no fault, and the checks after it
next_test : (b : Bool) (e : PacketError) (x : Option PacketError) → cond b (Some e) x ≡ None → (b ≡ false) × (x ≡ None)
next_test true e x h = absurd cc
next_test false e x h = (refl, h)

not_false : (b : Bool) → not b ≡ false → b ≡ true
not_false true h = refl
not_false false h = absurd cc

-- bytes without a fault
pub record IsSound (bytes : List ℕ) : Type 0 where
  pub long : 2 ≤ length bytes
  pub version : get_or bytes 0 0 ≡ 1
  pub kind : is_kind (kind_of bytes) ≡ true
  pub len : length bytes ≡ length_of (kind_of bytes)
  pub kept : is_reserved_zero bytes ≡ true
  pub value : is_bad_value bytes ≡ false

pub sound : (bytes : List ℕ) → packet_fault bytes ≡ None → IsSound bytes
sound bytes h =
    let a = next_test (ltb (length bytes) 2) errors.Short _ h in
    let b = next_test (not (get_or bytes 0 0 == 1)) errors.Version _ a.1 in
    let c = next_test (not (is_kind (kind_of bytes))) errors.Kind _ b.1 in
    let d = next_test (ltb (length bytes) (length_of (kind_of bytes))) errors.Short _ c.1 in
    let e = next_test (ltb (length_of (kind_of bytes)) (length bytes)) errors.Long _ d.1 in
    let f = next_test (not (is_reserved_zero bytes)) errors.Reserved _ e.1 in
    let g = next_test (is_bad_value bytes) errors.Height _ f.1 in
    let below : length_of (kind_of bytes) ≤ length bytes = ltb-false _ _ d.0 in
    let above : length bytes ≤ length_of (kind_of bytes) = ltb-false _ _ e.0 in
    record {
      long = ltb-false _ _ a.0;
      version = eqb-true _ _ (not_false _ b.0);
      kind = not_false _ c.0;
      len = omega (arith, below, above);
      kept = not_false _ f.0;
      value = g.0;
    }

pub no_fault : (bytes : List ℕ) → IsSound bytes → packet_fault bytes ≡ None
no_fault bytes s =
    let a : ltb (length bytes) 2 ≡ false = le-ltb _ _ s.long in
    let d : ltb (length bytes) (length_of (kind_of bytes)) ≡ false = le-ltb _ _ (omega (arith, s.len)) in
    let e : ltb (length_of (kind_of bytes)) (length bytes) ≡ false = le-ltb _ _ (omega (arith, s.len)) in
    let v : (get_or bytes 0 0 == 1) ≡ true = eq-eqb _ _ s.version in
    rw (a, v, s.kind, d, e, s.kept, s.value) refl

-- the next k bytes, and the bytes after them
pub step : (bytes : List ℕ) (i k : ℕ) → drop i bytes ≡ slice_range bytes i (i + k) ++ drop (i + k) bytes
step bytes i k =
    let e : (i + k) - i ≡ k = omega arith in
    rw (e, ← drop-drop k i bytes) (sym (take-append-drop k (drop i bytes)))

slice_length : (bytes : List ℕ) (i k : ℕ) → i + k ≤ length bytes → length (slice_range bytes i (i + k)) ≡ k
slice_length bytes i k h = simp (length-take, length-drop) (omega arith)

slice_at : (bytes : List ℕ) (i k j : ℕ) → j < k → get_or (slice_range bytes i (i + k)) j 0 ≡ get_or bytes (i + j) 0
slice_at bytes i k j h =
    let e : (i + k) - i ≡ k = omega arith in
    rw (e, get_or-take k (drop i bytes) j 0 h, get_or-drop i bytes j 0) refl

slice_bytes : (bytes : List ℕ) (i k : ℕ) → IsBytes bytes → IsBytes (slice_range bytes i (i + k))
slice_bytes bytes i k fits j =
    elim (cases_lt j k) [
      | inl lt ↦ rw (slice_at bytes i k j lt) (fits (i + j))
      | inr le ↦ rw (get_or_past (slice_range bytes i (i + k)) j 0 (simp (length-take, length-drop) (omega arith))) (omega arith)
    ]

pub number_back : (bytes : List ℕ) (i : ℕ) → IsBytes bytes → i + 4 ≤ length bytes → slice_range bytes i (i + 4) ≡ to_be_bytes w32 (u32_at i bytes)
unfolding u32_at
number_back bytes i fits h = sym (be_bytes_4 (slice_range bytes i (i + 4)) _ (slice_length bytes i 4 h) (slice_bytes bytes i 4 fits) refl)

pub wide_back : (bytes : List ℕ) (i : ℕ) → IsBytes bytes → i + 8 ≤ length bytes → slice_range bytes i (i + 8) ≡ to_be_bytes w64 (u64_at i bytes)
unfolding u64_at
wide_back bytes i fits h = sym (be_bytes_8 (slice_range bytes i (i + 8)) _ (slice_length bytes i 8 h) (slice_bytes bytes i 8 fits) refl)

pub number_fits : (bytes : List ℕ) (i : ℕ) → IsBytes bytes → u32_at i bytes < 2 ^ 32
unfolding u32_at
number_fits bytes i fits =
    let s = slice_bytes bytes i 4 fits in omega (arith, s 0, s 1, s 2, s 3)

four : (xs : List ℕ) → length xs ≡ 4 → xs ≡ get_or xs 0 0 ∷ get_or xs 1 0 ∷ get_or xs 2 0 ∷ get_or xs 3 0 ∷ []
four [] h = absurd (omega arith)
four (a ∷ []) h = absurd (omega arith)
four (a ∷ b ∷ []) h = absurd (omega arith)
four (a ∷ b ∷ c ∷ []) h = absurd (omega arith)
four (a ∷ b ∷ c ∷ d ∷ []) h = refl
four (a ∷ b ∷ c ∷ d ∷ e ∷ xs) h = absurd (omega arith)

pub four_at : (bytes : List ℕ) (i a b c d : ℕ) → i + 4 ≤ length bytes → get_or bytes (i + 0) 0 ≡ a → get_or bytes (i + 1) 0 ≡ b → get_or bytes (i + 2) 0 ≡ c → get_or bytes (i + 3) 0 ≡ d → slice_range bytes i (i + 4) ≡ a ∷ b ∷ c ∷ d ∷ []
four_at bytes i a b c d h p q r s =
    let e0 = slice_at bytes i 4 0 (omega arith) ∙ p in
    let e1 = slice_at bytes i 4 1 (omega arith) ∙ q in
    let e2 = slice_at bytes i 4 2 (omega arith) ∙ r in
    let e3 = slice_at bytes i 4 3 (omega arith) ∙ s in
    four (slice_range bytes i (i + 4)) (slice_length bytes i 4 h) ∙ rw (e0, e1, e2, e3) refl

pub joined : {a b c d : List ℕ} → a ≡ b → c ≡ d → a ++ c ≡ b ++ d
joined p q = cc

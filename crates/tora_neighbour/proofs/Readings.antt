-- A datagram that is longer than every frame has the same reading whether it is cut or not.
use Rattle.std.proofs.Common.{◌≡◌, Bool, true, false, ℕ, ◌+◌, ◌≤◌, ◌<◌, List, [], ◌∷◌, ◌++◌, length, take, drop, Some, None, Err, refl, sym, ap, ◌∙◌, arith, length-append, ⊎_elim}
use Rattle.std.proofs.lemmas.Bool.{cases_lt, le-ltb, lt-ltb}
use Rattle.std.proofs.lemmas.Bool.Decides.{nat_tests}
use Rattle.std.proofs.lemmas.List.{take_all, length-take-le, take-append-drop}
use Rattle.std.specs.Prelude.{nat_lt, not, if◌then◌else◌}
use Rattle.tora_frame.specs.declared.FrameError.{FrameError}
use Rattle.tora_frame.specs.declared.FrameError.TheVariants as Fault
use Rattle.tora_frame.specs.FrameGrammar.{frame_reading, layout_fault, version_at, is_version, kind_at, u16_at, is_kind, is_payload_length}

-- the error of bytes that are longer than every frame
abbrev long_fault : ℕ → ℕ → ℕ → FrameError
long_fault version kind n =
    if not (is_version version) then Fault.Version
    else if not (is_kind kind) then Fault.Kind
    else if not (is_payload_length version kind n) then Fault.Length
    else Fault.Long

-- no frame has a longer payload
length_most : (v k n : ℕ) → is_payload_length v k n ≡ true → n ≤ 532
length_most v k n h = grind (arith, nat_tests)

-- the layout fault of more than 560 bytes, from the results of the other checks
layout_by : (version kind payload : Bool) (l n : ℕ) → 561 ≤ l → (payload ≡ true → n ≤ 532)
    → (if nat_lt l 28 then Some Fault.Short
    else if not version then Some Fault.Version
    else if not kind then Some Fault.Kind
    else if not payload then Some Fault.Length
    else if nat_lt l (28 + n) then Some Fault.Short
    else if nat_lt (28 + n) l then Some Fault.Long
    else None) ≡ Some (if not version then Fault.Version else if not kind then Fault.Kind else if not payload then Fault.Length else Fault.Long)
layout_by false kind payload l n long most = rw (le-ltb l 28 (omega arith)) refl
layout_by true false payload l n long most = rw (le-ltb l 28 (omega arith)) refl
layout_by true true false l n long most = rw (le-ltb l 28 (omega arith)) refl
layout_by true true true l n long most =
    let few = most refl in
    rw (le-ltb l 28 (omega arith), le-ltb l (28 + n) (omega (arith, few)), lt-ltb (28 + n) l (omega (arith, few))) refl

layout_of_long : (bytes : List ℕ) → 561 ≤ length bytes → layout_fault bytes ≡ Some (long_fault (version_at bytes) (kind_at bytes) (u16_at 2 bytes))
unfolding layout_fault
layout_of_long bytes long =
    layout_by (is_version (version_at bytes)) (is_kind (kind_at bytes)) (is_payload_length (version_at bytes) (kind_at bytes) (u16_at 2 bytes)) (length bytes) (u16_at 2 bytes) long
    (length_most (version_at bytes) (kind_at bytes) (u16_at 2 bytes))

reading_of_long : (bytes : List ℕ) → 561 ≤ length bytes → frame_reading bytes ≡ Err (long_fault (version_at bytes) (kind_at bytes) (u16_at 2 bytes))
unfolding frame_reading
reading_of_long bytes long = rw (layout_of_long bytes long) refl

reading_of_longer : (xs ys : List ℕ) → 561 ≤ length xs → frame_reading (xs ++ ys) ≡ frame_reading xs
unfolding u16_at
reading_of_longer [] ys long = absurd (omega arith)
reading_of_longer (a ∷ []) ys long = absurd (omega arith)
reading_of_longer (a ∷ b ∷ []) ys long = absurd (omega arith)
reading_of_longer (a ∷ b ∷ c ∷ []) ys long = absurd (omega arith)
reading_of_longer (a ∷ b ∷ c ∷ d ∷ rest) ys long =
    reading_of_long (a ∷ b ∷ c ∷ d ∷ (rest ++ ys)) (omega (arith, length-append rest ys, long)) ∙ sym (reading_of_long (a ∷ b ∷ c ∷ d ∷ rest) long)

-- the reading of bytes that are cut to a buffer larger than every frame
pub reading_of_cut : (n : ℕ) (bytes : List ℕ) → 561 ≤ n → frame_reading (take n bytes) ≡ frame_reading bytes
reading_of_cut n bytes room =
    ⊎_elim
    (λ (longer : n < length bytes).
    let whole : n ≤ length bytes = omega arith in
    sym (reading_of_longer (take n bytes) (drop n bytes) (let all = length-take-le n bytes whole in omega arith)) ∙ ap frame_reading (take-append-drop n bytes))
    (λ (fits : length bytes ≤ n). ap frame_reading (take_all n bytes fits))
    (cases_lt n (length bytes))

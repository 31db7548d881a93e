-- What the bits of sixteen deadlines show.
use Rattle.std.proofs.Common.{◌≡◌, ℕ, ◌+◌, ◌<◌, ◌≤◌, Bool, false, nat_le, List, [], ◌∷◌, map, length, refl, sym, ap, ap₂, ◌∙◌, subst, arith, Fits, w16, w32}
use Rattle.std.specs.Int.{trailing_zeros}
use Rattle.std.specs.Prelude.{slice_index}
use Rattle.std.specs.Simd.Lanes.{Each1, chunk, mask_l}
use Rattle.std.proofs.lemmas.Bool.{leb-false}
use Rattle.std.proofs.lemmas.Bool.Decides.{nat_tests}
use Rattle.std.proofs.lemmas.Simd.{chunk-fits, length-chunk, none_from_empty_mask, run_in_chunk_fails, trailing_mask_l}
use Rattle.tora_sim.specs.Deadlines.{due_bits, short}

later_tick : (now tick : ℕ) → nat_le tick now ≡ false → now < tick
later_tick now tick e = leb-false tick now e

-- a tick of four bytes is at most the stored form of `now` exactly if it is at most `now`
le_short : (now tick : ℕ) → tick < 4294967296 → nat_le tick (short now) ≡ nat_le tick now
le_short now tick fits = grind (arith, nat_tests)

each_le_short : (now : ℕ) (ticks : List ℕ) → Each1 (Fits w32) ticks → map (λ (tick : ℕ). nat_le tick (short now)) ticks ≡ map (λ (tick : ℕ). nat_le tick now) ticks
each_le_short now [] fit = refl
each_le_short now (x ∷ ticks) fit = ap₂ (λ (b : Bool) (bs : List Bool). b ∷ bs) (le_short now x fit.0.fits) (each_le_short now ticks fit.1)

pub bits_by_short : (now first : ℕ) (ticks : List ℕ) → ((at : ℕ) → Fits w32 (slice_index ticks at)) → due_bits (short now) first ticks ≡ due_bits now first ticks
bits_by_short now first ticks fit = ap mask_l (each_le_short now (chunk first 16 ticks) (chunk-fits w32 first 16 ticks fit))

-- if no bit is set, none of the sixteen deadlines has come
pub none_of_sixteen : (now first dues : ℕ) (ticks : List ℕ) → first + 16 ≤ length ticks → dues ≡ due_bits now first ticks → dues ≡ 0 → (at : ℕ) → first ≤ at → at < first + 16 → now < slice_index ticks at
none_of_sixteen now first dues ticks room is none at from before = later_tick now (slice_index ticks at) (none_from_empty_mask (λ (tick : ℕ). nat_le tick now) ticks first 16 0 room (sym is ∙ none) at from before)

-- the deadlines before the lowest bit have not come
pub before_lowest : (now first dues : ℕ) (ticks : List ℕ) → first + 16 ≤ length ticks → dues ≡ due_bits now first ticks → 0 < dues → (at : ℕ) → first ≤ at → at < first + trailing_zeros w16 dues → now < slice_index ticks at
before_lowest now first dues ticks room is some at from before =
    let p = λ (tick : ℕ). nat_le tick now in
    let many = length-chunk first 16 ticks room in
    let some_bits : 0 < due_bits now first ticks = subst (λ (n : ℕ). 0 < n) is some in
    let counted = ap (trailing_zeros w16) is ∙ trailing_mask_l p 16 (chunk first 16 ticks) (omega (arith, many)) some_bits in
    later_tick now (slice_index ticks at) (run_in_chunk_fails p ticks first 16 (trailing_zeros w16 dues) 0 room counted at from before)

-- A read that continues after earlier reads.
use Rattle.std.proofs.Common.{◌≡◌, ◌⊎◌, ⊎_elim, ℕ, ◌+◌, ◌-◌, ◌^◌, ◌<◌, ◌≤◌, min, List, ◌++◌, length, take, drop, sym, ◌∙◌, ap, subst, subst₂, arith, append_assoc, length-take}
use Rattle.std.proofs.lemmas.List.{take_at, drop_at, take_all, drop_all, drop-drop, append-nil, length-drop, take-append-drop}
use Rattle.std.proofs.Math.Seq.{take-add}
use borrow.Rule.Slice.PartMut.{put_mid, mid_of}
use Rattle.tora_life.specs.Disk.{IsRead, IsReadInPart}

-- the bytes read so far, followed by the old contents of the buffer
abbrev pub IsSoFar : List ℕ → List ℕ → ℕ → List ℕ → Type 0
IsSoFar there old count buf = buf ≡ take count there ++ drop count old

module _ (there old buf : List ℕ) (count : ℕ) (long : length buf ≡ length old) (few : count ≤ length buf) (within : count ≤ length there) (so_far : IsSoFar there old count buf) where
  front : length (take count there) ≡ count
  front = omega (arith, length-take count there)

  back : drop count buf ≡ drop count old
  back = ap (drop count) so_far ∙ drop_at (take count there) (drop count old) count front

  before : take count buf ≡ take count there
  before = ap (take count) so_far ∙ take_at (take count there) (drop count old) count front

  -- the rest of the buffer
  pub left_is : mid_of count (length buf - count) buf ≡ drop count old
  left_is = take_all (length buf - count) (drop count buf) (omega (arith, length-drop count buf)) ∙ back

  -- the bytes read are appended to those read before
  pub put_more : (n : ℕ) (sub : List ℕ) → sub ≡ take n (drop count there) ++ drop n (drop count old) → IsSoFar there old (count + n) (put_mid count (length buf - count) buf sub)
  put_more n sub is =
      ap (λ (l : List ℕ). take count buf ++ (sub ++ l)) (drop_all (length buf - count) (drop count buf) (omega (arith, length-drop count buf)))
      ∙ ap (λ (l : List ℕ). take count buf ++ l) (append-nil sub ∙ is)
      ∙ ap (λ (l : List ℕ). l ++ (take n (drop count there) ++ drop n (drop count old))) before
      ∙ sym (append_assoc (take count there) (take n (drop count there)) (drop n (drop count old)))
      ∙ ap (λ (l : List ℕ). l ++ drop n (drop count old)) (sym (take-add count n there))
      ∙ ap (λ (l : List ℕ). take (count + n) there ++ l) (drop-drop n count old)

  -- nothing was read
  pub put_none : (sub : List ℕ) → sub ≡ mid_of count (length buf - count) buf → put_mid count (length buf - count) buf sub ≡ buf
  put_none sub is =
      ap (λ (l : List ℕ). take count buf ++ (l ++ drop (length buf - count) (drop count buf))) is
      ∙ ap (λ (l : List ℕ). take count buf ++ l) (take-append-drop (length buf - count) (drop count buf))
      ∙ take-append-drop count buf

-- the read ends if no bytes are left, or none fit
pub ends_read : (seen : List ℕ) (at : ℕ) (old : List ℕ) (count : ℕ) (new : List ℕ) → count ≤ length old → count ≤ length (drop at seen)
    → (length (drop count old) ≡ 0) ⊎ (length (drop count (drop at seen)) ≡ 0) → IsSoFar (drop at seen) old count new → IsRead seen at old count new
ends_read seen at old count new fits within end so_far = ⊎_elim
    (λ (full : length (drop count old) ≡ 0). let all : count ≡ length old = omega (arith, length-drop count old) in record {
      count = omega arith;
      bytes = so_far ∙ ap (λ (n : ℕ). take n (drop at seen) ++ drop count old) all;
    })
    (λ (none : length (drop count (drop at seen)) ≡ 0). let all : count ≡ length (drop at seen) = omega (arith, length-drop count (drop at seen)) in record {
      count = omega arith;
      bytes = so_far ∙ ap (λ (l : List ℕ). l ++ drop count old) (take_all count (drop at seen) (omega arith) ∙ sym (take_all (length old) (drop at seen) (omega arith)));
    })
    end

-- the bytes after those that were read
pub behind : (seen : List ℕ) (at count place : ℕ) → place ≡ at + count → drop place seen ≡ drop count (drop at seen)
behind seen at count place is = ap (λ (n : ℕ). drop n seen) is ∙ sym (drop-drop count at seen)

-- one more read, from a reader with these bytes
module _ (seen : List ℕ) (at : ℕ) (old buf : List ℕ) (count place n : ℕ) (sub : List ℕ) (long : length buf ≡ length old) (few : count ≤ length buf) (within : count ≤ length (drop at seen)) (so_far : IsSoFar (drop at seen) old count buf) (is : place ≡ at + count)
    (part : IsReadInPart seen place (mid_of count (length buf - count) buf) n sub) where
  there : List ℕ
  there = drop at seen

  left : mid_of count (length buf - count) buf ≡ drop count old
  left = left_is (drop at seen) old buf count long few within so_far

  next : drop place seen ≡ drop count (drop at seen)
  next = behind seen at count place is

  pub more_read : (count + n ≤ length (drop at seen)) × IsSoFar (drop at seen) old (count + n) (put_mid count (length buf - count) buf sub)
  more_read = (
    omega (arith, part.few, ap (λ (l : List ℕ). length l) next, length-drop count (drop at seen)),
    put_more (drop at seen) old buf count long few within so_far n sub (part.bytes ∙ ap (λ (l : List ℕ). take n l ++ drop n (mid_of count (length buf - count) buf)) next ∙ ap (λ (l : List ℕ). take n (drop count (drop at seen)) ++ drop n l) left),
  )

  pub all_read : n ≡ 0 → IsRead seen at old count (put_mid count (length buf - count) buf sub)
  all_read none = ends_read seen at old count (put_mid count (length buf - count) buf sub) (omega arith) within
      (subst₂ (λ (l m : List ℕ). (length l ≡ 0) ⊎ (length m ≡ 0)) left next (part.some none))
      (subst (λ (k : ℕ). IsSoFar (drop at seen) old k (put_mid count (length buf - count) buf sub)) (omega arith) more_read.1)

-- an offset within the bytes fits into 64 bits
pub place_is : (seen : List ℕ) (at count place : ℕ) → place ≡ min (at + count) 18446744073709551615 → count ≤ length (drop at seen) → length seen < 2 ^ 64 → at < 2 ^ 64 → place ≡ at + count
place_is seen at count place is within size fits = omega (arith, length-drop at seen)

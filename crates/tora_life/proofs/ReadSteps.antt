-- Each read is a step of a read that continues.
use Rattle.std.proofs.Common.{◌≡◌, ◌≢◌, inl, inr, ℕ, suc, ◌+◌, ◌-◌, ◌<◌, ◌≤◌, ◌==◌, min, Bool, List, ◌++◌, length, take, drop, Result, Ok, Err, MatchBool, refl, sym, ◌∙◌, ap, subst, arith, rules, eqb-true}
use Rattle.std.proofs.lemmas.Bool.{false_from_ne_true}
use Rattle.std.proofs.lemmas.List.{take_all, drop_all, append-nil, length-drop}
use Rattle.std.specs.declared.io.Error.{Error}
use Rattle.std.specs.declared.io.ErrorKind.TheVariants.{Interrupted}
use Rattle.std.specs.IoError.{error_kind}
use borrow.Rule.Slice.PartMut.{put_mid, mid_of}
use Rattle.tora_life.specs.WholeRead.{ReadsOn}

-- no more reads are allowed
pub none_left : {F : Type 0} (read : F → ℕ → List ℕ → Result ℕ Error → List ℕ → F → Type 0) (left at : ℕ) (reader : F) (count : ℕ) (buf : List ℕ) (error : Error) → left ≡ 0 → ReadsOn read left at reader count buf (Err error) reader buf
unfolding ReadsOn
none_left read left at reader count buf error none = subst (λ (n : ℕ). ReadsOn read n at reader count buf (Err error) reader buf) (sym none) (search rules)

some_left : (most k : ℕ) → k < most → suc (most - (k + 1)) ≡ most - k
some_left most k left = omega arith

not_none : (X Y : Type 0) (n : ℕ) → n ≢ 0 → Y → MatchBool (n == 0) X Y
not_none X Y n some y = subst (λ (b : Bool). MatchBool b X Y) (sym (false_from_ne_true (n == 0) (λ same. some (eqb-true n 0 same)))) y

module _ {F : Type 0} (read : F → ℕ → List ℕ → Result ℕ Error → List ℕ → F → Type 0) (most k at : ℕ) (left : k < most) (reader : F) (count : ℕ) (buf : List ℕ) (place : ℕ) (bytes : List ℕ) (between : F) (few : count ≤ length buf) (is : place ≡ min (at + count) 18446744073709551615) where
  put : List ℕ
  put = put_mid count (length buf - count) buf bytes

  rest : mid_of count (length buf - count) buf ≡ drop count buf
  rest = take_all (length buf - count) (drop count buf) (omega (arith, length-drop count buf))

  put_is : put_mid count (length buf - count) buf bytes ≡ take count buf ++ bytes
  put_is = ap (λ (l : List ℕ). take count buf ++ (bytes ++ l)) (drop_all (length buf - count) (drop count buf) (omega (arith, length-drop count buf))) ∙ ap (λ (l : List ℕ). take count buf ++ l) (append-nil bytes)

  step : (said : Result ℕ Error) → read reader place (mid_of count (length buf - count) buf) said bytes between → read reader (min (at + count) 18446744073709551615) (drop count buf) said bytes between
  step said did = subst (λ (p : ℕ). read reader p (drop count buf) said bytes between) is (subst (λ (l : List ℕ). read reader place l said bytes between) rest did)

  now : (answer : Result ℕ Error) (after : F) (new : List ℕ) → ReadsOn read (suc (most - (k + 1))) at reader count buf answer after new → ReadsOn read (most - k) at reader count buf answer after new
  now answer after new = subst (λ (n : ℕ). ReadsOn read n at reader count buf answer after new) (some_left most k left)

  -- nothing was read
  pub ends : (n : ℕ) → n ≡ 0 → read reader place (mid_of count (length buf - count) buf) (Ok n) bytes between → ReadsOn read (most - k) at reader count buf (Ok count) between (put_mid count (length buf - count) buf bytes)
  unfolding ReadsOn
  ends n none did = now (Ok count) between (put_mid count (length buf - count) buf bytes)
      (Ok 0, bytes, between, step (Ok 0) (subst (λ (m : ℕ). read reader place (mid_of count (length buf - count) buf) (Ok m) bytes between) none did), (refl, refl, put_is))

  -- a read returned bytes, and reading continues
  pub goes_on : (n : ℕ) → n ≢ 0 → read reader place (mid_of count (length buf - count) buf) (Ok n) bytes between
      → (answer : Result ℕ Error) (after : F) (new : List ℕ) → ReadsOn read (most - (k + 1)) at between (count + n) (put_mid count (length buf - count) buf bytes) answer after new → ReadsOn read (most - k) at reader count buf answer after new
  unfolding ReadsOn
  goes_on n some did answer after new onward = now answer after new
      (Ok n, bytes, between, step (Ok n) did, not_none _ _ n some (subst (λ (l : List ℕ). ReadsOn read (most - (k + 1)) at between (count + n) l answer after new) put_is onward))

  -- a read was interrupted, and is repeated
  pub again : (error : Error) → error_kind error ≡ Interrupted → read reader place (mid_of count (length buf - count) buf) (Err error) bytes between
      → (answer : Result ℕ Error) (after : F) (new : List ℕ) → ReadsOn read (most - (k + 1)) at between count (put_mid count (length buf - count) buf bytes) answer after new → ReadsOn read (most - k) at reader count buf answer after new
  unfolding ReadsOn
  again error kind did answer after new onward = now answer after new
      (Err error, bytes, between, step (Err error) did, inl (kind, subst (λ (l : List ℕ). ReadsOn read (most - (k + 1)) at between count l answer after new) put_is onward))

  -- a read has failed
  pub fails : (error : Error) → error_kind error ≢ Interrupted → read reader place (mid_of count (length buf - count) buf) (Err error) bytes between → ReadsOn read (most - k) at reader count buf (Err error) between (put_mid count (length buf - count) buf bytes)
  unfolding ReadsOn
  fails error kind did = now (Err error) between (put_mid count (length buf - count) buf bytes)
      (Err error, bytes, between, step (Err error) did, inr (kind, refl, refl, put_is))

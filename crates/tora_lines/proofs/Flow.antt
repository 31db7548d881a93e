-- The output for bytes, line by line.
use Rattle.std.proofs.Common.{◌≡◌, ℕ, suc, ◌+◌, ◌<◌, true, false, ◌==◌, List, [], ◌∷◌, ◌++◌, length, take, drop, Option, None, Some, refl, sym, ap, ◌∙◌, arith, append_assoc}
use Rattle.std.specs.List.{position}
use Rattle.std.specs.Io.KnownBytes.{Appends, Consumes, Keeps}
use Rattle.std.proofs.lemmas.List.{append-nil, length-append}
use Rattle.tora_lines.specs.declared.session.TheConstants.{LONGEST_LINE}
use Rattle.tora_lines.specs.Words.{split}
use Rattle.tora_lines.specs.Pieces.{without_last_empty, pieces_of}
use Rattle.tora_lines.specs.LineText.{Text, faulty, prepend}
use Rattle.tora_lines.specs.Engine.{Kind, IsFault, GoesOn, text_of, IsOpen, Prints}
use Rattle.tora_lines.specs.declared.ended.Ended.{Ended}
use Rattle.tora_lines.proofs.Splits.{Lacks, cut_none, split_first, split_none}

-- ---- the first line

pub record HasFirst (c : ℕ) (text : List ℕ) : Type 0 where
  pub first : List ℕ
  pub others : List (List ℕ)
  pub is : split c text ≡ first ∷ others

pub split_cons : (c : ℕ) (text : List ℕ) → HasFirst c text
split_cons c [] = record { first = []; others = []; is = refl }
split_cons c (x ∷ xs) =
    let r = split_cons c xs in
    elim (x == c) as (λ b. (x == c) ≡ b → HasFirst c (x ∷ xs)) [
      | true ↦ λ e. record { first = []; others = split c xs; is = rw e refl }
      | false ↦ λ e. record { first = x ∷ r.first; others = r.others; is = rw (e, r.is) refl }
    ] refl

pub drop_last : (line next : List ℕ) (lines : List (List ℕ)) → without_last_empty (line ∷ next ∷ lines) ≡ line ∷ without_last_empty (next ∷ lines)
drop_last [] next lines = refl
drop_last (x ∷ xs) next lines = refl

lines_first : (i : ℕ) (bytes more : List ℕ) → position (λ x. x == 10) bytes ≡ Some i → pieces_of (bytes ++ more) ≡ take i bytes ∷ pieces_of (drop (i + 1) bytes ++ more)
unfolding pieces_of
lines_first i bytes more h =
    let r = split_cons 10 (drop (i + 1) bytes ++ more) in
    ap without_last_empty (split_first 10 i bytes more h ∙ ap (λ (t : List (List ℕ)). take i bytes ∷ t) r.is)
    ∙ drop_last (take i bytes) r.first r.others
    ∙ ap (λ (t : List (List ℕ)). take i bytes ∷ without_last_empty t) (sym r.is)

-- bytes without the separator are the beginning of the first piece of the text that follows
split_open : (c : ℕ) (a b : List ℕ) → Lacks c a → (r : HasFirst c b) → split c (a ++ b) ≡ (a ++ r.first) ∷ r.others
split_open c [] b clear r = r.is
split_open c (x ∷ xs) b clear r =
    let e : (x == c) ≡ false = clear 0 0 (omega arith) in
    let rest : Lacks c xs = λ k d below. clear (suc k) d (omega arith) in
    rw (e, split_open c xs b rest r) refl

lines_open : (a b : List ℕ) → IsOpen a → 0 < length a → (first : List ℕ) × (others : List (List ℕ)) × (pieces_of (a ++ b) ≡ (a ++ first) ∷ others)
unfolding pieces_of
lines_open a b h some =
    let r = split_cons 10 b in
    let e = ap without_last_empty (split_open 10 a b (cut_none 10 a h) r) in
    let n = nonempty (a ++ r.first) r.others (omega (arith, length-append a r.first)) in
    (r.first, n.0, e ∙ n.1)
  where
    nonempty : (line : List ℕ) (others : List (List ℕ)) → 0 < length line → (rest : List (List ℕ)) × (without_last_empty (line ∷ others) ≡ line ∷ rest)
    nonempty [] others h = absurd (omega arith)
    nonempty (x ∷ xs) [] h = ([], refl)
    nonempty (x ∷ xs) (p ∷ ps) h = (without_last_empty (p ∷ ps), refl)

-- ---- the text

pub text_goes_on : {S : Type 0} (kind : Kind S) (state : S) (n i : ℕ) (bytes more : List ℕ) (next : S) (out : List ℕ) → position (λ x. x == 10) bytes ≡ Some i → GoesOn kind state (take i bytes) next out
    → text_of kind state n (bytes ++ more) ≡ prepend out (text_of kind next (n + 1) (drop (i + 1) bytes ++ more))
unfolding text_of
text_goes_on kind state n i bytes more next out h r = ap (kind.text state n) (lines_first i bytes more h) ∙ r n (pieces_of (drop (i + 1) bytes ++ more))

pub text_faults : {S : Type 0} (kind : Kind S) (state : S) (n i : ℕ) (bytes more : List ℕ) → position (λ x. x == 10) bytes ≡ Some i → IsFault kind state (take i bytes) → text_of kind state n (bytes ++ more) ≡ faulty n
unfolding text_of
text_faults kind state n i bytes more h r = ap (kind.text state n) (lines_first i bytes more h) ∙ r n (pieces_of (drop (i + 1) bytes ++ more))

pub text_too_long : {S : Type 0} (kind : Kind S) (state : S) (n : ℕ) (bytes more : List ℕ) → IsOpen bytes → LONGEST_LINE < length bytes → text_of kind state n (bytes ++ more) ≡ faulty n
unfolding text_of
text_too_long kind state n bytes more h long =
    let l = lines_open bytes more h (omega arith) in
    ap (kind.text state n) l.2 ∙ kind.long state (bytes ++ l.0) (omega (arith, long, length-append bytes l.0)) n l.1

pub lines_last : (bytes : List ℕ) → IsOpen bytes → 0 < length bytes → pieces_of bytes ≡ bytes ∷ []
unfolding pieces_of
lines_last bytes h some = ap without_last_empty (split_none 10 bytes h) ∙ last bytes some
  where
    last : (line : List ℕ) → 0 < length line → without_last_empty (line ∷ []) ≡ line ∷ []
    last [] h = absurd (omega arith)
    last (x ∷ xs) h = refl

pub text_ends : {S : Type 0} (kind : Kind S) (state : S) (n : ℕ) → text_of kind state n [] ≡ kind.text state n []
unfolding text_of pieces_of
text_ends kind state n = refl

pub text_last : {S : Type 0} (kind : Kind S) (state : S) (n : ℕ) (bytes : List ℕ) (next : S) (out : List ℕ) → IsOpen bytes → 0 < length bytes → GoesOn kind state bytes next out → text_of kind state n bytes ≡ prepend out (kind.text next (n + 1) [])
unfolding text_of
text_last kind state n bytes next out h some r = ap (kind.text state n) (lines_last bytes h some) ∙ r n []

pub text_last_faults : {S : Type 0} (kind : Kind S) (state : S) (n : ℕ) (bytes : List ℕ) → IsOpen bytes → 0 < length bytes → IsFault kind state bytes → text_of kind state n bytes ≡ faulty n
unfolding text_of
text_last_faults kind state n bytes h some r = ap (kind.text state n) (lines_last bytes h some) ∙ r n []

-- ---- known bytes

pub Appends-nil : (old : Option (List ℕ)) → Appends old old []
Appends-nil None = tt
Appends-nil (Some xs) = sym (append-nil xs)

pub Appends-then : (a b c : Option (List ℕ)) (xs ys : List ℕ) → Appends a b xs → Appends b c ys → Appends a c (xs ++ ys)
Appends-then None b c xs ys p q = tt
Appends-then (Some a) None c xs ys p q = absurd p
Appends-then (Some a) (Some b) None xs ys p q = absurd q
Appends-then (Some a) (Some b) (Some c) xs ys p q = q ∙ ap (λ (t : List ℕ). t ++ ys) p ∙ append_assoc a xs ys

pub Consumes-nil : (old : Option (List ℕ)) → Consumes old old []
Consumes-nil None = tt
Consumes-nil (Some xs) = refl

pub Consumes-keeps : (old new : Option (List ℕ)) → Keeps old new → Consumes old new []
Consumes-keeps None new k = tt
Consumes-keeps (Some xs) None k = absurd k
Consumes-keeps (Some xs) (Some ys) k = sym k

pub Consumes-then : (a b c : Option (List ℕ)) (xs ys : List ℕ) → Consumes a b xs → Consumes b c ys → Consumes a c (xs ++ ys)
Consumes-then None b c xs ys p q = tt
Consumes-then (Some a) None c xs ys p q = absurd p
Consumes-then (Some a) (Some b) None xs ys p q = absurd q
Consumes-then (Some a) (Some b) (Some c) xs ys p q = p ∙ ap (λ (t : List ℕ). xs ++ t) q ∙ sym (append_assoc xs ys c)

-- ---- steps

-- some output was printed, and then more
pub Prints-then : {S : Type 0} (kind : Kind S) (state : S) (n : ℕ) (bytes : List ℕ) (a b c : Option (List ℕ)) (next : S) (m : ℕ) (left : List ℕ) (onward : List ℕ → Text)
    → Prints kind state n bytes a b (λ more. text_of kind next m (left ++ more)) → Prints kind next m left b c onward → Prints kind state n bytes a c onward
Prints-then kind state n bytes a b c next m left onward p q = record {
  written = p.written ++ q.written;
  grown = Appends-then a b c p.written q.written p.grown q.grown;
  goes = λ more. p.goes more ∙ ap (prepend p.written) (q.goes more) ∙ ap (λ (t : List ℕ). pair t (onward more).1) (sym (append_assoc p.written q.written (onward more).0));
}
  where
    pair : List ℕ → Ended → Text
    pair t e = (t, e)

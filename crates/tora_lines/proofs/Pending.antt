-- A line whose beginning is pending, and whose end is in a chunk.
use Rattle.std.proofs.Common.{◌≡◌, ℕ, ◌+◌, ◌<◌, ◌≤◌, Bool, true, false, ltb, ◌==◌, List, [], ◌∷◌, ◌++◌, length, take, drop, Option, None, Some, Result, Ok, Err, refl, sym, ap, ◌∙◌, arith, append_assoc, inl, inr}
use Rattle.std.specs.List.{position, position_or_len}
use Rattle.std.specs.Io.KnownBytes.{Appends}
use Rattle.std.proofs.lemmas.Bool.{cases_lt, eq-eqb, le-ltb}
use Rattle.std.proofs.lemmas.List.{length-append, length-drop}
use Rattle.std.proofs.lemmas.List.Elements.{All-append}
use Rattle.std.proofs.lemmas.List.Sums.{passes_at_first}
use Rattle.std.proofs.lemmas.List.Splits.{slice_split_at}
use Rattle.tora_lines.specs.declared.session.TheConstants.{LONGEST_LINE}
use Rattle.tora_lines.specs.Pieces.{without_last_empty, pieces_of}
use Rattle.tora_lines.specs.LineText.{faulty, prepend}
use Rattle.tora_lines.specs.Engine.{Kind, IsFault, GoesOn, text_of, IsOpen, Prints, Answers, IsAnswered, Keeps, Stops, IsDrained, TakesChunk}
use Rattle.tora_lines.specs.declared.ended.ReplayError.{ReplayError}
use Rattle.tora_lines.specs.declared.ended.ReplayError.TheVariants.{Memory, Read, Write}
use Rattle.tora_lines.proofs.Splits.{Lacks, cut_at, cut_none}
use Rattle.tora_lines.proofs.Flow.{split_cons, drop_last, Appends-nil, Prints-then}
use Rattle.tora_lines.proofs.Ends.{too_long}
use Rattle.tora_lines.proofs.Steps.{line_stops, Stops-then}

-- ---- open bytes

-- a text without the separator has no index of it
pub no_place : (c : ℕ) (text : List ℕ) → Lacks c text → position (λ x. x == c) text ≡ None
no_place c text clear =
    let p = λ (x : ℕ). x == c in
    elim (cases_lt (position_or_len p text) (length text)) [
      | inl lt ↦ let at = passes_at_first p text 0 lt in let not_at = clear (position_or_len p text) 0 lt in absurd cc
      | inr le ↦ let e : ltb (position_or_len p text) (length text) ≡ false = le-ltb _ _ le in rw e refl
    ]

pub open_append : (a b : List ℕ) → IsOpen a → IsOpen b → IsOpen (a ++ b)
open_append a b p q = no_place 10 (a ++ b) (All-append (λ x. (x == 10) ≡ false) a b (cut_none 10 a p) (cut_none 10 b q))

-- ---- a line that ends

pub pieces_at : (a rest : List ℕ) → Lacks 10 a → pieces_of (a ++ 10 ∷ rest) ≡ a ∷ pieces_of rest
unfolding pieces_of
pieces_at a rest clear =
    let r = split_cons 10 rest in
    ap without_last_empty (slice_split_at (λ x. x == 10) a 10 rest clear (eq-eqb 10 10 refl) ∙ ap (λ (t : List (List ℕ)). a ∷ t) r.is)
    ∙ drop_last a r.first r.others
    ∙ ap (λ (t : List (List ℕ)). a ∷ without_last_empty t) (sym r.is)

-- the pending beginning of a line, its end in the chunk, and the rest
pub record IsJoined (pending chunk end rest : List ℕ) : Type 0 where
  pub whole : pending ++ chunk ≡ (pending ++ end) ++ 10 ∷ rest
  pub clear : Lacks 10 (pending ++ end)

pub joined : (pending chunk : List ℕ) (i : ℕ) → IsOpen pending → position (λ x. x == 10) chunk ≡ Some i → IsJoined pending chunk (take i chunk) (drop (i + 1) chunk)
joined pending chunk i h at =
    let cut = cut_at 10 i chunk at in
    record {
      whole = ap (λ (t : List ℕ). pending ++ t) cut.parts ∙ sym (append_assoc pending (take i chunk) (10 ∷ drop (i + 1) chunk));
      clear = All-append (λ x. (x == 10) ≡ false) pending (take i chunk) (cut_none 10 pending h) cut.clear;
    }

goes_on : {S : Type 0} (kind : Kind S) (state : S) (n : ℕ) (pending chunk end rest more : List ℕ) (next : S) (out : List ℕ) → IsJoined pending chunk end rest → GoesOn kind state (pending ++ end) next out
    → text_of kind state n ((pending ++ chunk) ++ more) ≡ prepend out (text_of kind next (n + 1) (rest ++ more))
unfolding text_of
goes_on kind state n pending chunk end rest more next out j r =
    let e : (pending ++ chunk) ++ more ≡ (pending ++ end) ++ 10 ∷ (rest ++ more) = ap (λ (t : List ℕ). t ++ more) j.whole ∙ append_assoc (pending ++ end) (10 ∷ rest) more in
    let p : pieces_of ((pending ++ chunk) ++ more) ≡ (pending ++ end) ∷ pieces_of (rest ++ more) = ap pieces_of e ∙ pieces_at (pending ++ end) (rest ++ more) j.clear in
    ap (kind.text state n) p ∙ r n (pieces_of (rest ++ more))

faults : {S : Type 0} (kind : Kind S) (state : S) (n : ℕ) (pending chunk end rest more : List ℕ) → IsJoined pending chunk end rest → IsFault kind state (pending ++ end) → text_of kind state n ((pending ++ chunk) ++ more) ≡ faulty n
unfolding text_of
faults kind state n pending chunk end rest more j r =
    let e : (pending ++ chunk) ++ more ≡ (pending ++ end) ++ 10 ∷ (rest ++ more) = ap (λ (t : List ℕ). t ++ more) j.whole ∙ append_assoc (pending ++ end) (10 ∷ rest) more in
    let p : pieces_of ((pending ++ chunk) ++ more) ≡ (pending ++ end) ∷ pieces_of (rest ++ more) = ap pieces_of e ∙ pieces_at (pending ++ end) (rest ++ more) j.clear in
    ap (kind.text state n) p ∙ r n (pieces_of (rest ++ more))

pub joined_faults : {S : Type 0} (kind : Kind S) (state : S) (n : ℕ) (pending chunk end rest : List ℕ) (b c : Option (List ℕ)) → IsJoined pending chunk end rest → (IsFault kind state (pending ++ end)) × Appends b c [] → Prints kind state n (pending ++ chunk) b c (λ more. faulty n)
joined_faults kind state n pending chunk end rest b c j h = record { written = []; grown = h.1; goes = λ more. faults kind state n pending chunk end rest more j h.0 }

pub joined_prints : {S : Type 0} (kind : Kind S) (state : S) (n : ℕ) (pending chunk end rest : List ℕ) (next : S) (b c : Option (List ℕ)) → IsJoined pending chunk end rest → IsAnswered kind state (pending ++ end) next b c
    → Prints kind state n (pending ++ chunk) b c (λ more. text_of kind next (n + 1) (rest ++ more))
joined_prints kind state n pending chunk end rest next b c j a = record {
  written = a.text;
  grown = a.grown;
  goes = λ more. goes_on kind state n pending chunk end rest more next a.text j a.goes_on;
}

-- ---- a line that is too long

pub long_is_none : {S : Type 0} (kind : Kind S) (state : S) (line : List ℕ) → LONGEST_LINE < length line → IsFault kind state line
long_is_none kind state line long = kind.long state line long

-- from the promise of `keep` to that of `answer`
pub keeps_not : {S : Type 0} (kind : Kind S) (state next : S) (pending end kept : List ℕ) (w : Option (List ℕ)) → Keeps pending end kept (Ok false) → Answers kind state (pending ++ end) next w w (Ok false)
keeps_not kind state next pending end kept w k = (long_is_none kind state (pending ++ end) (omega (arith, k, length-append pending end)), Appends-nil w)

pub keeps_err : {S : Type 0} (kind : Kind S) (state next : S) (pending end kept : List ℕ) (w : Option (List ℕ)) (e : ReplayError) → Keeps pending end kept (Err e) → Answers kind state (pending ++ end) next w w (Err e)
keeps_err kind state next pending end kept w Memory k = Appends-nil w
keeps_err kind state next pending end kept w Read k = absurd k
keeps_err kind state next pending end kept w Write k = absurd k

-- the promise of `keep` about the bytes after complete lines
pub keeps_left : {S : Type 0} (kind : Kind S) (state : S) (n : ℕ) (bytes : List ℕ) (old new : Option (List ℕ)) (next : S) (m : ℕ) (pending end kept : List ℕ) (r : Result Bool ReplayError)
    → IsDrained kind state n bytes old new next m (pending ++ end) → Keeps pending end kept r → TakesChunk kind state n bytes old new next m kept r
keeps_left kind state n bytes old new next m pending end kept (Ok true) d k = (rw k.0 d, k.1)
keeps_left kind state n bytes old new next m pending end kept (Ok false) d k = too_long kind state n bytes old new next m (pending ++ end) d (omega (arith, k, length-append pending end))
keeps_left kind state n bytes old new next m pending end kept (Err Memory) d k = ((λ more. text_of kind next m ((pending ++ end) ++ more)), d.prints)
keeps_left kind state n bytes old new next m pending end kept (Err Read) d k = k
keeps_left kind state n bytes old new next m pending end kept (Err Write) d k = absurd k

-- neither the pending bytes nor the chunk have an LF
pub still_open : {S : Type 0} (kind : Kind S) (state : S) (n : ℕ) (pending chunk : List ℕ) (w : Option (List ℕ)) → IsOpen pending → IsOpen chunk → IsDrained kind state n (pending ++ chunk) w w state n (pending ++ chunk)
still_open kind state n pending chunk w p q = record {
  prints = record { written = []; grown = Appends-nil w; goes = λ more. refl };
  is_open = open_append pending chunk p q;
  count = omega arith;
}

-- memory ran out, or a write failed, at the first line
pub joined_stops : {S : Type 0} (kind : Kind S) (state : S) (n : ℕ) (bytes line : List ℕ) (next : S) (b c : Option (List ℕ)) (e : ReplayError) → Answers kind state line next b c (Err e) → Stops kind state n bytes b c e
joined_stops kind state n bytes line next b c e h = line_stops kind state n bytes line next b c e h

-- ---- after the first line

pub rest_taken : {S : Type 0} (kind : Kind S) (state : S) (n : ℕ) (bytes : List ℕ) (a b c : Option (List ℕ)) (next : S) (m : ℕ) (rest : List ℕ) (last : S) (k : ℕ) (left : List ℕ) (r : Result Bool ReplayError)
    → Prints kind state n bytes a b (λ more. text_of kind next m (rest ++ more)) → m + length rest ≤ n + length bytes → TakesChunk kind next m rest b c last k left r → TakesChunk kind state n bytes a c last k left r
rest_taken kind state n bytes a b c next m rest last k left (Ok true) p count t =
    (record { prints = Prints-then kind state n bytes a b c next m rest (λ more. text_of kind last k (left ++ more)) p t.0.prints; is_open = t.0.is_open; count = omega (arith, count, t.0.count) }, t.1)
rest_taken kind state n bytes a b c next m rest last k left (Ok false) p count t = Prints-then kind state n bytes a b c next m rest (λ more. faulty k) p t
rest_taken kind state n bytes a b c next m rest last k left (Err e) p count t = Stops-then kind state n bytes a b c next m rest e p t

pub joined_taken : {S : Type 0} (kind : Kind S) (state : S) (n : ℕ) (pending chunk : List ℕ) (i : ℕ) (next : S) (a b c : Option (List ℕ)) (last : S) (k : ℕ) (left : List ℕ) (r : Result Bool ReplayError)
    → IsOpen pending → position (λ x. x == 10) chunk ≡ Some i → IsAnswered kind state (pending ++ take i chunk) next a b → TakesChunk kind next (n + 1) (drop (i + 1) chunk) b c last k left r
    → TakesChunk kind state n (pending ++ chunk) a c last k left r
joined_taken kind state n pending chunk i next a b c last k left r h at answered t =
    let below = (cut_at 10 i chunk at).below in
    let p = joined_prints kind state n pending chunk (take i chunk) (drop (i + 1) chunk) next a b (joined pending chunk i h at) answered in
    rest_taken kind state n (pending ++ chunk) a b c next (n + 1) (drop (i + 1) chunk) last k left r p (omega (arith, below, length-drop (i + 1) chunk, length-append pending chunk)) t

-- Lines of any length, byte by byte.
use Rattle.std.proofs.Common.{◌≡◌, ◌≢◌, ℕ, ◌+◌, ◌<◌, false, ◌==◌, List, [], ◌∷◌, ◌++◌, length, drop, get_or, take, map, Option, None, Some, Result, Ok, Err, refl, sym, ap, ◌∙◌, append_assoc, add-one}
use Rattle.std.specs.Prelude.{OnOk, IfOk, IfErr, IfSome, is_err}
use Rattle.std.specs.Io.KnownBytes.{Appends, Consumes, Keeps, IsAtEnd}
use Rattle.std.proofs.Math.Seq.{drop-cons}
use Rattle.std.proofs.lemmas.List.{append-nil}
use Rattle.tora_lines.specs.Pieces.{pieces_of}
use Rattle.tora_lines.specs.LineText.{Text, faulty, prepend}
use Rattle.tora_lines.specs.Engine.{Kind, IsFault, GoesOn, IsOpen, Answers, IsAnswered, IsFrontOfText, IsWholeText, Ends}
use Rattle.tora_lines.specs.Shortened.{shortened, shortened_text_of, Holds, Goes, text_behind, Takes, TakesBytes, WritesText, IsBetweenReads}
use Rattle.tora_lines.specs.declared.ended.Ended.{Ended}
use Rattle.tora_lines.specs.declared.ended.ReplayError.{ReplayError}
use Rattle.tora_lines.specs.declared.ended.ReplayError.TheVariants.{Memory, Read, Write}
use Rattle.tora_lines.specs.declared.shortened.Held.{Held}
use Rattle.tora_lines.proofs.WordLaws.{some_is}
use Rattle.tora_lines.proofs.Splits.{cut_none}
use Rattle.tora_lines.proofs.Flow.{Appends-nil, Appends-then, Consumes-nil, Consumes-keeps, Consumes-then, lines_last}
use Rattle.tora_lines.proofs.Pending.{open_append, pieces_at}

-- ---- texts

joined : (a b : List ℕ) (t : Text) → prepend a (prepend b t) ≡ prepend (a ++ b) t
joined a b t = ap (λ (x : List ℕ). pair x t.1) (sym (append_assoc a b t.0))
  where
    pair : List ℕ → Ended → Text
    pair x e = (x, e)

nothing : (t : Text) → t ≡ prepend [] t
nothing t = refl

pub goes_nothing : (text : List ℕ → Text) (w : Option (List ℕ)) → Goes text [] w w text
goes_nothing text w = record { written = []; grown = Appends-nil w; goes = λ more. nothing (text more) }

pub goes_then : (text mid onward : List ℕ → Text) (xs ys : List ℕ) (a b c : Option (List ℕ)) → Goes text xs a b mid → Goes mid ys b c onward → Goes text (xs ++ ys) a c onward
goes_then text mid onward xs ys a b c p q = record {
  written = p.written ++ q.written;
  grown = Appends-then a b c p.written q.written p.grown q.grown;
  goes = λ more. ap text (append_assoc xs ys more) ∙ p.goes (ys ++ more) ∙ ap (prepend p.written) (q.goes more) ∙ joined p.written q.written (onward more);
}

-- the same written text with an equal continuation
goes_as : (text mid onward : List ℕ → Text) (xs : List ℕ) (a b c : Option (List ℕ)) (out : List ℕ) → Goes text xs a b mid → Appends b c out → ((more : List ℕ) → mid more ≡ prepend out (onward more)) → Goes text xs a c onward
goes_as text mid onward xs a b c out p grown same = record {
  written = p.written ++ out;
  grown = Appends-then a b c p.written out p.grown grown;
  goes = λ more. p.goes more ∙ ap (prepend p.written) (same more) ∙ joined p.written out (onward more);
}

-- ---- lines

line_goes : {S : Type 0} (kind : Kind S) (state : S) (n : ℕ) (line left : List ℕ) (next : S) (out : List ℕ) → IsOpen line → GoesOn kind state (shortened line) next out
    → shortened_text_of kind state n (line ++ 10 ∷ left) ≡ prepend out (shortened_text_of kind next (n + 1) left)
unfolding shortened_text_of
line_goes kind state n line left next out whole r =
    ap (λ (t : List (List ℕ)). kind.text state n (map shortened t)) (pieces_at line left (cut_none 10 line whole)) ∙ r n (map shortened (pieces_of left))

line_faults : {S : Type 0} (kind : Kind S) (state : S) (n : ℕ) (line left : List ℕ) → IsOpen line → IsFault kind state (shortened line) → shortened_text_of kind state n (line ++ 10 ∷ left) ≡ faulty n
unfolding shortened_text_of
line_faults kind state n line left whole r =
    ap (λ (t : List (List ℕ)). kind.text state n (map shortened t)) (pieces_at line left (cut_none 10 line whole)) ∙ r n (map shortened (pieces_of left))

-- ---- one byte more

pub bytes_at : (i : ℕ) (bytes : List ℕ) → i < length bytes → drop i bytes ≡ get_or bytes i 0 ∷ drop (i + 1) bytes
bytes_at i bytes h = rw (drop-cons bytes i 0 h, add-one) refl

is_open_one : (c : ℕ) → (c == 10) ≡ false → IsOpen (c ∷ [])
is_open_one c h = rw h refl

pub takes_none : {S : Type 0} (kind : Kind S) (state : S) (n : ℕ) (front bytes : List ℕ) (w : Option (List ℕ)) (held : Held) → Holds held front → IsOpen front → Takes kind state n front bytes w w state n held bytes
takes_none kind state n front bytes w held holds whole = record {
  rest = front;
  holds = holds;
  is_open = whole;
  goes = record { written = []; grown = Appends-nil w; goes = λ more. refl };
}

pub takes_byte : {S : Type 0} (kind : Kind S) (start : S) (n : ℕ) (front bytes left : List ℕ) (a b : Option (List ℕ)) (state : S) (m : ℕ) (held next : Held) (c : ℕ) → Takes kind start n front bytes a b state m held (c ∷ left) → (c == 10) ≡ false
    → ((text : List ℕ) → Holds held text → Holds next (text ++ c ∷ [])) → Takes kind start n front bytes a b state m next left
takes_byte kind start n front bytes left a b state m held next c p other holds = record {
  rest = p.rest ++ c ∷ [];
  holds = holds p.rest p.holds;
  is_open = open_append p.rest (c ∷ []) p.is_open (is_open_one c other);
  goes = record {
    written = p.goes.written;
    grown = p.goes.grown;
    goes = λ more. p.goes.goes more ∙ ap (λ (t : List ℕ). prepend p.goes.written (shortened_text_of kind state m t)) (sym (append_assoc p.rest (c ∷ []) (left ++ more)));
  };
}

pub takes_line : {S : Type 0} (kind : Kind S) (start : S) (n : ℕ) (front bytes left : List ℕ) (a b c : Option (List ℕ)) (state : S) (m : ℕ) (held next : Held) (byte : ℕ) (new : S) (line : List ℕ) → (p : Takes kind start n front bytes a b state m held (byte ∷ left)) → byte ≡ 10
    → line ≡ shortened p.rest → IsAnswered kind state line new b c → Holds next [] → Takes kind start n front bytes a c new (m + 1) next left
takes_line kind start n front bytes left a b c state m held next byte new line p at is answered holds = record {
  rest = [];
  holds = holds;
  is_open = refl;
  goes =
      goes_as (text_behind kind start n front) (λ more. text_behind kind state m p.rest (byte ∷ (left ++ more))) (λ more. text_behind kind new (m + 1) [] (left ++ more)) bytes a b c answered.text p.goes answered.grown
      (λ more. ap (λ (x : ℕ). shortened_text_of kind state m (p.rest ++ x ∷ (left ++ more))) at ∙ line_goes kind state m p.rest (left ++ more) new answered.text p.is_open (rw is at answered.goes_on));
}

pub stops_at_line : {S : Type 0} (kind : Kind S) (start : S) (n : ℕ) (front bytes left : List ℕ) (a b c : Option (List ℕ)) (state : S) (m : ℕ) (held : Held) (byte : ℕ) (line : List ℕ) → (p : Takes kind start n front bytes a b state m held (byte ∷ left)) → byte ≡ 10
    → line ≡ shortened p.rest → IsFault kind state line → Appends b c [] → Goes (text_behind kind start n front) bytes a c (λ more. faulty m)
stops_at_line kind start n front bytes left a b c state m held byte line p at is fault kept =
    goes_as (text_behind kind start n front) (λ more. text_behind kind state m p.rest (byte ∷ (left ++ more))) (λ more. faulty m) bytes a b c [] p.goes kept
    (λ more. ap (λ (x : ℕ). shortened_text_of kind state m (p.rest ++ x ∷ (left ++ more))) at ∙ line_faults kind state m p.rest (left ++ more) p.is_open (rw is at fault))

-- memory ran out
pub stops_at_memory : {S : Type 0} (kind : Kind S) (start : S) (n : ℕ) (front bytes left : List ℕ) (a b c : Option (List ℕ)) (state : S) (m : ℕ) (held : Held) (last : S) (k : ℕ) (other : Held) → Takes kind start n front bytes a b state m held left → Appends b c []
    → TakesBytes kind start n front bytes a c last k other (Err Memory)
stops_at_memory kind start n front bytes left a b c state m held last k other p kept = (
  (λ more. text_behind kind state m p.rest (left ++ more)),
  goes_as (text_behind kind start n front) (λ more. text_behind kind state m p.rest (left ++ more)) (λ more. text_behind kind state m p.rest (left ++ more)) bytes a b c [] p.goes kept (λ more. nothing (text_behind kind state m p.rest (left ++ more))),
)

-- memory ran out, or a write failed
pub stops_at_error : {S : Type 0} (kind : Kind S) (start : S) (n : ℕ) (front bytes left : List ℕ) (a b c : Option (List ℕ)) (state : S) (m : ℕ) (held : Held) (line : List ℕ) (next last : S) (k : ℕ) (other : Held) (e : ReplayError) → Takes kind start n front bytes a b state m held left
    → Answers kind state line next b c (Err e) → TakesBytes kind start n front bytes a c last k other (Err e)
stops_at_error kind start n front bytes left a b c state m held line next last k other Memory p h = stops_at_memory kind start n front bytes left a b c state m held last k other p h
stops_at_error kind start n front bytes left a b c state m held line next last k other Read p h = h
stops_at_error kind start n front bytes left a b c state m held line next last k other Write p h = tt

pub when_ok : {A E : Type 0} (r : Result A E) (P : Type 0) → is_err r ≡ false → OnOk r P → P
when_ok (Ok x) P h p = p
when_ok (Err e) P h p = absurd cc

-- ---- the end

no_lines : {S : Type 0} (kind : Kind S) (state : S) (n : ℕ) → shortened_text_of kind state n [] ≡ kind.text state n []
unfolding shortened_text_of pieces_of
no_lines kind state n = refl

last_goes : {S : Type 0} (kind : Kind S) (state : S) (n : ℕ) (line : List ℕ) (next : S) (out : List ℕ) → IsOpen line → 0 < length line → GoesOn kind state (shortened line) next out → shortened_text_of kind state n line ≡ prepend out (kind.text next (n + 1) [])
unfolding shortened_text_of
last_goes kind state n line next out whole some r = ap (λ (t : List (List ℕ)). kind.text state n (map shortened t)) (lines_last line whole some) ∙ r n []

last_faults : {S : Type 0} (kind : Kind S) (state : S) (n : ℕ) (line : List ℕ) → IsOpen line → 0 < length line → IsFault kind state (shortened line) → shortened_text_of kind state n line ≡ faulty n
unfolding shortened_text_of
last_faults kind state n line whole some r = ap (λ (t : List (List ℕ)). kind.text state n (map shortened t)) (lines_last line whole some) ∙ r n []

-- a part of an output was written, and then the rest of it
writes_behind : (text behind : Text) (out : List ℕ) (old mid new : Option (List ℕ)) (r : Result Ended ReplayError) → text ≡ prepend out behind → Appends old mid out → Ends behind mid new r → WritesText text old new r
writes_behind text behind out old mid new (Ok ended) e a f = (rw e (Appends-then old mid new out behind.0 a f.0), f.1 ∙ sym (ap (λ (t : Text). t.1) e))
writes_behind text behind out old mid new (Err Memory) e a f = (out, rw (← append-nil out) (Appends-then old mid new out [] a f), (behind.0, ap (λ (t : Text). t.0) e))
writes_behind text behind out old mid new (Err Read) e a f = f
writes_behind text behind out old mid new (Err Write) e a f = tt

pub writes_none : {S : Type 0} (kind : Kind S) (state : S) (n : ℕ) (line : List ℕ) (old new : Option (List ℕ)) (r : Result Ended ReplayError) → line ≡ [] → Ends (kind.text state n []) old new r → WritesText (shortened_text_of kind state n line) old new r
writes_none kind state n line old new r e f = writes_behind (shortened_text_of kind state n line) (kind.text state n []) [] old old new r (ap (shortened_text_of kind state n) e ∙ no_lines kind state n) (Appends-nil old) f

pub writes_last : {S : Type 0} (kind : Kind S) (state : S) (n : ℕ) (text line : List ℕ) (old mid new : Option (List ℕ)) (next : S) (r : Result Ended ReplayError) → IsOpen text → 0 < length text → line ≡ shortened text → IsAnswered kind state line next old mid
    → Ends (kind.text next (n + 1) []) mid new r → WritesText (shortened_text_of kind state n text) old new r
writes_last kind state n text line old mid new next r whole some is a f =
    writes_behind (shortened_text_of kind state n text) (kind.text next (n + 1) []) a.text old mid new r (last_goes kind state n text next a.text whole some (rw is at a.goes_on)) a.grown f

pub writes_fault : {S : Type 0} (kind : Kind S) (state : S) (n : ℕ) (text line : List ℕ) (old mid new : Option (List ℕ)) (r : Result Ended ReplayError) → IsOpen text → 0 < length text → line ≡ shortened text → IsFault kind state line → Appends old mid [] → Ends (faulty n) mid new r
    → WritesText (shortened_text_of kind state n text) old new r
writes_fault kind state n text line old mid new r whole some is fault kept f =
    writes_behind (shortened_text_of kind state n text) (faulty n) [] old mid new r (last_faults kind state n text whole some (rw is at fault)) kept f

-- ---- between two reads

pub between_first : {S : Type 0} (kind : Kind S) (start : S) (held : Held) (r w : Option (List ℕ)) → Holds held [] → IsBetweenReads kind start start 1 held r r w w
between_first kind start held r w holds = record {
  given = [];
  read = Consumes-nil r;
  rest = [];
  holds = holds;
  is_open = refl;
  goes = record { written = []; grown = Appends-nil w; goes = λ more. refl };
}

-- a read gave nothing
pub between_keeps : {S : Type 0} (kind : Kind S) (start state : S) (n : ℕ) (held : Held) (r0 r r' w0 w : Option (List ℕ)) → IsBetweenReads kind start state n held r0 r w0 w → Consumes r r' [] → IsBetweenReads kind start state n held r0 r' w0 w
between_keeps kind start state n held r0 r r' w0 w u c = record {
  given = u.given;
  read = rw (← append-nil u.given) (Consumes-then r0 r r' u.given [] u.read c);
  rest = u.rest;
  holds = u.holds;
  is_open = u.is_open;
  goes = u.goes;
}

pub between_failed : {S : Type 0} (kind : Kind S) (start state : S) (n : ℕ) (held : Held) (r0 r r' w0 w : Option (List ℕ)) → IsBetweenReads kind start state n held r0 r w0 w → Keeps r r' → IsBetweenReads kind start state n held r0 r' w0 w
between_failed kind start state n held r0 r r' w0 w u k = between_keeps kind start state n held r0 r r' w0 w u (Consumes-keeps r r' k)

pub between_none : {S : Type 0} (kind : Kind S) (start state : S) (n : ℕ) (held : Held) (r0 r r' w0 w : Option (List ℕ)) (k : ℕ) (buf : List ℕ) → IsBetweenReads kind start state n held r0 r w0 w → Consumes r r' (take k buf) → k ≡ 0 → IsBetweenReads kind start state n held r0 r' w0 w
between_none kind start state n held r0 r r' w0 w k buf u c e = between_keeps kind start state n held r0 r r' w0 w u (rw e at c)

pub between_more : {S : Type 0} (kind : Kind S) (start state : S) (n : ℕ) (held : Held) (r0 r r' w0 w w' : Option (List ℕ)) (chunk : List ℕ) (next : S) (m : ℕ) (new : Held) → (u : IsBetweenReads kind start state n held r0 r w0 w) → Consumes r r' chunk
    → Takes kind state n u.rest chunk w w' next m new [] → IsBetweenReads kind start next m new r0 r' w0 w'
between_more kind start state n held r0 r r' w0 w w' chunk next m new u c t = record {
  given = u.given ++ chunk;
  read = Consumes-then r0 r r' u.given chunk u.read c;
  rest = t.rest;
  holds = t.holds;
  is_open = t.is_open;
  goes = goes_then (shortened_text_of kind start 1) (text_behind kind state n u.rest) (text_behind kind next m t.rest) u.given chunk w0 w w' u.goes t.goes;
}

-- ---- an end before the end

front_of : (text onward : List ℕ → Text) (bytes : List ℕ) (r0 r w0 w : Option (List ℕ)) → Consumes r0 r bytes → Goes text bytes w0 w onward → IsFrontOfText text r0 r w0 w
front_of text onward bytes r0 r w0 w c p =
    let e : text bytes ≡ prepend p.written (onward []) = ap text (sym (append-nil bytes)) ∙ p.goes [] in
    record { given = bytes; written = p.written; read = c; grown = p.grown; begins = ((onward []).0, ap (λ (t : Text). t.0) e) }

pub between_begun : {S : Type 0} (kind : Kind S) (start state : S) (n : ℕ) (held : Held) (r0 r w0 w : Option (List ℕ)) → IsBetweenReads kind start state n held r0 r w0 w → IsFrontOfText (shortened_text_of kind start 1) r0 r w0 w
between_begun kind start state n held r0 r w0 w u = front_of (shortened_text_of kind start 1) (text_behind kind state n u.rest) u.given r0 r w0 w u.read u.goes

pub stops_begun : {S : Type 0} (kind : Kind S) (start state : S) (n : ℕ) (held : Held) (r0 r r' w0 w w' : Option (List ℕ)) (chunk : List ℕ) (last : S) (m : ℕ) (other : Held) (e : ReplayError) → (u : IsBetweenReads kind start state n held r0 r w0 w) → Consumes r r' chunk
    → TakesBytes kind state n u.rest chunk w w' last m other (Err e) → e ≢ Write → IsFrontOfText (shortened_text_of kind start 1) r0 r' w0 w'
stops_begun kind start state n held r0 r r' w0 w w' chunk last m other Memory u c t h =
    front_of (shortened_text_of kind start 1) t.0 (u.given ++ chunk) r0 r' w0 w' (Consumes-then r0 r r' u.given chunk u.read c) (goes_then (shortened_text_of kind start 1) (text_behind kind state n u.rest) t.0 u.given chunk w0 w w' u.goes t.1)
stops_begun kind start state n held r0 r r' w0 w w' chunk last m other Read u c t h = absurd t
stops_begun kind start state n held r0 r r' w0 w w' chunk last m other Write u c t h = absurd (h refl)

-- ---- the end of the input

ends_whole : (text onward : List ℕ → Text) (bytes : List ℕ) (behind : Text) (r0 r w0 w w' : Option (List ℕ)) (result : Result Ended ReplayError) → Consumes r0 r bytes → Goes text bytes w0 w onward → ((more : List ℕ) → r ≡ Some more → onward more ≡ behind) → WritesText behind w w' result
    → IfOk result (λ ended. IfSome r0 (λ input. IsWholeText text input w0 w' ended))
ends_whole text onward bytes behind None r w0 w w' (Ok ended) c p same f = tt
ends_whole text onward bytes behind (Some input) None w0 w w' (Ok ended) c p same f = absurd c
ends_whole text onward bytes behind (Some input) (Some rest) w0 w w' (Ok ended) c p same f =
    let e : text input ≡ prepend p.written behind = ap text c ∙ p.goes rest ∙ ap (prepend p.written) (same rest refl) in
    let front : (text input).0 ≡ p.written ++ behind.0 = ap (λ (t : Text). t.0) e in
    record { written = rw front (Appends-then w0 w w' p.written behind.0 p.grown f.0); ends = f.1 ∙ sym (ap (λ (t : Text). t.1) e) }
ends_whole text onward bytes behind r0 r w0 w w' (Err e) c p same f = tt

ends_begun : (text onward : List ℕ → Text) (bytes : List ℕ) (behind : Text) (r0 r w0 w w' : Option (List ℕ)) (result : Result Ended ReplayError) → Consumes r0 r bytes → Goes text bytes w0 w onward → onward [] ≡ behind → WritesText behind w w' result
    → IfErr result (λ e. e ≢ Write → IsFrontOfText text r0 r w0 w')
ends_begun text onward bytes behind r0 r w0 w w' (Ok ended) c p same f = tt
ends_begun text onward bytes behind r0 r w0 w w' (Err Memory) c p same f = λ h.
    let e : text bytes ≡ prepend p.written behind = ap text (sym (append-nil bytes)) ∙ p.goes [] ∙ ap (prepend p.written) same in
    record {
      given = bytes;
      written = p.written ++ f.0;
      read = c;
      grown = Appends-then w0 w w' p.written f.0 p.grown f.1;
      begins = (f.2.0, ap (λ (t : Text). t.0) e ∙ ap (λ (x : List ℕ). p.written ++ x) f.2.1 ∙ sym (append_assoc p.written f.0 f.2.0));
    }
ends_begun text onward bytes behind r0 r w0 w w' (Err Read) c p same f = λ h. absurd f
ends_begun text onward bytes behind r0 r w0 w w' (Err Write) c p same f = λ h. absurd (h refl)

none_left : (r : Option (List ℕ)) (more : List ℕ) → IsAtEnd r → r ≡ Some more → more ≡ []
none_left None more a e = absurd cc
none_left (Some xs) more a e = sym (some_is xs more e) ∙ a

all_behind : {S : Type 0} (kind : Kind S) (state : S) (n : ℕ) (rest more : List ℕ) → more ≡ [] → text_behind kind state n rest more ≡ shortened_text_of kind state n rest
all_behind kind state n rest more e = ap (λ (t : List ℕ). shortened_text_of kind state n (rest ++ t)) e ∙ ap (shortened_text_of kind state n) (append-nil rest)

pub end_whole : {S : Type 0} (kind : Kind S) (start state : S) (n : ℕ) (held : Held) (r0 r w0 w w' : Option (List ℕ)) (result : Result Ended ReplayError) → (u : IsBetweenReads kind start state n held r0 r w0 w) → IsAtEnd r → WritesText (shortened_text_of kind state n u.rest) w w' result
    → IfOk result (λ ended. IfSome r0 (λ input. IsWholeText (shortened_text_of kind start 1) input w0 w' ended))
end_whole kind start state n held r0 r w0 w w' result u a f =
    ends_whole (shortened_text_of kind start 1) (text_behind kind state n u.rest) u.given (shortened_text_of kind state n u.rest) r0 r w0 w w' result u.read u.goes (λ more e. all_behind kind state n u.rest more (none_left r more a e)) f

pub end_begun : {S : Type 0} (kind : Kind S) (start state : S) (n : ℕ) (held : Held) (r0 r w0 w w' : Option (List ℕ)) (result : Result Ended ReplayError) → (u : IsBetweenReads kind start state n held r0 r w0 w) → WritesText (shortened_text_of kind state n u.rest) w w' result
    → IfErr result (λ e. e ≢ Write → IsFrontOfText (shortened_text_of kind start 1) r0 r w0 w')
end_begun kind start state n held r0 r w0 w w' result u f =
    ends_begun (shortened_text_of kind start 1) (text_behind kind state n u.rest) u.given (shortened_text_of kind state n u.rest) r0 r w0 w w' result u.read u.goes (all_behind kind state n u.rest [] refl) f

-- ---- a fault

told_fault : (m : ℕ) (w w' : Option (List ℕ)) (result : Result Ended ReplayError) → Ends (faulty m) w w' result → WritesText (faulty m) w w' result
told_fault m w w' result f = writes_behind (faulty m) (faulty m) [] w w w' result refl (Appends-nil w) f

to_fault : {S : Type 0} (kind : Kind S) (start state : S) (n : ℕ) (held : Held) (r0 r w0 w w' : Option (List ℕ)) (chunk : List ℕ) (m : ℕ) → (u : IsBetweenReads kind start state n held r0 r w0 w) → Goes (text_behind kind state n u.rest) chunk w w' (λ more. faulty m)
    → Goes (shortened_text_of kind start 1) (u.given ++ chunk) w0 w' (λ more. faulty m)
to_fault kind start state n held r0 r w0 w w' chunk m u p = goes_then (shortened_text_of kind start 1) (text_behind kind state n u.rest) (λ more. faulty m) u.given chunk w0 w w' u.goes p

pub fault_whole : {S : Type 0} (kind : Kind S) (start state : S) (n : ℕ) (held : Held) (r0 r r' w0 w w' w'' : Option (List ℕ)) (chunk : List ℕ) (m : ℕ) (result : Result Ended ReplayError) → (u : IsBetweenReads kind start state n held r0 r w0 w) → Consumes r r' chunk
    → Goes (text_behind kind state n u.rest) chunk w w' (λ more. faulty m) → Ends (faulty m) w' w'' result → IfOk result (λ ended. IfSome r0 (λ input. IsWholeText (shortened_text_of kind start 1) input w0 w'' ended))
fault_whole kind start state n held r0 r r' w0 w w' w'' chunk m result u c p f =
    ends_whole (shortened_text_of kind start 1) (λ more. faulty m) (u.given ++ chunk) (faulty m) r0 r' w0 w' w'' result (Consumes-then r0 r r' u.given chunk u.read c) (to_fault kind start state n held r0 r w0 w w' chunk m u p) (λ more e. refl) (told_fault m w' w'' result f)

pub fault_begun : {S : Type 0} (kind : Kind S) (start state : S) (n : ℕ) (held : Held) (r0 r r' w0 w w' w'' : Option (List ℕ)) (chunk : List ℕ) (m : ℕ) (result : Result Ended ReplayError) → (u : IsBetweenReads kind start state n held r0 r w0 w) → Consumes r r' chunk
    → Goes (text_behind kind state n u.rest) chunk w w' (λ more. faulty m) → Ends (faulty m) w' w'' result → IfErr result (λ e. e ≢ Write → IsFrontOfText (shortened_text_of kind start 1) r0 r' w0 w'')
fault_begun kind start state n held r0 r r' w0 w w' w'' chunk m result u c p f =
    ends_begun (shortened_text_of kind start 1) (λ more. faulty m) (u.given ++ chunk) (faulty m) r0 r' w0 w' w'' result (Consumes-then r0 r r' u.given chunk u.read c) (to_fault kind start state n held r0 r w0 w w' chunk m u p) refl (told_fault m w' w'' result f)

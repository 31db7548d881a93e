-- The items that were put so far, and those for the rest of the input.
use Rattle.std.proofs.Common.{◌≡◌, ◌<◌, ◌≤◌, ℕ, true, false, ◌==◌, List, [], ◌∷◌, ◌++◌, length, Option, Some, None, refl, sym, ap, ◌∙◌, arith, subst, append_assoc, ◌+◌, drop, get_or, add-one}
use Rattle.std.specs.Prelude.{is_some}
use Rattle.std.specs.Io.KnownBytes.{Consumes, Keeps}
use Rattle.std.proofs.Math.Seq.{drop-cons}
use Rattle.std.proofs.lemmas.Bool.{le-ltb}
use Rattle.std.proofs.lemmas.List.{append-nil, length-append}
use Rattle.tora_lines.specs.Fronts.{after}
use Rattle.tora_lines.specs.Words.{id_of, number_of}
use Rattle.tora_node.specs.declared.commands.TheConstants.{LONGEST_COMMAND}
use Rattle.tora_node.specs.CommandText.{asked_by, is_word}
use Rattle.tora_lane.specs.Ports.{InEnd}
use Rattle.tora_neighbour.specs.Turns.{AreRead}
use Rattle.tora_seat.specs.declared.item.Item.{Item}
use Rattle.tora_seat.specs.declared.what.What.{What}
use Rattle.tora_seat.specs.declared.what.What.TheVariants as Tells
use Rattle.tora_node.specs.declared.commands.Command.{Command}
use Rattle.tora_node.specs.declared.commands.Command.TheVariants as Asks
use Rattle.tora_node.specs.declared.commands.CommandsEnd.{CommandsEnd}
use Rattle.tora_node.specs.declared.commands.CommandsEnd.TheVariants as Ends
use Rattle.tora_node.specs.declared.commands.Line.{Line}
use Rattle.tora_node.specs.CommandRuns.{asked_in, put_for, put_from, IsLine, whats, HasPut, Commands, ticks_put}
use Rattle.tora_node.specs.CommandSteps.{Holds, DidPut, Putting, PutsAll, PutsLast, is_gone, EndsReading}

-- ---- items

pub whats_append : (xs ys : List Item) → whats (xs ++ ys) ≡ whats xs ++ whats ys
whats_append [] ys = refl
whats_append (x ∷ xs) ys = ap (λ (t : List What). x.what ∷ t) (whats_append xs ys)

read_then : {C : Type 0} (tell : C → ℕ → C → Type 0) (a b c : C) (xs ys : List Item) → AreRead tell a (ticks_put xs) b → AreRead tell b (ticks_put ys) c → AreRead tell a (ticks_put (xs ++ ys)) c
read_then {C = C} tell a b c [] ys p q = subst (λ (x : C). AreRead tell x (ticks_put ys) c) p q
read_then tell a b c (x ∷ xs) ys p q = (p.0, p.1, read_then tell p.0 b c xs ys p.2 q)

pub put_then : {C : Type 0} (tell : C → ℕ → C → Type 0) (a b c : InEnd × C) (xs ys : List Item) → HasPut tell a xs b → HasPut tell b ys c → HasPut tell a (xs ++ ys) c
put_then tell a b c xs ys p q = (
  q.0 ∙ ap (λ (t : List Item). t ++ ys) p.0 ∙ append_assoc a.0.put xs ys,
  read_then tell a.1 b.1 c.1 xs ys p.1 q.1,
  (q.2.0 ∙ p.2.0, q.2.1 ∙ p.2.1),
)

pub put_none : {C : Type 0} (tell : C → ℕ → C → Type 0) (a : InEnd × C) → HasPut tell a [] a
put_none tell a = (sym (append-nil a.0.put), refl, (refl, refl))

-- ---- bytes

pub bytes_at : (i : ℕ) (bytes : List ℕ) → i < length bytes → drop i bytes ≡ get_or bytes i 0 ∷ drop (i + 1) bytes
bytes_at i bytes h = rw (drop-cons bytes i 0 h, add-one) refl

-- a byte other than LF
pub byte_goes : (rest left : List ℕ) (c : ℕ) → (c == 10) ≡ false → put_from rest (c ∷ left) ≡ put_from (rest ++ c ∷ []) left
byte_goes rest left c h = rw h refl

-- an LF
pub line_goes : (rest left : List ℕ) (c : ℕ) → (c == 10) ≡ true → put_from rest (c ∷ left) ≡ put_for (asked_in rest) (put_from [] left)
line_goes rest left c h = rw h refl

-- ---- one byte more

pub pushed : {C : Type 0} (tell : C → ℕ → C → Type 0) (text bytes left : List ℕ) (before after : InEnd × C) (line next : Line) (c : ℕ) → Putting tell text bytes before after line (c ∷ left) → (c == 10) ≡ false
    → ((t : List ℕ) → Holds line t → Holds next (t ++ c ∷ [])) → Putting tell text bytes before after next left
pushed tell text bytes left before after line next c p other holds = record {
  items = p.items;
  rest = p.rest ++ c ∷ [];
  put = p.put;
  holds = holds p.rest p.holds;
  goes = λ more. p.goes more ∙ ap (λ (t : List What). whats p.items ++ t) (byte_goes p.rest (left ++ more) c other);
}

-- the items from a line on, by the command of the line
asks : (p : List ℕ) (left : List ℕ) (c : ℕ) (command : Command) → (c == 10) ≡ true → command ≡ asked_in p → put_from p (c ∷ left) ≡ put_for command (put_from [] left)
asks p left c command h e = line_goes p left c h ∙ ap (λ (k : Command). put_for k (put_from [] left)) (sym e)

pub lined : {C : Type 0} (tell : C → ℕ → C → Type 0) (text bytes left : List ℕ) (before mid after : InEnd × C) (line next : Line) (c : ℕ) (command : Command) → (p : Putting tell text bytes before mid line (c ∷ left)) → (c == 10) ≡ true
    → command ≡ asked_in p.rest → DidPut tell command mid after None → Holds next [] → Putting tell text bytes before after next left
lined tell text bytes left before mid after line next c command p at e d holds = record {
  items = p.items ++ d.0;
  rest = [];
  put = put_then tell before mid after p.items d.0 p.put d.1;
  holds = holds;
  goes = λ more.
      p.goes more ∙ ap (λ (t : List What). whats p.items ++ t) (asks p.rest (left ++ more) c command at e ∙ d.2 (put_from [] (left ++ more)))
      ∙ sym (append_assoc (whats p.items) (whats d.0) (put_from [] (left ++ more)))
      ∙ ap (λ (t : List What). t ++ put_from [] (left ++ more)) (sym (whats_append p.items d.0));
}

pub ended : {C : Type 0} (tell : C → ℕ → C → Type 0) (text bytes left : List ℕ) (before mid after : InEnd × C) (line next : Line) (c : ℕ) (command : Command) (end : CommandsEnd) → (p : Putting tell text bytes before mid line (c ∷ left)) → (c == 10) ≡ true
    → command ≡ asked_in p.rest → DidPut tell command mid after (Some end) → PutsAll tell text bytes before after next (Some end)
ended tell text bytes left before mid after line next c command Ends.Quit p at e d = (
  p.items ++ d.0,
  put_then tell before mid after p.items d.0 p.put d.1,
  (λ more.
      p.goes more ∙ ap (λ (t : List What). whats p.items ++ t) (asks p.rest (left ++ more) c command at e ∙ d.2 (put_from [] (left ++ more)))
      ∙ sym (whats_append p.items d.0)),
)
ended tell text bytes left before mid after line next c command Ends.End p at e d = d
ended tell text bytes left before mid after line next c command Ends.Read p at e d = d
ended tell text bytes left before mid after line next c command Ends.Gone p at e d = (
  p.items ++ [],
  mid.1,
  put_then tell before mid (after.0, mid.1) p.items [] p.put d.0,
  d.1,
  d.2,
  (λ more. (
    put_from p.rest (c ∷ (left ++ more)),
    p.goes more ∙ ap (λ (t : List Item). whats t ++ put_from p.rest (c ∷ (left ++ more))) (sym (append-nil p.items)),
  )),
)

-- an answer that ends reading
pub stopped : {C : Type 0} (tell : C → ℕ → C → Type 0) (text bytes left : List ℕ) (before mid after : InEnd × C) (line next : Line) (c : ℕ) (command : Command) (answer : Option CommandsEnd) → (p : Putting tell text bytes before mid line (c ∷ left)) → (c == 10) ≡ true
    → command ≡ asked_in p.rest → DidPut tell command mid after answer → is_some answer ≡ true → PutsAll tell text bytes before after next answer
stopped tell text bytes left before mid after line next c command None p at e d some = absurd cc
stopped tell text bytes left before mid after line next c command (Some end) p at e d some = ended tell text bytes left before mid after line next c command end p at e d

-- an answer that does not end reading
pub went_on : {C : Type 0} (tell : C → ℕ → C → Type 0) (text bytes left : List ℕ) (before mid after : InEnd × C) (line next : Line) (c : ℕ) (command : Command) (answer : Option CommandsEnd) → (p : Putting tell text bytes before mid line (c ∷ left)) → (c == 10) ≡ true
    → command ≡ asked_in p.rest → DidPut tell command mid after answer → is_some answer ≡ false → Holds next [] → Putting tell text bytes before after next left
went_on tell text bytes left before mid after line next c command None p at e d none holds = lined tell text bytes left before mid after line next c command p at e d holds
went_on tell text bytes left before mid after line next c command (Some end) p at e d none holds = absurd cc

-- ---- the last line

-- nothing follows Quit
pub quits : {C : Type 0} (tell : C → ℕ → C → Type 0) (before after : InEnd × C) → DidPut tell Asks.Quit before after None → ⊥
quits tell before after d = too_long (whats d.0) (d.2 (Tells.Quit ∷ Tells.Quit ∷ []))
  where
    too_long : (xs : List What) → Tells.Quit ∷ [] ≡ xs ++ Tells.Quit ∷ Tells.Quit ∷ [] → ⊥
    too_long xs h = absurd (omega (arith, ap (λ (t : List What). length t) h, length-append xs (Tells.Quit ∷ Tells.Quit ∷ [])))

pub nothing_asked : asked_in [] ≡ Asks.Unknown
unfolding asked_by is_word after id_of number_of
nothing_asked = refl

-- if the last line is empty, only Quit is put
pub empty_last : {C : Type 0} (tell : C → ℕ → C → Type 0) (text : List ℕ) (before after : InEnd × C) (answer : Option CommandsEnd) → text ≡ [] → DidPut tell Asks.Quit before after answer → PutsLast tell text before after answer
empty_last tell text before after None e d = quits tell before after d
empty_last tell text before after (Some Ends.Quit) e d = (
  d.0,
  d.1,
  ap (λ (t : List ℕ). put_from t []) e ∙ ap (λ (k : Command). put_for k (Tells.Quit ∷ [])) nothing_asked ∙ d.2 [],
)
empty_last tell text before after (Some Ends.End) e d = d
empty_last tell text before after (Some Ends.Read) e d = d
empty_last tell text before after (Some Ends.Gone) e d = ([], before.1, d.0, d.1, d.2, put_from text [], refl)

-- the item of the last line, and then Quit
pub last_then : {C : Type 0} (tell : C → ℕ → C → Type 0) (text : List ℕ) (before mid after : InEnd × C) (command : Command) (answer : Option CommandsEnd) → command ≡ asked_in text → DidPut tell command before mid None
    → DidPut tell Asks.Quit mid after answer → PutsLast tell text before after answer
last_then tell text before mid after command None e p d = quits tell mid after d
last_then tell text before mid after command (Some Ends.Quit) e p d = (
  p.0 ++ d.0,
  put_then tell before mid after p.0 d.0 p.1 d.1,
  ap (λ (k : Command). put_for k (Tells.Quit ∷ [])) (sym e) ∙ p.2 (Tells.Quit ∷ []) ∙ ap (λ (t : List What). whats p.0 ++ t) (d.2 []) ∙ sym (whats_append p.0 d.0),
)
last_then tell text before mid after command (Some Ends.End) e p d = d
last_then tell text before mid after command (Some Ends.Read) e p d = d
last_then tell text before mid after command (Some Ends.Gone) e p d = (
  p.0 ++ [],
  mid.1,
  put_then tell before mid (after.0, mid.1) p.0 [] p.1 d.0,
  d.1,
  d.2,
  Tells.Quit ∷ [],
  ap (λ (k : Command). put_for k (Tells.Quit ∷ [])) (sym e) ∙ p.2 (Tells.Quit ∷ []) ∙ ap (λ (t : List Item). whats t ++ Tells.Quit ∷ []) (sym (append-nil p.0)),
)

pub went_last : {C : Type 0} (tell : C → ℕ → C → Type 0) (text : List ℕ) (before mid after : InEnd × C) (command : Command) (first answer : Option CommandsEnd) → command ≡ asked_in text → DidPut tell command before mid first → is_some first ≡ false
    → DidPut tell Asks.Quit mid after answer → PutsLast tell text before after answer
went_last tell text before mid after command None answer e p none d = last_then tell text before mid after command answer e p d
went_last tell text before mid after command (Some end) answer e p none d = absurd cc

-- the last line, which ends reading
pub last_ends : {C : Type 0} (tell : C → ℕ → C → Type 0) (text : List ℕ) (before after : InEnd × C) (command : Command) (end : CommandsEnd) → command ≡ asked_in text → DidPut tell command before after (Some end) → PutsLast tell text before after (Some end)
last_ends tell text before after command Ends.Quit e d = (
  d.0,
  d.1,
  ap (λ (k : Command). put_for k (Tells.Quit ∷ [])) (sym e) ∙ d.2 (Tells.Quit ∷ []),
)
last_ends tell text before after command Ends.End e d = d
last_ends tell text before after command Ends.Read e d = d
last_ends tell text before after command Ends.Gone e d = ([], before.1, d.0, d.1, d.2, put_from text [], refl)

-- ---- between two reads

pub record Underway {C : Type 0} (tell : C → ℕ → C → Type 0) (old_reader reader : Option (List ℕ)) (before after : InEnd × C) (line : Line) : Type 0 where
  pub given : List ℕ
  pub items : List Item
  pub rest : List ℕ
  pub read : Consumes old_reader reader given
  pub put : HasPut tell before items after
  pub holds : Holds line rest
  pub goes : (more : List ℕ) → put_from [] (given ++ more) ≡ whats items ++ put_from rest more

pub Consumes-nil : (old : Option (List ℕ)) → Consumes old old []
Consumes-nil None = tt
Consumes-nil (Some xs) = refl

pub Consumes-then : (a b c : Option (List ℕ)) (xs ys : List ℕ) → Consumes a b xs → Consumes b c ys → Consumes a c (xs ++ ys)
Consumes-then None b c xs ys p q = tt
Consumes-then (Some a) None c xs ys p q = absurd p
Consumes-then (Some a) (Some b) None xs ys p q = absurd q
Consumes-then (Some a) (Some b) (Some c) xs ys p q = p ∙ ap (λ (t : List ℕ). xs ++ t) q ∙ sym (append_assoc xs ys c)

pub Consumes-keeps : (a b c : Option (List ℕ)) → Consumes a b [] → Keeps b c → Consumes a c []
Consumes-keeps None b c p k = tt
Consumes-keeps (Some a) None c p k = absurd p
Consumes-keeps (Some a) (Some b) None p k = absurd k
Consumes-keeps (Some a) (Some b) (Some c) p k = p ∙ sym k

pub begun : {C : Type 0} (tell : C → ℕ → C → Type 0) (reader : Option (List ℕ)) (before : InEnd × C) (line : Line) → Holds line [] → Underway tell reader reader before before line
begun tell reader before line holds = record { given = []; items = []; rest = []; read = Consumes-nil reader; put = put_none tell before; holds = holds; goes = λ more. refl }

pub read_on : {C : Type 0} (tell : C → ℕ → C → Type 0) (r0 r1 r2 : Option (List ℕ)) (before mid after : InEnd × C) (line next : Line) (chunk : List ℕ) → (u : Underway tell r0 r1 before mid line) → Consumes r1 r2 chunk
    → Putting tell u.rest chunk mid after next [] → Underway tell r0 r2 before after next
read_on tell r0 r1 r2 before mid after line next chunk u c p = record {
  given = u.given ++ chunk;
  items = u.items ++ p.items;
  rest = p.rest;
  read = Consumes-then r0 r1 r2 u.given chunk u.read c;
  put = put_then tell before mid after u.items p.items u.put p.put;
  holds = p.holds;
  goes = λ more.
      ap (λ (t : List ℕ). put_from [] t) (append_assoc u.given chunk more) ∙ u.goes (chunk ++ more)
      ∙ ap (λ (t : List What). whats u.items ++ t) (p.goes more)
      ∙ sym (append_assoc (whats u.items) (whats p.items) (put_from p.rest more))
      ∙ ap (λ (t : List What). t ++ put_from p.rest more) (sym (whats_append u.items p.items));
}

pub stops : {C : Type 0} (tell : C → ℕ → C → Type 0) (r0 r1 r2 : Option (List ℕ)) (before mid after : InEnd × C) (line next : Line) (chunk : List ℕ) (end : CommandsEnd) → (u : Underway tell r0 r1 before mid line) → Consumes r1 r2 chunk
    → PutsAll tell u.rest chunk mid after next (Some end) → Commands tell r0 r2 before after end
stops tell r0 r1 r2 before mid after line next chunk Ends.Quit u c p = record {
  given = u.given ++ chunk;
  items = u.items ++ p.0;
  read = Consumes-then r0 r1 r2 u.given chunk u.read c;
  last = after.1;
  put = put_then tell before mid after u.items p.0 u.put p.1;
  clock = refl;
  ends = λ more.
      ap (λ (t : List ℕ). put_from [] t) (append_assoc u.given chunk more) ∙ u.goes (chunk ++ more)
      ∙ ap (λ (t : List What). whats u.items ++ t) (p.2 more)
      ∙ sym (whats_append u.items p.0);
}
stops tell r0 r1 r2 before mid after line next chunk Ends.End u c p = absurd p
stops tell r0 r1 r2 before mid after line next chunk Ends.Read u c p = absurd p
stops tell r0 r1 r2 before mid after line next chunk Ends.Gone u c p =
    let l = p.5 [] in
    record {
      given = u.given ++ chunk;
      items = u.items ++ p.0;
      read = Consumes-then r0 r1 r2 u.given chunk u.read c;
      last = p.1;
      put = put_then tell before mid (after.0, p.1) u.items p.0 u.put p.2;
      clock = p.4;
      ends = (
        l.0,
        ap (λ (t : List ℕ). put_from [] (u.given ++ t)) (sym (append-nil chunk)) ∙ u.goes (chunk ++ [])
            ∙ ap (λ (t : List What). whats u.items ++ t) l.1
            ∙ sym (append_assoc (whats u.items) (whats p.0) l.0)
            ∙ ap (λ (t : List What). t ++ l.0) (sym (whats_append u.items p.0)),
        p.3,
      );
    }

-- the input is at its end, or a read failed
all_given : {C : Type 0} (tell : C → ℕ → C → Type 0) (r0 r1 : Option (List ℕ)) (before mid : InEnd × C) (line : Line) → (u : Underway tell r0 r1 before mid line) → put_from [] u.given ≡ whats u.items ++ put_from u.rest []
all_given tell r0 r1 before mid line u = ap (λ (t : List ℕ). put_from [] t) (sym (append-nil u.given)) ∙ u.goes []

none_more : (r0 r1 r2 : Option (List ℕ)) (given : List ℕ) → Consumes r0 r1 given → Consumes r1 r2 [] → Consumes r0 r2 given
none_more r0 r1 r2 given p q = subst (λ (t : List ℕ). Consumes r0 r2 t) (append-nil given) (Consumes-then r0 r1 r2 given [] p q)

pub closes : {C : Type 0} (tell : C → ℕ → C → Type 0) (r0 r1 r2 : Option (List ℕ)) (before mid after : InEnd × C) (line : Line) (end : CommandsEnd) → (u : Underway tell r0 r1 before mid line) → EndsReading end r1 r2
    → PutsLast tell u.rest mid after (Some Ends.Quit) → Commands tell r0 r2 before after end
closes tell r0 r1 r2 before mid after line Ends.Quit u e p = absurd e
closes tell r0 r1 r2 before mid after line Ends.End u e p = record {
  given = u.given;
  items = u.items ++ p.0;
  read = none_more r0 r1 r2 u.given u.read e.0;
  last = after.1;
  put = put_then tell before mid after u.items p.0 u.put p.1;
  clock = refl;
  ends = (all_given tell r0 r1 before mid line u ∙ ap (λ (t : List What). whats u.items ++ t) p.2 ∙ sym (whats_append u.items p.0), e.1);
}
closes tell r0 r1 r2 before mid after line Ends.Read u e p = record {
  given = u.given;
  items = u.items ++ p.0;
  read = none_more r0 r1 r2 u.given u.read e;
  last = after.1;
  put = put_then tell before mid after u.items p.0 u.put p.1;
  clock = refl;
  ends = all_given tell r0 r1 before mid line u ∙ ap (λ (t : List What). whats u.items ++ t) p.2 ∙ sym (whats_append u.items p.0);
}
closes tell r0 r1 r2 before mid after line Ends.Gone u e p = absurd e

consumed : (end : CommandsEnd) (r1 r2 : Option (List ℕ)) → EndsReading end r1 r2 → Consumes r1 r2 []
consumed Ends.Quit r1 r2 e = absurd e
consumed Ends.End r1 r2 e = e.0
consumed Ends.Read r1 r2 e = e
consumed Ends.Gone r1 r2 e = absurd e

pub closes_gone : {C : Type 0} (tell : C → ℕ → C → Type 0) (r0 r1 r2 : Option (List ℕ)) (before mid after : InEnd × C) (line : Line) (end : CommandsEnd) → (u : Underway tell r0 r1 before mid line) → EndsReading end r1 r2
    → PutsLast tell u.rest mid after (Some Ends.Gone) → Commands tell r0 r2 before after Ends.Gone
closes_gone tell r0 r1 r2 before mid after line end u e p = record {
  given = u.given;
  items = u.items ++ p.0;
  read = none_more r0 r1 r2 u.given u.read (consumed end r1 r2 e);
  last = p.1;
  put = put_then tell before mid (after.0, p.1) u.items p.0 u.put p.2;
  clock = p.4;
  ends = (
    p.5,
    all_given tell r0 r1 before mid line u ∙ ap (λ (t : List What). whats u.items ++ t) p.6
        ∙ sym (append_assoc (whats u.items) (whats p.0) p.5)
        ∙ ap (λ (t : List What). t ++ p.5) (sym (whats_append u.items p.0)),
    p.3,
  );
}

-- the effect of the last line, and what ended the input
pub closes_with : {C : Type 0} (tell : C → ℕ → C → Type 0) (r0 r1 r2 : Option (List ℕ)) (before mid after : InEnd × C) (line : Line) (end : CommandsEnd) (answer : Option CommandsEnd) → (u : Underway tell r0 r1 before mid line) → EndsReading end r1 r2
    → PutsLast tell u.rest mid after answer → is_gone answer ≡ false → Commands tell r0 r2 before after end
closes_with tell r0 r1 r2 before mid after line end None u e p h = absurd p
closes_with tell r0 r1 r2 before mid after line end (Some Ends.Quit) u e p h = closes tell r0 r1 r2 before mid after line end u e p
closes_with tell r0 r1 r2 before mid after line end (Some Ends.End) u e p h = absurd p
closes_with tell r0 r1 r2 before mid after line end (Some Ends.Read) u e p h = absurd p
closes_with tell r0 r1 r2 before mid after line end (Some Ends.Gone) u e p h = absurd cc

pub closes_without : {C : Type 0} (tell : C → ℕ → C → Type 0) (r0 r1 r2 : Option (List ℕ)) (before mid after : InEnd × C) (line : Line) (end : CommandsEnd) (answer : Option CommandsEnd) → (u : Underway tell r0 r1 before mid line) → EndsReading end r1 r2
    → PutsLast tell u.rest mid after answer → is_gone answer ≡ true → Commands tell r0 r2 before after Ends.Gone
closes_without tell r0 r1 r2 before mid after line end None u e p h = absurd p
closes_without tell r0 r1 r2 before mid after line end (Some Ends.Quit) u e p h = absurd cc
closes_without tell r0 r1 r2 before mid after line end (Some Ends.End) u e p h = absurd p
closes_without tell r0 r1 r2 before mid after line end (Some Ends.Read) u e p h = absurd p
closes_without tell r0 r1 r2 before mid after line end (Some Ends.Gone) u e p h = closes_gone tell r0 r1 r2 before mid after line end u e p

-- ---- line by line

lines_go : (a line rest : List ℕ) → IsLine line → put_from a (line ++ 10 ∷ rest) ≡ put_for (asked_in (a ++ line)) (put_from [] rest)
lines_go a [] rest h = ap (λ (t : List ℕ). put_for (asked_in t) (put_from [] rest)) (sym (append-nil a))
lines_go a (c ∷ line) rest h =
    byte_goes a (line ++ 10 ∷ rest) c h.0 ∙ lines_go (a ++ c ∷ []) line rest h.1
    ∙ ap (λ (t : List ℕ). put_for (asked_in t) (put_from [] rest)) (append_assoc a (c ∷ []) line)

last_goes : (a line : List ℕ) → IsLine line → put_from a line ≡ put_for (asked_in (a ++ line)) (Tells.Quit ∷ [])
last_goes a [] h = ap (λ (t : List ℕ). put_for (asked_in t) (Tells.Quit ∷ [])) (sym (append-nil a))
last_goes a (c ∷ line) h =
    byte_goes a line c h.0 ∙ last_goes (a ++ c ∷ []) line h.1
    ∙ ap (λ (t : List ℕ). put_for (asked_in t) (Tells.Quit ∷ [])) (append_assoc a (c ∷ []) line)

short : (line : List ℕ) → length line ≤ LONGEST_COMMAND → asked_in line ≡ asked_by line
short line h = rw (le-ltb LONGEST_COMMAND (length line) h) refl

pub line_by_line : (line rest : List ℕ) → IsLine line → length line ≤ LONGEST_COMMAND → put_from [] (line ++ 10 ∷ rest) ≡ put_for (asked_by line) (put_from [] rest)
line_by_line line rest h few = lines_go [] line rest h ∙ ap (λ (k : Command). put_for k (put_from [] rest)) (short line few)

pub last_line : (line : List ℕ) → IsLine line → length line ≤ LONGEST_COMMAND → put_from [] line ≡ put_for (asked_by line) (Tells.Quit ∷ [])
last_line line h few = last_goes [] line h ∙ ap (λ (k : Command). put_for k (Tells.Quit ∷ [])) (short line few)

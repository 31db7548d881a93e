-- What the wire inside received, and which messages of it are authentic.
use Rattle.std.proofs.Common.{subst, ◌≡◌, ◌∙◌, refl, sym, ap, arith, ℕ, ◌≤◌, Bool, true, false, ◌&&◌, List, [], ◌∷◌, ◌++◌, length, take, filter_map, Option, Some, None, Result, Ok, nat_lt}
use Rattle.std.proofs.lemmas.List.{length-take-le, take_all}
use Rattle.std.proofs.lemmas.List.Elements.{filter_map-append}
use Rattle.std.proofs.lemmas.Grind.{common_steps}
use Rattle.std.specs.Prelude.{IsTrue}
use Rattle.tora_key.specs.Sealing.{sealed}
use Rattle.tora_key.proofs.Tags.{length-sealed, opened-sealed}
use Rattle.tora_neighbour.specs.declared.wire.WireError.{WireError}
use Rattle.tora_neighbour.specs.Datagrams.{IsCut, IsReceived}
use Rattle.tora_keyed.specs.Links.{LinkView, let_in, Writes, tells_with, tells_of, without_tags, coming_of, after_letting_in, GivesOf, ReceivesWith, Receives}

pub let_in-sealed : (key message : List ℕ) → length message ≤ 560 → let_in key (sealed key message) ≡ Some message
let_in-sealed key message short =
    let fits : nat_lt 576 (length (sealed key message)) ≡ false = rw (length-sealed key message) (grind (arith, common_steps, short)) in
    rw (fits, opened-sealed key message) refl

-- a message that is sent with its tag is among those that were tried
pub tried : (key message : List ℕ) (tries before : List (List ℕ)) → length message ≤ 560 → tries ≡ before ++ sealed key message ∷ []
    → filter_map (let_in key) tries ≡ filter_map (let_in key) before ++ message ∷ []
tried key message tries before short is =
    ap (filter_map (let_in key)) is
    ∙ filter_map-append (let_in key) before (sealed key message ∷ [])
    ∙ rw (let_in-sealed key message short) refl

-- a datagram that is cut to 577 bytes has the same authentic message as the whole one
let_in-cut_at : (key datagram : List ℕ) (b : Bool) → nat_lt 576 (length datagram) ≡ b → let_in key (take 577 datagram) ≡ let_in key datagram
let_in-cut_at key datagram true e =
    let long : 577 ≤ length datagram = grind (arith, common_steps, e) in
    let same : length (take 577 datagram) ≡ 577 = length-take-le 577 datagram long in
    rw (e, same) refl
let_in-cut_at key datagram false e =
    let short : length datagram ≤ 577 = grind (arith, common_steps, e) in
    rw (take_all 577 datagram short) refl

pub let_in-cut : (key datagram : List ℕ) (n : ℕ) (room : List ℕ) → IsCut datagram 577 n room → let_in key (take n room) ≡ let_in key datagram
let_in-cut key datagram n room cut = ap (let_in key) cut.bytes ∙ let_in-cut_at key datagram (nat_lt 576 (length datagram)) refl

came_at : (key datagram : List ℕ) (rest : List (List ℕ)) (o : Option (List ℕ)) (written : Option ℕ) (buffer : List ℕ) → let_in key datagram ≡ o → Writes o written buffer
    → IsReceived (filter_map (let_in key) (datagram ∷ rest)) (length buffer) (Ok written) buffer (filter_map (let_in key) rest)
came_at key datagram rest (Some message) written buffer e (is, cut) = rw (is, e) (message, refl, cut)
came_at key datagram rest None written buffer e is = rw (is, e) refl

-- a received message is one of the authentic messages among the coming datagrams
pub came : (key : List ℕ) (coming rest : List (List ℕ)) (count place size : ℕ) (room buffer : List ℕ) (written : Option ℕ) → place ≡ 577 → IsReceived coming place (Ok (Some count)) room rest
    → Writes (let_in key (take count room)) written buffer → length buffer ≡ size
    → IsReceived (filter_map (let_in key) coming) size (Ok written) buffer (filter_map (let_in key) rest)
came key coming rest count place size room buffer written wide (datagram, is, cut) writes long =
    subst (λ (n : ℕ). IsReceived (filter_map (let_in key) coming) n (Ok written) buffer (filter_map (let_in key) rest)) long
    (subst (λ (all : List (List ℕ)). IsReceived (filter_map (let_in key) all) (length buffer) (Ok written) buffer (filter_map (let_in key) rest)) (sym is)
    (came_at key datagram rest (let_in key datagram) written buffer refl (rw (let_in-cut key datagram count room (rw wide at cut)) at writes)))

-- ---- the wire of a link under a key

right_of : (a b : Bool) → IsTrue (a && b) → IsTrue b
right_of true true both = refl
right_of true false both = both
right_of false true both = refl
right_of false false both = both

told_with : (o : Option (List ℕ)) (key : List ℕ) (told tells : Bool) → o ≡ Some key → IsTrue (tells_with o told tells) → IsTrue tells
told_with None key told tells is tells_now = absurd cc
told_with (Some k) key told tells is tells_now = right_of told tells tells_now

-- a message that was sent with its tag is among those that contracts know as sent
pub sent_with_tag : (was now : Option (List ℕ)) (told tells : Bool) (key message : List ℕ) (tries before : List (List ℕ))
    → was ≡ Some key → now ≡ Some key → length message ≤ 560 → (IsTrue tells → tries ≡ before ++ sealed key message ∷ [])
    → IsTrue (tells_with now told tells) → without_tags now tries ≡ without_tags was before ++ message ∷ []
sent_with_tag was now told tells key message tries before was_is now_is short sent tells_now =
    subst (λ (o : Option (List ℕ)). without_tags now tries ≡ without_tags o before ++ message ∷ []) (sym was_is)
    (subst (λ (o : Option (List ℕ)). without_tags o tries ≡ filter_map (let_in key) before ++ message ∷ []) (sym now_is)
    (tried key message tries before short (sent (told_with now key told tells now_is tells_now))))

-- a receive with a key, from what the wire inside did
pub received : {W : Type 0} (receive : W → Result (Option ℕ) WireError → List ℕ → W → Type 0) (old f now after : LinkView W) (key : List ℕ)
    (inner answer : Result (Option ℕ) WireError) (room buffer : List ℕ) → f ≡ old → now ≡ after → f.key ≡ Some key
    → receive f.wire inner room after.wire → GivesOf f key inner room answer buffer after → Receives receive old answer buffer now
received {W} receive old f now after key inner answer room buffer view e is call gives =
    subst (λ (a : LinkView W). Receives receive old answer buffer a) (sym e)
    (subst (λ (b : LinkView W). Receives receive b answer buffer after) view
    (subst (λ (o : Option (List ℕ)). ReceivesWith receive f o answer buffer after) (sym is) (inner, room, call, gives)))

pub let_in_or_not : {W : Type 0} (receive : W → Result (Option ℕ) WireError → List ℕ → W → Type 0) (old f now : LinkView W) (key : List ℕ) (count : ℕ)
    (room : List ℕ) (written : Option ℕ) (buffer : List ℕ) (wire : W) → f ≡ old → now ≡ after_letting_in (record f { wire = wire }) written wire
    → f.key ≡ Some key → receive f.wire (Ok (Some count)) room wire → Writes (let_in key (take count room)) written buffer
    → Receives receive old (Ok written) buffer now
let_in_or_not receive old f now key count room (Some n) buffer wire view e is call writes =
    received receive old f now (record f { wire = wire }) key (Ok (Some count)) (Ok (Some n)) room buffer view e is call (Some n, refl, writes, refl)
let_in_or_not receive old f now key count room None buffer wire view e is call writes =
    received receive old f now (after_letting_in f None wire) key (Ok (Some count)) (Ok None) room buffer view e is call (None, refl, writes, refl)

letting_in-wire : {W : Type 0} (f : LinkView W) (written : Option ℕ) (wire : W) → (after_letting_in f written wire).wire ≡ wire
letting_in-wire f (Some n) wire = refl
letting_in-wire f None wire = refl

letting_in-key : {W : Type 0} (f : LinkView W) (written : Option ℕ) (wire : W) → (after_letting_in f written wire).key ≡ f.key
letting_in-key f (Some n) wire = refl
letting_in-key f None wire = refl

through_tags : (was now : Option (List ℕ)) (key : List ℕ) (coming rest left : List (List ℕ)) (size : ℕ) (written : Option ℕ) (buffer : List ℕ)
    → was ≡ Some key → now ≡ Some key → left ≡ rest → IsReceived (filter_map (let_in key) coming) size (Ok written) buffer (filter_map (let_in key) rest)
    → IsReceived (without_tags was coming) size (Ok written) buffer (without_tags now left)
through_tags was now key coming rest left size written buffer was_is now_is same here =
    subst (λ (o : Option (List ℕ)). IsReceived (without_tags o coming) size (Ok written) buffer (without_tags now left)) (sym was_is)
    (subst (λ (o : Option (List ℕ)). IsReceived (filter_map (let_in key) coming) size (Ok written) buffer (without_tags o left)) (sym now_is)
    (subst (λ (ds : List (List ℕ)). IsReceived (filter_map (let_in key) coming) size (Ok written) buffer (filter_map (let_in key) ds)) (sym same) here))

-- a message received with a key is among those that contracts know as coming
pub came_in : {W : Type 0} (tells : W → Bool) (coming : W → List (List ℕ)) (old f now : LinkView W) (key : List ℕ) (count place size : ℕ)
    (room buffer : List ℕ) (written : Option ℕ) (wire : W) → f ≡ old → now ≡ after_letting_in (record f { wire = wire }) written wire
    → f.key ≡ Some key → place ≡ 577 → (IsTrue (tells wire) → IsReceived (coming f.wire) place (Ok (Some count)) room (coming wire))
    → Writes (let_in key (take count room)) written buffer → length buffer ≡ size
    → IsTrue (tells_of tells now) → IsReceived (coming_of coming old) size (Ok written) buffer (coming_of coming now)
came_in {W} tells coming old f now key count place size room buffer written wire view e is wide given writes long tells_now =
    let at : now.wire ≡ wire = ap (λ (a : LinkView W). a.wire) e ∙ letting_in-wire (record f { wire = wire }) written wire in
    let now_is : now.key ≡ Some key = ap (λ (a : LinkView W). a.key) e ∙ letting_in-key (record f { wire = wire }) written wire ∙ is in
    let told : IsTrue (tells wire) = subst (λ (w : W). IsTrue (tells w)) at (told_with now.key key now.told (tells now.wire) now_is tells_now) in
    subst (λ (b : LinkView W). IsReceived (coming_of coming b) size (Ok written) buffer (coming_of coming now)) view
    (through_tags f.key now.key key (coming f.wire) (coming wire) (coming now.wire) size written buffer is now_is (ap coming at)
    (came key (coming f.wire) (coming wire) count place size room buffer written wide (given told) writes long))

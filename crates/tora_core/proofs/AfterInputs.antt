-- What an input changes in a core, and what it leaves unchanged.
use Rattle.std.proofs.Common.{◌≡◌, ◌≢◌, refl, ap, sym, subst, ◌∙◌, ℕ, ◌<◌, ◌==◌, Bool, true, false, not, ◌&&◌, ◌||◌, List, [], ◌∷◌, map, Option, Some, None, is_some, nat_lt, inl, inr, arith}
use Rattle.std.specs.Prelude.{if◌then◌else◌, filter_map, fold, find, option_map}
use Rattle.std.specs.List.{AllByRecursion, cons_option}
use Rattle.std.proofs.lemmas.Bool.{cond_both}
use Rattle.std.proofs.lemmas.Bool.Decides.{nat_tests}
use Rattle.tora_packet.specs.declared.Packet.{Packet}
use Rattle.tora_packet.specs.AnyPacket.{destination_of}
use Rattle.tora_core.specs.declared.destination.Broadcast.{Broadcast}
use Rattle.tora_core.specs.declared.destination.Broadcast.TheVariants as Tell
use Rattle.tora_core.specs.declared.Input.{Input}
use Rattle.tora_core.specs.declared.Input.TheVariants as In
use Rattle.tora_core.specs.declared.errors.StepError.TheVariants as Fault
use Rattle.tora_core.specs.Numbers.{has_number, with_number, without_number, ascending, IsAscending}
use Rattle.tora_core.specs.View.{View, up_neighbours}
use Rattle.tora_core.specs.Rules.{outcome_of, packet_of, packet_sent}
use Rattle.tora_core.specs.CoreRun.{CoreView, concerns, core_after, core_taking, has_destination, is_from, is_of, next_packet, next_view, refusal_of, sends_of, up_after, view_of}
use Rattle.tora_core.specs.Kept.{IsCore, IsLinked, IsOfOne, IsPart, IsViewOf, destinations_of}
use Rattle.tora_core.proofs.RowLemmas.{all-weaker}
use Rattle.tora_core.proofs.NumberLemmas.{all-other, ascending-with_number, all-without, not-same, same-number}
use Rattle.tora_core.proofs.CoreLemmas.{destinations_of-next, free-up, next_view-destination, not-false, refused-not}

-- ---- numbers

or_swap : (a b c : Bool) → (a || (b || c)) ≡ (b || (a || c))
or_swap true true c = refl
or_swap true false c = refl
or_swap false true c = refl
or_swap false false c = refl

or_turn : (a b c : Bool) → ((a || b) || c) ≡ (b || (a || c))
or_turn true true c = refl
or_turn true false c = refl
or_turn false true c = refl
or_turn false false c = refl

or_false : (a : Bool) → (a || false) ≡ a
or_false true = refl
or_false false = refl

or_true : (a : Bool) → (a || true) ≡ true
or_true true = refl
or_true false = refl

pub has-with : (n m : ℕ) (ns : List ℕ) → has_number n (with_number m ns) ≡ ((m == n) || has_number n ns)
has-with n m [] = refl
has-with n m (x ∷ ns) =
    cond_both (nat_lt m x) (m ∷ x ∷ ns) (x ∷ with_number m ns) (λ (xs : List ℕ). has_number n xs ≡ ((m == n) || has_number n (x ∷ ns)))
    (λ _. refl) (λ _. ap (λ b. (x == n) || b) (has-with n m ns) ∙ or_swap (x == n) (m == n) (has_number n ns))

abbrev sorted_on : List ℕ → List ℕ → List ℕ
sorted_on acc ns = fold (λ sorted n. with_number n sorted) acc ns

has-sorted : (n : ℕ) (acc ns : List ℕ) → has_number n (sorted_on acc ns) ≡ (has_number n acc || has_number n ns)
has-sorted n acc [] = sym (or_false (has_number n acc))
has-sorted n acc (x ∷ ns) = has-sorted n (with_number x acc) ns ∙ ap (λ b. b || has_number n ns) (has-with n x acc) ∙ or_turn (x == n) (has_number n acc) (has_number n ns)

pub has-ascending : (n : ℕ) (ns : List ℕ) → has_number n (ascending ns) ≡ has_number n ns
has-ascending n ns = has-sorted n [] ns

and_false : (b : Bool) → (b && false) ≡ false
and_false true = refl
and_false false = refl

same-apart : (a b : Bool) → (not a && b) ≡ (not a && (a || b))
same-apart true b = refl
same-apart false b = refl

other-apart : (a b c : Bool) → (b ≡ true → a ≡ false) → (a || (not b && c)) ≡ (not b && (a || c))
other-apart a true c e = let f : a ≡ false = e refl in ap (λ x. x || false) f
other-apart a false c e = refl

-- if two numbers are equal, a number that differs from one of them differs from the other
apart-too : (x m n : ℕ) → (x == m) ≡ false → (m == n) ≡ true → (x == n) ≡ false
apart-too x m n e f = subst (λ (k : ℕ). (x == k) ≡ false) (same-number m n f) e

pub has-without : (n m : ℕ) (ns : List ℕ) → has_number n (without_number m ns) ≡ (not (m == n) && has_number n ns)
has-without n m [] = sym (and_false (not (m == n)))
has-without n m (x ∷ ns) = at (has-without n m ns) (x == m) refl
  where
    at : has_number n (without_number m ns) ≡ (not (m == n) && has_number n ns) → (b : Bool) → (x == m) ≡ b
        → has_number n (if not b then x ∷ without_number m ns else without_number m ns) ≡ (not (m == n) && ((x == n) || has_number n ns))
    at rest true e =
        let is : x ≡ m = same-number x m e in
        rest ∙ same-apart (m == n) (has_number n ns) ∙ ap (λ (k : ℕ). not (m == n) && ((k == n) || has_number n ns)) (sym is)
    at rest false e = ap (λ b. (x == n) || b) rest ∙ other-apart (x == n) (m == n) (has_number n ns) (apart-too x m n e)

same-is : (n : ℕ) → (n == n) ≡ true
same-is n = grind (arith, nat_tests)

pub ascending-without : (n : ℕ) (ns : List ℕ) → IsAscending ns → IsAscending (without_number n ns)
ascending-without n [] asc = tt
ascending-without n (m ∷ ns) asc =
    cond_both (not (m == n)) (m ∷ without_number n ns) (without_number n ns) IsAscending
    (λ _. (all-without (λ (k : ℕ). m < k) n ns asc.0, ascending-without n ns asc.1)) (λ _. ascending-without n ns asc.1)

pub put-ascending : (n : ℕ) (ns : List ℕ) → has_number n ns ≡ false → IsAscending ns → IsAscending (with_number n ns)
put-ascending n ns none asc = ascending-with_number n ns (all-other n ns none) asc

-- ---- the node, its neighbours and its destinations

pub same-me : (c : CoreView) (input : Input) (now : ℕ) → (core_after c input now).me ≡ c.me
same-me c input now = cond_both (is_some (refusal_of c input)) c (core_taking c input now) (λ (x : CoreView). x.me ≡ c.me) (λ _. refl) (λ _. refl)

pub same-erasure : (c : CoreView) (input : Input) (now : ℕ) → (core_after c input now).erasure ≡ c.erasure
same-erasure c input now = cond_both (is_some (refusal_of c input)) c (core_taking c input now) (λ (x : CoreView). x.erasure ≡ c.erasure) (λ _. refl) (λ _. refl)

pub same-neighbours : (c : CoreView) (input : Input) (now : ℕ) → (core_after c input now).neighbours ≡ c.neighbours
same-neighbours c input now = cond_both (is_some (refusal_of c input)) c (core_taking c input now) (λ (x : CoreView). x.neighbours ≡ c.neighbours) (λ _. refl) (λ _. refl)

pub same-destinations : (c : CoreView) (input : Input) (now : ℕ) → destinations_of (core_after c input now).views ≡ destinations_of c.views
same-destinations c input now =
    cond_both (is_some (refusal_of c input)) c (core_taking c input now) (λ (x : CoreView). destinations_of x.views ≡ destinations_of c.views) (λ _. refl) (λ _. destinations_of-next input now c.views)

-- ---- the links that are up

taken : (c : CoreView) (input : Input) (now : ℕ) → refusal_of c input ≡ None → (core_after c input now).up ≡ up_after c.up input
taken c input now free = ap (λ o. (if is_some o then c else core_taking c input now).up) free

pub link-comes : (c : CoreView) (k now : ℕ) → refusal_of c (In.LinkUp k) ≡ None → has_number k (core_after c (In.LinkUp k) now).up ≡ true
link-comes c k now free = ap (has_number k) (taken c (In.LinkUp k) now free) ∙ has-with k k c.up ∙ ap (λ b. b || has_number k c.up) (same-is k)

pub link-goes : (c : CoreView) (k now : ℕ) → refusal_of c (In.LinkDown k) ≡ None → has_number k (core_after c (In.LinkDown k) now).up ≡ false
link-goes c k now free = ap (has_number k) (taken c (In.LinkDown k) now free) ∙ has-without k k c.up ∙ ap (λ b. not b && has_number k c.up) (same-is k)

pub others-at-up : (c : CoreView) (j k now : ℕ) → j ≢ k → has_number j (core_after c (In.LinkUp k) now).up ≡ has_number j c.up
others-at-up c j k now apart =
    cond_both (is_some (refusal_of c (In.LinkUp k))) c (core_taking c (In.LinkUp k) now) (λ (x : CoreView). has_number j x.up ≡ has_number j c.up) (λ _. refl)
    (λ _. has-with j k c.up ∙ ap (λ b. b || has_number j c.up) (not-same k j (λ (e : k ≡ j). apart (sym e))))

pub others-at-down : (c : CoreView) (j k now : ℕ) → j ≢ k → has_number j (core_after c (In.LinkDown k) now).up ≡ has_number j c.up
others-at-down c j k now apart =
    cond_both (is_some (refusal_of c (In.LinkDown k))) c (core_taking c (In.LinkDown k) now) (λ (x : CoreView). has_number j x.up ≡ has_number j c.up) (λ _. refl)
    (λ _. has-without j k c.up ∙ ap (λ b. not b && has_number j c.up) (not-same k j (λ (e : k ≡ j). apart (sym e))))

pub up-at-packet : (c : CoreView) (k : ℕ) (packet : Packet) (now : ℕ) → (core_after c (In.Packet k packet) now).up ≡ c.up
up-at-packet c k packet now =
    cond_both (is_some (refusal_of c (In.Packet k packet))) c (core_taking c (In.Packet k packet) now) (λ (x : CoreView). x.up ≡ c.up) (λ _. refl) (λ _. refl)

pub up-at-need : (c : CoreView) (d now : ℕ) → (core_after c (In.Need d) now).up ≡ c.up
up-at-need c d now = cond_both (is_some (refusal_of c (In.Need d))) c (core_taking c (In.Need d) now) (λ (x : CoreView). x.up ≡ c.up) (λ _. refl) (λ _. refl)

-- ---- when an input is accepted

pub accepted-up : (c : CoreView) (k : ℕ) → has_number k c.neighbours ≡ true → has_number k c.up ≡ false → refusal_of c (In.LinkUp k) ≡ None
accepted-up c k there free =
    ap (λ b. if not b then Some Fault.UnknownNeighbour else if has_number k c.up then Some Fault.AlreadyUp else None) there
    ∙ ap (λ b. if b then Some Fault.AlreadyUp else None) free

pub free-down : (c : CoreView) (k : ℕ) → refusal_of c (In.LinkDown k) ≡ None → (has_number k c.neighbours ≡ true) × (has_number k c.up ≡ true)
free-down c k free =
    let one = refused-not (not (has_number k c.neighbours)) _ _ free in
    (not-false (has_number k c.neighbours) one.0, not-false (has_number k c.up) (refused-not (not (has_number k c.up)) _ _ one.1).0)

pub accepted-down : (c : CoreView) (k : ℕ) → has_number k c.neighbours ≡ true → has_number k c.up ≡ true → refusal_of c (In.LinkDown k) ≡ None
accepted-down c k there up =
    ap (λ b. if not b then Some Fault.UnknownNeighbour else if not (has_number k c.up) then Some Fault.NotUp else None) there
    ∙ ap (λ b. if not b then Some Fault.NotUp else None) up

pub free-packet : (c : CoreView) (k : ℕ) (packet : Packet) → refusal_of c (In.Packet k packet) ≡ None → (has_number k c.neighbours ≡ true) × (has_number k c.up ≡ true) × (is_from k packet ≡ true)
free-packet c k packet free =
    let one = refused-not (not (has_number k c.neighbours)) _ _ free in
    let two = refused-not (not (has_number k c.up)) _ _ one.1 in
    (not-false (has_number k c.neighbours) one.0, not-false (has_number k c.up) two.0, not-false (is_from k packet) (refused-not (not (is_from k packet)) _ _ two.1).0)

pub accepted-packet : (c : CoreView) (k : ℕ) (packet : Packet) → has_number k c.neighbours ≡ true → has_number k c.up ≡ true → is_from k packet ≡ true → refusal_of c (In.Packet k packet) ≡ None
accepted-packet c k packet there up from =
    ap (λ b. if not b then Some Fault.UnknownNeighbour else if not (has_number k c.up) then Some Fault.NotUp else if not (is_from k packet) then Some Fault.WrongSender else None) there
    ∙ ap (λ b. if not b then Some Fault.NotUp else if not (is_from k packet) then Some Fault.WrongSender else None) up
    ∙ ap (λ b. if not b then Some Fault.WrongSender else None) from

pub free-need : (c : CoreView) (d : ℕ) → refusal_of c (In.Need d) ≡ None → has_destination d c.views ≡ true
free-need c d free = at (has_destination d c.views) free
  where
    at : (b : Bool) → (if b then None else Some Fault.UnknownDestination) ≡ None → b ≡ true
    at true e = refl
    at false e = absurd cc

pub accepted-need : (c : CoreView) (d : ℕ) → has_destination d c.views ≡ true → refusal_of c (In.Need d) ≡ None
accepted-need c d there = ap (λ b. if b then None else Some Fault.UnknownDestination) there

-- ---- the views that an input does not concern

still-found : (d : ℕ) (input : Input) (now : ℕ) (views : List View) → concerns input d ≡ false → find (is_of d) (map (next_view input now) views) ≡ find (is_of d) views
still-found d input now [] off = refl
still-found d input now (v ∷ views) off =
    ap (λ (n : ℕ). if n == d then Some (next_view input now v) else find (is_of d) (map (next_view input now) views)) (next_view-destination input now v)
    ∙ at (still-found d input now views off) (v.destination == d) refl
  where
    at : find (is_of d) (map (next_view input now) views) ≡ find (is_of d) views → (b : Bool) → (v.destination == d) ≡ b
        → (if b then Some (next_view input now v) else find (is_of d) (map (next_view input now) views)) ≡ (if b then Some v else find (is_of d) views)
    at rest true e =
        let off_here : concerns input v.destination ≡ false = subst (λ (n : ℕ). concerns input n ≡ false) (sym (same-number v.destination d e)) off in
        ap (λ b. Some (if b then (outcome_of v input now).view else v)) off_here
    at rest false e = rest

pub other-view : (c : CoreView) (input : Input) (now d : ℕ) → concerns input d ≡ false → view_of (core_after c input now) d ≡ view_of c d
other-view c input now d off =
    cond_both (is_some (refusal_of c input)) c (core_taking c input now) (λ (x : CoreView). view_of x d ≡ view_of c d) (λ _. refl) (λ _. still-found d input now c.views off)

-- ---- links that are up are of neighbours

pub part-has : (k : ℕ) (us ns : List ℕ) → IsPart us ns → has_number k us ≡ true → has_number k ns ≡ true
part-has k [] ns p has = absurd cc
part-has k (u ∷ us) [] p has = absurd p
part-has k (u ∷ us) (n ∷ ns) (inl p) has =
    at (u == k) has (ap (λ (m : ℕ). m == k) p.0) (part-has k us ns p.1)
  where
    at : (b : Bool) → (b || has_number k us) ≡ true → b ≡ (n == k) → (has_number k us ≡ true → has_number k ns ≡ true) → ((n == k) || has_number k ns) ≡ true
    at true h e rest = ap (λ x. x || has_number k ns) (sym e)
    at false h e rest = ap (λ x. x || has_number k ns) (sym e) ∙ rest h
part-has k (u ∷ us) (n ∷ ns) (inr p) has = ap (λ b. (n == k) || b) (part-has k (u ∷ us) ns p has) ∙ or_true (n == k)

part-above : (n : ℕ) (us ns : List ℕ) → IsPart us ns → AllByRecursion (λ (m : ℕ). n < m) ns → AllByRecursion (λ (m : ℕ). n < m) us
part-above n [] ns p all = tt
part-above n (u ∷ us) [] p all = absurd p
part-above n (u ∷ us) (m ∷ ns) (inl p) all = (subst (λ (x : ℕ). n < x) (sym p.0) all.0, part-above n us ns p.1 all.1)
part-above n (u ∷ us) (m ∷ ns) (inr p) all = part-above n (u ∷ us) ns p all.1

pub part-ascending : (us ns : List ℕ) → IsPart us ns → IsAscending ns → IsAscending us
part-ascending [] ns p asc = tt
part-ascending (u ∷ us) [] p asc = absurd p
part-ascending (u ∷ us) (n ∷ ns) (inl p) asc = (subst (λ (x : ℕ). AllByRecursion (λ (m : ℕ). x < m) us) (sym p.0) (part-above n us ns p.1 asc.0), part-ascending us ns p.1 asc.1)
part-ascending (u ∷ us) (n ∷ ns) (inr p) asc = part-ascending (u ∷ us) ns p asc.1

-- ---- what an input sends

packet_of-destination : (d : ℕ) (b : Broadcast) → destination_of (packet_of d b) ≡ d
packet_of-destination d Tell.Query = refl
packet_of-destination d (Tell.Update height) = refl
packet_of-destination d (Tell.Clear tau oid) = refl

-- the packet, if there is one, is about this destination
abbrev IsFor : ℕ → Option Packet → Type 0
IsFor d None = Unit {0}
IsFor d (Some packet) = destination_of packet ≡ d

next_packet-for : (input : Input) (now : ℕ) (v : View) → IsFor v.destination (next_packet input now v)
next_packet-for input now v =
    cond_both (concerns input v.destination) (packet_sent v input now) None (IsFor v.destination) (λ _. at (outcome_of v input now).broadcast) (λ _. tt)
  where
    at : (b : Option Broadcast) → IsFor v.destination (option_map (packet_of v.destination) b)
    at None = tt
    at (Some b) = packet_of-destination v.destination b

sends-above : (n : ℕ) (input : Input) (now : ℕ) (views : List View) → AllByRecursion (λ (m : ℕ). n < m) (destinations_of views)
    → AllByRecursion (λ (m : ℕ). n < m) (map destination_of (filter_map (next_packet input now) views))
sends-above n input now [] all = tt
sends-above n input now (v ∷ views) all = at (next_packet input now v) (next_packet-for input now v) (sends-above n input now views all.1)
  where
    at : (o : Option Packet) → IsFor v.destination o → AllByRecursion (λ (m : ℕ). n < m) (map destination_of (filter_map (next_packet input now) views))
        → AllByRecursion (λ (m : ℕ). n < m) (map destination_of (cons_option o (filter_map (next_packet input now) views)))
    at None is rest = rest
    at (Some packet) is rest = (subst (λ (m : ℕ). n < m) (sym is) all.0, rest)

sends-in-order : (input : Input) (now : ℕ) (views : List View) → IsAscending (destinations_of views) → IsAscending (map destination_of (filter_map (next_packet input now) views))
sends-in-order input now [] asc = tt
sends-in-order input now (v ∷ views) asc = at (next_packet input now v) (next_packet-for input now v) (sends-in-order input now views asc.1)
  where
    at : (o : Option Packet) → IsFor v.destination o → IsAscending (map destination_of (filter_map (next_packet input now) views))
        → IsAscending (map destination_of (cons_option o (filter_map (next_packet input now) views)))
    at None is rest = rest
    at (Some packet) is rest = (subst (λ (n : ℕ). AllByRecursion (λ (m : ℕ). n < m) (map destination_of (filter_map (next_packet input now) views))) (sym is) (sends-above v.destination input now views asc.0), rest)

pub ascending-sends : (c : CoreView) (input : Input) (now : ℕ) → IsCore c → IsAscending (map destination_of (sends_of c input now))
ascending-sends c input now core =
    cond_both (is_some (refusal_of c input)) [] (filter_map (next_packet input now) c.views) (λ (ps : List Packet). IsAscending (map destination_of ps)) (λ _. tt) (λ _. sends-in-order input now c.views core.ascending_destinations)

-- one of the views has the destination of the packet
abbrev IsKnown : List View → Packet → Type 0
IsKnown views packet = has_destination (destination_of packet) views ≡ true

known-later : (v : View) (views : List View) (packet : Packet) → IsKnown views packet → IsKnown (v ∷ views) packet
known-later v views packet is = ap (λ b. (v.destination == destination_of packet) || b) is ∙ or_true (v.destination == destination_of packet)

sends-known : (input : Input) (now : ℕ) (views : List View) → AllByRecursion (IsKnown views) (filter_map (next_packet input now) views)
sends-known input now [] = tt
sends-known input now (v ∷ views) =
    at (next_packet input now v) (next_packet-for input now v) (all-weaker (IsKnown views) (IsKnown (v ∷ views)) (known-later v views) (filter_map (next_packet input now) views) (sends-known input now views))
  where
    at : (o : Option Packet) → IsFor v.destination o → AllByRecursion (IsKnown (v ∷ views)) (filter_map (next_packet input now) views)
        → AllByRecursion (IsKnown (v ∷ views)) (cons_option o (filter_map (next_packet input now) views))
    at None is rest = rest
    at (Some packet) is rest = (ap (λ (d : ℕ). (v.destination == d) || has_destination d views) is ∙ ap (λ b. b || has_destination v.destination views) (same-is v.destination), rest)

pub known-sends : (c : CoreView) (input : Input) (now : ℕ) → AllByRecursion (λ (packet : Packet). has_destination (destination_of packet) c.views ≡ true) (sends_of c input now)
known-sends c input now =
    cond_both (is_some (refusal_of c input)) [] (filter_map (next_packet input now) c.views) (AllByRecursion (IsKnown c.views)) (λ _. tt) (λ _. sends-known input now c.views)

-- ---- facts about an accepted input

pub linked : (c : CoreView) (input : Input) → refusal_of c input ≡ None → IsLinked input c.up
linked c (In.Need d) free = tt
linked c (In.LinkUp k) free = tt
linked c (In.LinkDown k) free = (free-down c k free).1
linked c (In.Packet k packet) free = (free-packet c k packet free).1

-- the link of the input is in each view, whose rows are those of the neighbours whose links are up
pub all-linked : (me : ℕ) (up : List ℕ) (input : Input) (views : List View) → IsLinked input up → AllByRecursion (IsViewOf me up) views
    → AllByRecursion (λ (v : View). IsLinked input (up_neighbours v)) views
all-linked me up input [] is all = tt
all-linked me up input (v ∷ views) is all = (subst (IsLinked input) (sym all.0.neighbours) is, all-linked me up input views is all.1)

pub of-one : (c : CoreView) (input : Input) → refusal_of c input ≡ None → IsOfOne input c.neighbours
of-one c (In.Need d) free = tt
of-one c (In.LinkUp k) free = (free-up c k free).0
of-one c (In.LinkDown k) free = (free-down c k free).0
of-one c (In.Packet k packet) free = (free-packet c k packet free).0

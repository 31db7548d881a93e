-- An accepted input may come to each view, and a core keeps its invariants.
use Rattle.std.proofs.Common.{◌≡◌, ◌≢◌, ◌∙◌, refl, ap, sym, subst, ℕ, ◌<◌, ◌≤◌, suc, Bool, true, false, not, List, [], ◌∷◌, map, length, Option, Some, None, is_some, nat_lt, ◌||◌, arith}
use Rattle.std.specs.Prelude.{if◌then◌else◌}
use Rattle.std.specs.List.{AllByRecursion}
use Rattle.std.proofs.lemmas.Bool.{cond_both}
use Rattle.std.proofs.lemmas.Bool.Decides.{nat_tests}
use Rattle.tora_packet.specs.declared.Packet.{Packet}
use Rattle.tora_packet.specs.declared.Packet.TheVariants.{Qry, Upd, Clr}
use Rattle.tora_packet.specs.PacketParts.{IsId}
use Rattle.tora_packet.specs.AnyPacket.{IsPacket}
use Rattle.tora_core.specs.declared.erasure.Erasure.{Erasure}
use Rattle.tora_core.specs.declared.rows.Row.{Row}
use Rattle.tora_core.specs.declared.errors.StepError.{StepError}
use Rattle.tora_core.specs.declared.errors.CoreError.{CoreError}
use Rattle.tora_core.specs.declared.errors.CoreError.TheVariants as Refusal
use Rattle.tora_core.specs.declared.Input.{Input}
use Rattle.tora_core.specs.declared.Input.TheVariants as In
use Rattle.tora_core.specs.declared.TheConstants.{GREATEST_NEIGHBOURS, MOST_DESTINATIONS}
use Rattle.tora_core.specs.declared.limits.CoreLimits.{CoreLimits}
use Rattle.tora_core.specs.Limits.{at_most, most_destinations, most_neighbours}
use Rattle.tora_core.specs.Numbers.{has_number, ascending, has_repeat, IsAscending}
use Rattle.tora_core.specs.View.{View, first_view_of, neighbours_of}
use Rattle.tora_core.specs.Rules.{view_after}
use Rattle.tora_core.specs.CoreRun.{CoreView, core_refusal_within, first_core_of, is_from, refusal_of, concerns, next_view, up_after, core_taking, core_after, core_after_all}
use Rattle.tora_core.specs.Kept.{IsKept, IsPacketOf, CanTake, IsNeighbour, IsPart, IsViewOf, destinations_of, IsCore, IsInput, AreInputs}
use Rattle.tora_core.proofs.RowLemmas.{all-weaker}
use Rattle.tora_core.proofs.NumberLemmas.{or-false-left, or-false-right, same-number, all-has, all-other, all-ascending, length-ascending, ascending-ascending, part-shorter, part-with, part-without}
use Rattle.tora_core.proofs.Places.{outcome_of-place}
use Rattle.tora_core.proofs.KeptLemmas.{first-kept, outcome_of-kept}

-- ---- an input that is not refused

pub not-false : (b : Bool) → not b ≡ false → b ≡ true
not-false true e = refl
not-false false e = absurd cc

pub refused-not : (b : Bool) (e : StepError) (o : Option StepError) → (if b then Some e else o) ≡ None → (b ≡ false) × (o ≡ None)
refused-not true e o h = absurd cc
refused-not false e o h = (refl, h)

-- a link that comes up is to a configured neighbour, and was not up
pub free-up : (c : CoreView) (k : ℕ) → refusal_of c (In.LinkUp k) ≡ None → (has_number k c.neighbours ≡ true) × (has_number k c.up ≡ false)
free-up c k free =
    let one = refused-not (not (has_number k c.neighbours)) _ _ free in
    (not-false (has_number k c.neighbours) one.0, (refused-not (has_number k c.up) _ _ one.1).0)

packet_of-neighbour : (k destination : ℕ) (p : Packet) → IsPacket p → is_from k p ≡ true → concerns (In.Packet k p) destination ≡ true → IsPacketOf k destination p
packet_of-neighbour k destination (Qry d) ok from for = tt
packet_of-neighbour k destination (Clr c) ok from for = ok
packet_of-neighbour k destination (Upd u) ok from for =
    let id : u.height.id ≡ k = same-number u.height.id k from in
    let to : destination ≡ u.destination = same-number destination u.destination for in
    let other : k ≢ destination = λ (e : k ≡ destination). ok.other (id ∙ e ∙ to) in
    (record { ranges = ok.height; id = id; zero = λ (e : k ≡ destination). absurd (other e); above = λ _. ok.above }, other)

rows-apart : (k : ℕ) (rows : List Row) → AllByRecursion (λ (n : ℕ). n ≢ k) (neighbours_of rows) → AllByRecursion (λ (row : Row). row.neighbour ≢ k) rows
rows-apart k [] all = tt
rows-apart k (row ∷ rows) all = (all.0, rows-apart k rows all.1)

length-neighbours_of : (rows : List Row) → length rows ≡ length (neighbours_of rows)
length-neighbours_of [] = refl
length-neighbours_of (row ∷ rows) = ap suc (length-neighbours_of rows)

-- if a link comes up, fewer links are up than there are neighbours
pub fewer-up : (c : CoreView) (k : ℕ) → IsCore c → refusal_of c (In.LinkUp k) ≡ None → length c.up < length c.neighbours
fewer-up c k core free = let is = free-up c k free in part-shorter k c.up c.neighbours core.up is.0 is.1

-- there is room for a link that comes up
pub room-up : (c : CoreView) (k : ℕ) → IsCore c → refusal_of c (In.LinkUp k) ≡ None → length c.up < GREATEST_NEIGHBOURS
room-up c k core free =
    let is = free-up c k free in
    let shorter = part-shorter k c.up c.neighbours core.up is.0 is.1 in
    let few = core.few_neighbours in
    omega arith

can-take : (c : CoreView) (input : Input) → IsCore c → IsInput input → refusal_of c input ≡ None → (v : View) → IsViewOf c.me c.up v → CanTake input v
can-take c (In.Need d) core ok free v is = record { kept = is.kept; may = λ _. (tt, tt) }
can-take c (In.LinkUp k) core ok free v is =
    let here = free-up c k free in
    let name : IsNeighbour c.me k = all-has (IsNeighbour c.me) k c.neighbours core.neighbours here.0 in
    let P : List ℕ → Type 0 = λ ns. AllByRecursion (λ (n : ℕ). n ≢ k) ns in
    let none = rows-apart k v.rows (subst P (sym is.neighbours) (all-other k c.up here.1)) in
    let few : length v.rows < GREATEST_NEIGHBOURS = let r = room-up c k core free in let e = length-neighbours_of v.rows in let g = ap length is.neighbours in omega arith in
    record { kept = is.kept; may = λ _. ((name.0, (λ (e : k ≡ v.me). name.1 (e ∙ is.owner)), none), (name.0, few)) }
can-take c (In.LinkDown k) core ok free v is = record { kept = is.kept; may = λ _. (tt, tt) }
can-take c (In.Packet k p) core ok free v is =
    let one = refused-not (not (has_number k c.neighbours)) _ _ free in
    let two = refused-not (not (has_number k c.up)) _ _ one.1 in
    let from = not-false (is_from k p) (refused-not (not (is_from k p)) _ _ two.1).0 in
    record { kept = is.kept; may = λ (for : concerns (In.Packet k p) v.destination ≡ true). (packet_of-neighbour k v.destination p ok from for, tt) }

pub all-can_take : (c : CoreView) (input : Input) → IsCore c → IsInput input → refusal_of c input ≡ None → AllByRecursion (CanTake input) c.views
all-can_take c input core ok free = all-weaker (IsViewOf c.me c.up) (CanTake input) (can-take c input core ok free) c.views core.views

-- ---- a core after an input

-- an input that does not concern a view is not about a link
elsewhere : (up : List ℕ) (input : Input) (destination : ℕ) → concerns input destination ≡ false → up_after up input ≡ up
elsewhere up (In.Need d) destination e = refl
elsewhere up (In.LinkUp k) destination e = absurd cc
elsewhere up (In.LinkDown k) destination e = absurd cc
elsewhere up (In.Packet k p) destination e = refl

next_view-kept : (input : Input) (now : ℕ) (v : View) → CanTake input v → IsKept (next_view input now v)
next_view-kept input now v can =
    cond_both (concerns input v.destination) (view_after v input now) v IsKept (λ e. (outcome_of-kept v input now can.kept (can.may e).0).view) (λ _. can.kept)

next_view-of : (me : ℕ) (up : List ℕ) (input : Input) (now : ℕ) (v : View) → CanTake input v → IsViewOf me up v → IsViewOf me (up_after up input) (next_view input now v)
next_view-of me up input now v can is =
    let P : View → Type 0 = λ w. IsKept w → IsViewOf me (up_after up input) w in
    cond_both (concerns input v.destination) (view_after v input now) v P
    (λ _ kept. let p = outcome_of-place v input now in record { owner = p.me ∙ is.owner; neighbours = p.rows ∙ ap (λ ns. up_after ns input) is.neighbours; kept = kept })
    (λ e kept. record { owner = is.owner; neighbours = is.neighbours ∙ sym (elsewhere up input v.destination e); kept = kept })
    (next_view-kept input now v can)

views-of : (me : ℕ) (up : List ℕ) (input : Input) (now : ℕ) (views : List View) → AllByRecursion (CanTake input) views → AllByRecursion (IsViewOf me up) views → AllByRecursion (IsViewOf me (up_after up input)) (map (next_view input now) views)
views-of me up input now [] can is = tt
views-of me up input now (v ∷ views) can is = (next_view-of me up input now v can.0 is.0, views-of me up input now views can.1 is.1)

pub next_view-destination : (input : Input) (now : ℕ) (v : View) → (next_view input now v).destination ≡ v.destination
next_view-destination input now v =
    cond_both (concerns input v.destination) (view_after v input now) v (λ (w : View). w.destination ≡ v.destination) (λ _. (outcome_of-place v input now).destination) (λ _. refl)

pub destinations_of-next : (input : Input) (now : ℕ) (views : List View) → destinations_of (map (next_view input now) views) ≡ destinations_of views
destinations_of-next input now [] = refl
destinations_of-next input now (v ∷ views) = let e = next_view-destination input now v in let rest = destinations_of-next input now views in cc

length-next : (input : Input) (now : ℕ) (views : List View) → length (map (next_view input now) views) ≡ length views
length-next input now [] = refl
length-next input now (v ∷ views) = ap suc (length-next input now views)

part-after : (c : CoreView) (input : Input) → IsCore c → refusal_of c input ≡ None → IsPart (up_after c.up input) c.neighbours
part-after c (In.Need d) core free = core.up
part-after c (In.LinkUp k) core free = let is = free-up c k free in part-with k c.up c.neighbours core.ascending_neighbours core.up is.0 is.1
part-after c (In.LinkDown k) core free = part-without k c.up c.neighbours core.up
part-after c (In.Packet k p) core free = core.up

pub core-kept : (c : CoreView) (input : Input) (now : ℕ) → IsCore c → IsInput input → refusal_of c input ≡ None → IsCore (core_taking c input now)
core-kept c input now core ok free =
    record {
      me = core.me;
      neighbours = core.neighbours;
      few_neighbours = core.few_neighbours;
      ascending_neighbours = core.ascending_neighbours;
      up = part-after c input core free;
      views = views-of c.me c.up input now c.views (all-can_take c input core ok free) core.views;
      few_views = let e = length-next input now c.views in let f = core.few_views in omega arith;
      ascending_destinations = subst IsAscending (sym (destinations_of-next input now c.views)) core.ascending_destinations;
    }

-- ---- a new core

pub destinations_of-first : (e : Erasure) (me : ℕ) (ds : List ℕ) → destinations_of (map (first_view_of e me) ds) ≡ ds
destinations_of-first e me [] = refl
destinations_of-first e me (d ∷ ds) = ap (λ (xs : List ℕ). d ∷ xs) (destinations_of-first e me ds)

length-first : (e : Erasure) (me : ℕ) (ds : List ℕ) → length (map (first_view_of e me) ds) ≡ length ds
length-first e me [] = refl
length-first e me (d ∷ ds) = ap suc (length-first e me ds)

first-views : (e : Erasure) (me : ℕ) (ds : List ℕ) → IsId me → AllByRecursion IsId ds → AllByRecursion (IsViewOf me []) (map (first_view_of e me) ds)
first-views e me [] id ids = tt
first-views e me (d ∷ ds) id ids = (record { owner = refl; neighbours = refl; kept = first-kept e me d id ids.0 }, first-views e me ds id ids.1)

both : (P Q : ℕ → Type 0) (ns : List ℕ) → AllByRecursion P ns → AllByRecursion Q ns → AllByRecursion (λ (n : ℕ). P n × Q n) ns
both P Q [] p q = tt
both P Q (n ∷ ns) p q = ((p.0, q.0), both P Q ns p.1 q.1)

not-refused : (b : Bool) (e : CoreError) (o : Option CoreError) → (if b then Some e else o) ≡ None → (b ≡ false) × (o ≡ None)
not-refused true e o h = absurd cc
not-refused false e o h = (refl, h)

-- a count within a limit is within the greatest limit
within-greatest : (greatest limit count : ℕ) → nat_lt (at_most greatest limit) count ≡ false → count ≤ greatest
within-greatest greatest limit count few = go (nat_lt limit greatest) refl few
  where
    go : (b : Bool) → nat_lt limit greatest ≡ b → nat_lt (if b then limit else greatest) count ≡ false → count ≤ greatest
    go true less e = grind (arith, nat_tests)
    go false more e = grind (arith, nat_tests)

pub few-neighbours : (limits : CoreLimits) (me : ℕ) (neighbours destinations : List ℕ)
    → core_refusal_within (most_neighbours limits) (most_destinations limits) me neighbours destinations ≡ None → length neighbours ≤ GREATEST_NEIGHBOURS
few-neighbours limits me neighbours destinations free =
    let many = nat_lt (most_neighbours limits) (length neighbours) in
    let one = not-refused (many || nat_lt (most_destinations limits) (length destinations)) Refusal.TooMany _ free in
    within-greatest GREATEST_NEIGHBOURS limits.neighbours (length neighbours) (or-false-left many (nat_lt (most_destinations limits) (length destinations)) one.0)

pub few-destinations : (limits : CoreLimits) (me : ℕ) (neighbours destinations : List ℕ)
    → core_refusal_within (most_neighbours limits) (most_destinations limits) me neighbours destinations ≡ None → length destinations ≤ MOST_DESTINATIONS
few-destinations limits me neighbours destinations free =
    let many = nat_lt (most_neighbours limits) (length neighbours) in
    let one = not-refused (many || nat_lt (most_destinations limits) (length destinations)) Refusal.TooMany _ free in
    within-greatest MOST_DESTINATIONS limits.destinations (length destinations) (or-false-right many (nat_lt (most_destinations limits) (length destinations)) one.0)

pub first_core-kept : (e : Erasure) (limits : CoreLimits) (me : ℕ) (neighbours destinations : List ℕ) → IsId me → AllByRecursion IsId neighbours → AllByRecursion IsId destinations
    → core_refusal_within (most_neighbours limits) (most_destinations limits) me neighbours destinations ≡ None → IsCore (first_core_of e me neighbours destinations)
first_core-kept e limits me neighbours destinations id ids tos free =
    let one = not-refused (nat_lt (most_neighbours limits) (length neighbours) || nat_lt (most_destinations limits) (length destinations)) Refusal.TooMany _ free in
    let two = not-refused (has_repeat neighbours || has_repeat destinations) Refusal.Repeated _ one.1 in
    let three = not-refused (has_number me neighbours) Refusal.OwnId None two.1 in
    let few_neighbours = few-neighbours limits me neighbours destinations free in
    let few_views = few-destinations limits me neighbours destinations free in
    record {
      me = id;
      neighbours = all-ascending (IsNeighbour me) neighbours (both IsId (λ (k : ℕ). k ≢ me) neighbours ids (all-other me neighbours three.0));
      few_neighbours = let n = length-ascending neighbours in omega arith;
      ascending_neighbours = ascending-ascending neighbours (or-false-left (has_repeat neighbours) (has_repeat destinations) two.0);
      up = tt;
      views = first-views e me (ascending destinations) id (all-ascending IsId destinations tos);
      few_views = let n = length-ascending destinations in let f = length-first e me (ascending destinations) in omega arith;
      ascending_destinations = subst IsAscending (sym (destinations_of-first e me (ascending destinations))) (ascending-ascending destinations (or-false-right (has_repeat neighbours) (has_repeat destinations) two.0));
    }

-- ---- runs

core_after-kept : (c : CoreView) (input : Input) (now : ℕ) → IsCore c → IsInput input → IsCore (core_after c input now)
core_after-kept c input now core ok = at (refusal_of c input) refl
  where
    at : (o : Option StepError) → refusal_of c input ≡ o → IsCore (if is_some o then c else core_taking c input now)
    at None free = core-kept c input now core ok free
    at (Some e) refused = core

pub core_after_all-kept : (c : CoreView) (inputs : List (Input × ℕ)) → IsCore c → AreInputs inputs → IsCore (core_after_all c inputs)
core_after_all-kept c [] core ok = core
core_after_all-kept c ((input, now) ∷ inputs) core ok = core_after_all-kept (core_after c input now) inputs (core_after-kept c input now core ok.0) ok.1

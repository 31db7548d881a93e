use Rattle.std.proofs.Common.{◌≡◌, ◌∙◌, sym, ap, subst, arith, length, ◌<◌, ℕ, ◌==◌, true, List, [], Option, Some}
use Rattle.tora_packet.specs.declared.Packet.{Packet}
use Rattle.std.specs.Prelude.{map, slice_index_or, slice_set}
use Rattle.std.specs.List.{cons_option, position}
use Rattle.tora_core.specs.Numbers.{IsAscending}
use Rattle.tora_core.proofs.RowPlaces.{names-views}
use Rattle.tora_core.specs.declared.Input.TheVariants as In
use Rattle.tora_core.specs.Table.{TableView, views_in}
use Rattle.tora_core.specs.Rules.{view_after, packet_sent}
use Rattle.tora_core.specs.CoreRun.{is_of, concerns, next_packet, next_view}
use Rattle.tora_core.proofs.TableViews.{length-in, read-in, same-in, table-at, table-none}
use Rattle.tora_core.proofs.OwnViews.{place-Some, none-passes, concerned, found, views-none, sends-none, views-at, sends-at, view-taken, packet-taken}
use Rattle.tora_core.proofs.table.step_packet.Goals as goal

pub returns-in_default-clause-views : goal.returns-in_default-clause-views
returns-in_default-clause-views c =
    let none = none-passes (is_of c.destination-d.result) (views_in c.args.views.now) (sym (names-views c.destination-d.result (views_in c.args.views.now)) ∙ sym (ap (λ (ns : List ℕ). position (λ n. n == c.destination-d.result) ns) c.requires.names) ∙ sym c.place_near.ensures ∙ c.in_default.is) in
    table-none (In.Packet c.args.k c.args.packet.now) c.args.now c.args.views.now (views-none (In.Packet c.args.k c.args.packet.now) c.args.now c.destination-d.result (ap Some (sym c.destination-d.ensures.value)) (views_in c.args.views.now) none)

pub returns-in_default-clause-packet : goal.returns-in_default-clause-packet
returns-in_default-clause-packet c =
    let none = none-passes (is_of c.destination-d.result) (views_in c.args.views.now) (sym (names-views c.destination-d.result (views_in c.args.views.now)) ∙ sym (ap (λ (ns : List ℕ). position (λ n. n == c.destination-d.result) ns) c.requires.names) ∙ sym c.place_near.ensures ∙ c.in_default.is) in
    let sends = sends-none (In.Packet c.args.k c.args.packet.now) c.args.now c.destination-d.result (ap Some (sym c.destination-d.ensures.value)) (views_in c.args.views.now) none in
    cc

-- the view that is read at the place is that of the destination
pub packet-requires-clause-may : goal.packet-requires-clause-may
packet-requires-clause-may c =
    let table = c.args.views.now in
    let views = views_in table in
    let t = c.index-views-place.result in
    let x = t.view in
    let place = place-Some (is_of c.destination-d.result) views c.in-Some.place (sym (names-views c.destination-d.result (views_in c.args.views.now)) ∙ sym (ap (λ (ns : List ℕ). position (λ n. n == c.destination-d.result) ns) c.requires.names) ∙ sym c.place_near.ensures ∙ c.in-Some.is) in
    let same = length-in table in
    let lt : c.in-Some.place < length table = let within = place.0 in let is = place.1 in omega arith in
    let P : ℕ → Type 0 = λ i. x ≡ slice_index_or views i x in
    let read = subst P place.1 (read-in table c.in-Some.place t lt c.index-views-place.is) in
    let own = concerned (In.Packet c.args.k c.args.packet.now) c.args.now c.destination-d.result (ap Some (sym c.destination-d.ensures.value)) x (found (In.Packet c.args.k c.args.packet.now) c.args.now c.destination-d.result (ap Some (sym c.destination-d.ensures.value)) views x place.0 read) in
    let Q : TableView → Type 0 = λ u. concerns (In.Packet c.args.k c.args.packet.now) u.view.destination ≡ true in
    ((c.requires.may c.in-Some.place t lt).may (subst Q c.index-views-place.is own)).0

pub returns-clause-views : goal.returns-clause-views
returns-clause-views c =
    let table = c.args.views.now in
    let views = views_in table in
    let t = c.index-views-place.result in
    let x = t.view in
    let place = place-Some (is_of c.destination-d.result) views c.in-Some.place (sym (names-views c.destination-d.result (views_in c.args.views.now)) ∙ sym (ap (λ (ns : List ℕ). position (λ n. n == c.destination-d.result) ns) c.requires.names) ∙ sym c.place_near.ensures ∙ c.in-Some.is) in
    let same = length-in table in
    let lt : c.in-Some.place < length table = let within = place.0 in let is = place.1 in omega arith in
    let P : ℕ → Type 0 = λ i. x ≡ slice_index_or views i x in
    let read = subst P place.1 (read-in table c.in-Some.place t lt c.index-views-place.is) in
    let at = views-at (In.Packet c.args.k c.args.packet.now) c.args.now c.destination-d.result (ap Some (sym c.destination-d.ensures.value)) views x (subst IsAscending c.requires.names c.requires.ascending) place.0 read in
    let own = concerned (In.Packet c.args.k c.args.packet.now) c.args.now c.destination-d.result (ap Some (sym c.destination-d.ensures.value)) x (found (In.Packet c.args.k c.args.packet.now) c.args.now c.destination-d.result (ap Some (sym c.destination-d.ensures.value)) views x place.0 read) in
    let new : c.packet.new.self.view ≡ next_view (In.Packet c.args.k c.args.packet.now) c.args.now x =
    c.packet.ensures.view ∙ ap (λ (u : TableView). view_after u.view (In.Packet c.args.k c.args.packet.now) c.args.now) (sym c.index-views-place.is) ∙ sym (view-taken (In.Packet c.args.k c.args.packet.now) c.args.now x own) in
    let Q : ℕ → Type 0 = λ i. map (next_view (In.Packet c.args.k c.args.packet.now) c.args.now) views ≡ slice_set views i (next_view (In.Packet c.args.k c.args.packet.now) c.args.now x) in
    let made = table-at (In.Packet c.args.k c.args.packet.now) c.args.now table c.in-Some.place t (next_view (In.Packet c.args.k c.args.packet.now) c.args.now x) lt c.index-views-place.is (subst Q (sym place.1) at) in
    let whole = same-in c.packet.new.self (record t { view = next_view (In.Packet c.args.k c.args.packet.now) c.args.now x }) new (c.packet.ensures.neighbours ∙ ap (λ (u : TableView). u.neighbours) (sym c.index-views-place.is)) in
    rw whole (sym made)

pub returns-clause-packet : goal.returns-clause-packet
returns-clause-packet c =
    let table = c.args.views.now in
    let views = views_in table in
    let t = c.index-views-place.result in
    let x = t.view in
    let place = place-Some (is_of c.destination-d.result) views c.in-Some.place (sym (names-views c.destination-d.result (views_in c.args.views.now)) ∙ sym (ap (λ (ns : List ℕ). position (λ n. n == c.destination-d.result) ns) c.requires.names) ∙ sym c.place_near.ensures ∙ c.in-Some.is) in
    let same = length-in table in
    let lt : c.in-Some.place < length table = let within = place.0 in let is = place.1 in omega arith in
    let P : ℕ → Type 0 = λ i. x ≡ slice_index_or views i x in
    let read = subst P place.1 (read-in table c.in-Some.place t lt c.index-views-place.is) in
    let at = sends-at (In.Packet c.args.k c.args.packet.now) c.args.now c.destination-d.result (ap Some (sym c.destination-d.ensures.value)) views x (subst IsAscending c.requires.names c.requires.ascending) place.0 read in
    let own = concerned (In.Packet c.args.k c.args.packet.now) c.args.now c.destination-d.result (ap Some (sym c.destination-d.ensures.value)) x (found (In.Packet c.args.k c.args.packet.now) c.args.now c.destination-d.result (ap Some (sym c.destination-d.ensures.value)) views x place.0 read) in
    let sent : c.packet.result ≡ next_packet (In.Packet c.args.k c.args.packet.now) c.args.now x =
    c.packet.ensures.packet ∙ ap (λ (u : TableView). packet_sent u.view (In.Packet c.args.k c.args.packet.now) c.args.now) (sym c.index-views-place.is) ∙ sym (packet-taken (In.Packet c.args.k c.args.packet.now) c.args.now x own) in
    ap (λ (o : Option Packet). cons_option o []) sent ∙ sym at

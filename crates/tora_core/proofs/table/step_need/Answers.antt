use Rattle.std.proofs.Common.{◌≡◌, ◌∙◌, sym, ap, subst, refl, arith, length, ◌<◌, ℕ, ◌==◌, List, [], Option}
use Rattle.tora_packet.specs.declared.Packet.{Packet}
use Rattle.std.specs.Prelude.{map, slice_index_or, slice_set}
use Rattle.std.specs.List.{cons_option, position}
use Rattle.tora_core.specs.Numbers.{IsAscending}
use Rattle.tora_core.proofs.RowPlaces.{names-views}
use Rattle.tora_core.specs.declared.Input.TheVariants as In
use Rattle.tora_core.specs.Table.{TableView, views_in}
use Rattle.tora_core.specs.Rules.{view_after, packet_sent}
use Rattle.tora_core.specs.CoreRun.{is_of, next_packet, next_view}
use Rattle.tora_core.proofs.TableViews.{length-in, read-in, same-in, table-at, table-none}
use Rattle.tora_core.proofs.OwnViews.{place-Some, none-passes, concerned, found, views-none, sends-none, views-at, sends-at, view-taken, packet-taken}
use Rattle.tora_core.proofs.table.step_need.Goals as goal

pub returns-in_default-clause-views : goal.returns-in_default-clause-views
returns-in_default-clause-views c =
    let none = none-passes (is_of c.args.d) (views_in c.args.views.now) (sym (names-views c.args.d (views_in c.args.views.now)) ∙ sym (ap (λ (ns : List ℕ). position (λ n. n == c.args.d) ns) c.requires.names) ∙ sym c.place_near.ensures ∙ c.in_default.is) in
    table-none (In.Need c.args.d) c.args.now c.args.views.now (views-none (In.Need c.args.d) c.args.now c.args.d refl (views_in c.args.views.now) none)

pub returns-in_default-clause-packet : goal.returns-in_default-clause-packet
returns-in_default-clause-packet c =
    let none = none-passes (is_of c.args.d) (views_in c.args.views.now) (sym (names-views c.args.d (views_in c.args.views.now)) ∙ sym (ap (λ (ns : List ℕ). position (λ n. n == c.args.d) ns) c.requires.names) ∙ sym c.place_near.ensures ∙ c.in_default.is) in
    let sends = sends-none (In.Need c.args.d) c.args.now c.args.d refl (views_in c.args.views.now) none in
    cc

pub returns-clause-views : goal.returns-clause-views
returns-clause-views c =
    let table = c.args.views.now in
    let views = views_in table in
    let t = c.index-views-place.result in
    let x = t.view in
    let place = place-Some (is_of c.args.d) views c.in-Some.place (sym (names-views c.args.d (views_in c.args.views.now)) ∙ sym (ap (λ (ns : List ℕ). position (λ n. n == c.args.d) ns) c.requires.names) ∙ sym c.place_near.ensures ∙ c.in-Some.is) in
    let same = length-in table in
    let lt : c.in-Some.place < length table = let within = place.0 in let is = place.1 in omega arith in
    let P : ℕ → Type 0 = λ i. x ≡ slice_index_or views i x in
    let read = subst P place.1 (read-in table c.in-Some.place t lt c.index-views-place.is) in
    let at = views-at (In.Need c.args.d) c.args.now c.args.d refl views x (subst IsAscending c.requires.names c.requires.ascending) place.0 read in
    let own = concerned (In.Need c.args.d) c.args.now c.args.d refl x (found (In.Need c.args.d) c.args.now c.args.d refl views x place.0 read) in
    let new : c.need.new.self.view ≡ next_view (In.Need c.args.d) c.args.now x =
    c.need.ensures.view ∙ ap (λ (u : TableView). view_after u.view (In.Need c.args.d) 0) (sym c.index-views-place.is) ∙ sym (view-taken (In.Need c.args.d) c.args.now x own) in
    let Q : ℕ → Type 0 = λ i. map (next_view (In.Need c.args.d) c.args.now) views ≡ slice_set views i (next_view (In.Need c.args.d) c.args.now x) in
    let made = table-at (In.Need c.args.d) c.args.now table c.in-Some.place t (next_view (In.Need c.args.d) c.args.now x) lt c.index-views-place.is (subst Q (sym place.1) at) in
    let whole = same-in c.need.new.self (record t { view = next_view (In.Need c.args.d) c.args.now x }) new (c.need.ensures.neighbours ∙ ap (λ (u : TableView). u.neighbours) (sym c.index-views-place.is)) in
    rw whole (sym made)

pub returns-clause-packet : goal.returns-clause-packet
returns-clause-packet c =
    let table = c.args.views.now in
    let views = views_in table in
    let t = c.index-views-place.result in
    let x = t.view in
    let place = place-Some (is_of c.args.d) views c.in-Some.place (sym (names-views c.args.d (views_in c.args.views.now)) ∙ sym (ap (λ (ns : List ℕ). position (λ n. n == c.args.d) ns) c.requires.names) ∙ sym c.place_near.ensures ∙ c.in-Some.is) in
    let same = length-in table in
    let lt : c.in-Some.place < length table = let within = place.0 in let is = place.1 in omega arith in
    let P : ℕ → Type 0 = λ i. x ≡ slice_index_or views i x in
    let read = subst P place.1 (read-in table c.in-Some.place t lt c.index-views-place.is) in
    let at = sends-at (In.Need c.args.d) c.args.now c.args.d refl views x (subst IsAscending c.requires.names c.requires.ascending) place.0 read in
    let own = concerned (In.Need c.args.d) c.args.now c.args.d refl x (found (In.Need c.args.d) c.args.now c.args.d refl views x place.0 read) in
    let sent : c.need.result ≡ next_packet (In.Need c.args.d) c.args.now x =
    c.need.ensures.packet ∙ ap (λ (u : TableView). packet_sent u.view (In.Need c.args.d) 0) (sym c.index-views-place.is) ∙ sym (packet-taken (In.Need c.args.d) c.args.now x own) in
    ap (λ (o : Option Packet). cons_option o []) sent ∙ sym at

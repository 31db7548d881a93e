-- The relation allows what the rules compute.
use Rattle.std.proofs.Common.{◌≡◌, ◌⊎◌, inl, inr, refl, ℕ, ◌<◌, ◌^◌, Bool, true, false, not, ◌&&◌, ◌==◌, ap, sym, subst, List, [], ◌∷◌, map, Option, Some, None, nat_lt, is_some, is_none, ℤ, pos, ◌+ℤ◌, ◌-ℤ◌}
use Rattle.std.specs.Prelude.{if◌then◌else◌}
use Rattle.std.specs.List.{list_all}
use Rattle.std.proofs.lemmas.Bool.{cond_both}
use Rattle.tora_height.specs.declared.level.Level.{Level}
use Rattle.tora_height.specs.declared.height_error.HeightError.{HeightError}
use Rattle.tora_height.specs.Height.{Quintuple, quintuple, destination_height, IsLevel, IsHeight, height_fault}
use Rattle.tora_height.proofs.Ranges.{no_fault_is_height, height_has_no_fault}
use Rattle.tora_packet.specs.declared.Packet.{Packet}
use Rattle.tora_packet.specs.declared.Packet.TheVariants.{Qry, Upd, Clr}
use Rattle.tora_packet.specs.PacketParts.{update_of, clear_of}
use Rattle.tora_core.specs.declared.Input.{Input}
use Rattle.tora_core.specs.declared.Input.TheVariants as In
use Rattle.tora_core.specs.declared.rows.Row.{Row}
use Rattle.tora_core.specs.declared.destination.Broadcast.{Broadcast}
use Rattle.tora_core.specs.declared.destination.Broadcast.TheVariants as Tell
use Rattle.tora_core.specs.View.{View, known_heights, are_null, with_row, row_with_entry, is_told, has_downstream, lacks_downstream, is_at, is_entry_at, least_height, greatest_level, least_delta}
use Rattle.tora_core.specs.Heights.{fresh_time, fitted_by, fitted_height}
use Rattle.tora_core.specs.Rules.{Outcome, silent, query_broadcast, update_broadcast_of, update_broadcast, joined_above, after_join, new_level_at, new_level, after_erase, after_link_loss, below_delta, propagated_level, reflected_level, partition_detected, new_level_after_reflection, after_update_loss_at, after_update_loss, on_need, link_row, on_link_up, on_link_down, on_query, on_update, on_outdated, on_taken_update, on_clear, on_packet, cleared_level, hearing_clear, is_outdated, outcome_at_destination, outcome_elsewhere, outcome_of}
use Rattle.tora_core.specs.Kept.{IsKept, MayCome}
use Rattle.tora_core.specs.Reacts.{IsUp, KnowsSome, HasDownstream, IsGreatestLevel, Takes, fits, does_not_fit, TakesNewLevel, Joins, LinkLoss, UpdateLoss, Lost, no_height_left, new_level_after_failure, propagated_level as propagated, reflected_level as reflected, partition_detected as detected, new_level_after_reflection as after_reflection, linked_view, unlinked_view, updated_view, cleared_view, withdrawn_view, ReactsElsewhere, need_asked, need_quiet, link_up_quiet, link_up_asked, destination_up_quiet, destination_up_joined, link_down_quiet, link_down_lost, query_asked, query_pending, query_joined, query_answered, query_quiet, update_withdrawn, update_withdrawn_lost, update_joined, update_lost, update_quiet, clear_erased, clear_lost, clear_quiet, ReactsAtDestination, own_need, own_link_up, own_link_down, own_packet, Reacts, elsewhere, at_destination, IsFromUp}
use Rattle.tora_core.proofs.ReactsErasing.{hears-some, keeps-reflected, keeps-some, outdated-is, outdated-not}
use Rattle.tora_core.proofs.ReactsWords.{IsAmong, among-Contains, entry-among, among-known, known-among, least-none, least-known, greatest-none, greatest-known, least-delta, delta-some, all-common, all-differ, fresh-time, knows_none, knows_some, downstream-some, downstream-none, lacks-downstream, not-lacks, own-level, not-own, level-at, is-told, told-is, is-same, zero-is, one-is, same-is, other-is}
use Rattle.tora_core.proofs.ReactsOnly.{IsRanged, kept-ranged, linked-ranged, updated-ranged, taken_of, taken-update, taken-new}

-- the relation holds for an outcome
abbrev AtOutcome : (View → Option Broadcast → Type 0) → Outcome → Type 0
AtOutcome R o = R o.view o.broadcast

by-same : (R : View → Option Broadcast → Type 0) (o p : Outcome) → o ≡ p → AtOutcome R p → AtOutcome R o
by-same R o p e r = subst (AtOutcome R) (sym e) r

-- ---- a computed height

pub takes-some : (v : View) (h : Quintuple) (last : ℕ) → h.oid < 2 ^ 32 → h.id < 2 ^ 32 → AtOutcome (Takes v h last) (taken_of v last (fitted_height h))
takes-some v h last oid id = at (height_fault h) refl
  where
    at : (o : Option HeightError) → height_fault h ≡ o → AtOutcome (Takes v h last) (taken_of v last (fitted_by h o))
    at None e = fits (no_fault_is_height h oid id e)
    at (Some x) e = does_not_fit (λ is. let none = height_has_no_fault h is in absurd cc)

pub new_level-some : (v : View) (now : ℕ) → v.me < 2 ^ 32 → AtOutcome (TakesNewLevel v now) (new_level v now)
unfolding new_level
new_level-some v now me =
    let t = fresh_time v now in
    let h = quintuple t v.me 0 (pos 0) v.me in
    record {
      time = t;
      fresh = fresh-time v now;
      taken = by-same (Takes v h t) (new_level_at v t (fitted_height h)) (taken_of v t (fitted_height h)) (taken-new v t (fitted_height h)) (takes-some v h t me me);
    }

pub join-some : (v : View) → IsRanged v → KnowsSome v → AtOutcome (Joins v) (after_join v)
unfolding after_join
join-some v in_range some = at (least_height (known_heights v)) refl
  where
    at : (o : Option Quintuple) → least_height (known_heights v) ≡ o → AtOutcome (Joins v) (update_broadcast (record v { height = joined_above v.me o; flag = false }))
    at None e = absurd (least-none (known_heights v) some.0 e (known-among v some.0 some.1))
    at (Some low) e =
        let w = record v { flag = false } in
        let h = quintuple low.tau low.oid low.r (low.delta +ℤ pos 1) v.me in
        let least = least-known v low e in
        let ok : IsHeight low = in_range.known low least.known in
        record {
          low = low;
          least = least;
          taken = by-same (Takes w h v.last) (update_broadcast (record w { height = fitted_height h })) (taken_of w v.last (fitted_height h)) (taken-update w (fitted_height h)) (takes-some w h v.last ok.level.oid in_range.me);
        }

-- ---- the last downstream link is lost

pub link_loss-some : (v : View) (now : ℕ) → v.me < 2 ^ 32 → AtOutcome (Lost v now LinkLoss) (after_link_loss v now)
unfolding after_link_loss
link_loss-some v now me =
    cond_both (are_null v.rows) (silent (record v { height = None })) (new_level v now) (AtOutcome (Lost v now LinkLoss))
    (λ e. no_height_left (knows_none v e))
    (λ e. new_level_after_failure (knows_some v e) (new_level-some v now me))

pub update_loss-some : (v : View) (now : ℕ) → IsRanged v → KnowsSome v → AtOutcome (Lost v now UpdateLoss) (after_update_loss v now)
unfolding after_update_loss after_erase
update_loss-some v now in_range some = at (greatest_level (known_heights v)) refl
  where
    in-range : (level : Level) → IsGreatestLevel v level → IsLevel level
    in-range level is = let g = is.known in subst IsLevel g.2 (in_range.known g.0 g.1).level

    below : (level : Level) → IsGreatestLevel v level → list_all (is_at level) (known_heights v) ≡ false → (o : Option ℤ) → least_delta level (known_heights v) ≡ o
        → AtOutcome (Lost v now UpdateLoss) (update_broadcast (record v { height = below_delta v.me level o }))
    below level is e None none =
        let g = is.known in
        absurd ((delta-some level None (known_heights v) g.0 none).1 (known-among v g.0 g.1) (level-at level g.0 g.2))
    below level is e (Some delta) least =
        let h = quintuple level.tau level.oid level.r (delta -ℤ pos 1) v.me in
        let ok = in-range level is in
        propagated level delta (all-differ v level is e) is (least-delta v level delta least)
        (by-same (Takes v h v.last) (update_broadcast (record v { height = fitted_height h })) (taken_of v v.last (fitted_height h)) (taken-update v (fitted_height h)) (takes-some v h v.last ok.oid in_range.me))

    at : (o : Option Level) → greatest_level (known_heights v) ≡ o → AtOutcome (Lost v now UpdateLoss) (after_update_loss_at v now o)
    at None e = absurd (greatest-none (known_heights v) some.0 e (known-among v some.0 some.1))
    at (Some level) e =
        let is = greatest-known v level e in
        let ok = in-range level is in
        let R = AtOutcome (Lost v now UpdateLoss) in
        cond_both (not (list_all (is_at level) (known_heights v))) (propagated_level v level)
        (if level.r == 0 then reflected_level v level else if level.oid == v.me then partition_detected v level else new_level_after_reflection v now) R
        (λ t. below level is (not-true (list_all (is_at level) (known_heights v)) t) (least_delta level (known_heights v)) refl)
        (λ f.
        let common = all-common v level is (not-false (list_all (is_at level) (known_heights v)) f) in
        cond_both (level.r == 0) (reflected_level v level) (if level.oid == v.me then partition_detected v level else new_level_after_reflection v now) R
        (λ z. reflected level common (zero-is level.r z))
        (λ z.
        cond_both (level.oid == v.me) (partition_detected v level) (new_level_after_reflection v now) R
        (λ own. detected level common (one-is level.r ok.r z) (same-is level.oid v.me own) (keeps-reflected v level (one-is level.r ok.r z)))
        (λ foreign. after_reflection level common (one-is level.r ok.r z) (other-is level.oid v.me foreign) (new_level-some v now in_range.me))))
      where
        not-true : (b : Bool) → not b ≡ true → b ≡ false
        not-true true x = absurd cc
        not-true false x = refl

        not-false : (b : Bool) → not b ≡ false → b ≡ true
        not-false true x = refl
        not-false false x = absurd cc

-- ---- the inputs, at a node that is not the destination

and-true : (a b : Bool) → (a && not b) ≡ true → (a ≡ true) × (b ≡ false)
and-true true false e = (refl, refl)
and-true true true e = absurd cc
and-true false b e = absurd cc

and-false : (a b : Bool) → (a && not b) ≡ false → (a ≡ false) ⊎ (b ≡ true)
and-false false b e = inl refl
and-false true true e = inr refl
and-false true false e = absurd cc

not-true : (b : Bool) → not b ≡ true → b ≡ false
not-true true e = absurd cc
not-true false e = refl

not-false : (b : Bool) → not b ≡ false → b ≡ true
not-false true e = refl
not-false false e = absurd cc

known-by_entry : (v : View) (row : Row) (h : Quintuple) → IsAmong row v.rows → row.entry ≡ Some h → KnowsSome v
known-by_entry v row h i e = (h, among-known v h (entry-among v.rows row h i e))

-- the new row is one of the rows
among-with_row : (new : Row) (rows : List Row) → IsAmong new (with_row new rows)
among-with_row new [] = inl refl
among-with_row new (row ∷ rows) = cond_both (nat_lt new.neighbour row.neighbour) (new ∷ row ∷ rows) (row ∷ with_row new rows) (IsAmong new) (λ _. inl refl) (λ _. inr (among-with_row new rows))

knows-linked : (v : View) (k : ℕ) (h : Quintuple) → KnowsSome (linked_view v k (Some h))
knows-linked v k h = known-by_entry (linked_view v k (Some h)) (link_row k (Some h)) h (among-with_row (link_row k (Some h)) v.rows) refl

among-map : (f : Row → Row) (rows : List Row) (row : Row) → IsAmong row rows → IsAmong (f row) (map f rows)
among-map f [] row i = absurd i
among-map f (r ∷ rows) row (inl e) = inl (ap f e)
among-map f (r ∷ rows) row (inr i) = inr (among-map f rows row i)

-- after an update, the entry of its sender is known
knows-updated : (v : View) (k : ℕ) (height : Quintuple) → IsUp v k → KnowsSome (updated_view v k height)
knows-updated v k height up =
    let row : Row = up.0 in
    let w = updated_view v k height in
    known-by_entry w (row_with_entry k height row) height (among-map (row_with_entry k height) v.rows row (among-Contains v.rows row up.1))
    (cond_both (row.neighbour == k) (record row { entry = Some height }) row (λ (r : Row). r.entry ≡ Some height) (λ _. refl) (λ n. let t = is-same row.neighbour k up.2 in absurd cc))

downstream-knows : (v : View) → HasDownstream v → KnowsSome v
downstream-knows v d = let n = d.1 in (n.0, (d.0, n.1))

null-height : (o : Option Quintuple) → is_none o ≡ true → o ≡ None
null-height None e = refl
null-height (Some h) e = absurd cc

some-height : (o : Option Quintuple) → is_none o ≡ false → (h : Quintuple) × (o ≡ Some h)
some-height None e = absurd cc
some-height (Some h) e = (h, refl)

some-of : (o : Option Quintuple) (h : Quintuple) → o ≡ Some h → is_some o ≡ true
some-of o h e = let P : Option Quintuple → Type 0 = λ x. is_some x ≡ true in subst P (sym e) refl

need-some : (v : View) (d now : ℕ) → AtOutcome (ReactsElsewhere v now (In.Need d)) (on_need v)
need-some v d now =
    cond_both (are_null v.rows && not v.flag) (query_broadcast v) (silent v) (AtOutcome (ReactsElsewhere v now (In.Need d)))
    (λ t. let b = and-true (are_null v.rows) v.flag t in need_asked (knows_none v b.0) b.1)
    (λ f. need_quiet (either (and-false (are_null v.rows) v.flag f)))
  where
    either : (are_null v.rows ≡ false) ⊎ (v.flag ≡ true) → KnowsSome v ⊎ (v.flag ≡ true)
    either (inl e) = inl (knows_some v e)
    either (inr e) = inr e

link_up-some : (v : View) (k now : ℕ) → IsKept v → AtOutcome (ReactsElsewhere v now (In.LinkUp k)) (on_link_up v k)
link_up-some v k now kept =
    let R = AtOutcome (ReactsElsewhere v now (In.LinkUp k)) in
    let w = linked_view v k (Some (destination_height k)) in
    let u = linked_view v k None in
    cond_both (k == v.destination) (if v.flag then after_join w else silent w) (if v.flag then query_broadcast u else silent u) R
    (λ t.
    let e = same-is k v.destination t in
    cond_both v.flag (after_join w) (silent w) R
    (λ set. destination_up_joined e set (join-some w (linked-ranged v k kept e) (knows-linked v k (destination_height k))))
    (λ unset. destination_up_quiet e unset))
    (λ f.
    let n = other-is k v.destination f in
    cond_both v.flag (query_broadcast u) (silent u) R
    (λ set. let P : Bool → Type 0 = λ b. ReactsElsewhere v now (In.LinkUp k) (record u { flag = b }) (Some Tell.Query) in subst P set (link_up_asked n set))
    (λ unset. link_up_quiet n unset))

link_down-some : (v : View) (k now : ℕ) → IsKept v → AtOutcome (ReactsElsewhere v now (In.LinkDown k)) (on_link_down v k now)
link_down-some v k now kept =
    let w = unlinked_view v k in
    cond_both (lacks_downstream w) (after_link_loss w now) (silent w) (AtOutcome (ReactsElsewhere v now (In.LinkDown k)))
    (λ t. link_down_lost (lacks-downstream w t) (link_loss-some w now kept.me.1))
    (λ f. link_down_quiet (not-lacks w f))

query-some : (v : View) (k d now : ℕ) → IsKept v → AtOutcome (ReactsElsewhere v now (In.Packet k (Qry d))) (on_query v k)
query-some v k d now kept =
    let R = AtOutcome (ReactsElsewhere v now (In.Packet k (Qry d))) in
    cond_both (not (has_downstream v)) (if not v.flag then query_broadcast v else silent v)
    (if is_none v.height then after_join v else if not (is_told k v.rows) then update_broadcast v else silent v) R
    (λ t.
    let none = downstream-none v (not-true (has_downstream v) t) in
    cond_both (not v.flag) (query_broadcast v) (silent v) R
    (λ unset. query_asked none (not-true v.flag unset)) (λ set. query_pending none (not-false v.flag set)))
    (λ f.
    let some = downstream-some v (not-false (has_downstream v) f) in
    cond_both (is_none v.height) (after_join v) (if not (is_told k v.rows) then update_broadcast v else silent v) R
    (λ null. query_joined some (null-height v.height null) (join-some v (kept-ranged v kept) (downstream-knows v some)))
    (λ own.
    let h = some-height v.height own in
    cond_both (not (is_told k v.rows)) (update_broadcast v) (silent v) R
    (λ untold.
    by-same (ReactsElsewhere v now (In.Packet k (Qry d))) (update_broadcast v) (update_broadcast_of v (Some h.0)) (ap (update_broadcast_of v) h.1)
    (query_answered h.0 some h.1 (λ told. let t = told-is v k told in let u = not-true (is_told k v.rows) untold in absurd cc)))
    (λ told. query_quiet some (some-of v.height h.0 h.1) (is-told v k (not-false (is_told k v.rows) told)))))

update-some : (v : View) (k d : ℕ) (height : Quintuple) (now : ℕ) → IsKept v → IsHeight height → IsUp v k → AtOutcome (ReactsElsewhere v now (In.Packet k (Upd (update_of d height)))) (on_update v k height now)
update-some v k d height now kept is up =
    let R = AtOutcome (ReactsElsewhere v now (In.Packet k (Upd (update_of d height)))) in
    let u = withdrawn_view v k in
    let w = updated_view v k height in
    let in_range = updated-ranged v k height kept is in
    let some = knows-updated v k height up in
    cond_both (is_outdated v height) (on_outdated v k now) (on_taken_update v k height now) R
    (λ old.
    cond_both (lacks_downstream u) (after_link_loss u now) (silent u) R
    (λ t. update_withdrawn_lost (outdated-is v height old) (lacks-downstream u t) (link_loss-some u now kept.me.1))
    (λ f. update_withdrawn (outdated-is v height old) (not-lacks u f)))
    (λ new.
    let fresh = outdated-not v height new in
    cond_both v.flag (after_join w) (if lacks_downstream w then after_update_loss w now else silent w) R
    (λ set. update_joined fresh set (join-some w in_range some))
    (λ unset.
    cond_both (lacks_downstream w) (after_update_loss w now) (silent w) R
    (λ t. update_lost fresh unset (lacks-downstream w t) (update_loss-some w now in_range some))
    (λ f. update_quiet fresh unset (not-lacks w f))))

clear-some : (v : View) (k d tau oid now : ℕ) → IsKept v → AtOutcome (ReactsElsewhere v now (In.Packet k (Clr (clear_of d tau oid)))) (on_clear v k (cleared_level tau oid) now)
unfolding after_erase
clear-some v k d tau oid now kept =
    let level = cleared_level tau oid in
    let R = AtOutcome (ReactsElsewhere v now (In.Packet k (Clr (clear_of d tau oid)))) in
    let u = hearing_clear v k level in
    let heard = hears-some v k level in
    let w = cleared_view u level in
    cond_both (is_entry_at level u.height) (after_erase u tau oid) (if lacks_downstream w then after_link_loss w now else silent w) R
    (λ own. clear_erased heard (own-level u level own) (keeps-some u level))
    (λ other.
    cond_both (lacks_downstream w) (after_link_loss w now) (silent w) R
    (λ t. clear_lost heard (not-own u level other) (lacks-downstream w t) (link_loss-some w now kept.me.1))
    (λ f. clear_quiet heard (not-own u level other) (not-lacks w f)))

packet-some : (v : View) (k : ℕ) (packet : Packet) (now : ℕ) → IsKept v → MayCome v (In.Packet k packet) → IsUp v k → AtOutcome (ReactsElsewhere v now (In.Packet k packet)) (on_packet v k packet now)
packet-some v k (Qry d) now kept may up = query-some v k d now kept
packet-some v k (Upd u) now kept may up = update-some v k u.destination u.height now kept may.0.ranges up
packet-some v k (Clr c) now kept may up = clear-some v k c.destination c.tau c.oid now kept

elsewhere-some : (v : View) (input : Input) (now : ℕ) → IsKept v → MayCome v input → IsFromUp v input → AtOutcome (ReactsElsewhere v now input) (outcome_elsewhere v input now)
elsewhere-some v (In.Need d) now kept may up = need-some v d now
elsewhere-some v (In.LinkUp k) now kept may up = link_up-some v k now kept
elsewhere-some v (In.LinkDown k) now kept may up = link_down-some v k now kept
elsewhere-some v (In.Packet k packet) now kept may up = packet-some v k packet now kept may up

-- ---- at the destination, and all together

destination-some : (v : View) (input : Input) → AtOutcome (ReactsAtDestination v input) (outcome_at_destination v input)
destination-some v (In.Need d) = own_need
destination-some v (In.LinkUp k) = own_link_up
destination-some v (In.LinkDown k) = own_link_down
destination-some v (In.Packet k packet) = own_packet

pub reacts-some : (v : View) (input : Input) (now : ℕ) → IsKept v → MayCome v input → IsFromUp v input → Reacts v input now (outcome_of v input now).view (outcome_of v input now).broadcast
reacts-some v input now kept may up =
    cond_both (v.me == v.destination) (outcome_at_destination v input) (outcome_elsewhere v input now) (AtOutcome (Reacts v input now))
    (λ t. at_destination (same-is v.me v.destination t) (destination-some v input))
    (λ f. elsewhere (other-is v.me v.destination f) (elsewhere-some v input now kept may up))

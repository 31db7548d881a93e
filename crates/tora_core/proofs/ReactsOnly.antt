-- The relation allows only what the rules compute.
use Rattle.std.proofs.Common.{◌≡◌, ◌≢◌, ◌⊎◌, inl, inr, refl, ℕ, ◌<◌, ◌^◌, Bool, true, false, not, ◌&&◌, ◌==◌, arith, ap, sym, subst, ◌∙◌, Option, Some, None, is_some, is_none, ℤ, pos, ◌+ℤ◌, ◌-ℤ◌}
use Rattle.std.specs.Prelude.{IfSome, if◌then◌else◌}
use Rattle.std.specs.List.{AllByRecursion, list_all}
use Rattle.std.proofs.lemmas.Bool.{cond_both}
use Rattle.std.proofs.lemmas.Int.{ints}
use Rattle.tora_height.specs.declared.level.Level.{Level}
use Rattle.tora_height.specs.Height.{Quintuple, quintuple, destination_height, IsLevel, IsHeight, IsHeightOf}
use Rattle.tora_packet.specs.PacketParts.{IsId}
use Rattle.tora_core.specs.declared.Input.{Input}
use Rattle.tora_core.specs.declared.rows.Row.{Row}
use Rattle.tora_core.specs.declared.destination.Broadcast.{Broadcast}
use Rattle.tora_core.specs.declared.destination.Broadcast.TheVariants as Tell
use Rattle.tora_core.specs.View.{View, known_heights, are_null, row_with_entry, all_told, is_told, has_downstream, lacks_downstream, is_at, is_entry_at}
use Rattle.tora_core.specs.Heights.{fitted_height}
use Rattle.tora_core.specs.Rules.{Outcome, silent, query_broadcast, update_broadcast_of, update_broadcast, joined_above, after_join, new_level_at, new_level, after_erase, after_link_loss, below_delta, propagated_level, reflected_level, partition_detected, new_level_after_reflection, after_update_loss_at, after_update_loss, on_need, link_row, on_link_up, on_link_down, on_query, on_update, on_outdated, on_taken_update, on_clear, on_heard_clear, cleared_level, erased_after, is_outdated, outcome_at_destination, outcome_elsewhere, outcome_of}
use Rattle.tora_core.specs.Kept.{IsRow, IsKept, MayCome}
use Rattle.tora_core.specs.Reacts.{IsKnown, KnowsSome, HasDownstream, HasNoDownstream, IsOwnLevel, IsCommonLevel, IsGreatestLevel, Takes, fits, does_not_fit, TakesNewLevel, Joins, LinkLoss, UpdateLoss, Lost, no_height_left, new_level_after_failure, propagated_level as propagated, reflected_level as reflected, partition_detected as detected, new_level_after_reflection as after_reflection, linked_view, unlinked_view, updated_view, cleared_view, erased_view, withdrawn_view, HearsClear, IsOutdated, ReactsElsewhere, need_asked, need_quiet, link_up_quiet, link_up_asked, destination_up_quiet, destination_up_joined, link_down_quiet, link_down_lost, query_asked, query_pending, query_joined, query_answered, query_quiet, update_withdrawn, update_withdrawn_lost, update_joined, update_lost, update_quiet, clear_erased, clear_lost, clear_quiet, ReactsAtDestination, own_need, own_link_up, own_link_down, own_packet, Reacts, elsewhere, at_destination}
use Rattle.tora_core.proofs.RowLemmas.{all-weaker, all-map, all-with_row}
use Rattle.tora_core.proofs.Fitted.{fitted_height-in_range}
use Rattle.tora_core.proofs.ReactsErasing.{hears-only, is-cleared, is-outdated, keeps-only, not-outdated}
use Rattle.tora_core.proofs.ReactsWords.{all-among, among-Contains, known-least, known-greatest, delta-least, common-all, common-greatest, differ-all, time-fresh, fitted_height-out, none-are_null, some-are_null, some-downstream, none-downstream, downstream-lacks, lacks-not, level-own, own-not, told-is, told-not, is-zero, not-zero, is-same, is-other}

-- the outcome has this view and this broadcast
abbrev pub Gives : Outcome → View → Option Broadcast → Type 0
Gives o after broadcast = (after ≡ o.view) × (broadcast ≡ o.broadcast)

gives-by : (o p : Outcome) (after : View) (broadcast : Option Broadcast) → o ≡ p → Gives p after broadcast → Gives o after broadcast
gives-by o p after broadcast e g = subst (λ (x : Outcome). Gives x after broadcast) (sym e) g

-- ---- tests

if-true : (b : Bool) (x y : Outcome) → b ≡ true → (if b then x else y) ≡ x
if-true true x y e = refl
if-true false x y e = absurd cc

if-false : (b : Bool) (x y : Outcome) → b ≡ false → (if b then x else y) ≡ y
if-false true x y e = absurd cc
if-false false x y e = refl

-- ---- known heights are in range

-- the node's number and all heights that it knows are in range
pub record IsRanged (v : View) : Type 0 where
  pub me : v.me < 2 ^ 32
  pub known : (h : Quintuple) → IsKnown v h → IsHeight h

abbrev pub HasHeight : Row → Type 0
HasHeight row = IfSome row.entry IsHeight

known-in_range : (o : Option Quintuple) (h : Quintuple) → o ≡ Some h → IfSome o IsHeight → IsHeight h
known-in_range o h e is = subst (λ (x : Option Quintuple). IfSome x IsHeight) e is

pub ranged : (v : View) → v.me < 2 ^ 32 → AllByRecursion HasHeight v.rows → IsRanged v
ranged v me all = record {
  me = me;
  known = λ h k. let i = k.1 in let row : Row = i.0 in known-in_range row.entry h i.3 (all-among HasHeight v.rows row all (among-Contains v.rows row i.1));
}

height-of : (k d : ℕ) (o : Option Quintuple) → IfSome o (IsHeightOf k d) → IfSome o IsHeight
height-of k d None h = tt
height-of k d (Some q) h = h.ranges

pub rows-in_range : (v : View) → IsKept v → AllByRecursion HasHeight v.rows
rows-in_range v kept = all-weaker (IsRow v.me v.destination) HasHeight (λ (row : Row) (r : IsRow v.me v.destination row). height-of row.neighbour v.destination row.entry r.entry) v.rows kept.rows

pub kept-ranged : (v : View) → IsKept v → IsRanged v
kept-ranged v kept = ranged v kept.me.1 (rows-in_range v kept)

zero-in_range : (d : ℕ) → IsId d → IsHeight (destination_height d)
zero-in_range d id = record {
  level = record { tau = omega arith; oid = omega arith; r = omega arith; zero_tau = λ _. refl; zero_oid = λ _. refl };
  delta_low = omega (arith, ints);
  delta_high = omega (arith, ints);
  zero_level = λ _ _. omega (arith, ints);
  id = id.0;
  id_fits = id.1;
}

pub linked-ranged : (v : View) (k : ℕ) → IsKept v → k ≡ v.destination → IsRanged (linked_view v k (Some (destination_height k)))
linked-ranged v k kept e =
    ranged (linked_view v k (Some (destination_height k))) kept.me.1
    (all-with_row HasHeight (link_row k (Some (destination_height k))) v.rows (zero-in_range k (subst IsId (sym e) kept.destination)) (rows-in_range v kept))

pub updated-ranged : (v : View) (k : ℕ) (height : Quintuple) → IsKept v → IsHeight height → IsRanged (updated_view v k height)
updated-ranged v k height kept is =
    ranged (updated_view v k height) kept.me.1
    (all-map HasHeight HasHeight (row_with_entry k height)
    (λ row h. cond_both (row.neighbour == k) (record row { entry = Some height }) row HasHeight (λ _. is) (λ _. h)) v.rows (rows-in_range v kept))

-- ---- a computed height

-- the outcome of setting a height, if there is one
abbrev pub taken_of : View → ℕ → Option Quintuple → Outcome
taken_of v last None = silent (record v { height = None })
taken_of v last (Some h) = record { view = record v { height = Some h; rows = all_told v.rows; last = last }; broadcast = Some (Tell.Update h) }

pub taken-update : (v : View) (o : Option Quintuple) → update_broadcast (record v { height = o }) ≡ taken_of v v.last o
taken-update v None = refl
taken-update v (Some h) = refl

pub taken-new : (v : View) (t : ℕ) (o : Option Quintuple) → new_level_at v t o ≡ taken_of v t o
taken-new v t None = refl
taken-new v t (Some h) = refl

pub takes-only : (v : View) (h : Quintuple) (last : ℕ) {after : View} {broadcast : Option Broadcast} → h.oid < 2 ^ 32 → h.id < 2 ^ 32 → Takes v h last after broadcast → Gives (taken_of v last (fitted_height h)) after broadcast
takes-only v h last oid id (fits is) =
    let P : Option Quintuple → Type 0 = λ o. Gives (taken_of v last o) (record v { height = Some h; rows = all_told v.rows; last = last }) (Some (Tell.Update h)) in
    subst P (sym (fitted_height-in_range h is)) (refl, refl)
takes-only v h last oid id (does_not_fit n) =
    let P : Option Quintuple → Type 0 = λ o. Gives (taken_of v last o) (record v { height = None }) None in
    subst P (sym (fitted_height-out h oid id n)) (refl, refl)

pub new_level-only : (v : View) (now : ℕ) (after : View) (broadcast : Option Broadcast) → v.me < 2 ^ 32 → TakesNewLevel v now after broadcast → Gives (new_level v now) after broadcast
unfolding new_level
new_level-only v now after broadcast me new =
    let t = new.time in
    let o = fitted_height (quintuple t v.me 0 (pos 0) v.me) in
    let g : Gives (new_level_at v t o) after broadcast = gives-by (new_level_at v t o) (taken_of v t o) after broadcast (taken-new v t o) (takes-only v (quintuple t v.me 0 (pos 0) v.me) t me me new.taken) in
    let P : ℕ → Type 0 = λ u. Gives (new_level_at v u (fitted_height (quintuple u v.me 0 (pos 0) v.me))) after broadcast in
    subst P (time-fresh v now t new.fresh) g

pub join-only : (v : View) (after : View) (broadcast : Option Broadcast) → IsRanged v → Joins v after broadcast → Gives (after_join v) after broadcast
unfolding after_join
join-only v after broadcast in_range joins =
    let low = joins.low in
    let h = quintuple low.tau low.oid low.r (low.delta +ℤ pos 1) v.me in
    let ok : IsHeight low = in_range.known low joins.least.known in
    let w = record v { flag = false } in
    let g : Gives (update_broadcast (record w { height = fitted_height h })) after broadcast =
    gives-by (update_broadcast (record w { height = fitted_height h })) (taken_of w v.last (fitted_height h)) after broadcast (taken-update w (fitted_height h)) (takes-only w h v.last ok.level.oid in_range.me joins.taken) in
    let P : Option Quintuple → Type 0 = λ o. Gives (update_broadcast (record w { height = joined_above v.me o })) after broadcast in
    subst P (sym (known-least v low joins.least)) g

-- ---- the last downstream link is lost

pub link_loss-only : (v : View) (now : ℕ) {after : View} {broadcast : Option Broadcast} → v.me < 2 ^ 32 → Lost v now LinkLoss after broadcast → Gives (after_link_loss v now) after broadcast
unfolding after_link_loss
link_loss-only v now me (no_height_left none) =
    gives-by (after_link_loss v now) (silent (record v { height = None })) (record v { height = None }) None
    (if-true (are_null v.rows) (silent (record v { height = None })) (new_level v now) (none-are_null v none)) (refl, refl)
link_loss-only v now {after} {broadcast} me (new_level_after_failure some new) =
    gives-by (after_link_loss v now) (new_level v now) after broadcast
    (if-false (are_null v.rows) (silent (record v { height = None })) (new_level v now) (some-are_null v some)) (new_level-only v now after broadcast me new)

-- the case, by the greatest level
update_loss-at : (v : View) (now : ℕ) (level : Level) → IsGreatestLevel v level → after_update_loss v now ≡ after_update_loss_at v now (Some level)
unfolding after_update_loss
update_loss-at v now level is = ap (after_update_loss_at v now) (known-greatest v level is)

abbrev common_of : View → ℕ → Level → Outcome
common_of v now level = if level.r == 0 then reflected_level v level else if level.oid == v.me then partition_detected v level else new_level_after_reflection v now

at-differ : (v : View) (now : ℕ) (level : Level) → list_all (is_at level) (known_heights v) ≡ false → after_update_loss_at v now (Some level) ≡ propagated_level v level
at-differ v now level e = if-true (not (list_all (is_at level) (known_heights v))) (propagated_level v level) (common_of v now level) (ap not e)

at-common : (v : View) (now : ℕ) (level : Level) → list_all (is_at level) (known_heights v) ≡ true → after_update_loss_at v now (Some level) ≡ common_of v now level
at-common v now level e = if-false (not (list_all (is_at level) (known_heights v))) (propagated_level v level) (common_of v now level) (ap not e)

common-loss : (v : View) (now : ℕ) (level : Level) → IsCommonLevel v level → after_update_loss v now ≡ common_of v now level
common-loss v now level is = update_loss-at v now level (common-greatest v level is) ∙ at-common v now level (common-all v level is)

level-in_range : (v : View) (level : Level) → IsRanged v → IsGreatestLevel v level → IsLevel level
level-in_range v level in_range is = let g = is.known in subst IsLevel g.2 (in_range.known g.0 g.1).level

pub update_loss-only : (v : View) (now : ℕ) {after : View} {broadcast : Option Broadcast} → IsRanged v → Lost v now UpdateLoss after broadcast → Gives (after_update_loss v now) after broadcast
unfolding after_erase
update_loss-only v now {after} {broadcast} in_range (propagated level delta differ greatest least takes) =
    let h = quintuple level.tau level.oid level.r (delta -ℤ pos 1) v.me in
    let ok : IsLevel level = level-in_range v level in_range greatest in
    let g : Gives (update_broadcast (record v { height = fitted_height h })) after broadcast =
    gives-by (update_broadcast (record v { height = fitted_height h })) (taken_of v v.last (fitted_height h)) after broadcast (taken-update v (fitted_height h)) (takes-only v h v.last ok.oid in_range.me takes) in
    let P : Option ℤ → Type 0 = λ o. Gives (update_broadcast (record v { height = below_delta v.me level o })) after broadcast in
    gives-by (after_update_loss v now) (propagated_level v level) after broadcast
    (update_loss-at v now level greatest ∙ at-differ v now level (differ-all v level differ))
    (subst P (sym (delta-least v level delta least)) g)
update_loss-only v now in_range (reflected level common zero) =
    gives-by (after_update_loss v now) (reflected_level v level) _ _
    (common-loss v now level common ∙ if-true (level.r == 0) (reflected_level v level) (if level.oid == v.me then partition_detected v level else new_level_after_reflection v now) (is-zero level.r zero))
    (refl, refl)
update_loss-only v now in_range (detected level common one own keeps) =
    gives-by (after_update_loss v now) (partition_detected v level) _ _
    (common-loss v now level common ∙ if-false (level.r == 0) (reflected_level v level) (if level.oid == v.me then partition_detected v level else new_level_after_reflection v now) (not-zero level.r one)
    ∙ if-true (level.oid == v.me) (partition_detected v level) (new_level_after_reflection v now) (is-same level.oid v.me own))
    (ap (erased_view v) (keeps-only v level keeps ∙ ap (erased_after v.erasure v.erased) (is-cleared level one)), refl)
update_loss-only v now {after} {broadcast} in_range (after_reflection level common one other new) =
    gives-by (after_update_loss v now) (new_level_after_reflection v now) after broadcast
    (common-loss v now level common ∙ if-false (level.r == 0) (reflected_level v level) (if level.oid == v.me then partition_detected v level else new_level_after_reflection v now) (not-zero level.r one)
    ∙ if-false (level.oid == v.me) (partition_detected v level) (new_level_after_reflection v now) (is-other level.oid v.me other))
    (new_level-only v now after broadcast in_range.me new)

-- ---- the inputs, at a node that is not the destination

and-false : (a b : Bool) → (a ≡ false) ⊎ (b ≡ true) → (a && not b) ≡ false
and-false false b h = refl
and-false true b (inl e) = absurd cc
and-false true true (inr e) = refl
and-false true false (inr e) = absurd cc

and-true : (a b : Bool) → a ≡ true → b ≡ false → (a && not b) ≡ true
and-true true false e f = refl
and-true true true e f = absurd cc
and-true false b e f = absurd cc

flag-same : (v : View) → v.flag ≡ true → v ≡ record v { flag = true }
flag-same v e = let P : Bool → Type 0 = λ b. v ≡ record v { flag = b } in subst P e refl

-- the outcomes of a query
abbrev query_without : View → Outcome
query_without v = if not v.flag then query_broadcast v else silent v

abbrev query_with : View → ℕ → Outcome
query_with v k = if is_none v.height then after_join v else if not (is_told k v.rows) then update_broadcast v else silent v

without-downstream : (v : View) (k : ℕ) → HasNoDownstream v → on_query v k ≡ query_without v
without-downstream v k none = if-true (not (has_downstream v)) (query_without v) (query_with v k) (ap not (none-downstream v none))

with-downstream : (v : View) (k : ℕ) → HasDownstream v → on_query v k ≡ query_with v k
with-downstream v k some = if-false (not (has_downstream v)) (query_without v) (query_with v k) (ap not (some-downstream v some))

none-is : (o : Option Quintuple) → o ≡ None → is_none o ≡ true
none-is o e = let P : Option Quintuple → Type 0 = λ x. is_none x ≡ true in subst P (sym e) refl

some-is : (o : Option Quintuple) → is_some o ≡ true → is_none o ≡ false
some-is None e = absurd cc
some-is (Some h) e = refl

some-of : (o : Option Quintuple) (h : Quintuple) → o ≡ Some h → is_some o ≡ true
some-of o h e = let P : Option Quintuple → Type 0 = λ x. is_some x ≡ true in subst P (sym e) refl

with-height : (v : View) (k : ℕ) → HasDownstream v → is_some v.height ≡ true → on_query v k ≡ (if not (is_told k v.rows) then update_broadcast v else silent v)
with-height v k some own = with-downstream v k some ∙ if-false (is_none v.height) (after_join v) (if not (is_told k v.rows) then update_broadcast v else silent v) (some-is v.height own)

-- the outcomes of a link that comes up
abbrev up_other : View → ℕ → Outcome
up_other v k = let w = linked_view v k None in if v.flag then query_broadcast w else silent w

abbrev up_destination : View → ℕ → Outcome
up_destination v k = let w = linked_view v k (Some (destination_height k)) in if v.flag then after_join w else silent w

link-other : (v : View) (k : ℕ) → k ≢ v.destination → on_link_up v k ≡ up_other v k
link-other v k n = if-false (k == v.destination) (up_destination v k) (up_other v k) (is-other k v.destination n)

link-destination : (v : View) (k : ℕ) → k ≡ v.destination → on_link_up v k ≡ up_destination v k
link-destination v k e = if-true (k == v.destination) (up_destination v k) (up_other v k) (is-same k v.destination e)

-- the outcome of an update if no route is required
abbrev update_unasked : View → ℕ → Quintuple → ℕ → Outcome
update_unasked v k height now = let w = updated_view v k height in if lacks_downstream w then after_update_loss w now else silent w

update-unasked : (v : View) (k : ℕ) (height : Quintuple) (now : ℕ) → v.flag ≡ false → on_taken_update v k height now ≡ update_unasked v k height now
update-unasked v k height now unset = if-false v.flag (after_join (updated_view v k height)) (update_unasked v k height now) unset

-- the outcome of an update by whether it counts as older than the clear of its level
update-fresh : (v : View) (k : ℕ) (height : Quintuple) (now : ℕ) → ¬ IsOutdated v height → on_update v k height now ≡ on_taken_update v k height now
update-fresh v k height now fresh = if-false (is_outdated v height) (on_outdated v k now) (on_taken_update v k height now) (not-outdated v height fresh)

update-old : (v : View) (k : ℕ) (height : Quintuple) (now : ℕ) → IsOutdated v height → on_update v k height now ≡ on_outdated v k now
update-old v k height now old = if-true (is_outdated v height) (on_outdated v k now) (on_taken_update v k height now) (is-outdated v height old)

-- the outcome of a clear
clear-heard : (v : View) (k : ℕ) (level : Level) (now : ℕ) {u : View} → HearsClear v k level u → on_clear v k level now ≡ on_heard_clear u level now
clear-heard v k level now heard = ap (λ (x : View). on_heard_clear x level now) (sym (hears-only v k level heard))

heard-me : (v : View) (k : ℕ) (level : Level) {u : View} → HearsClear v k level u → IsId v.me → IsId u.me
heard-me v k level heard me = subst (λ (x : View). IsId x.me) (sym (hears-only v k level heard)) me

-- the outcome of a clear of another level
abbrev clear_other : View → Level → ℕ → Outcome
clear_other v level now = let w = cleared_view v level in if lacks_downstream w then after_link_loss w now else silent w

clear-other : (v : View) (level : Level) (now : ℕ) → ¬ IsOwnLevel v level → on_heard_clear v level now ≡ clear_other v level now
clear-other v level now n = if-false (is_entry_at level v.height) (after_erase v level.tau level.oid) (clear_other v level now) (own-not v level n)

pub elsewhere-only : (v : View) (now : ℕ) → IsKept v → {input : Input} {after : View} {broadcast : Option Broadcast} → ReactsElsewhere v now input after broadcast → MayCome v input → Gives (outcome_elsewhere v input now) after broadcast
unfolding after_erase
elsewhere-only v now kept (need_asked none unset) may =
    gives-by (on_need v) (query_broadcast v) _ _ (if-true (are_null v.rows && not v.flag) (query_broadcast v) (silent v) (and-true (are_null v.rows) v.flag (none-are_null v none) unset)) (refl, refl)
elsewhere-only v now kept (need_quiet either) may =
    gives-by (on_need v) (silent v) _ _ (if-false (are_null v.rows && not v.flag) (query_broadcast v) (silent v) (and-false (are_null v.rows) v.flag (known-or_set either))) (refl, refl)
  where
    known-or_set : KnowsSome v ⊎ (v.flag ≡ true) → (are_null v.rows ≡ false) ⊎ (v.flag ≡ true)
    known-or_set (inl some) = inl (some-are_null v some)
    known-or_set (inr set) = inr set
elsewhere-only v now kept (link_up_quiet {k} other unset) may =
    gives-by (on_link_up v k) (silent (linked_view v k None)) _ _
    (link-other v k other ∙ if-false v.flag (query_broadcast (linked_view v k None)) (silent (linked_view v k None)) unset) (refl, refl)
elsewhere-only v now kept (link_up_asked {k} other set) may =
    gives-by (on_link_up v k) (query_broadcast (linked_view v k None)) _ _
    (link-other v k other ∙ if-true v.flag (query_broadcast (linked_view v k None)) (silent (linked_view v k None)) set) (flag-same (linked_view v k None) set, refl)
elsewhere-only v now kept (destination_up_quiet {k} same unset) may =
    let w = linked_view v k (Some (destination_height k)) in
    gives-by (on_link_up v k) (silent w) _ _ (link-destination v k same ∙ if-false v.flag (after_join w) (silent w) unset) (refl, refl)
elsewhere-only v now kept {input} {after} {broadcast} (destination_up_joined {k} same set joins) may =
    let w = linked_view v k (Some (destination_height k)) in
    gives-by (on_link_up v k) (after_join w) after broadcast (link-destination v k same ∙ if-true v.flag (after_join w) (silent w) set) (join-only w after broadcast (linked-ranged v k kept same) joins)
elsewhere-only v now kept (link_down_quiet {k} free) may =
    let w = unlinked_view v k in
    gives-by (on_link_down v k now) (silent w) _ _ (if-false (lacks_downstream w) (after_link_loss w now) (silent w) (lacks-not w free)) (refl, refl)
elsewhere-only v now kept {input} {after} {broadcast} (link_down_lost {k} stuck lost) may =
    let w = unlinked_view v k in
    gives-by (on_link_down v k now) (after_link_loss w now) after broadcast (if-true (lacks_downstream w) (after_link_loss w now) (silent w) (downstream-lacks w stuck)) (link_loss-only w now kept.me.1 lost)
elsewhere-only v now kept (query_asked {k} none unset) may =
    gives-by (on_query v k) (query_broadcast v) _ _ (without-downstream v k none ∙ if-true (not v.flag) (query_broadcast v) (silent v) (ap not unset)) (refl, refl)
elsewhere-only v now kept (query_pending {k} none set) may =
    gives-by (on_query v k) (silent v) _ _ (without-downstream v k none ∙ if-false (not v.flag) (query_broadcast v) (silent v) (ap not set)) (refl, refl)
elsewhere-only v now kept {input} {after} {broadcast} (query_joined {k} some null joins) may =
    gives-by (on_query v k) (after_join v) after broadcast
    (with-downstream v k some ∙ if-true (is_none v.height) (after_join v) (if not (is_told k v.rows) then update_broadcast v else silent v) (none-is v.height null))
    (join-only v after broadcast (kept-ranged v kept) joins)
elsewhere-only v now kept (query_answered {k} own some is untold) may =
    gives-by (on_query v k) (update_broadcast_of v (Some own)) _ _
    (with-height v k some (some-of v.height own is) ∙ if-true (not (is_told k v.rows)) (update_broadcast v) (silent v) (ap not (told-not v k untold)) ∙ ap (update_broadcast_of v) is)
    (refl, refl)
elsewhere-only v now kept (query_quiet {k} some own told) may =
    gives-by (on_query v k) (silent v) _ _
    (with-height v k some own ∙ if-false (not (is_told k v.rows)) (update_broadcast v) (silent v) (ap not (told-is v k told))) (refl, refl)
elsewhere-only v now kept {input} {after} {broadcast} (update_joined {k} {d} {height} fresh set joins) may =
    let w = updated_view v k height in
    gives-by (on_update v k height now) (after_join w) after broadcast
    (update-fresh v k height now fresh ∙ if-true v.flag (after_join w) (update_unasked v k height now) set) (join-only w after broadcast (updated-ranged v k height kept may.0.ranges) joins)
elsewhere-only v now kept {input} {after} {broadcast} (update_lost {k} {d} {height} fresh unset stuck lost) may =
    let w = updated_view v k height in
    gives-by (on_update v k height now) (after_update_loss w now) after broadcast
    (update-fresh v k height now fresh ∙ update-unasked v k height now unset ∙ if-true (lacks_downstream w) (after_update_loss w now) (silent w) (downstream-lacks w stuck))
    (update_loss-only w now (updated-ranged v k height kept may.0.ranges) lost)
elsewhere-only v now kept (update_quiet {k} {d} {height} fresh unset free) may =
    let w = updated_view v k height in
    gives-by (on_update v k height now) (silent w) _ _
    (update-fresh v k height now fresh ∙ update-unasked v k height now unset ∙ if-false (lacks_downstream w) (after_update_loss w now) (silent w) (lacks-not w free)) (refl, refl)
elsewhere-only v now kept (update_withdrawn {k} {d} {height} old free) may =
    let w = withdrawn_view v k in
    gives-by (on_update v k height now) (silent w) _ _
    (update-old v k height now old ∙ if-false (lacks_downstream w) (after_link_loss w now) (silent w) (lacks-not w free)) (refl, refl)
elsewhere-only v now kept {input} {after} {broadcast} (update_withdrawn_lost {k} {d} {height} old stuck lost) may =
    let w = withdrawn_view v k in
    gives-by (on_update v k height now) (after_link_loss w now) after broadcast
    (update-old v k height now old ∙ if-true (lacks_downstream w) (after_link_loss w now) (silent w) (downstream-lacks w stuck)) (link_loss-only w now kept.me.1 lost)
elsewhere-only v now kept (clear_erased {k} {d} {tau} {oid} {u} heard own keeps) may =
    let level = cleared_level tau oid in
    gives-by (on_clear v k level now) (after_erase u tau oid) _ _
    (clear-heard v k level now heard ∙ if-true (is_entry_at level u.height) (after_erase u tau oid) (clear_other u level now) (level-own u level own))
    (ap (erased_view u) (keeps-only u level keeps), refl)
elsewhere-only v now kept {input} {after} {broadcast} (clear_lost {k} {d} {tau} {oid} {u} heard other stuck lost) may =
    let level = cleared_level tau oid in
    let w = cleared_view u level in
    gives-by (on_clear v k level now) (after_link_loss w now) after broadcast
    (clear-heard v k level now heard ∙ clear-other u level now other ∙ if-true (lacks_downstream w) (after_link_loss w now) (silent w) (downstream-lacks w stuck))
    (link_loss-only w now (heard-me v k level heard kept.me).1 lost)
elsewhere-only v now kept (clear_quiet {k} {d} {tau} {oid} {u} heard other free) may =
    let level = cleared_level tau oid in
    let w = cleared_view u level in
    gives-by (on_clear v k level now) (silent w) _ _
    (clear-heard v k level now heard ∙ clear-other u level now other ∙ if-false (lacks_downstream w) (after_link_loss w now) (silent w) (lacks-not w free)) (refl, refl)

-- ---- at the destination, and all together

pub destination-only : (v : View) {input : Input} {after : View} {broadcast : Option Broadcast} → ReactsAtDestination v input after broadcast → Gives (outcome_at_destination v input) after broadcast
destination-only v own_need = (refl, refl)
destination-only v own_link_up = (refl, refl)
destination-only v own_link_down = (refl, refl)
destination-only v own_packet = (refl, refl)

pub reacts-only : (v : View) (input : Input) (now : ℕ) (after : View) (broadcast : Option Broadcast) → IsKept v → MayCome v input → Reacts v input now after broadcast → Gives (outcome_of v input now) after broadcast
reacts-only v input now after broadcast kept may (elsewhere n r) =
    gives-by (outcome_of v input now) (outcome_elsewhere v input now) after broadcast
    (if-false (v.me == v.destination) (outcome_at_destination v input) (outcome_elsewhere v input now) (is-other v.me v.destination n)) (elsewhere-only v now kept r may)
reacts-only v input now after broadcast kept may (at_destination e r) =
    gives-by (outcome_of v input now) (outcome_at_destination v input) after broadcast
    (if-true (v.me == v.destination) (outcome_at_destination v input) (outcome_elsewhere v input now) (is-same v.me v.destination e)) (destination-only v r)

-- No input changes the node and the destination of a view.
use Rattle.std.proofs.Common.{◌≡◌, refl, ap, ◌∙◌, ℕ, Bool, [], ◌∷◌, true, false, not, ◌&&◌, pos, map, Option, Some, None, is_none, ◌==◌, List}
use Rattle.std.specs.Prelude.{if◌then◌else◌, nat_lt}
use Rattle.std.specs.List.{list_all}
use Rattle.std.proofs.lemmas.Bool.{cond_both}
use Rattle.tora_height.specs.declared.level.Level.{Level}
use Rattle.tora_height.specs.Height.{Quintuple, quintuple, destination_height}
use Rattle.tora_packet.specs.declared.Packet.{Packet}
use Rattle.tora_packet.specs.declared.Packet.TheVariants.{Qry, Upd, Clr}
use Rattle.tora_core.specs.declared.erasure.Erasure.{Erasure}
use Rattle.tora_core.specs.declared.erasure.Erasure.TheVariants.{Plain, Remembered}
use Rattle.tora_core.specs.declared.rows.Row.{Row}
use Rattle.tora_core.specs.declared.Input.{Input}
use Rattle.tora_core.specs.declared.Input.TheVariants as In
use Rattle.tora_core.specs.Numbers.{with_number, without_number}
use Rattle.tora_core.specs.View.{View, neighbours_of, known_heights, told_row, row_with_entry, erased_row, are_null, untold_row, with_row, withdrawn_row, without_entry, without_row, with_entry, cleared_row, is_entry_at, is_told, has_downstream, lacks_downstream, is_at, greatest_level, least_delta}
use Rattle.tora_core.specs.Heights.{fresh_time, fitted_height}
use Rattle.tora_core.specs.Rules.{Outcome, silent, query_broadcast, update_broadcast_of, update_broadcast, joined_height, after_join, new_level_at, new_level, after_erase, after_link_loss, below_delta, propagated_level, reflected_level, after_update_loss_at, after_update_loss, cleared_level, hearing_clear, is_outdated, rows_behind_clear, link_row, on_outdated, on_taken_update, on_clear, on_heard_clear, on_packet, outcome_at_destination, outcome_elsewhere, outcome_of}
use Rattle.tora_core.specs.CoreRun.{up_after}

-- the outcome has a view of node n for destination d, with rows for these neighbours
pub record IsPlaced (n d : ℕ) (up : List ℕ) (o : Outcome) : Type 0 where
  pub me : o.view.me ≡ n
  pub destination : o.view.destination ≡ d
  pub rows : neighbours_of o.view.rows ≡ up

-- the outcome has the node, the destination and the neighbours of this view
abbrev Of : View → Outcome → Type 0
Of v o = IsPlaced v.me v.destination (neighbours_of v.rows) o

along : (n d : ℕ) (up also : List ℕ) (o : Outcome) → up ≡ also → IsPlaced n d up o → IsPlaced n d also o
along n d up also o e p = record { me = p.me; destination = p.destination; rows = p.rows ∙ e }

pub neighbours_of-map : (f : Row → Row) → ((row : Row) → (f row).neighbour ≡ row.neighbour) → (rows : List Row) → neighbours_of (map f rows) ≡ neighbours_of rows
neighbours_of-map f same [] = refl
neighbours_of-map f same (row ∷ rows) = let rest = neighbours_of-map f same rows in let e = same row in cc

by-branch : (v : View) (b : Bool) (o p : Outcome) → Of v o → Of v p → Of v (if b then o else p)
by-branch v b o p x y = cond_both b o p (Of v) (λ _. x) (λ _. y)

still : (v : View) → Of v (silent v)
still v = record { me = refl; destination = refl; rows = refl }

at-update_broadcast : (v : View) → Of v (update_broadcast v)
at-update_broadcast v = at v.height
  where
    at : (o : Option Quintuple) → Of v (update_broadcast_of v o)
    at None = record { me = refl; destination = refl; rows = refl }
    at (Some h) = record { me = refl; destination = refl; rows = neighbours_of-map told_row (λ row. refl) v.rows }

at-after_join : (v : View) → Of v (after_join v)
unfolding after_join
at-after_join v = at-update_broadcast (record v { height = joined_height v; flag = false })

at-new_level : (v : View) (now : ℕ) → Of v (new_level v now)
unfolding new_level
at-new_level v now = at (fresh_time v now) (fitted_height (quintuple (fresh_time v now) v.me 0 (pos 0) v.me))
  where
    at : (t : ℕ) (o : Option Quintuple) → Of v (new_level_at v t o)
    at t None = record { me = refl; destination = refl; rows = refl }
    at t (Some h) = at-update_broadcast (record v { height = Some h; last = t })

after_erase-same : (destination : ℕ) (row : Row) → (erased_row destination row).neighbour ≡ row.neighbour
after_erase-same destination row = cond_both (row.neighbour == destination) row (record row { entry = None }) (λ (x : Row). x.neighbour ≡ row.neighbour) (λ _. refl) (λ _. refl)

at-after_erase : (v : View) (tau oid : ℕ) → Of v (after_erase v tau oid)
unfolding after_erase
at-after_erase v tau oid = record { me = refl; destination = refl; rows = neighbours_of-map (erased_row v.destination) (after_erase-same v.destination) v.rows }

at-after_link_loss : (v : View) (now : ℕ) → Of v (after_link_loss v now)
unfolding after_link_loss
at-after_link_loss v now = by-branch v (are_null v.rows) (silent (record v { height = None })) (new_level v now) (still (record v { height = None })) (at-new_level v now)

at-after_update_loss : (v : View) (now : ℕ) → Of v (after_update_loss v now)
unfolding after_update_loss
at-after_update_loss v now = at (greatest_level (known_heights v))
  where
    at-propagated_level : (l : Level) → Of v (propagated_level v l)
    at-propagated_level l = at-update_broadcast (record v { height = below_delta v.me l (least_delta l (known_heights v)) })

    at-reflected_level : (l : Level) → Of v (reflected_level v l)
    at-reflected_level l = at-update_broadcast (record v { height = Some (quintuple l.tau l.oid 1 (pos 0) v.me) })

    at : (o : Option Level) → Of v (after_update_loss_at v now o)
    at None = record { me = refl; destination = refl; rows = refl }
    at (Some l) =
        by-branch v (not (list_all (is_at l) (known_heights v))) (propagated_level v l)
        (if l.r == 0 then reflected_level v l else if l.oid == v.me then after_erase v l.tau l.oid else new_level v now)
        (at-propagated_level l)
        (by-branch v (l.r == 0) (reflected_level v l) (if l.oid == v.me then after_erase v l.tau l.oid else new_level v now) (at-reflected_level l)
        (by-branch v (l.oid == v.me) (after_erase v l.tau l.oid) (new_level v now) (at-after_erase v l.tau l.oid) (at-new_level v now)))

at-settled : (w : View) (o : Outcome) → Of w o → Of w (if lacks_downstream w then o else silent w)
at-settled w o p = by-branch w (lacks_downstream w) o (silent w) p (still w)

told-same : (k : ℕ) (h : Quintuple) (row : Row) → (row_with_entry k h row).neighbour ≡ row.neighbour
told-same k h row = cond_both (row.neighbour == k) (record row { entry = Some h }) row (λ (x : Row). x.neighbour ≡ row.neighbour) (λ _. refl) (λ _. refl)

cleared-same : (destination : ℕ) (l : Level) (row : Row) → (cleared_row destination l row).neighbour ≡ row.neighbour
cleared-same destination l row =
    cond_both (not (row.neighbour == destination) && is_entry_at l row.entry) (record row { entry = None }) row (λ (x : Row). x.neighbour ≡ row.neighbour) (λ _. refl) (λ _. refl)

withdrawn-same : (destination k : ℕ) (row : Row) → (withdrawn_row destination k row).neighbour ≡ row.neighbour
withdrawn-same destination k row =
    cond_both ((row.neighbour == k) && not (row.neighbour == destination)) (record row { entry = None }) row (λ (x : Row). x.neighbour ≡ row.neighbour) (λ _. refl) (λ _. refl)

untold-same : (k : ℕ) (row : Row) → (untold_row k row).neighbour ≡ row.neighbour
untold-same k row = cond_both (row.neighbour == k) (record row { told = false }) row (λ (x : Row). x.neighbour ≡ row.neighbour) (λ _. refl) (λ _. refl)

behind_clear-same : (x : Erasure) (destination k : ℕ) (rows : List Row) → neighbours_of (rows_behind_clear x destination k rows) ≡ neighbours_of rows
behind_clear-same Plain destination k rows = refl
behind_clear-same Remembered destination k rows =
    neighbours_of-map (untold_row k) (untold-same k) (without_entry destination k rows) ∙ neighbours_of-map (withdrawn_row destination k) (withdrawn-same destination k) rows

at-outdated : (v : View) (k now : ℕ) → Of v (on_outdated v k now)
at-outdated v k now =
    let w = record v { rows = without_entry v.destination k v.rows } in
    along v.me v.destination (neighbours_of w.rows) (neighbours_of v.rows) (on_outdated v k now) (neighbours_of-map (withdrawn_row v.destination k) (withdrawn-same v.destination k) v.rows)
    (at-settled w (after_link_loss w now) (at-after_link_loss w now))

at-taken_update : (v : View) (k : ℕ) (h : Quintuple) (now : ℕ) → Of v (on_taken_update v k h now)
at-taken_update v k h now =
    let w = record v { rows = with_entry k h v.rows } in
    along v.me v.destination (neighbours_of w.rows) (neighbours_of v.rows) (on_taken_update v k h now) (neighbours_of-map (row_with_entry k h) (told-same k h) v.rows)
    (by-branch w v.flag (after_join w) (if lacks_downstream w then after_update_loss w now else silent w) (at-after_join w) (at-settled w (after_update_loss w now) (at-after_update_loss w now)))

at-heard_clear : (v : View) (l : Level) (now : ℕ) → Of v (on_heard_clear v l now)
at-heard_clear v l now =
    let w = record v { rows = map (cleared_row v.destination l) v.rows } in
    by-branch v (is_entry_at l v.height) (after_erase v l.tau l.oid) (if lacks_downstream w then after_link_loss w now else silent w)
    (at-after_erase v l.tau l.oid)
    (along v.me v.destination (neighbours_of w.rows) (neighbours_of v.rows) (if lacks_downstream w then after_link_loss w now else silent w)
    (neighbours_of-map (cleared_row v.destination l) (cleared-same v.destination l) v.rows)
    (at-settled w (after_link_loss w now) (at-after_link_loss w now)))

at-clear : (v : View) (k : ℕ) (l : Level) (now : ℕ) → Of v (on_clear v k l now)
at-clear v k l now =
    let u = hearing_clear v k l in
    along v.me v.destination (neighbours_of u.rows) (neighbours_of v.rows) (on_clear v k l now) (behind_clear-same v.erasure v.destination k v.rows) (at-heard_clear u l now)

at-packet : (v : View) (k : ℕ) (p : Packet) (now : ℕ) → Of v (on_packet v k p now)
at-packet v k (Qry d) now =
    by-branch v (not (has_downstream v)) (if not v.flag then query_broadcast v else silent v) (if is_none v.height then after_join v else if not (is_told k v.rows) then update_broadcast v else silent v)
    (by-branch v (not v.flag) (query_broadcast v) (silent v) (record { me = refl; destination = refl; rows = refl }) (still v))
    (by-branch v (is_none v.height) (after_join v) (if not (is_told k v.rows) then update_broadcast v else silent v) (at-after_join v)
    (by-branch v (not (is_told k v.rows)) (update_broadcast v) (silent v) (at-update_broadcast v) (still v)))
at-packet v k (Upd t) now = by-branch v (is_outdated v t.height) (on_outdated v k now) (on_taken_update v k t.height now) (at-outdated v k now) (at-taken_update v k t.height now)
at-packet v k (Clr c) now = at-clear v k (cleared_level c.tau c.oid) now

-- the rows after a link came up or went down
neighbours_of-with_row : (new : Row) (rows : List Row) → neighbours_of (with_row new rows) ≡ with_number new.neighbour (neighbours_of rows)
neighbours_of-with_row new [] = refl
neighbours_of-with_row new (row ∷ rows) = at (neighbours_of-with_row new rows) (nat_lt new.neighbour row.neighbour)
  where
    at : neighbours_of (with_row new rows) ≡ with_number new.neighbour (neighbours_of rows) → (b : Bool)
        → neighbours_of (if b then new ∷ row ∷ rows else row ∷ with_row new rows) ≡ (if b then new.neighbour ∷ row.neighbour ∷ neighbours_of rows else row.neighbour ∷ with_number new.neighbour (neighbours_of rows))
    at rest true = refl
    at rest false = ap (λ (ns : List ℕ). row.neighbour ∷ ns) rest

neighbours_of-without_row : (k : ℕ) (rows : List Row) → neighbours_of (without_row k rows) ≡ without_number k (neighbours_of rows)
neighbours_of-without_row k [] = refl
neighbours_of-without_row k (row ∷ rows) = at (neighbours_of-without_row k rows) (row.neighbour == k)
  where
    at : neighbours_of (without_row k rows) ≡ without_number k (neighbours_of rows) → (b : Bool)
        → neighbours_of (if not b then row ∷ without_row k rows else without_row k rows) ≡ (if not b then row.neighbour ∷ without_number k (neighbours_of rows) else without_number k (neighbours_of rows))
    at rest true = rest
    at rest false = ap (λ (ns : List ℕ). row.neighbour ∷ ns) rest

at-elsewhere : (v : View) (input : Input) (now : ℕ) → IsPlaced v.me v.destination (up_after (neighbours_of v.rows) input) (outcome_elsewhere v input now)
at-elsewhere v (In.Need d) now = by-branch v (are_null v.rows && not v.flag) (query_broadcast v) (silent v) (record { me = refl; destination = refl; rows = refl }) (still v)
at-elsewhere v (In.LinkUp k) now =
    let w = record v { rows = with_row (link_row k (Some (destination_height k))) v.rows } in
    let u = record v { rows = with_row (link_row k None) v.rows } in
    cond_both (k == v.destination) (if v.flag then after_join w else silent w) (if v.flag then query_broadcast u else silent u) (IsPlaced v.me v.destination (with_number k (neighbours_of v.rows)))
    (λ _. along v.me v.destination (neighbours_of w.rows) (with_number k (neighbours_of v.rows)) (if v.flag then after_join w else silent w) (neighbours_of-with_row (link_row k (Some (destination_height k))) v.rows)
    (by-branch w v.flag (after_join w) (silent w) (at-after_join w) (still w)))
    (λ _. along v.me v.destination (neighbours_of u.rows) (with_number k (neighbours_of v.rows)) (if v.flag then query_broadcast u else silent u) (neighbours_of-with_row (link_row k None) v.rows)
    (by-branch u v.flag (query_broadcast u) (silent u) (record { me = refl; destination = refl; rows = refl }) (still u)))
at-elsewhere v (In.LinkDown k) now =
    let w = record v { rows = without_row k v.rows } in
    along v.me v.destination (neighbours_of w.rows) (without_number k (neighbours_of v.rows)) (if lacks_downstream w then after_link_loss w now else silent w) (neighbours_of-without_row k v.rows)
    (at-settled w (after_link_loss w now) (at-after_link_loss w now))
at-elsewhere v (In.Packet k p) now = at-packet v k p now

at-destination : (v : View) (input : Input) → IsPlaced v.me v.destination (up_after (neighbours_of v.rows) input) (outcome_at_destination v input)
at-destination v (In.Need d) = still v
at-destination v (In.LinkUp k) = record { me = refl; destination = refl; rows = neighbours_of-with_row (link_row k None) v.rows }
at-destination v (In.LinkDown k) = record { me = refl; destination = refl; rows = neighbours_of-without_row k v.rows }
at-destination v (In.Packet k p) = still v

pub outcome_of-place : (v : View) (input : Input) (now : ℕ) → IsPlaced v.me v.destination (up_after (neighbours_of v.rows) input) (outcome_of v input now)
outcome_of-place v input now =
    cond_both (v.me == v.destination) (outcome_at_destination v input) (outcome_elsewhere v input now) (IsPlaced v.me v.destination (up_after (neighbours_of v.rows) input)) (λ _. at-destination v input) (λ _. at-elsewhere v input now)

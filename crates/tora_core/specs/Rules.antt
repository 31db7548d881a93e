-- TORA's rules for one destination: the effect of an input on a view, and the broadcast.
use Rattle.std.specs.Prelude.{ℕ, ◌==◌, Bool, true, false, List, not, ◌&&◌, if◌then◌else◌, Option, None, Some, is_none}
use Rattle.std.specs.Prelude.{option_map, ℤ, pos, ◌+ℤ◌, ◌-ℤ◌}
use Rattle.std.specs.List.{list_all}
use Rattle.tora_height.specs.declared.level.Level.{Level}
use Rattle.tora_height.specs.Height.{Quintuple, quintuple, destination_height}
use Rattle.tora_packet.specs.declared.Packet.{Packet}
use Rattle.tora_packet.specs.declared.Packet.TheVariants.{Qry, Upd, Clr}
use Rattle.tora_packet.specs.PacketParts.{update_of, clear_of}
use Rattle.tora_core.specs.declared.erasure.Erasure.{Erasure}
use Rattle.tora_core.specs.declared.erasure.Erasure.TheVariants.{Plain, Remembered}
use Rattle.tora_core.specs.declared.Input.{Input}
use Rattle.tora_core.specs.declared.Input.TheVariants as In
use Rattle.tora_core.specs.declared.rows.Row.{Row}
use Rattle.tora_core.specs.declared.destination.Broadcast.{Broadcast}
use Rattle.tora_core.specs.declared.destination.Broadcast.TheVariants as Tell
use Rattle.tora_core.specs.View.{View, known_heights, are_null, with_row, without_row, with_entry, without_entry}
use Rattle.tora_core.specs.View.{without_told, all_told, is_told, all_erased, is_entry_at, all_cleared, has_downstream}
use Rattle.tora_core.specs.View.{lacks_downstream, is_at, least_height, greatest_level, least_delta}
use Rattle.tora_core.specs.Heights.{fresh_time, fitted_height}

-- the result of an input: the next view, and the broadcast
pub record Outcome : Type 0 where
  pub view : View
  pub broadcast : Option Broadcast

-- ---- broadcasts

abbrev pub silent : View → Outcome
silent v = record { view = v; broadcast = None }

-- a query: from now on a route is required
abbrev pub query_broadcast : View → Outcome
query_broadcast v = record { view = record v { flag = true }; broadcast = Some Tell.Query }

-- an update with the own height, if there is one; then every neighbour whose link is up is marked
abbrev pub update_broadcast_of : View → Option Quintuple → Outcome
update_broadcast_of v None = silent v
update_broadcast_of v (Some height) = record {
  view = record v { rows = all_told v.rows };
  broadcast = Some (Tell.Update height);
}

abbrev pub update_broadcast : View → Outcome
update_broadcast v = update_broadcast_of v v.height

-- ---- joining: one above the least entry

abbrev pub joined_above : ℕ → Option Quintuple → Option Quintuple
joined_above me None = None
joined_above me (Some low) = fitted_height (quintuple low.tau low.oid low.r (low.delta +ℤ pos 1) me)

abbrev pub joined_height : View → Option Quintuple
joined_height v = joined_above v.me (least_height (known_heights v))

unfoldable pub after_join : View → Outcome
after_join v = update_broadcast (record v { height = joined_height v; flag = false })

-- ---- erased levels

-- a clear erases a reflected level
abbrev pub cleared_level : ℕ → ℕ → Level
cleared_level tau oid = record { tau = tau; oid = oid; r = 1 }

-- the level that was erased last, after this level was erased
abbrev pub erased_after : Erasure → Option Level → Level → Option Level
erased_after Plain old level = old
erased_after Remembered old level = Some level

-- an update with this height counts as older than the clear of its level: the level was erased last
abbrev pub is_outdated_by : Erasure → Option Level → Quintuple → Bool
is_outdated_by Plain erased height = false
is_outdated_by Remembered None height = false
is_outdated_by Remembered (Some level) height = is_at level height

abbrev pub is_outdated : View → Quintuple → Bool
is_outdated v height = is_outdated_by v.erasure v.erased height

-- the rows after a clear: its sender has no height and no entries, so its entry and its mark are removed
abbrev pub rows_behind_clear : Erasure → ℕ → ℕ → List Row → List Row
rows_behind_clear Plain destination k rows = rows
rows_behind_clear Remembered destination k rows = without_told k (without_entry destination k rows)

-- the view after a clear of a level from a neighbour
abbrev pub hearing_clear : View → ℕ → Level → View
hearing_clear v k level = record v {
  rows = rows_behind_clear v.erasure v.destination k v.rows;
  erased = erased_after v.erasure v.erased level;
}

-- ---- the last downstream link is lost

-- a new reference level, which the node defines
abbrev pub new_level_at : View → ℕ → Option Quintuple → Outcome
new_level_at v time None = silent (record v { height = None })
new_level_at v time (Some height) = update_broadcast (record v { height = Some height; last = time })

unfoldable pub new_level : View → ℕ → Outcome
new_level v now = new_level_at v (fresh_time v now) (fitted_height (quintuple (fresh_time v now) v.me 0 (pos 0) v.me))

-- the own height and every entry except that of the destination are erased, and a clear of the level is broadcast
unfoldable pub after_erase : View → ℕ → ℕ → Outcome
after_erase v tau oid =
    record {
      view = record v {
        height = None;
        rows = all_erased v.destination v.rows;
        erased = erased_after v.erasure v.erased (cleared_level tau oid);
      };
      broadcast = Some (Tell.Clear tau oid);
    }

-- case 1: lost by a link failure or a clear, and a neighbour is left
abbrev pub new_level_after_failure : View → ℕ → Outcome
new_level_after_failure v now = new_level v now

-- case 2: lost by an update, and the levels are not all equal: the greatest level, one below the least delta at it
abbrev pub below_delta : ℕ → Level → Option ℤ → Option Quintuple
below_delta me level None = None
below_delta me level (Some delta) = fitted_height (quintuple level.tau level.oid level.r (delta -ℤ pos 1) me)

abbrev pub propagated_level : View → Level → Outcome
propagated_level v level =
    update_broadcast (record v { height = below_delta v.me level (least_delta level (known_heights v)) })

-- case 3: all entries are at one original level, which is reflected
abbrev pub reflected_level : View → Level → Outcome
reflected_level v level = update_broadcast (record v { height = Some (quintuple level.tau level.oid 1 (pos 0) v.me) })

-- case 4: all entries are at one reflected level, which the node defined
abbrev pub partition_detected : View → Level → Outcome
partition_detected v level = after_erase v level.tau level.oid

-- case 5: all entries are at one reflected level, which another node defined
abbrev pub new_level_after_reflection : View → ℕ → Outcome
new_level_after_reflection v now = new_level v now

-- the last downstream link is lost by a link failure or a clear
unfoldable pub after_link_loss : View → ℕ → Outcome
after_link_loss v now = if are_null v.rows then silent (record v { height = None }) else new_level_after_failure v now

-- the last downstream link is lost by an update; `greatest` is the greatest level of the entries
abbrev pub after_update_loss_at : View → ℕ → Option Level → Outcome
after_update_loss_at v now None = silent (record v { height = None })
after_update_loss_at v now (Some level) =
    if not (list_all (is_at level) (known_heights v)) then propagated_level v level
    else if level.r == 0 then reflected_level v level
    else if level.oid == v.me then partition_detected v level
    else new_level_after_reflection v now

unfoldable pub after_update_loss : View → ℕ → Outcome
after_update_loss v now = after_update_loss_at v now (greatest_level (known_heights v))

-- ---- the inputs of a node that is not the destination

abbrev pub on_need : View → Outcome
on_need v = if are_null v.rows && not v.flag then query_broadcast v else silent v

abbrev pub link_row : ℕ → Option Quintuple → Row
link_row k entry = record { neighbour = k; entry = entry; told = false }

abbrev pub on_link_up : View → ℕ → Outcome
on_link_up v k =
    if k == v.destination
    then (let w = record v { rows = with_row (link_row k (Some (destination_height k))) v.rows } in
    if v.flag then after_join w else silent w)
    else (let w = record v { rows = with_row (link_row k None) v.rows } in if v.flag then query_broadcast w
    else silent w)

abbrev pub on_link_down : View → ℕ → ℕ → Outcome
on_link_down v k now =
    let w = record v { rows = without_row k v.rows } in
    if lacks_downstream w then after_link_loss w now else silent w

abbrev pub on_query : View → ℕ → Outcome
on_query v k =
    if not (has_downstream v)
    then (if not v.flag then query_broadcast v else silent v)
    else if is_none v.height then after_join v
    else if not (is_told k v.rows) then update_broadcast v
    else silent v

-- an update that counts as older than the clear of its level only removes its sender's entry
abbrev pub on_outdated : View → ℕ → ℕ → Outcome
on_outdated v k now =
    let w = record v { rows = without_entry v.destination k v.rows } in
    if lacks_downstream w then after_link_loss w now else silent w

abbrev pub on_taken_update : View → ℕ → Quintuple → ℕ → Outcome
on_taken_update v k height now =
    let w = record v { rows = with_entry k height v.rows } in
    if v.flag then after_join w
    else if lacks_downstream w then after_update_loss w now
    else silent w

abbrev pub on_update : View → ℕ → Quintuple → ℕ → Outcome
on_update v k height now = if is_outdated v height then on_outdated v k now else on_taken_update v k height now

abbrev pub on_heard_clear : View → Level → ℕ → Outcome
on_heard_clear v level now =
    if is_entry_at level v.height then after_erase v level.tau level.oid
    else
    (let w = record v { rows = all_cleared v.destination level v.rows } in
    if lacks_downstream w then after_link_loss w now else silent w)

abbrev pub on_clear : View → ℕ → Level → ℕ → Outcome
on_clear v k level now = on_heard_clear (hearing_clear v k level) level now

abbrev pub on_packet : View → ℕ → Packet → ℕ → Outcome
on_packet v k (Qry d) now = on_query v k
on_packet v k (Upd u) now = on_update v k u.height now
on_packet v k (Clr c) now = on_clear v k (cleared_level c.tau c.oid) now

abbrev pub outcome_elsewhere : View → Input → ℕ → Outcome
outcome_elsewhere v (In.Need d) now = on_need v
outcome_elsewhere v (In.LinkUp k) now = on_link_up v k
outcome_elsewhere v (In.LinkDown k) now = on_link_down v k now
outcome_elsewhere v (In.Packet k packet) now = on_packet v k packet now

-- at the destination itself only the set of rows changes
abbrev pub outcome_at_destination : View → Input → Outcome
outcome_at_destination v (In.Need d) = silent v
outcome_at_destination v (In.LinkUp k) = silent (record v { rows = with_row (link_row k None) v.rows })
outcome_at_destination v (In.LinkDown k) = silent (record v { rows = without_row k v.rows })
outcome_at_destination v (In.Packet k packet) = silent v

-- the result of an input that concerns the destination
abbrev pub outcome_of : View → Input → ℕ → Outcome
outcome_of v input now = if v.me == v.destination then outcome_at_destination v input else outcome_elsewhere v input now

-- ---- the packet to all up neighbours

abbrev pub packet_of : ℕ → Broadcast → Packet
packet_of destination Tell.Query = Qry destination
packet_of destination (Tell.Update height) = Upd (update_of destination height)
packet_of destination (Tell.Clear tau oid) = Clr (clear_of destination tau oid)

abbrev pub view_after : View → Input → ℕ → View
view_after v input now = (outcome_of v input now).view

abbrev pub packet_sent : View → Input → ℕ → Option Packet
packet_sent v input now = option_map (packet_of v.destination) (outcome_of v input now).broadcast

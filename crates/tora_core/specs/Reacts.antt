-- TORA's rules for one destination as a relation: the effect of an input on a view, with one case for each line of the
-- rules.
use Rattle.std.specs.Prelude.{◌≡◌, ◌≢◌, ◌⊎◌, ℕ, ◌<◌, ◌≤◌, ℤ, pos, ◌+ℤ◌, ◌-ℤ◌, ◌≤ℤ◌, true, false, Option, None, Some}
use Rattle.std.specs.Prelude.{IsSome, IfSome, Contains}
use Rattle.tora_height.specs.declared.level.Level.{Level}
use Rattle.tora_height.specs.Height.{Quintuple, quintuple, destination_height, level_of, IsHeight}
use Rattle.tora_height.specs.HeightOrder.{IsLower, IsLowerLevel}
use Rattle.tora_packet.specs.declared.Packet.{Packet}
use Rattle.tora_packet.specs.declared.Packet.TheVariants.{Qry, Upd, Clr}
use Rattle.tora_packet.specs.PacketParts.{update_of, clear_of}
use Rattle.tora_core.specs.declared.erasure.Erasure.TheVariants.{Plain, Remembered}
use Rattle.tora_core.specs.declared.Input.{Input}
use Rattle.tora_core.specs.declared.Input.TheVariants as In
use Rattle.tora_core.specs.declared.rows.Row.{Row}
use Rattle.tora_core.specs.declared.destination.Broadcast.{Broadcast}
use Rattle.tora_core.specs.declared.destination.Broadcast.TheVariants as Tell
use Rattle.tora_core.specs.View.{View, with_row, without_row, with_entry, without_entry, without_told, all_told}
use Rattle.tora_core.specs.View.{all_erased, all_cleared}
use Rattle.tora_core.specs.Rules.{link_row, cleared_level}

-- ---- up neighbours and their entries

-- the link to k is up
abbrev pub IsUp : View → ℕ → Type 0
IsUp v k = (row : Row) × Contains v.rows row × (row.neighbour ≡ k)

-- the link to k is up, and its entry is h
abbrev pub IsEntry : View → ℕ → Quintuple → Type 0
IsEntry v k h = (row : Row) × Contains v.rows row × (row.neighbour ≡ k) × (row.entry ≡ Some h)

-- an update was broadcast to k since its link came up
abbrev pub IsTold : View → ℕ → Type 0
IsTold v k = (row : Row) × Contains v.rows row × (row.neighbour ≡ k) × (row.told ≡ true)

-- h is the entry of a neighbour whose link is up
abbrev pub IsKnown : View → Quintuple → Type 0
IsKnown v h = (k : ℕ) × IsEntry v k h

abbrev pub KnowsSome : View → Type 0
KnowsSome v = (h : Quintuple) × IsKnown v h

abbrev pub KnowsNone : View → Type 0
KnowsNone v = (h : Quintuple) → ¬ IsKnown v h

-- k has an entry, and it is lower than the own height, or the own height is NULL
abbrev pub IsDownstream : View → ℕ → Type 0
IsDownstream v k = (h : Quintuple) × IsEntry v k h × IfSome v.height (IsLower h)

abbrev pub HasDownstream : View → Type 0
HasDownstream v = (k : ℕ) × IsDownstream v k

abbrev pub HasNoDownstream : View → Type 0
HasNoDownstream v = (k : ℕ) → ¬ IsDownstream v k

-- the height is not NULL, and no neighbour is downstream
abbrev pub LacksDownstream : View → Type 0
LacksDownstream v = IsSome v.height × HasNoDownstream v

-- k is the downstream neighbour with the lowest entry
pub record IsNextHop (v : View) (k : ℕ) : Type 0 where
  pub entry : Quintuple
  pub known : IsEntry v k entry
  pub downstream : IfSome v.height (IsLower entry)
  pub lowest : (j : ℕ) (h : Quintuple) → IsEntry v j h → IfSome v.height (IsLower h) → ¬ IsLower h entry

-- the own height is at this level
abbrev pub IsOwnLevel : View → Level → Type 0
IsOwnLevel v level = (own : Quintuple) × (v.height ≡ Some own) × (level_of own ≡ level)

-- ---- least and greatest

pub record IsLeastKnown (v : View) (low : Quintuple) : Type 0 where
  pub known : IsKnown v low
  pub least : (h : Quintuple) → IsKnown v h → ¬ IsLower h low

pub record IsGreatestLevel (v : View) (level : Level) : Type 0 where
  pub known : (h : Quintuple) × IsKnown v h × (level_of h ≡ level)
  pub greatest : (h : Quintuple) → IsKnown v h → ¬ IsLowerLevel level (level_of h)

pub record IsLeastDelta (v : View) (level : Level) (delta : ℤ) : Type 0 where
  pub known : (h : Quintuple) × IsKnown v h × (level_of h ≡ level) × (h.delta ≡ delta)
  pub least : (h : Quintuple) → IsKnown v h → level_of h ≡ level → delta ≤ℤ h.delta

-- there are entries, and all of them are at this level
pub record IsCommonLevel (v : View) (level : Level) : Type 0 where
  pub some : KnowsSome v
  pub all : (h : Quintuple) → IsKnown v h → level_of h ≡ level

-- two entries are at different levels
abbrev pub LevelsDiffer : View → Type 0
LevelsDiffer v = (g : Quintuple) × (h : Quintuple) × IsKnown v g × IsKnown v h × (level_of g ≢ level_of h)

-- t is at least the tick, at least 1, and later than each time that the node has generated or knows
pub record IsAfterAll (v : View) (now t : ℕ) : Type 0 where
  pub tick : now ≤ t
  pub positive : 1 ≤ t
  pub last : v.last < t
  pub own : IfSome v.height (λ h. h.tau < t)
  pub known : (h : Quintuple) → IsKnown v h → h.tau < t

-- t is the least such time
pub record IsFreshTime (v : View) (now t : ℕ) : Type 0 where
  pub after_all : IsAfterAll v now t
  pub least : (u : ℕ) → IsAfterAll v now u → t ≤ u

-- ---- a computed height

-- A computed height, and the last time that is generated with it. If the height is in range it becomes the own height,
-- and an update is broadcast. Otherwise the own height becomes NULL, and nothing is broadcast.
pub data Takes (v : View) (h : Quintuple) (last : ℕ) : View → Option Broadcast → Type 0 where
  fits : IsHeight h → Takes v h last (record v { height = Some h; rows = all_told v.rows; last = last })
      (Some (Tell.Update h))
  does_not_fit : ¬ IsHeight h → Takes v h last (record v { height = None }) None

-- the node defines a new reference level at the fresh time
pub record TakesNewLevel (v : View) (now : ℕ) (after : View) (broadcast : Option Broadcast) : Type 0 where
  pub time : ℕ
  pub fresh : IsFreshTime v now time
  pub taken : Takes v (quintuple time v.me 0 (pos 0) v.me) time after broadcast

-- the own height becomes one above the least entry, and a route is no longer required
pub record Joins (v : View) (after : View) (broadcast : Option Broadcast) : Type 0 where
  pub low : Quintuple
  pub least : IsLeastKnown v low
  pub taken : Takes (record v { flag = false }) (quintuple low.tau low.oid low.r (low.delta +ℤ pos 1) v.me) v.last after
      broadcast

-- ---- erased levels

-- the level that was erased last, after this level was erased
pub data Keeps (v : View) (level : Level) : Option Level → Type 0 where
  kept_plain : v.erasure ≡ Plain → Keeps v level v.erased
  kept_remembered : v.erasure ≡ Remembered → Keeps v level (Some level)

-- the height is at the level that was erased last
abbrev pub IsOutdated : View → Quintuple → Type 0
IsOutdated v height = (v.erasure ≡ Remembered) × (v.erased ≡ Some (level_of height))

-- the view after the neighbour's entry became NULL, unless the neighbour is the destination
abbrev pub withdrawn_view : View → ℕ → View
withdrawn_view v k = record v { rows = without_entry v.destination k v.rows }

-- a clear of this level comes from k, which has no height and no entries when it sends a clear
pub data HearsClear (v : View) (k : ℕ) (level : Level) : View → Type 0 where
  heard_plain : v.erasure ≡ Plain → HearsClear v k level v
  heard_remembered : v.erasure ≡ Remembered → HearsClear v k level
      (record v { rows = without_told k (without_entry v.destination k v.rows); erased = Some level })

-- the view after the own height and every entry, except that of the destination, became NULL
abbrev pub erased_view : View → Option Level → View
erased_view v kept = record v { height = None; rows = all_erased v.destination v.rows; erased = kept }

-- ---- the last downstream link is lost

-- the height at an original level, after the level was reflected
abbrev pub reflected_height : ℕ → Level → Quintuple
reflected_height me level = quintuple level.tau level.oid 1 (pos 0) me

pub data LossCause : Type 0 where
  LinkLoss UpdateLoss : LossCause

pub data Lost (v : View) (now : ℕ) : LossCause → View → Option Broadcast → Type 0 where
  -- lost by a link failure or a clear, and no height is known
  no_height_left : KnowsNone v → Lost v now LinkLoss (record v { height = None }) None
  -- lost by a link failure or a clear, and a height is known
  new_level_after_failure : {after : View} {broadcast : Option Broadcast} → KnowsSome v
      → TakesNewLevel v now after broadcast
      → Lost v now LinkLoss after broadcast
  -- lost by an update, and the levels are not all equal: the greatest level, one below the least delta at it
  propagated_level : {after : View} {broadcast : Option Broadcast} (level : Level) (delta : ℤ)
      → LevelsDiffer v → IsGreatestLevel v level → IsLeastDelta v level delta
      → Takes v (quintuple level.tau level.oid level.r (delta -ℤ pos 1) v.me) v.last after broadcast
      → Lost v now UpdateLoss after broadcast
  -- lost by an update, and all entries are at one original level
  reflected_level : (level : Level) → IsCommonLevel v level → level.r ≡ 0
      → Lost v now UpdateLoss (record v { height = Some (reflected_height v.me level); rows = all_told v.rows })
      (Some (Tell.Update (reflected_height v.me level)))
  -- lost by an update, and all entries are at one reflected level, which the node defined
  partition_detected : {kept : Option Level} (level : Level) → IsCommonLevel v level → level.r ≡ 1 → level.oid ≡ v.me
      → Keeps v level kept
      → Lost v now UpdateLoss (erased_view v kept) (Some (Tell.Clear level.tau level.oid))
  -- lost by an update, and all entries are at one reflected level, which another node defined
  new_level_after_reflection : {after : View} {broadcast : Option Broadcast} (level : Level)
      → IsCommonLevel v level → level.r ≡ 1 → level.oid ≢ v.me → TakesNewLevel v now after broadcast
      → Lost v now UpdateLoss after broadcast

-- ---- the inputs of a node that is not the destination

-- the view after a link came up, with the neighbour's first entry
abbrev pub linked_view : View → ℕ → Option Quintuple → View
linked_view v k entry = record v { rows = with_row (link_row k entry) v.rows }

abbrev pub unlinked_view : View → ℕ → View
unlinked_view v k = record v { rows = without_row k v.rows }

abbrev pub updated_view : View → ℕ → Quintuple → View
updated_view v k height = record v { rows = with_entry k height v.rows }

-- the view after the entries at this level, except that of the destination, became NULL
abbrev pub cleared_view : View → Level → View
cleared_view v level = record v { rows = all_cleared v.destination level v.rows }

pub data ReactsElsewhere (v : View) (now : ℕ) : Input → View → Option Broadcast → Type 0 where
  -- a need
  need_asked : {d : ℕ} → KnowsNone v → v.flag ≡ false → ReactsElsewhere v now (In.Need d) (record v { flag = true })
      (Some Tell.Query)
  need_quiet : {d : ℕ} → KnowsSome v ⊎ (v.flag ≡ true) → ReactsElsewhere v now (In.Need d) v None
  -- a link to another neighbour than the destination comes up
  link_up_quiet : {k : ℕ} → k ≢ v.destination → v.flag ≡ false →
      ReactsElsewhere v now (In.LinkUp k) (linked_view v k None) None
  link_up_asked : {k : ℕ} → k ≢ v.destination → v.flag ≡ true → ReactsElsewhere v now (In.LinkUp k)
      (linked_view v k None) (Some Tell.Query)
  -- a link to the destination comes up
  destination_up_quiet : {k : ℕ} → k ≡ v.destination → v.flag ≡ false
      → ReactsElsewhere v now (In.LinkUp k) (linked_view v k (Some (destination_height k))) None
  destination_up_joined : {k : ℕ} {after : View} {broadcast : Option Broadcast} → k ≡ v.destination → v.flag ≡ true
      → Joins (linked_view v k (Some (destination_height k))) after broadcast
      → ReactsElsewhere v now (In.LinkUp k) after broadcast
  -- a link goes down
  link_down_quiet : {k : ℕ} → ¬ LacksDownstream (unlinked_view v k)
      → ReactsElsewhere v now (In.LinkDown k) (unlinked_view v k) None
  link_down_lost : {k : ℕ} {after : View} {broadcast : Option Broadcast} → LacksDownstream (unlinked_view v k)
      → Lost (unlinked_view v k) now LinkLoss after broadcast → ReactsElsewhere v now (In.LinkDown k) after broadcast
  -- a query, without a downstream neighbour or with one
  query_asked : {k d : ℕ} → HasNoDownstream v → v.flag ≡ false →
      ReactsElsewhere v now (In.Packet k (Qry d)) (record v { flag = true }) (Some Tell.Query)
  query_pending : {k d : ℕ} → HasNoDownstream v → v.flag ≡ true → ReactsElsewhere v now (In.Packet k (Qry d)) v None
  query_joined : {k d : ℕ} {after : View} {broadcast : Option Broadcast} → HasDownstream v → v.height ≡ None
      → Joins v after broadcast
      → ReactsElsewhere v now (In.Packet k (Qry d)) after broadcast
  query_answered : {k d : ℕ} (own : Quintuple) → HasDownstream v → v.height ≡ Some own → ¬ IsTold v k
      → ReactsElsewhere v now (In.Packet k (Qry d)) (record v { rows = all_told v.rows }) (Some (Tell.Update own))
  query_quiet : {k d : ℕ} → HasDownstream v → IsSome v.height → IsTold v k
      → ReactsElsewhere v now (In.Packet k (Qry d)) v None
  -- an update at the level that was erased last
  update_withdrawn : {k d : ℕ} {height : Quintuple} → IsOutdated v height → ¬ LacksDownstream (withdrawn_view v k)
      → ReactsElsewhere v now (In.Packet k (Upd (update_of d height))) (withdrawn_view v k) None
  update_withdrawn_lost : {k d : ℕ} {height : Quintuple} {after : View} {broadcast : Option Broadcast}
      → IsOutdated v height
      → LacksDownstream (withdrawn_view v k) → Lost (withdrawn_view v k) now LinkLoss after broadcast
      → ReactsElsewhere v now (In.Packet k (Upd (update_of d height))) after broadcast
  -- any other update, if a route is required or if none is
  update_joined : {k d : ℕ} {height : Quintuple} {after : View} {broadcast : Option Broadcast}
      → ¬ IsOutdated v height → v.flag ≡ true → Joins (updated_view v k height) after broadcast
      → ReactsElsewhere v now (In.Packet k (Upd (update_of d height))) after broadcast
  update_lost : {k d : ℕ} {height : Quintuple} {after : View} {broadcast : Option Broadcast}
      → ¬ IsOutdated v height → v.flag ≡ false → LacksDownstream (updated_view v k height)
      → Lost (updated_view v k height) now UpdateLoss after broadcast
      → ReactsElsewhere v now (In.Packet k (Upd (update_of d height))) after broadcast
  update_quiet : {k d : ℕ} {height : Quintuple} → ¬ IsOutdated v height → v.flag ≡ false
      → ¬ LacksDownstream (updated_view v k height)
      → ReactsElsewhere v now (In.Packet k (Upd (update_of d height))) (updated_view v k height) None
  -- a clear of the own level, or of another level
  clear_erased : {k d tau oid : ℕ} {u : View} {kept : Option Level} → HearsClear v k (cleared_level tau oid) u
      → IsOwnLevel u (cleared_level tau oid)
      → Keeps u (cleared_level tau oid) kept → ReactsElsewhere v now (In.Packet k (Clr (clear_of d tau oid)))
      (erased_view u kept) (Some (Tell.Clear tau oid))
  clear_lost : {k d tau oid : ℕ} {u after : View} {broadcast : Option Broadcast}
      → HearsClear v k (cleared_level tau oid) u → ¬ IsOwnLevel u (cleared_level tau oid)
      → LacksDownstream (cleared_view u (cleared_level tau oid))
      → Lost (cleared_view u (cleared_level tau oid)) now LinkLoss after broadcast
      → ReactsElsewhere v now (In.Packet k (Clr (clear_of d tau oid))) after broadcast
  clear_quiet : {k d tau oid : ℕ} {u : View} → HearsClear v k (cleared_level tau oid) u
      → ¬ IsOwnLevel u (cleared_level tau oid)
      → ¬ LacksDownstream (cleared_view u (cleared_level tau oid))
      → ReactsElsewhere v now (In.Packet k (Clr (clear_of d tau oid))) (cleared_view u (cleared_level tau oid)) None

-- ---- the inputs of the destination itself: only the set of rows changes, and every entry is NULL

pub data ReactsAtDestination (v : View) : Input → View → Option Broadcast → Type 0 where
  own_need : {d : ℕ} → ReactsAtDestination v (In.Need d) v None
  own_link_up : {k : ℕ} → ReactsAtDestination v (In.LinkUp k) (linked_view v k None) None
  own_link_down : {k : ℕ} → ReactsAtDestination v (In.LinkDown k) (unlinked_view v k) None
  own_packet : {k : ℕ} {packet : Packet} → ReactsAtDestination v (In.Packet k packet) v None

-- ---- the effect of an input that concerns the destination on a view at this tick, and its broadcast

pub data Reacts (v : View) (input : Input) (now : ℕ) (after : View) (broadcast : Option Broadcast) : Type 0 where
  elsewhere : v.me ≢ v.destination → ReactsElsewhere v now input after broadcast → Reacts v input now after broadcast
  at_destination : v.me ≡ v.destination → ReactsAtDestination v input after broadcast
      → Reacts v input now after broadcast

-- a packet comes from a neighbour whose link is up
abbrev pub IsFromUp : View → Input → Type 0
IsFromUp v (In.Need d) = Unit {0}
IsFromUp v (In.LinkUp k) = Unit {0}
IsFromUp v (In.LinkDown k) = Unit {0}
IsFromUp v (In.Packet k packet) = IsUp v k

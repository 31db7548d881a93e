-- The broadcasts of a core about a destination determine its height, or the core has none: each new height is broadcast
-- in an update to all neighbours whose links are up.
use Rattle.std.proofs.Common.{◌≡◌, ℕ, ◌<◌, Bool, true, false, ◌&&◌, ◌||◌, ◌⊎◌, inl, inr, List, [], ◌∷◌, ◌++◌, map, Option, Some, None, nat_eq, if◌then◌else◌, refl, sym, ap, ◌∙◌, subst, eqb-true, eq-eqb, append_assoc, append-nil, true≢false, arith}
use Rattle.tora_seat.specs.SeatLaws.{is_link_down}
use Rattle.std.proofs.lemmas.Bool.{cond_both, cases_Bool, false_from_ne_true}
use Rattle.std.specs.Prelude.{is_some, is_none, not, ◌==◌, find, filter_map, option_map, pos}
use Rattle.std.specs.List.{list_all, cons_option, AllByRecursion}
use Rattle.tora_height.specs.declared.level.Level.{Level}
use Rattle.tora_height.specs.Height.{Quintuple, quintuple, destination_height}
use Rattle.tora_packet.specs.declared.Packet.{Packet}
use Rattle.tora_packet.specs.declared.Packet.TheVariants.{Qry, Upd, Clr}
use Rattle.tora_packet.specs.AnyPacket.{destination_of}
use Rattle.tora_core.specs.declared.erasure.Erasure.{Erasure}
use Rattle.tora_core.specs.declared.Input.{Input}
use Rattle.tora_core.specs.declared.Input.TheVariants as In
use Rattle.tora_core.specs.declared.errors.StepError.{StepError}
use Rattle.tora_core.specs.declared.destination.Broadcast.{Broadcast}
use Rattle.tora_core.specs.declared.destination.Broadcast.TheVariants as Tell
use Rattle.tora_core.specs.Numbers.{has_number, IsAscending}
use Rattle.tora_core.specs.View.{View, known_heights, are_null, has_downstream, lacks_downstream, greatest_level, least_delta, is_at, is_told, is_entry_at, with_row, without_entry, without_row, with_entry, all_cleared}
use Rattle.tora_core.specs.Heights.{fresh_time, fitted_height}
use Rattle.tora_core.specs.Rules.{Outcome, silent, query_broadcast, update_broadcast_of, update_broadcast, joined_height, after_join, new_level_at, new_level, after_erase, below_delta, after_link_loss, after_update_loss_at, after_update_loss, on_link_up, on_link_down, link_row, cleared_level, hearing_clear, is_outdated, on_packet, outcome_elsewhere, outcome_at_destination, outcome_of, packet_of, packet_sent, view_after}
use Rattle.tora_core.specs.CoreRun.{CoreView, is_of, refusal_of, concerns, next_view, next_packet, core_after, core_taking, core_after_all, sends_of, view_of}
use Rattle.tora_core.specs.Kept.{destinations_of}
use Rattle.tora_world.specs.Gaps.{is_link_up, with_sends, broadcast_from}
use Rattle.tora_world.specs.Losses.{LosesQuietly, WasLost, takes_entry}
use Rattle.tora_world.specs.Losses.LosesQuietly.{clears_another_level, loses_last_entry, finds_no_height}
use Rattle.tora_world.specs.Layers.{CoreLaws}
use Rattle.tora_world.proofs.Cores.{core_after-push}
use Rattle.tora_world.proofs.LinksUp.{up_same, up_gone}

-- ---- one view

-- the broadcast after an input: an update has the new height; without one, the height is unchanged or NULL
abbrev Says : Option Quintuple → Option Quintuple → Option Broadcast → Type 0
Says own after None = (after ≡ own) ⊎ (after ≡ None)
Says own after (Some Tell.Query) = after ≡ own
Says own after (Some (Tell.Update height)) = after ≡ Some height
Says own after (Some (Tell.Clear tau oid)) = after ≡ None

record IsSaid (d : ℕ) (own : Option Quintuple) (o : Outcome) : Type 0 where
  destination : o.view.destination ≡ d
  says : Says own o.view.height o.broadcast

module _ (d : ℕ) (own : Option Quintuple) where
  abbrev Said : Outcome → Type 0
  Said o = IsSaid d own o

  silent_said : (v : View) → v.destination ≡ d → (v.height ≡ own) ⊎ (v.height ≡ None) → Said (silent v)
  silent_said v at h = record { destination = at; says = h }

  query_said : (v : View) → v.destination ≡ d → v.height ≡ own → Said (query_broadcast v)
  query_said v at h = record { destination = at; says = h }

  update_said : (v : View) → v.destination ≡ d → Said (update_broadcast v)
  update_said v at = go v.height refl
    where
      go : (o : Option Quintuple) → v.height ≡ o → Said (update_broadcast_of v o)
      go None e = record { destination = at; says = inr e }
      go (Some h) e = record { destination = at; says = e }

  join_said : (v : View) → v.destination ≡ d → Said (after_join v)
  unfolding after_join
  join_said v at = update_said (record v { height = joined_height v; flag = false }) at

  new_level_said : (v : View) (now : ℕ) → v.destination ≡ d → Said (new_level v now)
  unfolding new_level
  new_level_said v now at = go (fitted_height (quintuple (fresh_time v now) v.me 0 (pos 0) v.me))
    where
      go : (o : Option Quintuple) → Said (new_level_at v (fresh_time v now) o)
      go None = record { destination = at; says = inr refl }
      go (Some h) = update_said (record v { height = Some h; last = fresh_time v now }) at

  erase_said : (v : View) (tau oid : ℕ) → v.destination ≡ d → Said (after_erase v tau oid)
  unfolding after_erase
  erase_said v tau oid at = record { destination = at; says = refl }

  link_loss_said : (v : View) (now : ℕ) → v.destination ≡ d → Said (after_link_loss v now)
  unfolding after_link_loss
  link_loss_said v now at = cond_both (are_null v.rows) _ _ Said (λ _. record { destination = at; says = inr refl }) (λ _. new_level_said v now at)

  update_loss_said : (v : View) (now : ℕ) → v.destination ≡ d → Said (after_update_loss v now)
  unfolding after_update_loss
  update_loss_said v now at = go (greatest_level (known_heights v))
    where
      go : (o : Option Level) → Said (after_update_loss_at v now o)
      go None = record { destination = at; says = inr refl }
      go (Some level) =
          cond_both (not (list_all (is_at level) (known_heights v))) _ _ Said
          (λ _. update_said (record v { height = below_delta v.me level (least_delta level (known_heights v)) }) at)
          (λ _. cond_both (level.r == 0) _ _ Said
          (λ _. update_said (record v { height = Some (quintuple level.tau level.oid 1 (pos 0) v.me) }) at)
          (λ _. cond_both (level.oid == v.me) _ _ Said (λ _. erase_said v level.tau level.oid at) (λ _. new_level_said v now at)))

  module _ (v : View) (at : v.destination ≡ d) (h : v.height ≡ own) where
    packet_said : (k : ℕ) (packet : Packet) (now : ℕ) → Said (on_packet v k packet now)
    packet_said k (Qry q) now =
        cond_both (not (has_downstream v)) _ _ Said
        (λ _. cond_both (not v.flag) _ _ Said (λ _. query_said v at h) (λ _. silent_said v at (inl h)))
        (λ _. cond_both (is_none v.height) _ _ Said (λ _. join_said v at)
        (λ _. cond_both (not (is_told k v.rows)) _ _ Said (λ _. update_said v at) (λ _. silent_said v at (inl h))))
    packet_said k (Upd told) now =
        let u : View = record v { rows = without_entry v.destination k v.rows } in
        let w : View = record v { rows = with_entry k told.height v.rows } in
        cond_both (is_outdated v told.height) _ _ Said
        (λ _. cond_both (lacks_downstream u) _ _ Said (λ _. link_loss_said u now at) (λ _. silent_said u at (inl h)))
        (λ _. cond_both v.flag _ _ Said (λ _. join_said w at) (λ _. cond_both (lacks_downstream w) _ _ Said (λ _. update_loss_said w now at) (λ _. silent_said w at (inl h))))
    packet_said k (Clr c) now =
        let level : Level = cleared_level c.tau c.oid in
        let u : View = hearing_clear v k level in
        let w : View = record u { rows = all_cleared v.destination level u.rows } in
        cond_both (is_entry_at level v.height) _ _ Said (λ _. erase_said u level.tau level.oid at)
        (λ _. cond_both (lacks_downstream w) _ _ Said (λ _. link_loss_said w now at) (λ _. silent_said w at (inl h)))

    link_up_said : (k : ℕ) → Said (on_link_up v k)
    link_up_said k =
        cond_both (k == v.destination) _ _ Said
        (λ _. let w : View = record v { rows = with_row (link_row k (Some (destination_height k))) v.rows } in
        cond_both v.flag _ _ Said (λ _. join_said w at) (λ _. silent_said w at (inl h)))
        (λ _. let w : View = record v { rows = with_row (link_row k None) v.rows } in
        cond_both v.flag _ _ Said (λ _. query_said w at h) (λ _. silent_said w at (inl h)))

    link_down_said : (k now : ℕ) → Said (on_link_down v k now)
    link_down_said k now =
        let w : View = record v { rows = without_row k v.rows } in
        cond_both (lacks_downstream w) _ _ Said (λ _. link_loss_said w now at) (λ _. silent_said w at (inl h))

    elsewhere_said : (input : Input) (now : ℕ) → Said (outcome_elsewhere v input now)
    elsewhere_said (In.Need m) now = cond_both (are_null v.rows && not v.flag) _ _ Said (λ _. query_said v at h) (λ _. silent_said v at (inl h))
    elsewhere_said (In.LinkUp k) now = link_up_said k
    elsewhere_said (In.LinkDown k) now = link_down_said k now
    elsewhere_said (In.Packet k packet) now = packet_said k packet now

    at_destination_said : (input : Input) → Said (outcome_at_destination v input)
    at_destination_said (In.Need m) = silent_said v at (inl h)
    at_destination_said (In.LinkUp k) = silent_said (record v { rows = with_row (link_row k None) v.rows }) at (inl h)
    at_destination_said (In.LinkDown k) = silent_said (record v { rows = without_row k v.rows }) at (inl h)
    at_destination_said (In.Packet k packet) = silent_said v at (inl h)

    outcome_said : (input : Input) (now : ℕ) → Said (outcome_of v input now)
    outcome_said input now = cond_both (v.me == v.destination) _ _ Said (λ _. at_destination_said input) (λ _. elsewhere_said input now)

pub destination_kept : (v : View) (input : Input) (now : ℕ) → (next_view input now v).destination ≡ v.destination
destination_kept v input now =
    cond_both (concerns input v.destination) (view_after v input now) v (λ (x : View). x.destination ≡ v.destination) (λ _. (outcome_said v.destination v.height v refl refl input now).destination) (λ _. refl)

-- an input leaves the destinations as they are
destinations_stay : (input : Input) (now : ℕ) (views : List View) → destinations_of (map (next_view input now) views) ≡ destinations_of views
destinations_stay input now [] = refl
destinations_stay input now (v ∷ views) = ap (λ n. n ∷ destinations_of (map (next_view input now) views)) (destination_kept v input now) ∙ ap (λ ns. v.destination ∷ ns) (destinations_stay input now views)

pub destinations_after : (c : CoreView) (inputs : List (Input × ℕ)) → destinations_of (core_after_all c inputs).views ≡ destinations_of c.views
destinations_after c [] = refl
destinations_after c ((input, now) ∷ inputs) =
    destinations_after (core_after c input now) inputs
    ∙ cond_both (is_some (refusal_of c input)) c (core_taking c input now) (λ (x : CoreView). destinations_of x.views ≡ destinations_of c.views) (λ _. refl) (λ _. destinations_stay input now c.views)

-- a table has views of exactly its destinations
some_view : (d : ℕ) (views : List View) → is_some (find (is_of d) views) ≡ has_number d (destinations_of views)
some_view d [] = refl
some_view d (v ∷ views) = go (v.destination == d) (some_view d views)
  where
    go : (b : Bool) → is_some (find (is_of d) views) ≡ has_number d (destinations_of views) → is_some (if b then Some v else find (is_of d) views) ≡ (b || has_number d (destinations_of views))
    go true q = refl
    go false q = q

pub tables_alike : (d : ℕ) (c c' : CoreView) → destinations_of c.views ≡ destinations_of c'.views → is_some (view_of c d) ≡ is_some (view_of c' d)
tables_alike d c c' q = some_view d c.views ∙ ap (has_number d) q ∙ sym (some_view d c'.views)

sent_of : (v : View) (input : Input) (now : ℕ) (p : Packet) → next_packet input now v ≡ Some p → destination_of p ≡ v.destination
sent_of v input now p e = pick (concerns input v.destination) e
  where
    of_broadcast : (o : Option Broadcast) → option_map (packet_of v.destination) o ≡ Some p → destination_of p ≡ v.destination
    of_broadcast None q = absurd (cc)
    of_broadcast (Some Tell.Query) q = let y : packet_of v.destination Tell.Query ≡ p = cc in sym (ap destination_of y)
    of_broadcast (Some (Tell.Update height)) q = let y : packet_of v.destination (Tell.Update height) ≡ p = cc in sym (ap destination_of y)
    of_broadcast (Some (Tell.Clear tau oid)) q = let y : packet_of v.destination (Tell.Clear tau oid) ≡ p = cc in sym (ap destination_of y)

    pick : (b : Bool) → (if b then packet_sent v input now else None) ≡ Some p → destination_of p ≡ v.destination
    pick true q = of_broadcast (outcome_of v input now).broadcast q
    pick false q = absurd (cc)

-- ---- all views of a core

-- none of these views has the destination
abbrev AreOthers : ℕ → List View → Type 0
AreOthers d views = AllByRecursion (λ (v : View). (d == v.destination) ≡ false) views

above_others : (d : ℕ) (x : View) (views : List View) → AllByRecursion (λ (m : ℕ). x.destination < m) (destinations_of views) → x.destination ≡ d → AreOthers d views
above_others d x [] all e = tt
above_others d x (v ∷ views) all e = (false_from_ne_true (nat_eq d v.destination) (λ t. let q = eqb-true d v.destination t in let less = all.0 in absurd (omega (arith, q, e, less))), above_others d x views all.1 e)

-- packets about other destinations do not change the entry for this one
-- ---- at a neighbour with this treatment of erased levels

module _ (choice : Erasure) where
  -- ---- the height in packets

  -- the entry after a packet: an update of this destination sets it, and a clear erases it if it is at the level
  abbrev pub heard_in : ℕ → Option Quintuple → Packet → Option Quintuple
  heard_in d e (Qry q) = e
  heard_in d e (Upd u) = if d == u.destination then Some u.height else e
  heard_in d e (Clr c) = if (d == c.destination) && takes_entry choice (cleared_level c.tau c.oid) e then None else e

  abbrev pub heard : ℕ → Option Quintuple → List Packet → Option Quintuple
  heard d e [] = e
  heard d e (packet ∷ packets) = heard d (heard_in d e packet) packets

  pub heard-append : (d : ℕ) (e : Option Quintuple) (ps qs : List Packet) → heard d e (ps ++ qs) ≡ heard d (heard d e ps) qs
  heard-append d e [] qs = refl
  heard-append d e (p ∷ ps) qs = heard-append d (heard_in d e p) ps qs

  -- a packet of another destination changes nothing
  pub heard_other : (d : ℕ) (e : Option Quintuple) (p : Packet) → (d == destination_of p) ≡ false → heard_in d e p ≡ e
  heard_other d e (Qry q) off = refl
  heard_other d e (Upd u) off = ap (λ (b : Bool). if b then Some u.height else e) off
  heard_other d e (Clr c) off = ap (λ (b : Bool). if b && takes_entry choice (cleared_level c.tau c.oid) e then None else e) off

  -- ---- the packets of one view

  -- the height is the one that was received, or there is none, for this reason
  abbrev pub IsHeard : (Quintuple → Type 0) → Option Quintuple → Option Quintuple → Type 0
  IsHeard Why None height = Unit {0}
  IsHeard Why (Some g) height = (height ≡ Some g) ⊎ ((height ≡ None) × Why g)

  abbrev heard_option : ℕ → Option Quintuple → Option Packet → Option Quintuple
  heard_option d e None = e
  heard_option d e (Some p) = heard_in d e p

  -- one view after an input; the earlier reasons still hold
  module _ (Why After : Quintuple → Type 0) (later : (g : Quintuple) → Why g → After g) where
    same_heard : (e own after : Option Quintuple) → after ≡ own → IsHeard Why e own → IsHeard After e after
    same_heard None own after q h = tt
    same_heard (Some g) own after q (inl is) = inl (q ∙ is)
    same_heard (Some g) own after q (inr is) = inr (q ∙ is.0, later g is.1)

    none_heard : (e own after : Option Quintuple) → after ≡ None → ((g : Quintuple) → own ≡ Some g → After g) → IsHeard Why e own → IsHeard After e after
    none_heard None own after q loses h = tt
    none_heard (Some g) own after q loses (inl is) = inr (q, loses g is)
    none_heard (Some g) own after q loses (inr is) = inr (q, later g is.1)

    module _ (v : View) (input : Input) (now : ℕ) (loses : (g : Quintuple) → v.height ≡ Some g → LosesQuietly choice v input now g → After g) where
      silent_loss : (outcome_of v input now).broadcast ≡ None → (view_after v input now).height ≡ None → (xs : List Quintuple) → known_heights (view_after v input now) ≡ xs → (g : Quintuple) → LosesQuietly choice v input now g
      silent_loss b q [] known g = loses_last_entry b q known
      silent_loss b q (x ∷ xs) known g = finds_no_height b q (λ (f : known_heights (view_after v input now) ≡ []). let z : x ∷ xs ≡ [] = sym known ∙ f in absurd (cc))

      cleared_heard : (d : ℕ) (e : Option Quintuple) (tau oid : ℕ) (after : Option Quintuple) → (outcome_of v input now).broadcast ≡ Some (Tell.Clear tau oid) → after ≡ None → IsHeard Why e v.height → IsHeard After (if (d == d) && takes_entry choice (cleared_level tau oid) e then None else e) after
      cleared_heard d None tau oid after b q h = go ((d == d) && takes_entry choice (cleared_level tau oid) None)
        where
          go : (x : Bool) → IsHeard After (if x then None else None) after
          go true = tt
          go false = tt
      cleared_heard d (Some g) tau oid after b q h = subst (λ (x : Bool). IsHeard After (if x && takes_entry choice (cleared_level tau oid) (Some g) then None else Some g) after) (sym (eq-eqb d d refl)) (go (takes_entry choice (cleared_level tau oid) (Some g)) refl)
        where
          go : (x : Bool) → takes_entry choice (cleared_level tau oid) (Some g) ≡ x → IsHeard After (if true && x then None else Some g) after
          go true f = tt
          go false f = none_heard (Some g) v.height after q (λ j is. loses j is (clears_another_level tau oid b (same j is f))) h
            where
              -- the height that is lost is the one that was received
              same : (j : Quintuple) → v.height ≡ Some j → takes_entry choice (cleared_level tau oid) (Some g) ≡ false → takes_entry choice (cleared_level tau oid) (Some j) ≡ false
              same j is f = of_heard h
                where
                  of_heard : IsHeard Why (Some g) v.height → takes_entry choice (cleared_level tau oid) (Some j) ≡ false
                  of_heard (inl q) = let z : Some j ≡ Some g = sym is ∙ q in ap (takes_entry choice (cleared_level tau oid)) z ∙ f
                  of_heard (inr q) = absurd (let z : Some j ≡ None = sym is ∙ q.0 in cc)

      said_heard : (d : ℕ) (e : Option Quintuple) (o : Option Broadcast) → (outcome_of v input now).broadcast ≡ o → Says v.height (view_after v input now).height o → IsHeard Why e v.height →
          IsHeard After (heard_option d e (option_map (packet_of d) o)) (view_after v input now).height
      said_heard d e None b (inl q) h = same_heard e v.height (view_after v input now).height q h
      said_heard d e None b (inr q) h = none_heard e v.height (view_after v input now).height q (λ g is. loses g is (silent_loss b q (known_heights (view_after v input now)) refl g)) h
      said_heard d e (Some Tell.Query) b s h = same_heard e v.height (view_after v input now).height s h
      said_heard d e (Some (Tell.Update height)) b s h = subst (λ (x : Bool). IsHeard After (if x then Some height else e) (view_after v input now).height) (sym (eq-eqb d d refl)) (inl s)
      said_heard d e (Some (Tell.Clear tau oid)) b s h = cleared_heard d e tau oid (view_after v input now).height b s h

      next_is : (d : ℕ) (e : Option Quintuple) → v.destination ≡ d → IsHeard Why e v.height → IsHeard After (heard_option d e (next_packet input now v)) (next_view input now v).height
      next_is d e at h = go (cases_Bool (concerns input v.destination))
        where
          said : IsHeard After (heard_option d e (packet_sent v input now)) (view_after v input now).height
          said = subst (λ x. IsHeard After (heard_option d e (option_map (packet_of x) (outcome_of v input now).broadcast)) (view_after v input now).height) (sym at)
              (said_heard d e (outcome_of v input now).broadcast refl (outcome_said d v.height v at refl input now).says h)

          go : (concerns input v.destination ≡ true) ⊎ (concerns input v.destination ≡ false) → IsHeard After (heard_option d e (next_packet input now v)) (next_view input now v).height
          go (inl c) = subst (λ (b : Bool). IsHeard After (heard_option d e (if b then packet_sent v input now else None)) (if b then view_after v input now else v).height) (sym c) said
          go (inr c) = subst (λ (b : Bool). IsHeard After (heard_option d e (if b then packet_sent v input now else None)) (if b then view_after v input now else v).height) (sym c) (same_heard e v.height v.height refl h)

  -- the packet of a view is about its destination
  others_silent : (d : ℕ) (e : Option Quintuple) (input : Input) (now : ℕ) (views : List View) → AreOthers d views → heard d e (filter_map (next_packet input now) views) ≡ e
  others_silent d e input now [] all = refl
  others_silent d e input now (v ∷ views) all = go (next_packet input now v) refl (others_silent d e input now views all.1)
    where
      go : (o : Option Packet) → next_packet input now v ≡ o → heard d e (filter_map (next_packet input now) views) ≡ e → heard d e (cons_option o (filter_map (next_packet input now) views)) ≡ e
      go None q rest = rest
      go (Some p) q rest = ap (λ x. heard d x (filter_map (next_packet input now) views)) (heard_other d e p (ap (nat_eq d) (sent_of v input now p q) ∙ all.0)) ∙ rest

  module _ (Why After : Quintuple → Type 0) (later : (g : Quintuple) → Why g → After g) where
    -- the view of the destination among views, after an input
    abbrev FoundNext : ℕ → Option Quintuple → Input → ℕ → List View → Option View → Type 0
    FoundNext d e input now views None = Unit {0}
    FoundNext d e input now views (Some v') =
        (v : View) × (find (is_of d) views ≡ Some v) × (((g : Quintuple) → v.height ≡ Some g → LosesQuietly choice v input now g → After g) → IsHeard Why e v.height → IsHeard After (heard d e (filter_map (next_packet input now) views)) v'.height)

    found_next : (d : ℕ) (e : Option Quintuple) (input : Input) (now : ℕ) (views : List View) → IsAscending (destinations_of views) → FoundNext d e input now views (find (is_of d) (map (next_view input now) views))
    found_next d e input now [] up = tt
    found_next d e input now (v ∷ views) up = go (cases_Bool (v.destination == d)) (found_next d e input now views up.1)
      where
        stays : (next_view input now v).destination ≡ v.destination
        stays = destination_kept v input now

        head : (is_of d v ≡ true) → FoundNext d e input now (v ∷ views) (Some (next_view input now v))
        head t =
            let at : v.destination ≡ d = eqb-true v.destination d t in
            let rest : heard d (heard_option d e (next_packet input now v)) (filter_map (next_packet input now) views) ≡ heard_option d e (next_packet input now v) =
            others_silent d (heard_option d e (next_packet input now v)) input now views (above_others d v views up.0 at) in (
              v,
              ap (λ (b : Bool). if b then Some v else find (is_of d) views) t,
              λ loses h. subst (λ x. IsHeard After x (next_view input now v).height) (sym (first (next_packet input now v) ∙ rest)) (next_is Why After later v input now loses d e at h),
            )
          where
            first : (o : Option Packet) → heard d e (cons_option o (filter_map (next_packet input now) views)) ≡ heard d (heard_option d e o) (filter_map (next_packet input now) views)
            first None = refl
            first (Some p) = refl

        skip : (v.destination == d) ≡ false → heard d e (filter_map (next_packet input now) (v ∷ views)) ≡ heard d e (filter_map (next_packet input now) views)
        skip f = one (next_packet input now v) refl
          where
            one : (o : Option Packet) → next_packet input now v ≡ o → heard d e (cons_option o (filter_map (next_packet input now) views)) ≡ heard d e (filter_map (next_packet input now) views)
            one None q = refl
            one (Some p) q = ap (λ x. heard d x (filter_map (next_packet input now) views)) (heard_other d e p (ap (nat_eq d) (sent_of v input now p q)
                ∙ false_from_ne_true (nat_eq d v.destination) (λ t. true≢false (sym (turn (eqb-true d v.destination t)) ∙ f))))
              where
                turn : d ≡ v.destination → nat_eq v.destination d ≡ true
                turn q = eq-eqb v.destination d (sym q)

        tail : (v.destination == d) ≡ false → (o : Option View) → FoundNext d e input now views o → FoundNext d e input now (v ∷ views) o
        tail f None n = tt
        tail f (Some v') n = (
          n.0,
          ap (λ (b : Bool). if b then Some v else find (is_of d) views) f ∙ n.1,
          λ loses h. subst (λ x. IsHeard After x v'.height) (sym (skip f)) (n.2 loses h),
        )

        go : ((v.destination == d) ≡ true) ⊎ ((v.destination == d) ≡ false) → FoundNext d e input now views (find (is_of d) (map (next_view input now) views)) →
            FoundNext d e input now (v ∷ views) (find (is_of d) (map (next_view input now) (v ∷ views)))
        go (inl t) rest = subst (λ (o : Option View). FoundNext d e input now (v ∷ views) o) (sym (ap (λ (b : Bool). if b then Some (next_view input now v) else find (is_of d) (map (next_view input now) views)) (ap (λ x. x == d) stays ∙ t))) (head t)
        go (inr f) rest =
            subst (λ (o : Option View). FoundNext d e input now (v ∷ views) o) (sym (ap (λ (b : Bool). if b then Some (next_view input now v) else find (is_of d) (map (next_view input now) views)) (ap (λ x. x == d) stays ∙ f)))
            (tail f (find (is_of d) (map (next_view input now) views)) rest)

  -- ---- a core over inputs

  -- the height for the destination is the last one in these packets, or there is none, for this reason
  abbrev pub IsTold : (Quintuple → Type 0) → ℕ → CoreView → List Packet → Type 0
  IsTold Why d c ps = (v : View) → view_of c d ≡ Some v → IsHeard Why (heard d None ps) v.height

  -- the input that lost a height stays among the inputs
  lost_later : (first : CoreView) (is js : List (Input × ℕ)) (d : ℕ) (g : Quintuple) → WasLost choice first is d g → WasLost choice first (is ++ js) d g
  lost_later first is js d g h = record {
    before = h.before;
    input = h.input;
    now = h.now;
    after = h.after ++ js;
    split = ap (λ xs. xs ++ js) h.split ∙ append_assoc h.before ((h.input, h.now) ∷ h.after) js;
    view = h.view;
    found = h.found;
    had = h.had;
    loses = h.loses;
  }

  module _ (cores : CoreLaws) (first : CoreView) (d k : ℕ) where
    abbrev Lost : List (Input × ℕ) → Quintuple → Type 0
    Lost inputs g = WasLost choice first inputs d g

    -- the invariant of a core after these inputs, for one neighbour whose link is up
    record Telling (inputs : List (Input × ℕ)) (c : CoreView) (ps : List Packet) : Type 0 where
      made : c ≡ core_after_all first inputs
      ascending : IsAscending (destinations_of c.views)
      told : has_number k c.up ≡ true → IsTold (Lost inputs) d c ps

    step_told : (done : List (Input × ℕ)) (c : CoreView) (input : Input) (now : ℕ) (e : Option Quintuple) → c ≡ core_after_all first done → refusal_of c input ≡ None → IsAscending (destinations_of c.views) →
        ((v : View) → view_of c d ≡ Some v → IsHeard (Lost done) e v.height) →
        (v' : View) → view_of (core_after c input now) d ≡ Some v' → IsHeard (Lost (done ++ (input, now) ∷ [])) (heard d e (sends_of c input now)) v'.height
    step_told done c input now e made ok up h v' found =
        let taking : core_after c input now ≡ core_taking c input now = ap (λ (o : Option StepError). if is_some o then c else core_taking c input now) ok in
        let sends : sends_of c input now ≡ filter_map (next_packet input now) c.views = ap (λ (o : Option StepError). if is_some o then [] else filter_map (next_packet input now) c.views) ok in
        let here : find (is_of d) (map (next_view input now) c.views) ≡ Some v' = sym (ap (λ (x : CoreView). view_of x d) taking) ∙ found in
        let more : (g : Quintuple) → Lost done g → Lost (done ++ (input, now) ∷ []) g = λ g l. lost_later first done ((input, now) ∷ []) d g l in
        let n : FoundNext (Lost done) (Lost (done ++ (input, now) ∷ [])) more d e input now c.views (Some v') =
        subst (λ (o : Option View). FoundNext (Lost done) (Lost (done ++ (input, now) ∷ [])) more d e input now c.views o) here (found_next (Lost done) (Lost (done ++ (input, now) ∷ [])) more d e input now c.views up) in
        let loses : (g : Quintuple) → n.0.height ≡ Some g → LosesQuietly choice n.0 input now g → Lost (done ++ (input, now) ∷ []) g =
        λ g had l. record { before = done; input = input; now = now; after = []; split = refl; view = n.0; found = ap (λ (x : CoreView). view_of x d) (sym made) ∙ n.1; had = had; loses = l } in
        subst (λ xs. IsHeard (Lost (done ++ (input, now) ∷ [])) (heard d e xs) v'.height) (sym sends) (n.2 loses (h n.0 n.1))

    made_more : (done : List (Input × ℕ)) (c : CoreView) (input : Input) (now : ℕ) → c ≡ core_after_all first done → core_after c input now ≡ core_after_all first (done ++ (input, now) ∷ [])
    made_more done c input now made = ap (λ x. core_after x input now) made ∙ sym (core_after-push first done input now)

    -- an input that is accepted
    accepted_tells : (done : List (Input × ℕ)) (c : CoreView) (input : Input) (now : ℕ) (ps : List Packet) → refusal_of c input ≡ None → Telling done c ps → Telling (done ++ (input, now) ∷ []) (core_after c input now) (with_sends k c input now ps)
    accepted_tells done c input now ps ok h = record {
      made = made_more done c input now h.made;
      ascending = subst IsAscending (sym (ap (λ (x : CoreView). destinations_of x.views) (ap (λ (o : Option StepError). if is_some o then c else core_taking c input now) ok) ∙ destinations_stay input now c.views)) h.ascending;
      told = λ on. by (cases_Bool (is_link_up k input)) on;
    }
      where
        by : (is_link_up k input ≡ true) ⊎ (is_link_up k input ≡ false) → has_number k (core_after c input now).up ≡ true → IsTold (Lost (done ++ (input, now) ∷ [])) d (core_after c input now) (with_sends k c input now ps)
        by (inl t) on =
            subst (λ (b : Bool). IsTold (Lost (done ++ (input, now) ∷ [])) d (core_after c input now) (if b then sends_of c input now else if has_number k (core_after c input now).up then ps ++ sends_of c input now else ps)) (sym t)
            (step_told done c input now None h.made ok h.ascending (λ v e. tt))
        by (inr f) on =
            subst (λ (b : Bool). IsTold (Lost (done ++ (input, now) ∷ [])) d (core_after c input now) (if b then sends_of c input now else if has_number k (core_after c input now).up then ps ++ sends_of c input now else ps)) (sym f)
            (subst (λ (b : Bool). IsTold (Lost (done ++ (input, now) ∷ [])) d (core_after c input now) (if b then ps ++ sends_of c input now else ps)) (sym on)
            (λ v' found. subst (λ x. IsHeard (Lost (done ++ (input, now) ∷ [])) x v'.height) (sym (heard-append d None ps (sends_of c input now)))
            (step_told done c input now (heard d None ps) h.made ok h.ascending (h.told (before (cases_Bool (is_link_down k input)))) v' found)))
          where
            before : (is_link_down k input ≡ true) ⊎ (is_link_down k input ≡ false) → has_number k c.up ≡ true
            before (inl t) = absurd (true≢false (sym on ∙ up_gone cores k c input now ok t))
            before (inr g) = sym (up_same cores k c input now f g) ∙ on

    -- a refused input changes nothing
    refused_tells : (done : List (Input × ℕ)) (c : CoreView) (input : Input) (now : ℕ) (ps : List Packet) (error : StepError) → refusal_of c input ≡ Some error → Telling done c ps → Telling (done ++ (input, now) ∷ []) (core_after c input now) (with_sends k c input now ps)
    refused_tells done c input now ps error refused h =
        let same : core_after c input now ≡ c = ap (λ (o : Option StepError). if is_some o then c else core_taking c input now) refused in
        let none : sends_of c input now ≡ [] = ap (λ (o : Option StepError). if is_some o then [] else filter_map (next_packet input now) c.views) refused in
        record {
          made = made_more done c input now h.made;
          ascending = subst (λ (x : CoreView). IsAscending (destinations_of x.views)) (sym same) h.ascending;
          told = λ on v e. go same none (is_link_up k input) (has_number k (core_after c input now).up) (λ q. ap (λ (x : CoreView). has_number k x.up) (sym same) ∙ on) v (ap (λ (x : CoreView). view_of x d) (sym same) ∙ e);
        }
      where
        more : (g : Quintuple) → Lost done g → Lost (done ++ (input, now) ∷ []) g
        more g l = lost_later first done ((input, now) ∷ []) d g l

        kept : (e height : Option Quintuple) → IsHeard (Lost done) e height → IsHeard (Lost (done ++ (input, now) ∷ [])) e height
        kept e height h = same_heard (Lost done) (Lost (done ++ (input, now) ∷ [])) more e height height refl h

        go : core_after c input now ≡ c → sends_of c input now ≡ [] → (a b : Bool) → (Unit {0} → has_number k c.up ≡ true) → (v : View) → view_of c d ≡ Some v →
            IsHeard (Lost (done ++ (input, now) ∷ [])) (heard d None (if a then sends_of c input now else if b then ps ++ sends_of c input now else ps)) v.height
        go same none true b on v e = subst (λ xs. IsHeard (Lost (done ++ (input, now) ∷ [])) (heard d None xs) v.height) (sym none) tt
        go same none false true on v e =
            subst (λ x. IsHeard (Lost (done ++ (input, now) ∷ [])) x v.height) (sym (heard-append d None ps (sends_of c input now) ∙ ap (heard d (heard d None ps)) none)) (kept (heard d None ps) v.height (h.told (on tt) v e))
        go same none false false on v e = kept (heard d None ps) v.height (h.told (on tt) v e)

    run_tells : (done : List (Input × ℕ)) (c : CoreView) (inputs : List (Input × ℕ)) (ps : List Packet) → Telling done c ps → Telling (done ++ inputs) (core_after_all c inputs) (broadcast_from k c inputs ps)
    run_tells done c [] ps h = subst (λ is. Telling is c ps) (sym (append-nil done)) h
    run_tells done c ((input, now) ∷ inputs) ps h =
        subst (λ is. Telling is (core_after_all (core_after c input now) inputs) (broadcast_from k (core_after c input now) inputs (with_sends k c input now ps))) (append_assoc done ((input, now) ∷ []) inputs)
        (run_tells (done ++ (input, now) ∷ []) (core_after c input now) inputs (with_sends k c input now ps) (go (refusal_of c input) refl))
      where
        go : (o : Option StepError) → refusal_of c input ≡ o → Telling (done ++ (input, now) ∷ []) (core_after c input now) (with_sends k c input now ps)
        go None ok = accepted_tells done c input now ps ok h
        go (Some error) refused = refused_tells done c input now ps error refused h

    -- from a core whose links are all down
    pub heights_told : (inputs : List (Input × ℕ)) → IsAscending (destinations_of first.views) → has_number k first.up ≡ false → has_number k (core_after_all first inputs).up ≡ true → IsTold (Lost inputs) d (core_after_all first inputs) (broadcast_from k first inputs [])
    heights_told inputs up off on = (run_tells [] first inputs [] (record { made = refl; ascending = up; told = λ x. absurd (true≢false (sym x ∙ off)) })).told on

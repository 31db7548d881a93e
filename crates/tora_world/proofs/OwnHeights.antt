-- An update that a core sends has the height of its own node.
use Rattle.std.proofs.Common.{◌≡◌, ℕ, Bool, true, false, List, [], ◌∷◌, map, Option, Some, None, refl, sym, subst, eq-eqb, eqb-true}
use Rattle.std.proofs.lemmas.Bool.{cond_both}
use Rattle.std.specs.Prelude.{is_some, is_none, not, ◌&&◌, ◌==◌, filter_map, option_map, ℤ, pos, if◌then◌else◌}
use Rattle.std.specs.List.{list_all, cons_option}
use Rattle.tora_height.specs.declared.height_error.HeightError.{HeightError}
use Rattle.tora_height.specs.declared.level.Level.{Level}
use Rattle.tora_height.specs.Height.{Quintuple, quintuple, destination_height, height_fault}
use Rattle.tora_packet.specs.declared.Packet.{Packet}
use Rattle.tora_packet.specs.declared.Packet.TheVariants.{Qry, Upd, Clr}
use Rattle.tora_core.specs.declared.erasure.Erasure.{Erasure}
use Rattle.tora_core.specs.declared.Input.{Input}
use Rattle.tora_core.specs.declared.Input.TheVariants as In
use Rattle.tora_core.specs.declared.destination.Broadcast.{Broadcast}
use Rattle.tora_core.specs.declared.destination.Broadcast.TheVariants as Tell
use Rattle.tora_core.specs.View.{View, first_view_of, known_heights, are_null, has_downstream, lacks_downstream, least_height, greatest_level, least_delta, is_at, is_told, is_entry_at, with_row, without_entry, without_row, with_entry, all_cleared}
use Rattle.tora_core.specs.Heights.{fresh_time, fitted_by, fitted_height}
use Rattle.tora_core.specs.Rules.{Outcome, silent, query_broadcast, update_broadcast_of, update_broadcast, joined_above, joined_height, after_join, new_level_at, new_level, after_erase, below_delta, after_link_loss, after_update_loss_at, after_update_loss, on_link_up, on_link_down, link_row, cleared_level, hearing_clear, is_outdated, on_packet, outcome_elsewhere, outcome_at_destination, outcome_of, packet_of, packet_sent, view_after}
use Rattle.tora_core.specs.CoreRun.{CoreView, is_from, refusal_of, concerns, next_view, next_packet, core_after, core_taking, sends_of}
use Rattle.tora_world.specs.Lists.{Each}

-- a height of this node, or NULL
abbrev pub IsOwn : ℕ → Option Quintuple → Type 0
IsOwn me None = Unit {0}
IsOwn me (Some height) = height.id ≡ me

pub record IsOwnView (me : ℕ) (v : View) : Type 0 where
  pub owner : v.me ≡ me
  pub height : IsOwn me v.height

abbrev TellsOwn : ℕ → Option Broadcast → Type 0
TellsOwn me None = Unit {0}
TellsOwn me (Some Tell.Query) = Unit {0}
TellsOwn me (Some (Tell.Update height)) = height.id ≡ me
TellsOwn me (Some (Tell.Clear tau oid)) = Unit {0}

record IsOwnOutcome (me : ℕ) (o : Outcome) : Type 0 where
  view : IsOwnView me o.view
  broadcast : TellsOwn me o.broadcast

fitted_own : (me : ℕ) (q : Quintuple) → q.id ≡ me → IsOwn me (fitted_height q)
fitted_own me q e = go (height_fault q)
  where
    go : (o : Option HeightError) → IsOwn me (fitted_by q o)
    go None = e
    go (Some x) = tt

module _ (me : ℕ) where
  abbrev Own : Outcome → Type 0
  Own o = IsOwnOutcome me o

  silent_own : (v : View) → IsOwnView me v → Own (silent v)
  silent_own v h = record { view = h; broadcast = tt }

  query_own : (v : View) → IsOwnView me v → Own (query_broadcast v)
  query_own v h = record { view = record { owner = h.owner; height = h.height }; broadcast = tt }

  update_of_own : (v : View) (o : Option Quintuple) → IsOwnView me v → IsOwn me o → Own (update_broadcast_of v o)
  update_of_own v None h e = silent_own v h
  update_of_own v (Some q) h e = record { view = record { owner = h.owner; height = h.height }; broadcast = e }

  update_own : (v : View) → IsOwnView me v → Own (update_broadcast v)
  update_own v h = update_of_own v v.height h h.height

  joined_own : (v : View) (o : Option Quintuple) → v.me ≡ me → IsOwn me (joined_above v.me o)
  joined_own v None e = tt
  joined_own v (Some low) e = fitted_own me _ e

  join_own : (v : View) → IsOwnView me v → Own (after_join v)
  unfolding after_join
  join_own v h = update_own (record v { height = joined_height v; flag = false }) (record { owner = h.owner; height = joined_own v (least_height (known_heights v)) h.owner })

  new_level_at_own : (v : View) (time : ℕ) (o : Option Quintuple) → v.me ≡ me → IsOwn me o → Own (new_level_at v time o)
  new_level_at_own v time None e h = record { view = record { owner = e; height = tt }; broadcast = tt }
  new_level_at_own v time (Some q) e h = update_own (record v { height = Some q; last = time }) (record { owner = e; height = h })

  new_level_own : (v : View) (now : ℕ) → v.me ≡ me → Own (new_level v now)
  unfolding new_level
  new_level_own v now e = new_level_at_own v (fresh_time v now) (fitted_height _) e (fitted_own me _ e)

  erase_own : (v : View) (tau oid : ℕ) → v.me ≡ me → Own (after_erase v tau oid)
  unfolding after_erase
  erase_own v tau oid e = record { view = record { owner = e; height = tt }; broadcast = tt }

  below_own : (v : View) (level : Level) (o : Option ℤ) → v.me ≡ me → IsOwn me (below_delta v.me level o)
  below_own v level None e = tt
  below_own v level (Some delta) e = fitted_own me _ e

  link_loss_own : (v : View) (now : ℕ) → v.me ≡ me → Own (after_link_loss v now)
  unfolding after_link_loss
  link_loss_own v now e = cond_both (are_null v.rows) _ _ Own (λ _. record { view = record { owner = e; height = tt }; broadcast = tt }) (λ _. new_level_own v now e)

  update_loss_own : (v : View) (now : ℕ) → v.me ≡ me → Own (after_update_loss v now)
  unfolding after_update_loss
  update_loss_own v now e = go (greatest_level (known_heights v))
    where
      go : (o : Option Level) → Own (after_update_loss_at v now o)
      go None = record { view = record { owner = e; height = tt }; broadcast = tt }
      go (Some level) =
          cond_both (not (list_all (is_at level) (known_heights v))) _ _ Own
          (λ _. update_own (record v { height = below_delta v.me level (least_delta level (known_heights v)) }) (record { owner = e; height = below_own v level (least_delta level (known_heights v)) e }))
          (λ _. cond_both (level.r == 0) _ _ Own
          (λ _. update_own (record v { height = Some (quintuple level.tau level.oid 1 (pos 0) v.me) }) (record { owner = e; height = e }))
          (λ _. cond_both (level.oid == v.me) _ _ Own (λ _. erase_own v level.tau level.oid e) (λ _. new_level_own v now e)))

  packet_own : (v : View) (k : ℕ) (packet : Packet) (now : ℕ) → IsOwnView me v → Own (on_packet v k packet now)
  packet_own v k (Qry d) now h =
      cond_both (not (has_downstream v)) _ _ Own
      (λ _. cond_both (not v.flag) _ _ Own (λ _. query_own v h) (λ _. silent_own v h))
      (λ _. cond_both (is_none v.height) _ _ Own (λ _. join_own v h)
      (λ _. cond_both (not (is_told k v.rows)) _ _ Own (λ _. update_own v h) (λ _. silent_own v h)))
  packet_own v k (Upd told) now h =
      let w : View = record v { rows = with_entry k told.height v.rows } in
      let hw : IsOwnView me w = record { owner = h.owner; height = h.height } in
      let u : View = record v { rows = without_entry v.destination k v.rows } in
      cond_both (is_outdated v told.height) _ _ Own
      (λ _. cond_both (lacks_downstream u) _ _ Own (λ _. link_loss_own u now h.owner) (λ _. silent_own u (record { owner = h.owner; height = h.height })))
      (λ _. cond_both v.flag _ _ Own (λ _. join_own w hw) (λ _. cond_both (lacks_downstream w) _ _ Own (λ _. update_loss_own w now h.owner) (λ _. silent_own w hw)))
  packet_own v k (Clr c) now h =
      let level : Level = cleared_level c.tau c.oid in
      let u : View = hearing_clear v k level in
      let w : View = record u { rows = all_cleared v.destination level u.rows } in
      cond_both (is_entry_at level v.height) _ _ Own (λ _. erase_own u level.tau level.oid h.owner)
      (λ _. cond_both (lacks_downstream w) _ _ Own (λ _. link_loss_own w now h.owner) (λ _. silent_own w (record { owner = h.owner; height = h.height })))

  link_up_own : (v : View) (k : ℕ) → IsOwnView me v → Own (on_link_up v k)
  link_up_own v k h =
      cond_both (k == v.destination) _ _ Own
      (λ _. let w : View = record v { rows = with_row (link_row k (Some (destination_height k))) v.rows } in let hw : IsOwnView me w = record { owner = h.owner; height = h.height } in
      cond_both v.flag _ _ Own (λ _. join_own w hw) (λ _. silent_own w hw))
      (λ _. let w : View = record v { rows = with_row (link_row k None) v.rows } in let hw : IsOwnView me w = record { owner = h.owner; height = h.height } in
      cond_both v.flag _ _ Own (λ _. query_own w hw) (λ _. silent_own w hw))

  link_down_own : (v : View) (k now : ℕ) → IsOwnView me v → Own (on_link_down v k now)
  link_down_own v k now h =
      let w : View = record v { rows = without_row k v.rows } in
      cond_both (lacks_downstream w) _ _ Own (λ _. link_loss_own w now h.owner) (λ _. silent_own w (record { owner = h.owner; height = h.height }))

  elsewhere_own : (v : View) (input : Input) (now : ℕ) → IsOwnView me v → Own (outcome_elsewhere v input now)
  elsewhere_own v (In.Need d) now h = cond_both (are_null v.rows && not v.flag) _ _ Own (λ _. query_own v h) (λ _. silent_own v h)
  elsewhere_own v (In.LinkUp k) now h = link_up_own v k h
  elsewhere_own v (In.LinkDown k) now h = link_down_own v k now h
  elsewhere_own v (In.Packet k packet) now h = packet_own v k packet now h

  at_destination_own : (v : View) (input : Input) → IsOwnView me v → Own (outcome_at_destination v input)
  at_destination_own v (In.Need d) h = silent_own v h
  at_destination_own v (In.LinkUp k) h = silent_own (record v { rows = with_row (link_row k None) v.rows }) (record { owner = h.owner; height = h.height })
  at_destination_own v (In.LinkDown k) h = silent_own (record v { rows = without_row k v.rows }) (record { owner = h.owner; height = h.height })
  at_destination_own v (In.Packet k packet) h = silent_own v h

  outcome_own : (v : View) (input : Input) (now : ℕ) → IsOwnView me v → Own (outcome_of v input now)
  outcome_own v input now h = cond_both (v.me == v.destination) _ _ Own (λ _. at_destination_own v input h) (λ _. elsewhere_own v input now h)

  -- a packet of this node
  abbrev pub IsSentBy : Packet → Type 0
  IsSentBy packet = is_from me packet ≡ true

  packet_is : (v : View) (input : Input) (now : ℕ) → IsOwnView me v → (packet : Packet) → packet_sent v input now ≡ Some packet → IsSentBy packet
  packet_is v input now h packet e = go (outcome_of v input now).broadcast (outcome_own v input now h).broadcast e
    where
      go : (o : Option Broadcast) → TellsOwn me o → option_map (packet_of v.destination) o ≡ Some packet → IsSentBy packet
      go None t q = absurd (cc)
      go (Some Tell.Query) t q = let y : Qry v.destination ≡ packet = cc in subst IsSentBy y refl
      go (Some (Tell.Update height)) t q = let y : packet_of v.destination (Tell.Update height) ≡ packet = cc in subst IsSentBy y (eq-eqb height.id me t)
      go (Some (Tell.Clear tau oid)) t q = let y : packet_of v.destination (Tell.Clear tau oid) ≡ packet = cc in subst IsSentBy y refl

  -- after an input, the views of a core still have only heights of its own node, and so have its packets
  pub views_own : (c : CoreView) (input : Input) (now : ℕ) → Each (IsOwnView me) c.views → Each (IsOwnView me) (core_after c input now).views
  views_own c input now h = cond_both (is_some (refusal_of c input)) c (core_taking c input now) (λ (x : CoreView). Each (IsOwnView me) x.views) (λ _. h) (λ _. go c.views h)
    where
      go : (vs : List View) → Each (IsOwnView me) vs → Each (IsOwnView me) (map (next_view input now) vs)
      go [] k = tt
      go (v ∷ vs) k = (cond_both (concerns input v.destination) (view_after v input now) v (IsOwnView me) (λ _. (outcome_own v input now k.0).view) (λ _. k.0), go vs k.1)

  pub sends_own : (c : CoreView) (input : Input) (now : ℕ) → Each (IsOwnView me) c.views → Each IsSentBy (sends_of c input now)
  sends_own c input now h = cond_both (is_some (refusal_of c input)) [] (filter_map (next_packet input now) c.views) (Each IsSentBy) (λ _. tt) (λ _. go c.views h)
    where
      add : (o : Option Packet) (ps : List Packet) → ((p : Packet) → o ≡ Some p → IsSentBy p) → Each IsSentBy ps → Each IsSentBy (cons_option o ps)
      add None ps f e = e
      add (Some p) ps f e = (f p refl, e)

      go : (vs : List View) → Each (IsOwnView me) vs → Each IsSentBy (filter_map (next_packet input now) vs)
      go [] k = tt
      go (v ∷ vs) k = add (next_packet input now v) (filter_map (next_packet input now) vs) (λ p e. one p e) (go vs k.1)
        where
          one : (p : Packet) → next_packet input now v ≡ Some p → IsSentBy p
          one p e = pick (concerns input v.destination) e
            where
              pick : (b : Bool) → (if b then packet_sent v input now else None) ≡ Some p → IsSentBy p
              pick true q = packet_is v input now k.0 p q
              pick false q = absurd (cc)

  pub first_own : (erasure : Erasure) (ds : List ℕ) → Each (IsOwnView me) (map (first_view_of erasure me) ds)
  first_own erasure [] = tt
  first_own erasure (d ∷ ds) = (record { owner = refl; height = cond_both (me == d) (Some (destination_height d)) None (IsOwn me) (λ e. sym (eqb-true me d e)) (λ _. tt) }, first_own erasure ds)

-- An entry is NULL, or what the packets say that were received from its neighbour since the link came up.
use Rattle.std.proofs.Common.{◌≡◌, ◌≢◌, ℕ, Bool, true, false, true≢false, ◌&&◌, ◌⊎◌, inl, inr, ⊎_elim, List, [], ◌∷◌, ◌++◌, map, Option, Some, None, nat_eq, if◌then◌else◌, refl, sym, ap, ◌∙◌, subst, eqb-true, eq-eqb}
use Rattle.std.proofs.lemmas.Bool.{cond_both, cases_Bool, false_from_ne_true}
use Rattle.std.specs.Prelude.{is_some, is_none, not, ◌==◌, find, option_map, option_and_then, pos}
use Rattle.std.specs.List.{list_all, AllByRecursion}
use Rattle.tora_height.specs.declared.level.Level.{Level}
use Rattle.tora_height.specs.Height.{Quintuple, quintuple, destination_height}
use Rattle.tora_packet.specs.declared.Packet.{Packet}
use Rattle.tora_packet.specs.declared.Packet.TheVariants.{Qry, Upd, Clr}
use Rattle.tora_packet.specs.AnyPacket.{destination_of}
use Rattle.tora_core.specs.declared.erasure.Erasure.{Erasure}
use Rattle.tora_core.specs.declared.erasure.Erasure.TheVariants.{Plain, Remembered}
use Rattle.tora_core.specs.declared.Input.{Input}
use Rattle.tora_core.specs.declared.Input.TheVariants as In
use Rattle.tora_core.specs.declared.rows.Row.{Row}
use Rattle.tora_core.specs.declared.errors.StepError.{StepError}
use Rattle.tora_core.specs.Numbers.{has_number, ascending}
use Rattle.tora_core.specs.View.{View, first_view_of, known_heights, are_null, has_downstream, lacks_downstream, greatest_level, least_delta, is_at, is_told, is_entry_at, with_row, without_row, row_with_entry, with_entry, told_row, all_told, erased_row, all_erased, cleared_row, all_cleared, untold_row, withdrawn_row, without_entry, without_told}
use Rattle.tora_core.specs.Heights.{fresh_time, fitted_height}
use Rattle.tora_core.specs.Rules.{Outcome, query_broadcast, update_broadcast_of, update_broadcast, joined_height, after_join, new_level_at, new_level, after_erase, below_delta, after_link_loss, after_update_loss_at, after_update_loss, on_need, on_link_up, on_link_down, on_query, on_update, on_clear, link_row, cleared_level, hearing_clear, is_outdated, rows_behind_clear, outcome_elsewhere, outcome_at_destination, outcome_of, view_after}
use Rattle.tora_core.specs.CoreRun.{CoreView, is_of, refusal_of, next_view, core_after, core_taking, core_after_all, first_core_of, view_of, entry_in, entry_of}
use Rattle.tora_world.specs.Losses.{takes_entry}
use Rattle.tora_world.specs.Layers.{CoreLaws}
use Rattle.tora_world.proofs.Received.{with_received, received_from}
use Rattle.tora_world.proofs.ToldHeights.{heard_in, heard, heard-append, heard_other, destination_kept}

-- ---- rows

-- a row of neighbour k exists only while its link is up, and its entry is NULL or this height
abbrev pub IsHeardRow : ℕ → Bool → Option Quintuple → Row → Type 0
IsHeardRow k up e row = row.neighbour ≡ k → (up ≡ true) × ((row.entry ≡ None) ⊎ (row.entry ≡ e))

abbrev pub AreHeardRows : ℕ → Bool → Option Quintuple → List Row → Type 0
AreHeardRows k up e rows = AllByRecursion (IsHeardRow k up e) rows

all_map : (P Q : Row → Type 0) (f : Row → Row) → ((row : Row) → P row → Q (f row)) → (rows : List Row) → AllByRecursion P rows → AllByRecursion Q (map f rows)
all_map P Q f g [] all = tt
all_map P Q f g (row ∷ rows) all = (g row all.0, all_map P Q f g rows all.1)

all_same : (P Q : Row → Type 0) → ((row : Row) → P row → Q row) → (rows : List Row) → AllByRecursion P rows → AllByRecursion Q rows
all_same P Q g [] all = tt
all_same P Q g (row ∷ rows) all = (g row all.0, all_same P Q g rows all.1)

all_with_row : (P : Row → Type 0) (new : Row) (rows : List Row) → P new → AllByRecursion P rows → AllByRecursion P (with_row new rows)
all_with_row P new [] p all = (p, tt)
all_with_row P new (row ∷ rows) p all =
    cond_both _ (new ∷ row ∷ rows) (row ∷ with_row new rows) (AllByRecursion P) (λ _. (p, all)) (λ _. (all.0, all_with_row P new rows p all.1))

all_filter : (P : Row → Type 0) (j : ℕ) (rows : List Row) → AllByRecursion P rows → AllByRecursion P (without_row j rows)
all_filter P j [] all = tt
all_filter P j (row ∷ rows) all = cond_both (not (row.neighbour == j)) (row ∷ without_row j rows) (without_row j rows) (AllByRecursion P) (λ _. (all.0, all_filter P j rows all.1)) (λ _. all_filter P j rows all.1)

none_left : (k : ℕ) (up : Bool) (e : Option Quintuple) (rows : List Row) → AreHeardRows k up e (without_row k rows)
none_left k up e [] = tt
none_left k up e (row ∷ rows) =
    cond_both (not (row.neighbour == k)) (row ∷ without_row k rows) (without_row k rows) (AreHeardRows k up e)
    (λ t. ((λ q. absurd (true≢false (sym t ∙ ap not (eq-eqb row.neighbour k q)))), none_left k up e rows)) (λ _. none_left k up e rows)

module _ (d k : ℕ) (other : k ≢ d) (up : Bool) where
  off : (row : Row) → row.neighbour ≡ k → (row.neighbour == d) ≡ false
  off row q = false_from_ne_true (nat_eq row.neighbour d) (λ t. other (sym q ∙ eqb-true row.neighbour d t))

  told_rows : (e : Option Quintuple) (rows : List Row) → AreHeardRows k up e rows → AreHeardRows k up e (all_told rows)
  told_rows e rows h = all_map (IsHeardRow k up e) (IsHeardRow k up e) told_row (λ row p q. p q) rows h

  erased_rows : (e e' : Option Quintuple) (rows : List Row) → AreHeardRows k up e rows → AreHeardRows k up e' (all_erased d rows)
  erased_rows e e' rows h = all_map (IsHeardRow k up e) (IsHeardRow k up e') (erased_row d) one rows h
    where
      one : (row : Row) → IsHeardRow k up e row → IsHeardRow k up e' (erased_row d row)
      one row p =
          cond_both (row.neighbour == d) row (record row { entry = None }) (IsHeardRow k up e')
          (λ t q. absurd (true≢false (sym t ∙ off row q))) (λ _ q. ((p q).0, inl refl))

  cleared_rows : (level : Level) (e e' : Option Quintuple) → (is_entry_at level e ≡ false → e' ≡ e) → (rows : List Row) → AreHeardRows k up e rows → AreHeardRows k up e' (all_cleared d level rows)
  cleared_rows level e e' keep rows h = all_map (IsHeardRow k up e) (IsHeardRow k up e') (cleared_row d level) one rows h
    where
      and_true : (b : Bool) → (true && b) ≡ false → b ≡ false
      and_true true f = f
      and_true false f = refl

      one : (row : Row) → IsHeardRow k up e row → IsHeardRow k up e' (cleared_row d level row)
      one row p =
          cond_both (not (row.neighbour == d) && is_entry_at level row.entry) (record row { entry = None }) row (IsHeardRow k up e')
          (λ _ q. ((p q).0, inl refl)) (λ f q. ((p q).0, stays f q (p q).1))
        where
          stays : (not (row.neighbour == d) && is_entry_at level row.entry) ≡ false → row.neighbour ≡ k → (row.entry ≡ None) ⊎ (row.entry ≡ e) → (row.entry ≡ None) ⊎ (row.entry ≡ e')
          stays f q (inl none) = inl none
          stays f q (inr is) =
              let left : is_entry_at level row.entry ≡ false = and_true (is_entry_at level row.entry) (ap (λ (b : Bool). not b && is_entry_at level row.entry) (sym (off row q)) ∙ f) in
              inr (is ∙ sym (keep (ap (is_entry_at level) (sym is) ∙ left)))

  -- removing the entry of a neighbour keeps the property of the rows
  withdrawn_rows : (j : ℕ) (e : Option Quintuple) (rows : List Row) → AreHeardRows k up e rows → AreHeardRows k up e (without_entry d j rows)
  withdrawn_rows j e rows h = all_map (IsHeardRow k up e) (IsHeardRow k up e) (withdrawn_row d j) one rows h
    where
      one : (row : Row) → IsHeardRow k up e row → IsHeardRow k up e (withdrawn_row d j row)
      one row p = cond_both ((row.neighbour == j) && not (row.neighbour == d)) (record row { entry = None }) row (IsHeardRow k up e) (λ _ q. ((p q).0, inl refl)) (λ _. p)

  own_withdrawn_rows : (e e' : Option Quintuple) (rows : List Row) → AreHeardRows k up e rows → AreHeardRows k up e' (without_entry d k rows)
  own_withdrawn_rows e e' rows h = all_map (IsHeardRow k up e) (IsHeardRow k up e') (withdrawn_row d k) one rows h
    where
      one : (row : Row) → IsHeardRow k up e row → IsHeardRow k up e' (withdrawn_row d k row)
      one row p =
          cond_both ((row.neighbour == k) && not (row.neighbour == d)) (record row { entry = None }) row (IsHeardRow k up e') (λ _ q. ((p q).0, inl refl))
          (λ f q. absurd (true≢false (sym (ap (λ (b : Bool). b && not (row.neighbour == d)) (eq-eqb row.neighbour k q) ∙ ap not (off row q)) ∙ f)))

  untold_rows : (j : ℕ) (e : Option Quintuple) (rows : List Row) → AreHeardRows k up e rows → AreHeardRows k up e (without_told j rows)
  untold_rows j e rows h = all_map (IsHeardRow k up e) (IsHeardRow k up e) (untold_row j) one rows h
    where
      one : (row : Row) → IsHeardRow k up e row → IsHeardRow k up e (untold_row j row)
      one row p = cond_both (row.neighbour == j) (record row { told = false }) row (IsHeardRow k up e) (λ _ q. p q) (λ _. p)

  -- the rows after a clear from a neighbour, before its level is cleared
  behind_rows : (choice : Erasure) (j : ℕ) (e : Option Quintuple) (rows : List Row) → AreHeardRows k up e rows → AreHeardRows k up e (rows_behind_clear choice d j rows)
  behind_rows Plain j e rows h = h
  behind_rows Remembered j e rows h = untold_rows j e (without_entry d j rows) (withdrawn_rows j e rows h)

  -- after that, the entry of the clear's sender is still there only if its clear does not remove it
  own_clear_rows : (choice : Erasure) (level : Level) (e e' : Option Quintuple) → (takes_entry choice level e ≡ false → e' ≡ e) → (rows : List Row) → AreHeardRows k up e rows
      → AreHeardRows k up e' (all_cleared d level (rows_behind_clear choice d k rows))
  own_clear_rows Plain level e e' keep rows h = cleared_rows level e e' keep rows h
  own_clear_rows Remembered level e e' keep rows h =
      cleared_rows level e' e' (λ _. refl) (rows_behind_clear Remembered d k rows) (untold_rows k e' (without_entry d k rows) (own_withdrawn_rows e e' rows h))

  other_clear_rows : (choice : Erasure) (level : Level) (j : ℕ) (e : Option Quintuple) (rows : List Row) → AreHeardRows k up e rows → AreHeardRows k up e (all_cleared d level (rows_behind_clear choice d j rows))
  other_clear_rows choice level j e rows h = cleared_rows level e e (λ _. refl) (rows_behind_clear choice d j rows) (behind_rows choice j e rows h)

  -- an update sets the entry of its sender: the neighbour or another one
  entry_rows : (height : Quintuple) (e : Option Quintuple) (rows : List Row) → AreHeardRows k up e rows → AreHeardRows k up (Some height) (with_entry k height rows)
  entry_rows height e rows h = all_map (IsHeardRow k up e) (IsHeardRow k up (Some height)) (row_with_entry k height) one rows h
    where
      one : (row : Row) → IsHeardRow k up e row → IsHeardRow k up (Some height) (row_with_entry k height row)
      one row p =
          cond_both (row.neighbour == k) (record row { entry = Some height }) row (IsHeardRow k up (Some height))
          (λ _ q. ((p q).0, inr refl)) (λ f q. absurd (true≢false (sym (eq-eqb row.neighbour k q) ∙ f)))

  other_entry_rows : (j : ℕ) (height : Quintuple) (e : Option Quintuple) → j ≢ k → (rows : List Row) → AreHeardRows k up e rows → AreHeardRows k up e (with_entry j height rows)
  other_entry_rows j height e apart rows h = all_map (IsHeardRow k up e) (IsHeardRow k up e) (row_with_entry j height) one rows h
    where
      one : (row : Row) → IsHeardRow k up e row → IsHeardRow k up e (row_with_entry j height row)
      one row p =
          cond_both (row.neighbour == j) (record row { entry = Some height }) row (IsHeardRow k up e)
          (λ t q. absurd (apart (sym (eqb-true row.neighbour j t) ∙ q))) (λ _. p)

-- ---- one view of a node that is not the destination

module _ (choice : Erasure) (me d k : ℕ) (other : k ≢ d) (up : Bool) (e : Option Quintuple) where
  pub record IsHeardView (v : View) : Type 0 where
    pub owner : v.me ≡ me
    pub destination : v.destination ≡ d
    pub erasure : v.erasure ≡ choice
    pub rows : AreHeardRows k up e v.rows

  abbrev Heard : Outcome → Type 0
  Heard o = IsHeardView o.view

  query_heard : (v : View) → IsHeardView v → Heard (query_broadcast v)
  query_heard v h = record { owner = h.owner; destination = h.destination; erasure = h.erasure; rows = h.rows }

  update_heard : (v : View) → IsHeardView v → Heard (update_broadcast v)
  update_heard v h = go v.height
    where
      go : (o : Option Quintuple) → Heard (update_broadcast_of v o)
      go None = h
      go (Some height) = record { owner = h.owner; destination = h.destination; erasure = h.erasure; rows = told_rows d k other up e v.rows h.rows }

  join_heard : (v : View) → IsHeardView v → Heard (after_join v)
  unfolding after_join
  join_heard v h = update_heard (record v { height = joined_height v; flag = false }) (record { owner = h.owner; destination = h.destination; erasure = h.erasure; rows = h.rows })

  new_level_heard : (v : View) (now : ℕ) → IsHeardView v → Heard (new_level v now)
  unfolding new_level
  new_level_heard v now h = go (fitted_height (quintuple (fresh_time v now) v.me 0 (pos 0) v.me))
    where
      go : (o : Option Quintuple) → Heard (new_level_at v (fresh_time v now) o)
      go None = record { owner = h.owner; destination = h.destination; erasure = h.erasure; rows = h.rows }
      go (Some height) = update_heard (record v { height = Some height; last = fresh_time v now }) (record { owner = h.owner; destination = h.destination; erasure = h.erasure; rows = h.rows })

  -- the entries become NULL
  erase_heard : (v : View) (tau oid : ℕ) (was : Option Quintuple) → v.me ≡ me → v.destination ≡ d → v.erasure ≡ choice → AreHeardRows k up was v.rows → Heard (after_erase v tau oid)
  unfolding after_erase
  erase_heard v tau oid was owner at is rows = record {
    owner = owner;
    destination = at;
    erasure = is;
    rows = subst (λ x. AreHeardRows k up e (all_erased x v.rows)) (sym at) (erased_rows d k other up was e v.rows rows);
  }

  link_loss_heard : (v : View) (now : ℕ) → IsHeardView v → Heard (after_link_loss v now)
  unfolding after_link_loss
  link_loss_heard v now h = cond_both (are_null v.rows) _ _ Heard (λ _. record { owner = h.owner; destination = h.destination; erasure = h.erasure; rows = h.rows }) (λ _. new_level_heard v now h)

  update_loss_heard : (v : View) (now : ℕ) → IsHeardView v → Heard (after_update_loss v now)
  unfolding after_update_loss
  update_loss_heard v now h = go (greatest_level (known_heights v))
    where
      go : (o : Option Level) → Heard (after_update_loss_at v now o)
      go None = record { owner = h.owner; destination = h.destination; erasure = h.erasure; rows = h.rows }
      go (Some level) =
          cond_both (not (list_all (is_at level) (known_heights v))) _ _ Heard
          (λ _. update_heard (record v { height = below_delta v.me level (least_delta level (known_heights v)) }) (record { owner = h.owner; destination = h.destination; erasure = h.erasure; rows = h.rows }))
          (λ _. cond_both (level.r == 0) _ _ Heard
          (λ _. update_heard (record v { height = Some (quintuple level.tau level.oid 1 (pos 0) v.me) }) (record { owner = h.owner; destination = h.destination; erasure = h.erasure; rows = h.rows }))
          (λ _. cond_both (level.oid == v.me) _ _ Heard (λ _. erase_heard v level.tau level.oid e h.owner h.destination h.erasure h.rows) (λ _. new_level_heard v now h)))

  query_input_heard : (v : View) (j : ℕ) → IsHeardView v → Heard (on_query v j)
  query_input_heard v j h =
      cond_both (not (has_downstream v)) _ _ Heard
      (λ _. cond_both (not v.flag) _ _ Heard (λ _. query_heard v h) (λ _. h))
      (λ _. cond_both (is_none v.height) _ _ Heard (λ _. join_heard v h)
      (λ _. cond_both (not (is_told j v.rows)) _ _ Heard (λ _. update_heard v h) (λ _. h)))

  update_input_heard : (v : View) (j : ℕ) (height : Quintuple) (now : ℕ) → v.me ≡ me → v.destination ≡ d → v.erasure ≡ choice → AreHeardRows k up e (without_entry v.destination j v.rows) → AreHeardRows k up e (with_entry j height v.rows)
      → Heard (on_update v j height now)
  update_input_heard v j height now owner at is old rows =
      let u : View = record v { rows = without_entry v.destination j v.rows } in
      let g : IsHeardView u = record { owner = owner; destination = at; erasure = is; rows = old } in
      let w : View = record v { rows = with_entry j height v.rows } in
      let h : IsHeardView w = record { owner = owner; destination = at; erasure = is; rows = rows } in
      cond_both (is_outdated v height) _ _ Heard
      (λ _. cond_both (lacks_downstream u) _ _ Heard (λ _. link_loss_heard u now g) (λ _. g))
      (λ _. cond_both v.flag _ _ Heard (λ _. join_heard w h) (λ _. cond_both (lacks_downstream w) _ _ Heard (λ _. update_loss_heard w now h) (λ _. h)))

  clear_input_heard : (v : View) (j : ℕ) (level : Level) (now : ℕ) (was : Option Quintuple) → v.me ≡ me → v.destination ≡ d → v.erasure ≡ choice → AreHeardRows k up was (rows_behind_clear v.erasure v.destination j v.rows)
      → AreHeardRows k up e (all_cleared v.destination level (rows_behind_clear v.erasure v.destination j v.rows)) → Heard (on_clear v j level now)
  clear_input_heard v j level now was owner at is old rows =
      let u : View = hearing_clear v j level in
      let w : View = record u { rows = all_cleared v.destination level u.rows } in
      let h : IsHeardView w = record { owner = owner; destination = at; erasure = is; rows = rows } in
      cond_both (is_entry_at level v.height) _ _ Heard (λ _. erase_heard u level.tau level.oid was owner at is old)
      (λ _. cond_both (lacks_downstream w) _ _ Heard (λ _. link_loss_heard w now h) (λ _. h))

  link_up_heard : (v : View) (j : ℕ) → v.me ≡ me → v.destination ≡ d → v.erasure ≡ choice → ((x : Option Quintuple) → (j ≡ d) ⊎ (x ≡ None) → AreHeardRows k up e (with_row (link_row j x) v.rows)) → Heard (on_link_up v j)
  link_up_heard v j owner at is rows =
      cond_both (j == v.destination) _ _ Heard
      (λ t. let w : View = record v { rows = with_row (link_row j (Some (destination_height j))) v.rows } in
      let h : IsHeardView w = record { owner = owner; destination = at; erasure = is; rows = rows (Some (destination_height j)) (inl (eqb-true j v.destination t ∙ at)) } in
      cond_both v.flag _ _ Heard (λ _. join_heard w h) (λ _. h))
      (λ _. let w : View = record v { rows = with_row (link_row j None) v.rows } in
      let h : IsHeardView w = record { owner = owner; destination = at; erasure = is; rows = rows None (inr refl) } in
      cond_both v.flag _ _ Heard (λ _. query_heard w h) (λ _. h))

  link_down_heard : (v : View) (j now : ℕ) → v.me ≡ me → v.destination ≡ d → v.erasure ≡ choice → AreHeardRows k up e (without_row j v.rows) → Heard (on_link_down v j now)
  link_down_heard v j now owner at is rows =
      let w : View = record v { rows = without_row j v.rows } in
      let h : IsHeardView w = record { owner = owner; destination = at; erasure = is; rows = rows } in
      cond_both (lacks_downstream w) _ _ Heard (λ _. link_loss_heard w now h) (λ _. h)

  need_heard : (v : View) → IsHeardView v → Heard (on_need v)
  need_heard v h = cond_both (are_null v.rows && not v.flag) _ _ Heard (λ _. query_heard v h) (λ _. h)

-- ---- a view after an input that is accepted

-- the entry of k after an input, by what k sent
abbrev heard_at : Erasure → ℕ → ℕ → Option Quintuple → Input → Option Quintuple
heard_at choice d k e (In.LinkUp j) = if j == k then None else e
heard_at choice d k e (In.LinkDown j) = e
heard_at choice d k e (In.Packet j packet) = if j == k then heard_in choice d e packet else e
heard_at choice d k e (In.Need m) = e

heard_received : (choice : Erasure) (d k : ℕ) (input : Input) (ps : List Packet) → heard choice d None (with_received k input ps) ≡ heard_at choice d k (heard choice d None ps) input
heard_received choice d k (In.LinkUp j) ps = go (j == k)
  where
    go : (b : Bool) → heard choice d None (if b then [] else ps) ≡ (if b then None else heard choice d None ps)
    go true = refl
    go false = refl
heard_received choice d k (In.LinkDown j) ps = refl
heard_received choice d k (In.Packet j packet) ps = go (j == k)
  where
    go : (b : Bool) → heard choice d None (if b then ps ++ packet ∷ [] else ps) ≡ (if b then heard_in choice d (heard choice d None ps) packet else heard choice d None ps)
    go true = heard-append choice d None ps (packet ∷ [])
    go false = refl
heard_received choice d k (In.Need m) ps = refl

module _ (choice : Erasure) (cores : CoreLaws) (me d k : ℕ) (other : k ≢ d) (away : me ≢ d) where
  abbrev HeardView : Bool → Option Quintuple → View → Type 0
  HeardView up e v = IsHeardView choice me d k other up e v

  elsewhere : (v : View) (input : Input) (now : ℕ) → v.me ≡ me → v.destination ≡ d → outcome_of v input now ≡ outcome_elsewhere v input now
  elsewhere v input now owner at =
      ap (λ (b : Bool). if b then outcome_at_destination v input else outcome_elsewhere v input now) (false_from_ne_true (nat_eq v.me v.destination) (λ t. away (sym owner ∙ eqb-true v.me v.destination t ∙ at)))

  -- if the input concerns the destination, the view is that of the rules
  by_rules : (up : Bool) (e : Option Quintuple) (v : View) (input : Input) (now : ℕ) → v.me ≡ me → v.destination ≡ d → HeardView up e (outcome_elsewhere v input now).view → HeardView up e (view_after v input now)
  by_rules up e v input now owner at h = subst (λ (o : Outcome). HeardView up e o.view) (sym (elsewhere v input now owner at)) h

  same_none : (b : Bool) (e e' : Option Quintuple) → e' ≡ e → (if b then e' else e) ≡ e
  same_none true e e' q = q
  same_none false e e' q = refl

  packet_next : (up : Bool) (e : Option Quintuple) (v : View) (j : ℕ) (packet : Packet) (now : ℕ) → HeardView up e v → HeardView up (if j == k then heard_in choice d e packet else e) (next_view (In.Packet j packet) now v)
  packet_next up e v j packet now h = go (cases_Bool (v.destination == destination_of packet))
    where
      level_kept : (x : Bool) (b : Bool) → b ≡ false → (if x && b then None else e) ≡ e
      level_kept true b q = ap (λ (y : Bool). if y then None else e) q
      level_kept false b q = refl

      rules : (p : Packet) → (v.destination == destination_of p) ≡ true → HeardView up (if j == k then heard_in choice d e p else e) (outcome_elsewhere v (In.Packet j p) now).view
      rules (Qry q) c = subst (λ x. HeardView up x (on_query v j).view) (sym (same_none (j == k) e e refl)) (query_input_heard choice me d k other up e v j h)
      rules (Upd u) c = by (cases_Bool (j == k))
        where
          by : ((j == k) ≡ true) ⊎ ((j == k) ≡ false) → HeardView up (if j == k then heard_in choice d e (Upd u) else e) (on_update v j u.height now).view
          by (inl t) =
              subst (λ (b : Bool). HeardView up (if b then heard_in choice d e (Upd u) else e) (on_update v j u.height now).view) (sym t)
              (subst (λ (b : Bool). HeardView up (if b then Some u.height else e) (on_update v j u.height now).view) (sym (ap (λ x. x == u.destination) (sym h.destination) ∙ c))
              (update_input_heard choice me d k other up (Some u.height) v j u.height now h.owner h.destination h.erasure
              (subst (λ x. AreHeardRows k up (Some u.height) (without_entry x j v.rows)) (sym h.destination)
              (subst (λ x. AreHeardRows k up (Some u.height) (without_entry d x v.rows)) (sym (eqb-true j k t)) (own_withdrawn_rows d k other up e (Some u.height) v.rows h.rows)))
              (subst (λ x. AreHeardRows k up (Some u.height) (with_entry x u.height v.rows)) (sym (eqb-true j k t)) (entry_rows d k other up u.height e v.rows h.rows))))
          by (inr f) =
              subst (λ (b : Bool). HeardView up (if b then heard_in choice d e (Upd u) else e) (on_update v j u.height now).view) (sym f)
              (update_input_heard choice me d k other up e v j u.height now h.owner h.destination h.erasure
              (subst (λ x. AreHeardRows k up e (without_entry x j v.rows)) (sym h.destination) (withdrawn_rows d k other up j e v.rows h.rows))
              (other_entry_rows d k other up j u.height e (λ q. true≢false (sym (eq-eqb j k q) ∙ f)) v.rows h.rows))
      rules (Clr x) c = by (cases_Bool (j == k))
        where
          level : Level
          level = cleared_level x.tau x.oid

          behind : AreHeardRows k up e (rows_behind_clear v.erasure v.destination j v.rows)
          behind = subst (λ y. AreHeardRows k up e (rows_behind_clear v.erasure y j v.rows)) (sym h.destination) (behind_rows d k other up v.erasure j e v.rows h.rows)

          cleared : (e' : Option Quintuple) → AreHeardRows k up e' (all_cleared d level (rows_behind_clear v.erasure d j v.rows)) → HeardView up e' (on_clear v j (cleared_level x.tau x.oid) now).view
          cleared e' rows =
              clear_input_heard choice me d k other up e' v j (cleared_level x.tau x.oid) now e h.owner h.destination h.erasure behind
              (subst (λ y. AreHeardRows k up e' (all_cleared y (cleared_level x.tau x.oid) (rows_behind_clear v.erasure y j v.rows))) (sym h.destination) rows)

          own : (e' : Option Quintuple) → (takes_entry choice level e ≡ false → e' ≡ e) → AreHeardRows k up e' (all_cleared d level (rows_behind_clear v.erasure d k v.rows))
          own e' keep = own_clear_rows d k other up v.erasure level e e' (λ q. keep (ap (λ (y : Erasure). takes_entry y level e) (sym h.erasure) ∙ q)) v.rows h.rows

          by : ((j == k) ≡ true) ⊎ ((j == k) ≡ false) → HeardView up (if j == k then heard_in choice d e (Clr x) else e) (on_clear v j (cleared_level x.tau x.oid) now).view
          by (inl t) =
              subst (λ (b : Bool). HeardView up (if b then heard_in choice d e (Clr x) else e) (on_clear v j (cleared_level x.tau x.oid) now).view) (sym t)
              (cleared (heard_in choice d e (Clr x)) (subst (λ y. AreHeardRows k up (heard_in choice d e (Clr x)) (all_cleared d level (rows_behind_clear v.erasure d y v.rows))) (sym (eqb-true j k t))
              (own (heard_in choice d e (Clr x)) (λ q. level_kept (d == x.destination) (takes_entry choice level e) q))))
          by (inr f) =
              subst (λ (b : Bool). HeardView up (if b then heard_in choice d e (Clr x) else e) (on_clear v j (cleared_level x.tau x.oid) now).view) (sym f)
              (cleared e (other_clear_rows d k other up v.erasure level j e v.rows h.rows))

      go : ((v.destination == destination_of packet) ≡ true) ⊎ ((v.destination == destination_of packet) ≡ false) → HeardView up (if j == k then heard_in choice d e packet else e) (next_view (In.Packet j packet) now v)
      go (inl c) =
          subst (λ (b : Bool). HeardView up (if j == k then heard_in choice d e packet else e) (if b then view_after v (In.Packet j packet) now else v)) (sym c)
          (by_rules up (if j == k then heard_in choice d e packet else e) v (In.Packet j packet) now h.owner h.destination (rules packet c))
      go (inr f) =
          subst (λ (b : Bool). HeardView up (if j == k then heard_in choice d e packet else e) (if b then view_after v (In.Packet j packet) now else v)) (sym f)
          (subst (λ x. HeardView up x v) (sym (same_none (j == k) e (heard_in choice d e packet) (heard_other choice d e packet (ap (λ x. x == destination_of packet) (sym h.destination) ∙ f)))) h)

  link_up_next : (c : CoreView) (e : Option Quintuple) (v : View) (j now : ℕ) → refusal_of c (In.LinkUp j) ≡ None → HeardView (has_number k c.up) e v → HeardView (has_number k (core_after c (In.LinkUp j) now).up) (if j == k then None else e) (view_after v (In.LinkUp j) now)
  link_up_next c e v j now ok h = by (cases_Bool (j == k))
    where
      by : ((j == k) ≡ true) ⊎ ((j == k) ≡ false) → HeardView (has_number k (core_after c (In.LinkUp j) now).up) (if j == k then None else e) (view_after v (In.LinkUp j) now)
      by (inl t) =
          let q : j ≡ k = eqb-true j k t in
          let was : has_number k c.up ≡ false = ap (λ x. has_number x c.up) (sym q) ∙ ((cores.link_up c j).0 ok).1 in
          let now_up : has_number k (core_after c (In.LinkUp j) now).up ≡ true = ap (λ x. has_number x (core_after c (In.LinkUp j) now).up) (sym q) ∙ cores.comes c j now ok in
          let none : AreHeardRows k true None v.rows = all_same (IsHeardRow k (has_number k c.up) e) (IsHeardRow k true None) (λ row p s. absurd (true≢false (sym (p s).0 ∙ was))) v.rows h.rows in
          let rows : (x : Option Quintuple) → (j ≡ d) ⊎ (x ≡ None) → AreHeardRows k true None (with_row (link_row j x) v.rows) =
          λ x c. ⊎_elim (λ (s : j ≡ d). absurd (other (sym q ∙ s))) (λ (s : x ≡ None). all_with_row (IsHeardRow k true None) (link_row j x) v.rows (λ _. (refl, inl s)) none) c in
          subst (λ (b : Bool). HeardView (has_number k (core_after c (In.LinkUp j) now).up) (if b then None else e) (view_after v (In.LinkUp j) now)) (sym t)
          (subst (λ (b : Bool). HeardView b None (view_after v (In.LinkUp j) now)) (sym now_up)
          (by_rules true None v (In.LinkUp j) now h.owner h.destination (link_up_heard choice me d k other true None v j h.owner h.destination h.erasure rows)))
      by (inr f) =
          let apart : k ≢ j = λ q. true≢false (sym (eq-eqb j k (sym q)) ∙ f) in
          let up : Bool = has_number k c.up in
          let rows : (x : Option Quintuple) → (j ≡ d) ⊎ (x ≡ None) → AreHeardRows k (has_number k c.up) e (with_row (link_row j x) v.rows) =
          λ x c'. all_with_row (IsHeardRow k (has_number k c.up) e) (link_row j x) v.rows (λ q. absurd (apart (sym q))) h.rows in
          subst (λ (b : Bool). HeardView (has_number k (core_after c (In.LinkUp j) now).up) (if b then None else e) (view_after v (In.LinkUp j) now)) (sym f)
          (subst (λ (b : Bool). HeardView b e (view_after v (In.LinkUp j) now)) (sym (cores.others_at_up c k j now apart))
          (by_rules (has_number k c.up) e v (In.LinkUp j) now h.owner h.destination (link_up_heard choice me d k other (has_number k c.up) e v j h.owner h.destination h.erasure rows)))

  link_down_next : (c : CoreView) (e : Option Quintuple) (v : View) (j now : ℕ) → HeardView (has_number k c.up) e v → HeardView (has_number k (core_after c (In.LinkDown j) now).up) e (view_after v (In.LinkDown j) now)
  link_down_next c e v j now h = by (cases_Bool (j == k))
    where
      by : ((j == k) ≡ true) ⊎ ((j == k) ≡ false) → HeardView (has_number k (core_after c (In.LinkDown j) now).up) e (view_after v (In.LinkDown j) now)
      by (inl t) =
          let up : Bool = has_number k (core_after c (In.LinkDown j) now).up in
          by_rules (has_number k (core_after c (In.LinkDown j) now).up) e v (In.LinkDown j) now h.owner h.destination
          (link_down_heard choice me d k other (has_number k (core_after c (In.LinkDown j) now).up) e v j now h.owner h.destination h.erasure
          (subst (λ x. AreHeardRows k (has_number k (core_after c (In.LinkDown j) now).up) e (without_row x v.rows)) (sym (eqb-true j k t)) (none_left k (has_number k (core_after c (In.LinkDown j) now).up) e v.rows)))
      by (inr f) =
          subst (λ (b : Bool). HeardView b e (view_after v (In.LinkDown j) now)) (sym (cores.others_at_down c k j now (λ q. true≢false (sym (eq-eqb j k (sym q)) ∙ f))))
          (by_rules (has_number k c.up) e v (In.LinkDown j) now h.owner h.destination
          (link_down_heard choice me d k other (has_number k c.up) e v j now h.owner h.destination h.erasure (all_filter (IsHeardRow k (has_number k c.up) e) j v.rows h.rows)))

  next_heard : (c : CoreView) (e : Option Quintuple) (v : View) (input : Input) (now : ℕ) → refusal_of c input ≡ None → HeardView (has_number k c.up) e v →
      HeardView (has_number k (core_after c input now).up) (heard_at choice d k e input) (next_view input now v)
  next_heard c e v (In.Need m) now ok h =
      subst (λ (b : Bool). HeardView b e (next_view (In.Need m) now v)) (sym (ap (has_number k) (cores.at_need c m now)))
      (cond_both (v.destination == m) (view_after v (In.Need m) now) v (HeardView (has_number k c.up) e)
      (λ _. by_rules (has_number k c.up) e v (In.Need m) now h.owner h.destination (need_heard choice me d k other (has_number k c.up) e v h)) (λ _. h))
  next_heard c e v (In.LinkUp j) now ok h = link_up_next c e v j now ok h
  next_heard c e v (In.LinkDown j) now ok h = link_down_next c e v j now h
  next_heard c e v (In.Packet j packet) now ok h =
      subst (λ (b : Bool). HeardView b (if j == k then heard_in choice d e packet else e) (next_view (In.Packet j packet) now v)) (sym (ap (has_number k) (cores.at_packet c j packet now)))
      (packet_next (has_number k c.up) e v j packet now h)

  -- ---- a core over inputs

  abbrev Hearing : CoreView → Option Quintuple → Type 0
  Hearing c e = (v : View) → view_of c d ≡ Some v → HeardView (has_number k c.up) e v

  -- the view before an input
  record WasView (input : Input) (now : ℕ) (views : List View) (v' : View) : Type 0 where
    view : View
    found : find (is_of d) views ≡ Some view
    next : next_view input now view ≡ v'

  was_view : (input : Input) (now : ℕ) (views : List View) (v' : View) → find (is_of d) (map (next_view input now) views) ≡ Some v' → WasView input now views v'
  was_view input now [] v' e = absurd cc
  was_view input now (v ∷ views) v' e = go (v.destination == d) refl (ap (λ x. x == d) (destination_kept v input now)) e (was_view input now views v')
    where
      go : (b : Bool) → (v.destination == d) ≡ b → ((next_view input now v).destination == d) ≡ (v.destination == d) →
          (if (next_view input now v).destination == d then Some (next_view input now v) else find (is_of d) (map (next_view input now) views)) ≡ Some v' →
          (find (is_of d) (map (next_view input now) views) ≡ Some v' → WasView input now views v') → WasView input now (v ∷ views) v'
      go true t s f again =
          let q : Some (next_view input now v) ≡ Some v' = sym (ap (λ (b : Bool). if b then Some (next_view input now v) else find (is_of d) (map (next_view input now) views)) (s ∙ t)) ∙ f in
          record { view = v; found = ap (λ (b : Bool). if b then Some v else find (is_of d) views) t; next = let z : next_view input now v ≡ v' = cc in z }
      go false t s f again =
          let r = again (sym (ap (λ (b : Bool). if b then Some (next_view input now v) else find (is_of d) (map (next_view input now) views)) (s ∙ t)) ∙ f) in
          record { view = r.view; found = ap (λ (b : Bool). if b then Some v else find (is_of d) views) t ∙ r.found; next = r.next }

  step_hears : (c : CoreView) (input : Input) (now : ℕ) (e : Option Quintuple) → refusal_of c input ≡ None → Hearing c e → Hearing (core_after c input now) (heard_at choice d k e input)
  step_hears c input now e ok h v' found =
      let taking : core_after c input now ≡ core_taking c input now = ap (λ (o : Option StepError). if is_some o then c else core_taking c input now) ok in
      let was = was_view input now c.views v' (sym (ap (λ (x : CoreView). view_of x d) taking) ∙ found) in
      subst (λ (x : View). HeardView (has_number k (core_after c input now).up) (heard_at choice d k e input) x) was.next (next_heard c e was.view input now ok (h was.view was.found))

  run_hears : (c : CoreView) (inputs : List (Input × ℕ)) (ps : List Packet) → Hearing c (heard choice d None ps) → Hearing (core_after_all c inputs) (heard choice d None (received_from k c inputs ps))
  run_hears c [] ps h = h
  run_hears c ((input, now) ∷ inputs) ps h = run_hears (core_after c input now) inputs (if is_some (refusal_of c input) then ps else with_received k input ps) (go (refusal_of c input) refl)
    where
      go : (o : Option StepError) → refusal_of c input ≡ o → Hearing (core_after c input now) (heard choice d None (if is_some (refusal_of c input) then ps else with_received k input ps))
      go None ok =
          subst (λ (o : Option StepError). Hearing (core_after c input now) (heard choice d None (if is_some o then ps else with_received k input ps))) (sym ok)
          (subst (λ x. Hearing (core_after c input now) x) (sym (heard_received choice d k input ps)) (step_hears c input now (heard choice d None ps) ok h))
      go (Some error) refused =
          subst (λ (o : Option StepError). Hearing (core_after c input now) (heard choice d None (if is_some o then ps else with_received k input ps))) (sym refused)
          (subst (λ (x : CoreView). Hearing x (heard choice d None ps)) (sym (ap (λ (o : Option StepError). if is_some o then c else core_taking c input now) refused)) h)

  -- the first core has no entries
  first_hears : (ds : List ℕ) (v : View) → find (is_of d) (map (first_view_of choice me) ds) ≡ Some v → HeardView false None v
  first_hears [] v e = absurd cc
  first_hears (m ∷ ds) v e = go (m == d) refl e (first_hears ds v)
    where
      go : (b : Bool) → (m == d) ≡ b → (if b then Some (first_view_of choice me m) else find (is_of d) (map (first_view_of choice me) ds)) ≡ Some v → (find (is_of d) (map (first_view_of choice me) ds) ≡ Some v → HeardView false None v) → HeardView false None v
      go true t f again =
          let q : first_view_of choice me m ≡ v = cc in
          subst (HeardView false None) q (record { owner = refl; destination = eqb-true m d t; erasure = refl; rows = tt })
      go false t f again = again f

  -- an entry that is not NULL is the height in the neighbour's packets
  entry_heard : (up : Bool) (e : Option Quintuple) (x : Quintuple) (rows : List Row) → AreHeardRows k up e rows → option_map (λ (row : Row). row.entry) (find (λ (row : Row). row.neighbour == k) rows) ≡ Some (Some x) → e ≡ Some x
  entry_heard up e x [] h f = absurd cc
  entry_heard up e x (row ∷ rows) h f = go (row.neighbour == k) refl f (entry_heard up e x rows h.1)
    where
      is_told_so : (row.entry ≡ None) ⊎ (row.entry ≡ e) → row.entry ≡ Some x → e ≡ Some x
      is_told_so (inl n) q = absurd (let z : None ≡ Some x = sym n ∙ q in cc)
      is_told_so (inr s) q = sym s ∙ q

      go : (b : Bool) → (row.neighbour == k) ≡ b → option_map (λ (r : Row). r.entry) (if b then Some row else find (λ (r : Row). r.neighbour == k) rows) ≡ Some (Some x) →
          (option_map (λ (r : Row). r.entry) (find (λ (r : Row). r.neighbour == k) rows) ≡ Some (Some x) → e ≡ Some x) → e ≡ Some x
      go true t q again = is_told_so (h.0 (eqb-true row.neighbour k t)).1 (let z : row.entry ≡ Some x = cc in z)
      go false t q again = again q

  pub entries_heard : (neighbours ds : List ℕ) (inputs : List (Input × ℕ)) (x : Quintuple) → entry_of (core_after_all (first_core_of choice me neighbours ds) inputs) d k ≡ Some (Some x) →
      heard choice d None (received_from k (first_core_of choice me neighbours ds) inputs []) ≡ Some x
  entries_heard neighbours ds inputs x e =
      at (view_of (core_after_all (first_core_of choice me neighbours ds) inputs) d) refl e (run_hears (first_core_of choice me neighbours ds) inputs [] (λ v f. first_hears (ascending ds) v f))
    where
      at : (o : Option View) → view_of (core_after_all (first_core_of choice me neighbours ds) inputs) d ≡ o → option_and_then (entry_in k) o ≡ Some (Some x) →
          ((v : View) → view_of (core_after_all (first_core_of choice me neighbours ds) inputs) d ≡ Some v → HeardView (has_number k (core_after_all (first_core_of choice me neighbours ds) inputs).up) (heard choice d None (received_from k (first_core_of choice me neighbours ds) inputs [])) v) →
          heard choice d None (received_from k (first_core_of choice me neighbours ds) inputs []) ≡ Some x
      at None f q h = absurd cc
      at (Some v) f q h = entry_heard (has_number k (core_after_all (first_core_of choice me neighbours ds) inputs).up) (heard choice d None (received_from k (first_core_of choice me neighbours ds) inputs [])) x v.rows (h v f).rows q

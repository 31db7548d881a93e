-- Why an event is refused: the columns of the table agree with the computing definition.
use Rattle.std.proofs.Common.{◌≡◌, ◌≢◌, ℕ, ◌≤◌, Bool, true, false, true≢false, not, ◌&&◌, ◌⊎◌, inl, inr, List, [], ◌∷◌, length, Option, Some, None, is_some, if◌then◌else◌, refl, sym, ap, ap₂, ◌∙◌, subst, slice_get, ltb-false, le-ltb}
use Rattle.tora_frame.specs.FrameParts.{FrameParts}
use Rattle.tora_arq.specs.declared.link_event.LinkEvent.{LinkEvent}
use Rattle.tora_arq.specs.declared.phase.Phase.{Phase}
use Rattle.tora_arq.specs.declared.phase.Phase.TheVariants.{Closed, Unbound, Bound}
use Rattle.tora_arq.specs.LinkEnd.{is_closed, is_closed_in, frame_due}
use Rattle.tora_seat.specs.declared.TheConstants.{MOST_ITEMS}
use Rattle.tora_world.specs.declared.event.Event.{Event}
use Rattle.tora_world.specs.declared.event.Event.TheVariants.{Need, Tick, Open, Pull, Transmit, Deliver, Pump, CoreTurn, Arm, Restart}
use Rattle.tora_world.specs.declared.sim_error.SimError.{SimError}
use Rattle.tora_world.specs.declared.sim_error.SimError.TheVariants as Refused
use Rattle.tora_world.specs.World.{World, Choice, settings, datagram, is_empty, has_room, unless_possible, refusal_by}
use Rattle.tora_world.specs.Table.{is_there, IsImpossible, IsRefusedBy, no_node, no_datagram, not_possible}
use Rattle.tora_world.proofs.TableWords.{no_datagram_past, past_no_datagram}

-- the refusal, by whether the node or link exists and whether the event is possible
abbrev pub refusal_at : Bool → Bool → Option SimError
refusal_at there possible = if there then unless_possible possible else Some Refused.NoNode

pub at_none : (there possible : Bool) → refusal_at there possible ≡ None → (there ≡ true) × (possible ≡ true)
at_none true true e = (refl, refl)
at_none true false e = absurd (cc)
at_none false possible e = absurd (cc)

at_some : (there possible : Bool) (error : SimError) → refusal_at there possible ≡ Some error → ((there ≡ false) × (Refused.NoNode ≡ error)) ⊎ ((there ≡ true) × (possible ≡ false) × (Refused.NotPossible ≡ error))
at_some false possible error e = inl (refl, cc)
at_some true false error e = inr (refl, refl, cc)
at_some true true error e = absurd (cc)

-- ---- parts of the column

pub closed_is : (p : Phase) → is_closed_in p ≡ true → p ≡ Closed
closed_is Closed e = refl
closed_is (Unbound own) e = absurd (true≢false (sym e))
closed_is (Bound life) e = absurd (true≢false (sym e))

not_closed : (p : Phase) → p ≢ Closed → is_closed_in p ≡ false
not_closed Closed ne = absurd (ne refl)
not_closed (Unbound own) ne = refl
not_closed (Bound life) ne = refl

empty_is : {A : Type 0} (xs : List A) → not (is_empty xs) ≡ false → xs ≡ []
empty_is [] e = refl
empty_is (x ∷ xs) e = absurd (true≢false e)

none_is : {A : Type 0} (o : Option A) → is_some o ≡ false → o ≡ None
none_is None e = refl
none_is (Some x) e = absurd (true≢false e)

no_first : (events : List LinkEvent) → slice_get events 0 ≡ None → not (is_empty events) ≡ false
no_first [] e = refl
no_first (x ∷ events) e = absurd (cc)

and_false : (x y : Bool) → (x && y) ≡ false → (x ≡ false) ⊎ (y ≡ false)
and_false true y e = inr e
and_false false y e = inl refl

false_and : (x y : Bool) → y ≡ false → (x && y) ≡ false
false_and true y e = e
false_and false y e = refl

module _ (c : Choice) (w : World) where
  -- whether an event other than a delivery is possible
  abbrev pub is_possible : Event → Bool
  is_possible (Need n d) = has_room w n
  is_possible Tick = true
  is_possible (Open n k) = is_closed (w.ends n k)
  is_possible (Pull n k) = not (is_empty (w.cargoes n k))
  is_possible (Transmit n k) = is_some (frame_due (settings w n k) (w.ends n k) (c.now n k))
  is_possible (Deliver i) = true
  is_possible (Pump n k) = not (is_empty (w.ends n k).events) && has_room w n
  is_possible (CoreTurn n) = not (is_empty (w.items n))
  is_possible (Arm n call) = true
  is_possible (Restart n torn) = true

  refusal_is : (event : Event) → ((i : ℕ) → event ≢ Deliver i) → refusal_by c w event ≡ refusal_at (is_there w event) (is_possible event)
  refusal_is (Need n d) ne = refl
  refusal_is Tick ne = refl
  refusal_is (Open n k) ne = refl
  refusal_is (Pull n k) ne = refl
  refusal_is (Transmit n k) ne = refl
  refusal_is (Deliver i) ne = absurd (ne i refl)
  refusal_is (Pump n k) ne = refl
  refusal_is (CoreTurn n) ne = refl
  refusal_is (Arm n call) ne = refl
  refusal_is (Restart n torn) ne = refl

  full_is : (n : ℕ) → has_room w n ≡ false → MOST_ITEMS ≤ length (w.items n)
  full_is n e = ltb-false (length (w.items n)) MOST_ITEMS e

  is_full : (n : ℕ) → MOST_ITEMS ≤ length (w.items n) → has_room w n ≡ false
  is_full n le = le-ltb (length (w.items n)) MOST_ITEMS le

  impossible_is : (event : Event) → is_possible event ≡ false → IsImpossible c w event
  impossible_is (Need n d) e = full_is n e
  impossible_is Tick e = absurd (true≢false e)
  impossible_is (Open n k) e = λ q. true≢false (sym (ap is_closed_in q) ∙ e)
  impossible_is (Pull n k) e = empty_is (w.cargoes n k) e
  impossible_is (Transmit n k) e = none_is (frame_due (settings w n k) (w.ends n k) (c.now n k)) e
  impossible_is (Deliver i) e = absurd (true≢false e)
  impossible_is (Pump n k) e = go (and_false (not (is_empty (w.ends n k).events)) (has_room w n) e)
    where
      go : (not (is_empty (w.ends n k).events) ≡ false) ⊎ (has_room w n ≡ false) → (slice_get (w.ends n k).events 0 ≡ None) ⊎ (MOST_ITEMS ≤ length (w.items n))
      go (inl f) = inl (ap (λ (xs : List LinkEvent). slice_get xs 0) (empty_is (w.ends n k).events f))
      go (inr f) = inr (full_is n f)
  impossible_is (CoreTurn n) e = empty_is (w.items n) e
  impossible_is (Arm n call) e = absurd (true≢false e)
  impossible_is (Restart n torn) e = absurd (true≢false e)

  is_impossible : (event : Event) → IsImpossible c w event → is_possible event ≡ false
  is_impossible (Need n d) h = is_full n h
  is_impossible Tick h = absurd h
  is_impossible (Open n k) h = not_closed (w.ends n k).phase h
  is_impossible (Pull n k) h = ap (λ xs. not (is_empty xs)) h
  is_impossible (Transmit n k) h = ap (λ (o : Option FrameParts). is_some o) h
  is_impossible (Deliver i) h = absurd h
  is_impossible (Pump n k) (inl e) = ap (λ b. b && has_room w n) (no_first (w.ends n k).events e)
  is_impossible (Pump n k) (inr full) = false_and (not (is_empty (w.ends n k).events)) (has_room w n) (is_full n full)
  is_impossible (CoreTurn n) h = ap (λ xs. not (is_empty xs)) h
  is_impossible (Arm n call) h = absurd h
  is_impossible (Restart n torn) h = absurd h

  -- ---- both directions

  pub refused_leads : {event : Event} {error : SimError} → IsRefusedBy c w event error → refusal_by c w event ≡ Some error
  refused_leads (no_node {event} e) =
      refusal_is event (λ i q. true≢false (sym (ap (is_there w) q) ∙ e)) ∙ ap (λ b. refusal_at b (is_possible event)) e
  refused_leads (no_datagram {i} h) = ap (λ (o : Option FrameParts). if is_some o then None else Some Refused.NoDatagram) (past_no_datagram w i h)
  refused_leads (not_possible {event} t h) =
      refusal_is event (λ i q. subst (IsImpossible c w) q h) ∙ ap₂ refusal_at t (is_impossible event h)

  refused_elsewhere : (event : Event) → ((i : ℕ) → event ≢ Deliver i) → (error : SimError) → refusal_by c w event ≡ Some error → IsRefusedBy c w event error
  refused_elsewhere event ne error e = go (at_some (is_there w event) (is_possible event) error (sym (refusal_is event ne) ∙ e))
    where
      go : ((is_there w event ≡ false) × (Refused.NoNode ≡ error)) ⊎ ((is_there w event ≡ true) × (is_possible event ≡ false) × (Refused.NotPossible ≡ error)) → IsRefusedBy c w event error
      go (inl x) = subst (IsRefusedBy c w event) x.1 (no_node x.0)
      go (inr x) = subst (IsRefusedBy c w event) x.2 (not_possible x.0 (impossible_is event x.1))

  refused_delivery : (i : ℕ) (error : SimError) → refusal_by c w (Deliver i) ≡ Some error → IsRefusedBy c w (Deliver i) error
  refused_delivery i error e = go (datagram w i) refl e
    where
      go : (o : Option FrameParts) → datagram w i ≡ o → (if is_some o then None else Some Refused.NoDatagram) ≡ Some error → IsRefusedBy c w (Deliver i) error
      go None q x = let same : Refused.NoDatagram ≡ error = cc in subst (IsRefusedBy c w (Deliver i)) same (no_datagram (no_datagram_past w i q))
      go (Some f) q x = absurd (cc)

  pub refused_holds : (event : Event) (error : SimError) → refusal_by c w event ≡ Some error → IsRefusedBy c w event error
  refused_holds (Need n d) error e = refused_elsewhere (Need n d) (λ i q. cc) error e
  refused_holds Tick error e = refused_elsewhere Tick (λ i q. cc) error e
  refused_holds (Open n k) error e = refused_elsewhere (Open n k) (λ i q. cc) error e
  refused_holds (Pull n k) error e = refused_elsewhere (Pull n k) (λ i q. cc) error e
  refused_holds (Transmit n k) error e = refused_elsewhere (Transmit n k) (λ i q. cc) error e
  refused_holds (Deliver i) error e = refused_delivery i error e
  refused_holds (Pump n k) error e = refused_elsewhere (Pump n k) (λ i q. cc) error e
  refused_holds (CoreTurn n) error e = refused_elsewhere (CoreTurn n) (λ i q. cc) error e
  refused_holds (Arm n call) error e = refused_elsewhere (Arm n call) (λ i q. cc) error e
  refused_holds (Restart n torn) error e = refused_elsewhere (Restart n torn) (λ i q. cc) error e

  -- an event whose node or link exists and that is possible is not refused
  pub not_refused : (event : Event) → ((i : ℕ) → event ≢ Deliver i) → is_there w event ≡ true → is_possible event ≡ true → refusal_by c w event ≡ None
  not_refused event ne t p = refusal_is event ne ∙ ap₂ refusal_at t p

  pub is_open : (event : Event) → ((i : ℕ) → event ≢ Deliver i) → refusal_by c w event ≡ None → (is_there w event ≡ true) × (is_possible event ≡ true)
  is_open event ne e = at_none (is_there w event) (is_possible event) (sym (refusal_is event ne) ∙ e)

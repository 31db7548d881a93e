-- The proved behaviour of the threads is a list of parts.
use Rattle.std.proofs.Common.{◌≡◌, ℕ, Bool, true, false, List, [], ◌∷◌, ◌++◌, Option, Some, None, Result, refl, sym, ap, ◌∙◌, subst, append-nil, append_assoc}
use Rattle.std.proofs.lemmas.Bool.{cond_both}
use Rattle.std.specs.Prelude.{slice_get, drop}
use Rattle.tora_frame.specs.FrameParts.{FrameParts}
use Rattle.tora_arq.specs.declared.life.Life.{Life}
use Rattle.tora_arq.specs.declared.link_event.LinkEvent.{LinkEvent}
use Rattle.tora_arq.specs.declared.phase.Phase.{Phase}
use Rattle.tora_arq.specs.declared.phase.Phase.TheVariants.{Closed, Unbound, Bound}
use Rattle.tora_arq.specs.Settings.{Settings}
use Rattle.tora_arq.specs.SendQueue.{DueBatch}
use Rattle.tora_arq.specs.LinkEnd.{EndState, frame_due, after_transmit, after_poll_event, is_old_hello_due, is_hello_due, due_of, on_transmit_due, on_hello, on_transmit_in, on_transmit}
use Rattle.tora_seat.specs.declared.cargo.Cargo.{Cargo}
use Rattle.tora_seat.specs.declared.cargo.Cargo.TheVariants.{Packet, Cut}
use Rattle.tora_neighbour.specs.declared.wire.WireError.{WireError}
use Rattle.tora_neighbour.specs.declared.ending.Ending.{Ending}
use Rattle.tora_neighbour.specs.declared.ending.Ending.TheVariants.{NoNumber, Broken, Refused}
use Rattle.tora_neighbour.specs.declared.ending.BrokenAt.TheVariants.{Send, Receive}
use Rattle.tora_neighbour.specs.Intake.{Reading, after_came}
use Rattle.tora_neighbour.specs.Turns as turns
use Rattle.tora_neighbour.specs.Turns.{Turn, came_of, IsOpening, AreDue, Begins, IsTurn, AreTurns, IsLastTurn, IsTurnRun, after_opening, after_cargoes, after_frames, when_ticked, when_served, when_sent, when_none_due, when_heard}
use Rattle.tora_seat.specs.declared.item.Item.{Item}
use Rattle.tora_seat.specs.Serving.{SeatState}
use Rattle.tora_node.specs.CoreRuns.{ServedItem, serving_told, AreServed, items_served}
use Rattle.tora_world.specs.Topology.{is_node}
use Rattle.tora_world.proofs.Events.{put_one_here}
use Rattle.tora_running.specs.Network.{Network, neighbours_at, IsFront, after_part, after_parts, IsRun}
use Rattle.tora_running.specs.Network.Part.{Serves}
use Rattle.tora_running.specs.Parts.{LinkPart, end_after, AreLinkParts}
use Rattle.tora_running.specs.Parts.LinkPart.{Ticks, Takes, Breaks}
use Rattle.tora_running.specs.Histories.{parts_opened, parts_taken, parts_sent, parts_heard, parts_told, parts_of_beat, parts_begun, parts_of, parts_of_turns, parts_of_last, IsAfterRefused, parts_served}

module _ (s : Settings) where
  -- some parts, and then others
  both : (ps qs : List LinkPart) (e between after : EndState) → AreLinkParts s e ps between → AreLinkParts s between qs after → AreLinkParts s e (ps ++ qs) after
  both [] qs e between after h g = subst (λ x. AreLinkParts s x qs after) h g
  both (p ∷ ps) qs e between after h g = (h.0, both ps qs (end_after s e p) between after h.1 g)

  opened : (e : EndState) (now : ℕ) (o : Option ℕ) → IsOpening e o → AreLinkParts s e (parts_opened now o) (after_opening e o now)
  opened e now None h = refl
  opened e now (Some number) h = (h, refl)

  taken : (cargoes : List Cargo) (e : EndState) → AreLinkParts s e (parts_taken cargoes) (after_cargoes e cargoes)
  taken [] e = refl
  taken (Packet life packet ∷ cargoes) e = (tt, taken cargoes (end_after s e (Takes (Packet life packet))))
  taken (Cut life ∷ cargoes) e = (tt, taken cargoes (end_after s e (Takes (Cut life))))

  sent : (e : EndState) (now : ℕ) (frames : List FrameParts) (answers : List (Result (Unit {0}) WireError)) → AreDue s e now frames → AreLinkParts s e (parts_sent now frames answers) (after_frames s e now frames)
  sent e now [] answers h = refl
  sent e now (frame ∷ frames) [] h = (h.0, sent (after_transmit s e now) now frames [] h.1)
  sent e now (frame ∷ frames) (answer ∷ answers) h = (h.0, sent (after_transmit s e now) now frames answers h.1)

  heard : (e : EndState) (now : ℕ) (came : Option Reading) → AreLinkParts s e (parts_heard now came) (after_came s e now came)
  heard e now None = refl
  heard e now (Some reading) = (tt, refl)

  told : (e : EndState) (now : ℕ) (events left : List LinkEvent) → e.events ≡ events ++ left → AreLinkParts s e (parts_told now events) (record e { events = left })
  told e now [] left q = ap (λ (xs : List LinkEvent). record e { events = xs }) (sym q)
  told e now (event ∷ events) left q = (ap (λ (xs : List LinkEvent). slice_get xs 0) q, told (after_poll_event e) now events left (ap (λ (xs : List LinkEvent). drop 1 xs) q))

  beaten : (e : EndState) (now : ℕ) (beat : Bool) → AreLinkParts s e (parts_of_beat now beat) e
  beaten e now true = (tt, refl)
  beaten e now false = refl

  -- ---- a poll that returns no frame leaves the end unchanged

  abbrev Stays : EndState → Option FrameParts × EndState → Type 0
  Stays e x = x.0 ≡ None → x.1 ≡ e

  due_stays : (e : EndState) (life : Life) (due : Option DueBatch) → Stays e (on_transmit_due s e life due)
  due_stays e life (Some due) q = absurd (cc)
  due_stays e life None q = cond_both e.owes_ack _ _ (Stays e) (λ _ r. absurd (cc)) (λ _ r. refl) q

  hello_stays : (e : EndState) (own heard now : ℕ) (other : Option FrameParts × EndState) → Stays e other → Stays e (on_hello s e own heard now other)
  hello_stays e own heard now other h =
      cond_both (is_old_hello_due e) _ _ (Stays e) (λ _ q. absurd (cc)) (λ _. cond_both (is_hello_due s e now) _ _ (Stays e) (λ _ q. absurd (cc)) (λ _. h))

  stays : (e : EndState) (now : ℕ) → frame_due s e now ≡ None → after_transmit s e now ≡ e
  unfolding on_transmit on_transmit_in
  stays e now = go e.phase
    where
      go : (phase : Phase) → Stays e (on_transmit_in s e now phase)
      go Closed q = refl
      go (Unbound own) q = hello_stays e own e.heard now (None, e) (λ r. refl) q
      go (Bound life) q = hello_stays e life.own life.peer now (on_transmit_due s e life (due_of s e now)) (due_stays e life (due_of s e now)) q

  -- ---- turns

  begun : (e : EndState) (t : Turn) → Begins s e t → AreLinkParts s e (parts_begun t) (when_sent s e t)
  begun e t h =
      both (parts_opened t.now t.opened) (Ticks t.now ∷ (parts_taken t.cargoes ++ parts_sent t.now t.sent t.answers)) e (after_opening e t.opened t.now) (when_sent s e t) (opened e t.now t.opened h.opening)
      (tt, both (parts_taken t.cargoes) (parts_sent t.now t.sent t.answers) (when_ticked s e t) (when_served s e t) (when_sent s e t) (taken t.cargoes (when_ticked s e t)) (sent (when_served s e t) t.now t.sent t.answers h.due))

  -- the events, of which the last may have been refused
  events_told : (e : EndState) (now : ℕ) (events : List LinkEvent) (refused : Option LinkEvent) (after : EndState) → turns.Tells e events refused after → (between : EndState) × AreLinkParts s e (parts_told now events) between × IsAfterRefused between refused after
  events_told e now events None after h = (record e { events = h.left }, told e now events h.left (h.events ∙ ap (λ (xs : List LinkEvent). xs ++ h.left) (append-nil events)), h.after_is)
  events_told e now events (Some event) after h =
      (record e { events = event ∷ h.left }, told e now events (event ∷ h.left) (h.events ∙ append_assoc events (event ∷ []) h.left), (refl, h.after_is))

  -- the parts of a turn: up to its events, and then a beat, if one was put
  turn_parts : (e : EndState) (t : Turn) (after : EndState) → Begins s e t → frame_due s (when_sent s e t) t.now ≡ None → turns.Tells (when_heard s e t) t.told t.refused after →
      (between : EndState) × AreLinkParts s e (parts_of t) between × IsAfterRefused between t.refused after
  turn_parts e t after begins none tells =
      let x = events_told (when_heard s e t) t.now t.told t.refused after tells in (
        x.0,
        both (parts_begun t) (parts_heard t.now (came_of t) ++ (parts_told t.now t.told ++ parts_of_beat t.now t.beat)) e (when_sent s e t) x.0 (begun e t begins)
            (both (parts_heard t.now (came_of t)) (parts_told t.now t.told ++ parts_of_beat t.now t.beat) (when_sent s e t) (when_heard s e t) x.0
            (subst (λ y. AreLinkParts s y (parts_heard t.now (came_of t)) (when_heard s e t)) (stays (when_sent s e t) t.now none) (heard (when_none_due s e t) t.now (came_of t)))
            (both (parts_told t.now t.told) (parts_of_beat t.now t.beat) (when_heard s e t) x.0 x.0 x.1 (beaten x.0 t.now t.beat))),
        x.2,
      )

  whole : (e : EndState) (t : Turn) (after : EndState) → IsTurn s e t after → AreLinkParts s e (parts_of t) after
  whole e t after h =
      let x = turn_parts e t after h.begins h.none_due h.tells in
      subst (λ y. AreLinkParts s e (parts_of t) y) (sym (subst (λ r. IsAfterRefused x.0 r after) h.accepted x.2)) x.1

  pub turns_are : (e : EndState) (ts : List Turn) (after : EndState) → AreTurns s e ts after → AreLinkParts s e (parts_of_turns ts) after
  turns_are e [] after h = h
  turns_are e (t ∷ ts) after h = both (parts_of t) (parts_of_turns ts) e h.0 after (whole e t h.0 h.1) (turns_are h.0 ts after h.2)

  -- the wire fails at this end
  broken : (e before : EndState) (t : Turn) (after : EndState) → AreLinkParts s e (parts_begun t) before → turns.EndsBroken before t after →
      (between : EndState) × AreLinkParts s e (parts_begun t ++ Breaks ∷ parts_told t.now t.told) between × IsAfterRefused between t.refused after
  broken e before t after begins h =
      let x = events_told (end_after s before Breaks) t.now t.told t.refused after h.tells in
      (x.0, both (parts_begun t) (Breaks ∷ parts_told t.now t.told) e before x.0 begins (tt, x.1), x.2)

  pub last_is : (last_beat : Option ℕ) (e : EndState) (t : Turn) (ending : Ending) (after : EndState) → IsLastTurn s last_beat e t ending after → (between : EndState) × AreLinkParts s e (parts_of_last ending t) between × IsAfterRefused between t.refused after
  last_is last_beat e t (NoNumber error) after h = (e, refl, subst (λ r. IsAfterRefused e r after) (sym (ap (λ (x : Turn). x.refused) h.nothing)) h.after_is)
  last_is last_beat e t (Broken Send) after h = broken e (when_sent s e t) t after (begun e t h.begins) h.broken
  last_is last_beat e t (Broken Receive) after h = broken e (when_sent s e t) t after (begun e t h.begins) (subst (λ y. turns.EndsBroken y t after) (stays (when_sent s e t) t.now h.none_due) h.broken)
  last_is last_beat e t Refused after h = turn_parts e t after h.begins h.none_due h.tells

  pub run_is : (e : EndState) (ts : List Turn) (last : Turn) (ending : Ending) (after : EndState) → IsTurnRun s e ts last ending after → (between : EndState) × AreLinkParts s e (parts_of_turns ts ++ parts_of_last ending last) between × IsAfterRefused between last.refused after
  run_is e ts last ending after h =
      let x = last_is h.last_beat h.before last ending after h.last_is in
      (x.0, both (parts_of_turns ts) (parts_of_last ending last) e h.before x.0 (turns_are e ts h.before h.turns_are) x.1, x.2)

-- ---- the core's thread

pub served_are : (w : Network) (n : ℕ) → is_node w.topology n ≡ true → (xs : List ServedItem) (rest : List Item) (after : SeatState) → w.items n ≡ items_served xs ++ rest → AreServed (neighbours_at w n) (w.seats n) xs after →
    IsRun w (parts_served n xs) × ((after_parts (parts_served n xs) w).seats n ≡ after) × ((after_parts (parts_served n xs) w).items n ≡ rest)
served_are w n node [] rest after q h = (tt, sym h, q)
served_are w n node (x ∷ xs) rest after q h =
    let w' : Network = after_part w (Serves n x.item x.offers) in
    let r = served_are w' n node xs rest after (put_one_here w.items n (drop 1 (w.items n)) ∙ ap (drop 1) q)
    (subst (λ seat. AreServed (neighbours_at w n) seat xs after) (sym (put_one_here w.seats n (serving_told (neighbours_at w n) (w.seats n) x).seat)) h.1) in
    (((node, subst (IsFront x.item) (sym q) refl, h.0), r.0), r.1, r.2)

-- The parts of a link's thread exchange with its file, its queues and its wire what its turns exchange.
use Rattle.std.proofs.Common.{◌≡◌, ℕ, Bool, true, false, IsFalse, List, [], ◌∷◌, ◌++◌, map, flat_map, Option, Some, None, Result, refl, sym, ap, ap₂, ◌∙◌, append-nil}
use Rattle.std.proofs.lemmas.List.Concat.{flat_map-append}
use Rattle.tora_frame.specs.FrameParts.{FrameParts}
use Rattle.tora_arq.specs.declared.link_event.LinkEvent.{LinkEvent}
use Rattle.tora_arq.specs.Settings.{Settings}
use Rattle.tora_arq.specs.LinkEnd.{EndState}
use Rattle.tora_arq.specs.LinkFacts.{list_of}
use Rattle.tora_seat.specs.declared.cargo.Cargo.{Cargo}
use Rattle.tora_neighbour.specs.declared.wire.WireError.{WireError}
use Rattle.tora_neighbour.specs.declared.ending.Ending.{Ending}
use Rattle.tora_neighbour.specs.declared.ending.Ending.TheVariants.{NoNumber, Broken, Refused}
use Rattle.tora_neighbour.specs.declared.ending.BrokenAt.TheVariants.{Send, Receive}
use Rattle.tora_neighbour.specs.Intake.{Reading}
use Rattle.tora_neighbour.specs.Traffic.{entry_of, beat_of, entries_of}
use Rattle.tora_neighbour.specs.Turns.{Turn, came_of, IsLastTurn, IsTurnRun, idle_turn}
use Rattle.tora_running.specs.Parts.{LinkPart}
use Rattle.tora_running.specs.Parts.LinkPart.{Opens, Ticks, Takes, Sends, Hears, Tells, Beats, Breaks}
use Rattle.tora_running.specs.Histories.{parts_opened, parts_taken, parts_sent, parts_heard, parts_told, parts_of_beat, parts_begun, parts_of, parts_of_turns, parts_of_last}
use Rattle.tora_running.specs.Exchanges.{number_in, cargo_in, sent_in, heard_in, put_in, ExchangeTheSame}

-- ---- one kind of exchange in a turn

module _ {A : Type 0} (f : LinkPart → List A) where
  begun : (t : Turn) → flat_map f (parts_begun t) ≡ flat_map f (parts_opened t.now t.opened) ++ (f (Ticks t.now) ++ (flat_map f (parts_taken t.cargoes) ++ flat_map f (parts_sent t.now t.sent t.answers)))
  begun t =
      flat_map-append f (parts_opened t.now t.opened) (Ticks t.now ∷ (parts_taken t.cargoes ++ parts_sent t.now t.sent t.answers))
      ∙ ap (λ (l : List A). flat_map f (parts_opened t.now t.opened) ++ (f (Ticks t.now) ++ l)) (flat_map-append f (parts_taken t.cargoes) (parts_sent t.now t.sent t.answers))

  whole : (t : Turn) → flat_map f (parts_of t) ≡ flat_map f (parts_begun t) ++ (flat_map f (parts_heard t.now (came_of t)) ++ (flat_map f (parts_told t.now t.told) ++ flat_map f (parts_of_beat t.now t.beat)))
  whole t =
      flat_map-append f (parts_begun t) (parts_heard t.now (came_of t) ++ (parts_told t.now t.told ++ parts_of_beat t.now t.beat))
      ∙ ap (λ (l : List A). flat_map f (parts_begun t) ++ l) (
      flat_map-append f (parts_heard t.now (came_of t)) (parts_told t.now t.told ++ parts_of_beat t.now t.beat)
      ∙ ap (λ (l : List A). flat_map f (parts_heard t.now (came_of t)) ++ l) (flat_map-append f (parts_told t.now t.told) (parts_of_beat t.now t.beat))
      )

  -- parts that exchange nothing of this kind
  none_opened : ((number now : ℕ) → f (Opens number now) ≡ []) → (now : ℕ) (o : Option ℕ) → flat_map f (parts_opened now o) ≡ []
  none_opened h now None = refl
  none_opened h now (Some number) = ap (λ (l : List A). l ++ []) (h number now)

  none_taken : ((cargo : Cargo) → f (Takes cargo) ≡ []) → (cargoes : List Cargo) → flat_map f (parts_taken cargoes) ≡ []
  none_taken h [] = refl
  none_taken h (cargo ∷ cargoes) = ap₂ (λ (l m : List A). l ++ m) (h cargo) (none_taken h cargoes)

  none_sent : ((now : ℕ) (frame : FrameParts) (sending : _) → f (Sends now frame sending) ≡ []) → (now : ℕ) (frames : List FrameParts) (answers : List (Result (Unit {0}) WireError)) → flat_map f (parts_sent now frames answers) ≡ []
  none_sent h now [] answers = refl
  none_sent h now (frame ∷ frames) [] = ap₂ (λ (l m : List A). l ++ m) (h now frame _) (none_sent h now frames [])
  none_sent h now (frame ∷ frames) (answer ∷ answers) = ap₂ (λ (l m : List A). l ++ m) (h now frame _) (none_sent h now frames answers)

  none_heard : ((now : ℕ) (reading : Reading) → f (Hears now reading) ≡ []) → (now : ℕ) (came : Option Reading) → flat_map f (parts_heard now came) ≡ []
  none_heard h now None = refl
  none_heard h now (Some reading) = ap (λ (l : List A). l ++ []) (h now reading)

  none_told : ((now : ℕ) (event : LinkEvent) → f (Tells now event) ≡ []) → (now : ℕ) (events : List LinkEvent) → flat_map f (parts_told now events) ≡ []
  none_told h now [] = refl
  none_told h now (event ∷ events) = ap₂ (λ (l m : List A). l ++ m) (h now event) (none_told h now events)

  none_beaten : ((now : ℕ) → f (Beats now) ≡ []) → (now : ℕ) (beat : Bool) → flat_map f (parts_of_beat now beat) ≡ []
  none_beaten h now true = ap (λ (l : List A). l ++ []) (h now)
  none_beaten h now false = refl

  -- the parts that begin a turn exchange all that there is of this kind, and the following ones nothing
  ends_begun : (t : Turn) (xs : List A) → flat_map f (parts_begun t) ≡ xs → flat_map f (parts_heard t.now (came_of t)) ≡ [] → flat_map f (parts_told t.now t.told) ≡ [] → flat_map f (parts_of_beat t.now t.beat) ≡ [] → flat_map f (parts_of t) ≡ xs
  ends_begun t xs b h e p = whole t ∙ ap₂ (λ (l m : List A). l ++ m) b (ap₂ (λ (l m : List A). l ++ m) h (ap₂ (λ (l m : List A). l ++ m) e p)) ∙ append-nil xs

  broken : (t : Turn) → flat_map f (parts_begun t ++ Breaks ∷ parts_told t.now t.told) ≡ flat_map f (parts_begun t) ++ (f Breaks ++ flat_map f (parts_told t.now t.told))
  broken t = flat_map-append f (parts_begun t) (Breaks ∷ parts_told t.now t.told)

  ends_broken : (t : Turn) (xs : List A) → f Breaks ≡ [] → flat_map f (parts_begun t) ≡ xs → flat_map f (parts_told t.now t.told) ≡ [] → flat_map f (parts_begun t ++ Breaks ∷ parts_told t.now t.told) ≡ xs
  ends_broken t xs k b e = broken t ∙ ap₂ (λ (l m : List A). l ++ m) b (ap₂ (λ (l m : List A). l ++ m) k e) ∙ append-nil xs

  -- ---- one kind of exchange in a run

  module _ (g : Turn → List A) (turn : (t : Turn) → flat_map f (parts_of t) ≡ g t) where
    turns_do : (turns : List Turn) → flat_map f (parts_of_turns turns) ≡ flat_map g turns
    turns_do [] = refl
    turns_do (t ∷ turns) = flat_map-append f (parts_of t) (parts_of_turns turns) ∙ ap₂ (λ (l m : List A). l ++ m) (turn t) (turns_do turns)

    last_does : (idle : (now : ℕ) → g (idle_turn now) ≡ []) → (breaks : (t : Turn) → came_of t ≡ None → IsFalse t.beat → flat_map f (parts_begun t ++ Breaks ∷ parts_told t.now t.told) ≡ g t)
        → (s : Settings) (last_beat : Option ℕ) (e : EndState) (t : Turn) (ending : Ending) (after : EndState) → IsLastTurn s last_beat e t ending after → flat_map f (parts_of_last ending t) ≡ g t
    last_does idle breaks s last_beat e t (NoNumber error) after h = sym (ap g h.nothing ∙ idle t.now)
    last_does idle breaks s last_beat e t (Broken Send) after h = breaks t h.broken.nothing_came h.broken.no_beat
    last_does idle breaks s last_beat e t (Broken Receive) after h = breaks t h.broken.nothing_came h.broken.no_beat
    last_does idle breaks s last_beat e t Refused after h = turn t

    run_does : (idle : (now : ℕ) → g (idle_turn now) ≡ []) → (breaks : (t : Turn) → came_of t ≡ None → IsFalse t.beat → flat_map f (parts_begun t ++ Breaks ∷ parts_told t.now t.told) ≡ g t)
        → (s : Settings) (e : EndState) (turns : List Turn) (last : Turn) (ending : Ending) (after : EndState) → IsTurnRun s e turns last ending after
        → flat_map f (parts_of_turns turns ++ parts_of_last ending last) ≡ flat_map g (turns ++ last ∷ [])
    run_does idle breaks s e turns last ending after h =
        flat_map-append f (parts_of_turns turns) (parts_of_last ending last)
        ∙ ap₂ (λ (l m : List A). l ++ m) (turns_do turns) (last_does idle breaks s h.last_beat h.before last ending after h.last_is ∙ sym (append-nil (g last)))
        ∙ sym (flat_map-append g turns (last ∷ []))

-- ---- numbers

number_begun : (t : Turn) → flat_map number_in (parts_begun t) ≡ list_of t.opened
number_begun t =
    begun number_in t ∙ ap₂ (λ (l m : List ℕ). l ++ m) (opened t.now t.opened) (ap₂ (λ (l m : List ℕ). l ++ m) (none_taken number_in (λ cargo. refl) t.cargoes) (none_sent number_in (λ now frame sending. refl) t.now t.sent t.answers))
    ∙ append-nil (list_of t.opened)
  where
    opened : (now : ℕ) (o : Option ℕ) → flat_map number_in (parts_opened now o) ≡ list_of o
    opened now None = refl
    opened now (Some number) = refl

number_turn : (t : Turn) → flat_map number_in (parts_of t) ≡ list_of t.opened
number_turn t =
    ends_begun number_in t (list_of t.opened) (number_begun t) (none_heard number_in (λ now frame. refl) t.now (came_of t)) (none_told number_in (λ now event. refl) t.now t.told)
    (none_beaten number_in (λ now. refl) t.now t.beat)

number_broken : (t : Turn) → came_of t ≡ None → IsFalse t.beat → flat_map number_in (parts_begun t ++ Breaks ∷ parts_told t.now t.told) ≡ list_of t.opened
number_broken t none silent = ends_broken number_in t (list_of t.opened) refl (number_begun t) (none_told number_in (λ now event. refl) t.now t.told)

-- ---- outbound messages

cargo_begun : (t : Turn) → flat_map cargo_in (parts_begun t) ≡ t.cargoes
cargo_begun t =
    begun cargo_in t ∙ ap₂ (λ (l m : List Cargo). l ++ m) (none_opened cargo_in (λ number now. refl) t.now t.opened) (ap₂ (λ (l m : List Cargo). l ++ m) (taken t.cargoes) (none_sent cargo_in (λ now frame sending. refl) t.now t.sent t.answers))
    ∙ append-nil t.cargoes
  where
    taken : (cargoes : List Cargo) → flat_map cargo_in (parts_taken cargoes) ≡ cargoes
    taken [] = refl
    taken (cargo ∷ cargoes) = ap (λ (l : List Cargo). cargo ∷ l) (taken cargoes)

cargo_turn : (t : Turn) → flat_map cargo_in (parts_of t) ≡ t.cargoes
cargo_turn t =
    ends_begun cargo_in t t.cargoes (cargo_begun t) (none_heard cargo_in (λ now frame. refl) t.now (came_of t)) (none_told cargo_in (λ now event. refl) t.now t.told)
    (none_beaten cargo_in (λ now. refl) t.now t.beat)

cargo_broken : (t : Turn) → came_of t ≡ None → IsFalse t.beat → flat_map cargo_in (parts_begun t ++ Breaks ∷ parts_told t.now t.told) ≡ t.cargoes
cargo_broken t none silent = ends_broken cargo_in t t.cargoes refl (cargo_begun t) (none_told cargo_in (λ now event. refl) t.now t.told)

-- ---- frames that were sent

sent_begun : (t : Turn) → flat_map sent_in (parts_begun t) ≡ t.sent
sent_begun t =
    begun sent_in t ∙ ap₂ (λ (l m : List FrameParts). l ++ m) (none_opened sent_in (λ number now. refl) t.now t.opened) (ap₂ (λ (l m : List FrameParts). l ++ m) (none_taken sent_in (λ cargo. refl) t.cargoes) (given t.now t.sent t.answers))
  where
    given : (now : ℕ) (frames : List FrameParts) (answers : List (Result (Unit {0}) WireError)) → flat_map sent_in (parts_sent now frames answers) ≡ frames
    given now [] answers = refl
    given now (frame ∷ frames) [] = ap (λ (l : List FrameParts). frame ∷ l) (given now frames [])
    given now (frame ∷ frames) (answer ∷ answers) = ap (λ (l : List FrameParts). frame ∷ l) (given now frames answers)

sent_turn : (t : Turn) → flat_map sent_in (parts_of t) ≡ t.sent
sent_turn t =
    ends_begun sent_in t t.sent (sent_begun t) (none_heard sent_in (λ now frame. refl) t.now (came_of t)) (none_told sent_in (λ now event. refl) t.now t.told)
    (none_beaten sent_in (λ now. refl) t.now t.beat)

sent_broken : (t : Turn) → came_of t ≡ None → IsFalse t.beat → flat_map sent_in (parts_begun t ++ Breaks ∷ parts_told t.now t.told) ≡ t.sent
sent_broken t none silent = ends_broken sent_in t t.sent refl (sent_begun t) (none_told sent_in (λ now event. refl) t.now t.told)

-- ---- datagrams that were received

-- nothing is received or put before the receive
none_begun : {A : Type 0} (f : LinkPart → List A) → ((number now : ℕ) → f (Opens number now) ≡ []) → ((now : ℕ) → f (Ticks now) ≡ []) → ((cargo : Cargo) → f (Takes cargo) ≡ []) → ((now : ℕ) (frame : FrameParts) (sending : _) → f (Sends now frame sending) ≡ [])
    → (t : Turn) → flat_map f (parts_begun t) ≡ []
none_begun {A = A} f o k c s t =
    begun f t
    ∙ ap₂ (λ (l m : List A). l ++ m) (none_opened f o t.now t.opened) (ap₂ (λ (l m : List A). l ++ m) (k t.now) (ap₂ (λ (l m : List A). l ++ m) (none_taken f c t.cargoes) (none_sent f s t.now t.sent t.answers)))

heard_begun : (t : Turn) → flat_map heard_in (parts_begun t) ≡ []
heard_begun t = none_begun heard_in (λ number now. refl) (λ now. refl) (λ cargo. refl) (λ now frame sending. refl) t

heard_turn : (t : Turn) → flat_map heard_in (parts_of t) ≡ list_of (came_of t)
heard_turn t =
    whole heard_in t ∙ ap₂ (λ (l m : List Reading). l ++ m) (heard_begun t) (ap₂ (λ (l m : List Reading). l ++ m) (came t.now (came_of t)) (ap₂ (λ (l m : List Reading). l ++ m) (none_told heard_in (λ now event. refl) t.now t.told) (none_beaten heard_in (λ now. refl) t.now t.beat)))
    ∙ append-nil (list_of (came_of t))
  where
    came : (now : ℕ) (o : Option Reading) → flat_map heard_in (parts_heard now o) ≡ list_of o
    came now None = refl
    came now (Some reading) = refl

heard_broken : (t : Turn) → came_of t ≡ None → IsFalse t.beat → flat_map heard_in (parts_begun t ++ Breaks ∷ parts_told t.now t.told) ≡ list_of (came_of t)
heard_broken t none silent = ends_broken heard_in t [] refl (heard_begun t) (none_told heard_in (λ now event. refl) t.now t.told) ∙ sym (ap (λ (o : Option Reading). list_of o) none)

-- ---- items that were put

put_begun : (t : Turn) → flat_map put_in (parts_begun t) ≡ []
put_begun t = none_begun put_in (λ number now. refl) (λ now. refl) (λ cargo. refl) (λ now frame sending. refl) t

put_told : (now : ℕ) (events : List LinkEvent) → flat_map put_in (parts_told now events) ≡ map (entry_of now) events
put_told now [] = refl
put_told now (event ∷ events) = ap (λ l. entry_of now event ∷ l) (put_told now events)

put_beaten : (now : ℕ) (beat : Bool) → flat_map put_in (parts_of_beat now beat) ≡ beat_of beat now
put_beaten now true = refl
put_beaten now false = refl

put_turn : (t : Turn) → flat_map put_in (parts_of t) ≡ entries_of t
put_turn t =
    whole put_in t ∙ ap₂ (λ l m. l ++ m) (put_begun t) (ap₂ (λ l m. l ++ m) (none_heard put_in (λ now frame. refl) t.now (came_of t)) (ap₂ (λ l m. l ++ m) (put_told t.now t.told) (put_beaten t.now t.beat)))

put_broken : (t : Turn) → came_of t ≡ None → IsFalse t.beat → flat_map put_in (parts_begun t ++ Breaks ∷ parts_told t.now t.told) ≡ entries_of t
put_broken t none silent =
    broken put_in t ∙ ap₂ (λ l m. l ++ m) (put_begun t) (put_told t.now t.told) ∙ sym (append-nil (map (entry_of t.now) t.told))
    ∙ sym (ap (λ (b : Bool). map (entry_of t.now) t.told ++ beat_of b t.now) silent)

-- ---- the run of a link's thread

pub run_exchanges : (s : Settings) (e : EndState) (turns : List Turn) (last : Turn) (ending : Ending) (after : EndState) → IsTurnRun s e turns last ending after
    → ExchangeTheSame (parts_of_turns turns ++ parts_of_last ending last) (turns ++ last ∷ [])
run_exchanges s e turns last ending after h = record {
  numbers = run_does number_in (λ t. list_of t.opened) number_turn (λ now. refl) number_broken s e turns last ending after h;
  cargoes = run_does cargo_in (λ t. t.cargoes) cargo_turn (λ now. refl) cargo_broken s e turns last ending after h;
  sent = run_does sent_in (λ t. t.sent) sent_turn (λ now. refl) sent_broken s e turns last ending after h;
  heard = run_does heard_in (λ t. list_of (came_of t)) heard_turn (λ now. refl) heard_broken s e turns last ending after h;
  put = run_does put_in entries_of put_turn (λ now. refl) put_broken s e turns last ending after h;
}

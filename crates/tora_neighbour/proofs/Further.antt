-- The parts of a turn, after one more step.
use Rattle.std.proofs.Common.{◌≡◌, ℕ, ◌≤◌, List, [], ◌∷◌, ◌++◌, take, drop, Bool, IsTrue, Some, None, refl, sym, ap, ◌∙◌, subst, append_assoc}
use Rattle.std.proofs.lemmas.List.{append-nil, map-append}
use Rattle.std.specs.Prelude.{map, slice_get}
use Rattle.std.specs.Prelude.{Result, Ok, Err, OnErr}
use Rattle.tora_frame.specs.FrameParts.{FrameParts}
use Rattle.tora_frame.specs.FrameGrammar.{frame_spelling, frame_reading}
use Rattle.tora_arq.specs.declared.link_event.LinkEvent.{LinkEvent}
use Rattle.tora_arq.specs.Settings.{Settings}
use Rattle.tora_arq.specs.LinkEnd.{EndState, frame_due, after_transmit}
use Rattle.tora_arq.specs.EndRange.{LinkEndView, link_end_of}
use Rattle.tora_neighbour.specs.Datagrams.{IsReceived}
use Rattle.tora_seat.specs.declared.cargo.Cargo.{Cargo}
use Rattle.tora_neighbour.specs.declared.hub.Put.{Put}
use Rattle.tora_seat.specs.Between.{after_cargo}
use Rattle.tora_neighbour.specs.Turns.{after_cargoes, after_frames, AreDue, Tells}
use Rattle.tora_neighbour.specs.Traffic.{entry_of, Came}
use Rattle.tora_neighbour.proofs.Readings.{reading_of_cut}

pub cargoes_more : (e : EndState) (cargoes : List Cargo) (cargo : Cargo) → after_cargoes e (cargoes ++ cargo ∷ []) ≡ after_cargo (after_cargoes e cargoes) cargo
cargoes_more e [] cargo = refl
cargoes_more e (first ∷ cargoes) cargo = cargoes_more (after_cargo e first) cargoes cargo

pub frames_more : (s : Settings) (e : EndState) (now : ℕ) (frames : List FrameParts) (frame : FrameParts) → after_frames s e now (frames ++ frame ∷ []) ≡ after_transmit s (after_frames s e now frames) now
frames_more s e now [] frame = refl
frames_more s e now (first ∷ frames) frame = frames_more s (after_transmit s e now) now frames frame

pub due_more : (s : Settings) (e : EndState) (now : ℕ) (frames : List FrameParts) (frame : FrameParts) → AreDue s e now frames → frame_due s (after_frames s e now frames) now ≡ Some frame → AreDue s e now (frames ++ frame ∷ [])
due_more s e now [] frame due next = (next, tt)
due_more s e now (first ∷ frames) frame due next = (due.0, due_more s (after_transmit s e now) now frames frame due.1 next)

-- a list that grew by some items grows by one more
pub one_more : {A : Type 0} (a b c xs : List A) (x : A) → b ≡ a ++ xs → c ≡ b ++ x ∷ [] → c ≡ a ++ (xs ++ x ∷ [])
one_more a b c xs x first second = second ∙ ap (λ ys. ys ++ x ∷ []) first ∙ append_assoc a xs (x ∷ [])

pub none_more : {A : Type 0} (a b c xs : List A) → b ≡ a ++ xs → c ≡ b ++ [] → c ≡ a ++ xs
none_more a b c xs first second = second ∙ append-nil b ∙ first

-- the first event, and the events after it
pub event_first : (events : List LinkEvent) (event : LinkEvent) → slice_get events 0 ≡ Some event → events ≡ event ∷ drop 1 events
event_first [] event is = absurd (cc)
event_first (first ∷ events) event is = ap (λ x. x ∷ events) (cc)

pub no_event : (events : List LinkEvent) → slice_get events 0 ≡ None → events ≡ []
no_event [] is = refl
no_event (first ∷ events) is = absurd (cc)

-- the events that were put so far, and those that are left
pub record ToldSoFar (e : EndState) (before : List Put) (now : ℕ) (here : EndState) (after : List Put) : Type 0 where
  pub told : List LinkEvent
  pub events : e.events ≡ told ++ here.events
  pub same : here ≡ record e { events = here.events }
  pub puts : after ≡ before ++ map (entry_of now) told

abbrev pub told_none : (e : EndState) (puts : List Put) (now : ℕ) → ToldSoFar e puts now e puts
told_none e puts now = record { told = []; events = refl; same = refl; puts = sym (append-nil puts) }

-- one more event is returned by the end, and put
abbrev pub told_more : (e : EndState) (before : List Put) (now : ℕ) (here : EndState) (mid : List Put) (event : LinkEvent) (there : EndState) (after : List Put)
    → ToldSoFar e before now here mid → slice_get here.events 0 ≡ Some event → there ≡ record here { events = drop 1 here.events } → after ≡ mid ++ entry_of now event ∷ [] → ToldSoFar e before now there after
told_more e before now here mid event there after h first next put =
    let left : there.events ≡ drop 1 here.events = ap (λ (x : EndState). x.events) next in record {
      told = h.told ++ event ∷ [];
      events = h.events ∙ ap (λ xs. h.told ++ xs) (event_first here.events event first ∙ ap (λ xs. event ∷ xs) (sym left)) ∙ sym (append_assoc h.told (event ∷ []) there.events);
      same = next ∙ (λ i. record (h.same i) { events = sym left i });
      puts = put ∙ ap (λ xs. xs ++ entry_of now event ∷ []) h.puts ∙ append_assoc before (map (entry_of now) h.told) (entry_of now event ∷ []) ∙ ap (λ xs. before ++ xs) (sym (map-append (entry_of now) h.told (event ∷ [])));
    }

-- no event is left
pub told_all : (e : EndState) (before : List Put) (now : ℕ) (here there : EndState) (after : List Put)
    → (h : ToldSoFar e before now here after) → slice_get here.events 0 ≡ None → there ≡ record here { events = drop 1 here.events } → Tells e h.told None there
told_all e before now here there after h none next =
    let over : here.events ≡ [] = no_event here.events none in
    let left : there.events ≡ [] = ap (λ (x : EndState). x.events) next ∙ ap (drop 1) over in record {
      left = there.events;
      events = h.events ∙ ap (λ xs. h.told ++ xs) (over ∙ sym left) ∙ ap (λ xs. xs ++ there.events) (sym (append-nil h.told));
      all = λ same. left;
      after_is = next ∙ (λ i. record (h.same i) { events = sym (ap (λ (x : EndState). x.events) next) i });
    }

-- an event is returned by the end, and refused
pub told_some : (e : EndState) (before : List Put) (now : ℕ) (here : EndState) (event : LinkEvent) (there : EndState) (after : List Put)
    → (h : ToldSoFar e before now here after) → slice_get here.events 0 ≡ Some event → there ≡ record here { events = drop 1 here.events } → Tells e h.told (Some event) there
told_some e before now here event there after h first next =
    let left : there.events ≡ drop 1 here.events = ap (λ (x : EndState). x.events) next in record {
      left = there.events;
      events = h.events ∙ ap (λ xs. h.told ++ xs) (event_first here.events event first ∙ ap (λ xs. event ∷ xs) (sym left)) ∙ sym (append_assoc h.told (event ∷ []) there.events);
      all = λ same. absurd (cc);
      after_is = next ∙ (λ i. record (h.same i) { events = sym left i });
    }

-- one more frame is sent
pub tries_more : (a b c : List (List ℕ)) (frames : List FrameParts) (frame : FrameParts) (bytes : List ℕ) → b ≡ a ++ map frame_spelling frames → c ≡ b ++ bytes ∷ [] → bytes ≡ frame_spelling frame → c ≡ a ++ map frame_spelling (frames ++ frame ∷ [])
tries_more a b c frames frame bytes first second spelt =
    second
    ∙ ap (λ xs. xs ++ bytes ∷ []) first
    ∙ ap (λ x. (a ++ map frame_spelling frames) ++ x ∷ []) spelt
    ∙ append_assoc a (map frame_spelling frames) (frame_spelling frame ∷ [])
    ∙ ap (λ xs. a ++ xs) (sym (map-append frame_spelling frames (frame ∷ [])))

pub on_err_anyway : {T E P : Type 0} (r : Result T E) → P → OnErr r P
on_err_anyway (Ok x) p = tt
on_err_anyway (Err e) p = p

pub sent_more : (v : LinkEndView) (now : ℕ) (here there : LinkEndView) (tells more : Bool) (before mid after : List (List ℕ)) (frames : List FrameParts) (frame : FrameParts) (bytes : List ℕ)
    → AreDue v.settings v.state now frames
    → here ≡ link_end_of v.settings (after_frames v.settings v.state now frames)
    → (IsTrue tells → mid ≡ before ++ map frame_spelling frames)
    → Some frame ≡ frame_due here.settings here.state now
    → there ≡ link_end_of here.settings (after_transmit here.settings here.state now)
    → (IsTrue more → IsTrue tells)
    → (IsTrue more → after ≡ mid ++ bytes ∷ [])
    → bytes ≡ frame_spelling frame
    → AreDue v.settings v.state now (frames ++ frame ∷ [])
    × (there ≡ link_end_of v.settings (after_frames v.settings v.state now (frames ++ frame ∷ [])))
    × (IsTrue more → after ≡ before ++ map frame_spelling (frames ++ frame ∷ []))
sent_more v now here there tells more before mid after frames frame bytes due is tries next then still tried spelt = (
  due_more v.settings v.state now frames frame due (subst (λ (x : LinkEndView). frame_due x.settings x.state now ≡ Some frame) is (sym next)),
  then
      ∙ ap (λ (x : LinkEndView). link_end_of x.settings (after_transmit x.settings x.state now)) is
      ∙ ap (link_end_of v.settings) (sym (frames_more v.settings v.state now frames frame)),
  λ yes. tries_more before mid after frames frame bytes (tries (still yes)) (tried yes) spelt,
)

-- a datagram is received
pub came_one : (size : ℕ) (coming rest : List (List ℕ)) (count : ℕ) (buffer : List ℕ) → 561 ≤ size → IsReceived coming size (Ok (Some count)) buffer rest → Came coming (frame_reading (take count buffer) ∷ []) rest
came_one size coming rest count buffer room h = record {
  given = h.0 ∷ [];
  coming_is = h.1;
  readings_are = ap (λ reading. reading ∷ []) (ap frame_reading h.2.bytes ∙ reading_of_cut size h.0 room);
}

-- no datagram is received
pub came_none : (coming rest : List (List ℕ)) → rest ≡ coming → Came coming [] rest
came_none coming rest same = record { given = []; coming_is = sym same; readings_are = refl }

-- What a neighbour's thread exchanges with its life file, its hub and its wire in the turns of a run.
use Rattle.std.specs.Prelude.{◌≡◌, ℕ, suc, Bool, List, [], ◌∷◌, ◌++◌, map, IsTrue, if◌then◌else◌}
use Rattle.std.specs.List.{flat_map}
use Rattle.tora_frame.specs.FrameParts.{FrameParts}
use Rattle.tora_frame.specs.FrameGrammar.{frame_spelling, frame_reading}
use Rattle.tora_arq.specs.declared.link_event.LinkEvent.{LinkEvent}
use Rattle.tora_arq.specs.LinkFacts.{list_of}
use Rattle.tora_seat.specs.declared.cargo.Cargo.{Cargo}
use Rattle.tora_seat.specs.Between.{what_of}
use Rattle.tora_seat.specs.declared.what.What.TheVariants as Put
use Rattle.tora_neighbour.specs.declared.hub.Put.{Put as Entry}
use Rattle.tora_neighbour.specs.declared.link.Link.{Link}
use Rattle.tora_neighbour.specs.Puts.{put_of}
use Rattle.tora_neighbour.specs.Intake.{Reading}
use Rattle.tora_neighbour.specs.Turns.{Turn, came_of}

-- what contracts see of the file, the hub and the wire
pub record Outside : Type 0 where
  pub drawn : ℕ  -- the last number drawn
  pub puts : List Entry
  pub takes : List Cargo
  pub tells : Bool  -- whether contracts see the wire's datagrams
  pub coming : List (List ℕ)
  pub tries : List (List ℕ)

abbrev pub outside : {D W H : Type 0} → (H → List Entry) → (H → List Cargo) → (W → Bool) → (W → List (List ℕ))
    → (W → List (List ℕ)) → Link D W → H → Outside
outside puts takes tells coming tries link hub =
    record {
      drawn = link.file.numbers.drawn;
      puts = puts hub;
      takes = takes hub;
      tells = tells link.wire;
      coming = coming link.wire;
      tries = tries link.wire;
    }

-- the item that an event is put as
abbrev pub entry_of : ℕ → LinkEvent → Entry
entry_of now event = put_of now (what_of event)

abbrev pub beat_of : Bool → ℕ → List Entry
beat_of beat now = if beat then put_of now Put.Beat ∷ [] else []

-- ---- all turns together

-- the numbers with which the end was opened
abbrev pub numbers_opened : List Turn → List ℕ
numbers_opened turns = flat_map (λ t. list_of t.opened) turns

-- what was put in a turn: its events, and then its beat
abbrev pub entries_of : Turn → List Entry
entries_of t = map (entry_of t.now) t.told ++ beat_of t.beat t.now

abbrev pub entries_put : List Turn → List Entry
entries_put turns = flat_map entries_of turns

abbrev pub cargoes_taken : List Turn → List Cargo
cargoes_taken turns = flat_map (λ t. t.cargoes) turns

abbrev pub frames_sent : List Turn → List FrameParts
frames_sent turns = flat_map (λ t. t.sent) turns

-- the readings of the datagrams that were received
abbrev pub readings_come : List Turn → List Reading
readings_come turns = flat_map (λ t. list_of (came_of t)) turns

-- ---- how the turns relate to what contracts see

-- each of these numbers is 1 above the number drawn before it
abbrev pub AreDrawn : ℕ → List ℕ → ℕ → Type 0
AreDrawn drawn [] after = after ≡ drawn
AreDrawn drawn (n ∷ numbers) after = (n ≡ suc drawn) × AreDrawn n numbers after

-- these are the readings of the first datagrams to come, and the rest is still to come
pub record Came (coming : List (List ℕ)) (readings : List Reading) (rest : List (List ℕ)) : Type 0 where
  pub given : List (List ℕ)
  pub coming_is : coming ≡ given ++ rest
  pub readings_are : readings ≡ map frame_reading given

pub record Traffic (old : Outside) (turns : List Turn) (new : Outside) : Type 0 where
  pub drawn : AreDrawn old.drawn (numbers_opened turns) new.drawn
  pub puts : new.puts ≡ old.puts ++ entries_put turns
  pub takes : new.takes ≡ old.takes ++ cargoes_taken turns
  pub tells : IsTrue new.tells → IsTrue old.tells
  pub tries : IsTrue new.tells → new.tries ≡ old.tries ++ map frame_spelling (frames_sent turns)
  pub came : IsTrue new.tells → Came old.coming (readings_come turns) new.coming

-- A part of a run is one or two events of the free world.
use Rattle.std.proofs.Common.{◌≡◌, ℕ, Bool, true, false, true≢false, List, [], ◌∷◌, ◌++◌, Some, None, if◌then◌else◌, refl, sym, ap, ◌∙◌, subst}
use Rattle.std.specs.Prelude.{is_some, not, drop}
use Rattle.tora_frame.specs.FrameParts.{FrameParts}
use Rattle.tora_life.specs.LifeRun.{LifeDisk}
use Rattle.tora_seat.specs.declared.item.Item.{Item}
use Rattle.tora_seat.specs.declared.what.What.{What}
use Rattle.tora_seat.specs.Serving.{Offer, Serving, put_one, put_to, stepped_from}
use Rattle.tora_world.specs.declared.event.Event.{Event}
use Rattle.tora_world.specs.declared.event.Event.TheVariants.{CoreTurn, Restart}
use Rattle.tora_world.specs.declared.sim_error.SimError.TheVariants as Refused
use Rattle.tora_world.specs.Topology.{is_node}
use Rattle.tora_world.specs.Lists.{IsIn}
use Rattle.tora_world.specs.World.{World, Choice, Arms, refusal_by, is_empty, unless_possible, effect_by, world_by, after_restart, after_serving, after_turn, command_seat, with_item}
use Rattle.tora_world.specs.World.Sending.{Goes}
use Rattle.tora_world.specs.FreeWorld.{FreeEvent, TellsNoLife, free_by, Schedule, after_schedule}
use Rattle.tora_world.specs.FreeWorld.FreeEvent.{Happens, Puts, StartsAnew}
use Rattle.tora_node.specs.CoreRuns.{answers_told}
use Rattle.tora_running.specs.Network.{Network, served_at, IsFront, after_part}
use Rattle.tora_running.specs.Network.Part.{Starts, Serves, Asks}
use Rattle.tora_running.proofs.LifeFiles.{IsUnder}

-- the network that agrees with a world, these drawn numbers and these sent frames
abbrev pub network_of : World → (ℕ → ℕ → ℕ) → (ℕ → ℕ → List FrameParts) → Network
network_of w numbers frames = record {
  topology = w.topology;
  times = w.times;
  seats = w.seats;
  ends = w.ends;
  numbers = numbers;
  items = w.items;
  counts = w.counts;
  cargoes = w.cargoes;
  frames = frames;
  put = w.put;
  inputs = w.inputs;
  steps = w.steps;
}

-- the frame was sent from n to k
pub record WentOut (datagrams : List FrameParts) (n k : ℕ) (f : FrameParts) : Type 0 where
  pub sender : f.header.sender ≡ n
  pub receiver : f.header.receiver ≡ k
  pub among : IsIn f datagrams

pub record IsUnarmed (arms : Arms) : Type 0 where
  pub sending : arms.sending ≡ Goes
  pub receive : arms.receive ≡ false

-- the conditions that the network does not show: no call is armed to fail, no file has drawn a greater number, and
-- every frame is a datagram
pub record AreBeside (arms : ℕ → Arms) (files : ℕ → ℕ → LifeDisk) (datagrams : List FrameParts) (numbers : ℕ → ℕ → ℕ) (frames : ℕ → ℕ → List FrameParts) : Type 0 where
  pub unarmed : (n : ℕ) → IsUnarmed (arms n)
  pub under : (n k : ℕ) → IsUnder (numbers n k) (files n k)
  pub went_out : (n k : ℕ) (f : FrameParts) → IsIn f (frames n k) → WentOut datagrams n k f

abbrev pub IsBeside : World → (ℕ → ℕ → ℕ) → (ℕ → ℕ → List FrameParts) → Type 0
IsBeside w numbers frames = AreBeside w.arms w.files w.datagrams numbers frames

-- some schedule leads from this world to one that agrees with the network
pub record Reaches (w : World) (network : Network) : Type 0 where
  pub es : Schedule
  pub numbers : ℕ → ℕ → ℕ
  pub frames : ℕ → ℕ → List FrameParts
  pub shows : network ≡ network_of (after_schedule es w) numbers frames
  pub other : IsBeside (after_schedule es w) numbers frames

-- one event leads there
pub by_one : (w : World) (event : FreeEvent) (c : Choice) (after : World) (numbers : ℕ → ℕ → ℕ) (frames : ℕ → ℕ → List FrameParts) → free_by c w event ≡ after → IsBeside after numbers frames → Reaches w (network_of after numbers frames)
unfolding after_schedule
by_one w event c after numbers frames e b = record {
  es = (event, c) ∷ [];
  numbers = numbers;
  frames = frames;
  shows = ap (λ x. network_of x numbers frames) (sym e);
  other = subst (λ x. IsBeside x numbers frames) (sym e) b;
}

-- two events lead there
pub by_two : (w : World) (one two : FreeEvent) (c : Choice) (after : World) (numbers : ℕ → ℕ → ℕ) (frames : ℕ → ℕ → List FrameParts) → free_by c (free_by c w one) two ≡ after → IsBeside after numbers frames → Reaches w (network_of after numbers frames)
unfolding after_schedule
by_two w one two c after numbers frames e b = record {
  es = (one, c) ∷ (two, c) ∷ [];
  numbers = numbers;
  frames = frames;
  shows = ap (λ x. network_of x numbers frames) (sym e);
  other = subst (λ x. IsBeside x numbers frames) (sym e) b;
}

pub schedule-append : (es fs : Schedule) (w : World) → after_schedule (es ++ fs) w ≡ after_schedule fs (after_schedule es w)
unfolding after_schedule
schedule-append [] fs w = refl
schedule-append (e ∷ es) fs w = schedule-append es fs (free_by e.1 w e.0)

-- ---- events of the simulator that are not refused

pub is_possible : (here possible : Bool) → here ≡ true → possible ≡ true → is_some (if here then unless_possible possible else Some Refused.NoNode) ≡ false
is_possible true true e f = refl
is_possible true false e f = absurd (true≢false (sym f))
is_possible false possible e f = absurd (true≢false (sym e))

pub world_is : (c : Choice) (w : World) (event : Event) → is_some (refusal_by c w event) ≡ false → world_by c w event ≡ effect_by c w event
unfolding world_by
world_is c w event e = ap (λ b. if b then w else effect_by c w event) e

-- every call gets this tick
abbrev pub at_tick : ℕ → List Offer → Choice
at_tick now offers = record { clock = now; now = λ n k. now; stamp = now; answers = answers_told offers }

-- ---- parts of a node

module _ (w : World) (numbers : ℕ → ℕ → ℕ) (frames : ℕ → ℕ → List FrameParts) (b : IsBeside w numbers frames) where
  pub start_leads : (n : ℕ) → is_node w.topology n ≡ true → Reaches w (after_part (network_of w numbers frames) (Starts n))
  unfolding effect_by
  start_leads n node =
      by_one w (StartsAnew n) (at_tick 0 []) (record (after_restart w n None) { files = w.files }) numbers frames
      (ap (λ (x : World). record x { files = w.files }) (world_is (at_tick 0 []) w (Restart n None) (is_possible (is_node w.topology n) true node refl)))
      b

  pub ask_leads : (n now : ℕ) (what : What) → TellsNoLife what → Reaches w (after_part (network_of w numbers frames) (Asks n now what))
  ask_leads n now what silent =
      by_one w (Puts n (command_seat w n) what silent) (at_tick now []) (with_item w n (command_seat w n) now what) numbers frames refl
      b

  pub serve_leads : (n : ℕ) (item : Item) (offers : List Offer) → is_node w.topology n ≡ true → IsFront item (w.items n) → Reaches w (after_part (network_of w numbers frames) (Serves n item offers))
  unfolding effect_by
  serve_leads n item offers node front = go (w.items n) refl front
    where
      v : Serving
      v = served_at (network_of w numbers frames) n item offers

      c : Choice
      c = at_tick 0 offers

      -- the network after the item was served
      served : List Item → Network
      served items = record (network_of w numbers frames) {
        seats = put_one w.seats n v.seat;
        items = put_one w.items n items;
        cargoes = put_one w.cargoes n (λ k. w.cargoes n k ++ put_to k v.offers);
        put = put_one w.put n (λ k. w.put n k ++ put_to k v.offers);
        inputs = put_one w.inputs n (w.inputs n ++ v.inputs);
        steps = put_one w.steps n (λ k. w.steps n k ++ stepped_from k v.steps);
      }

      go : (items : List Item) → w.items n ≡ items → IsFront item items → Reaches w (after_part (network_of w numbers frames) (Serves n item offers))
      go [] q i = absurd i
      go (x ∷ items) q i =
          let here : w.items n ≡ item ∷ items = q ∙ ap (λ y. y ∷ items) (sym i) in
          subst (λ ys. Reaches w (served ys)) (sym (ap (drop 1) here))
          (by_one w (Happens (CoreTurn n)) c (after_serving w n items v) numbers frames
          (world_is c w (CoreTurn n) (is_possible (is_node w.topology n) (not (is_empty (w.items n))) node (ap (λ ys. not (is_empty ys)) here)) ∙ ap (after_turn w c n) here)
          b)

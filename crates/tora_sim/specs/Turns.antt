-- The effect of an item on a node and its link ends.
use Rattle.std.specs.Prelude.{◌≡◌, ℕ, ◌+◌, List, [], ◌∷◌, ◌++◌, map, slice_get, slice_set, Option, Some, None, Result}
use Rattle.std.specs.Prelude.{MatchResult}
use Rattle.tora_core.specs.Kept.{destinations_of}
use Rattle.tora_seat.specs.declared.item.Item.{Item}
use Rattle.tora_seat.specs.declared.stepped.Stepped.{Stepped}
use Rattle.tora_seat.specs.Serving.{Answers, Offer, serving_of}
use Rattle.tora_seat.specs.Offers.{AreOffered, Follows}
use Rattle.tora_seat.specs.Rows.{serving_at}
use Rattle.tora_seat.specs.Rows as Rows
use Rattle.tora_world.specs.declared.sim_error.SimError.{SimError}
use Rattle.tora_world.specs.declared.sim_error.SimError.TheVariants as Refused
use Rattle.tora_sim.specs.Links.{LinkView}
use Rattle.tora_sim.specs.Nodes.{NodeView}
use Rattle.tora_sim.specs.Lanes.{LanesView, lanes_of, DidOffer}

-- the first item of a node's queue was served over these lanes
pub record IsServed (before : NodeView) (lanes : LanesView) (item : Item) (after : NodeView) (lanes_after : LanesView) :
    Type 0 where
  pub items : before.items ≡ item ∷ after.items
  pub offers : List Offer
  pub offered : AreOffered DidOffer before.seat.core.neighbours lanes offers lanes_after
  pub serving : (answers : Answers) → Follows answers [] offers →
      serving_of answers before.seat.core.neighbours (Rows.state_of before.seat) item
      ≡ serving_at item.now after.seat offers
  pub me : after.seat.core.me ≡ before.seat.core.me
  pub erasure : after.seat.core.erasure ≡ before.seat.core.erasure
  pub neighbours : after.seat.core.neighbours ≡ before.seat.core.neighbours
  pub destinations : destinations_of after.seat.core.views ≡ destinations_of before.seat.core.views
  pub node : after ≡ record before {
    seat = after.seat;
    inputs =
        before.inputs ++ map (λ input. (input, item.now)) after.seat.inputs;
    items = after.items;
  }

-- if a packet was stepped, it was recorded at the link end of the item's seat
abbrev pub IsNoted : LanesView → ℕ → Option Stepped → List LinkView → Type 0
IsNoted lanes seat None links = links ≡ lanes.links
IsNoted lanes seat (Some p) links = (link : LinkView) × (slice_get lanes.links (lanes.first + seat) ≡ Some link)
    × (links ≡ slice_set lanes.links (lanes.first + seat) (record link {
      steps = link.steps ++ record {
        life = p.life;
        packet = p.packet;
      } ∷ [];
    }))

-- a node and all link ends after the first item of its queue
pub record IsTurned (before : NodeView) (links : List LinkView) (after : NodeView) (links_after : List LinkView) :
    Type 0 where
  pub item : Item
  pub lanes : LanesView
  pub served : IsServed before (lanes_of links before.first before.count) item after lanes
  pub noted : IsNoted lanes item.seat after.seat.stepped links_after

-- the effect of a turn: the item was served, or memory ran out and nothing changed
abbrev pub Turns : NodeView → List LinkView → Result (Unit {0}) SimError → NodeView → List LinkView → Type 0
Turns before links result after links_after = MatchResult result (λ _. IsTurned before links after links_after)
    (λ error. (error ≡ Refused.Memory) × (after ≡ before) × (links_after ≡ links))

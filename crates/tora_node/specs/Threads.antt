-- The results of the threads of a node.
use Rattle.std.specs.Prelude.{◌≡◌, ℕ, List, [], ◌∷◌, ◌++◌, map, Option, None, Result}
use Rattle.std.specs.Io.KnownBytes.{Appends}
use Rattle.std.specs.declared.thread.PromisedHandle.{PromisedHandle}
use Rattle.tora_core.specs.CoreRun.{core_after_all}
use Rattle.tora_lane.specs.LaneRule.{items_of}
use Rattle.tora_lane.specs.Offering.{DidOffer}
use Rattle.tora_lane.specs.Out.{SendEnd, ReceiveEnd}
use Rattle.tora_lane.specs.Ports.{InEnd, CoreEnd, Lane}
use Rattle.tora_life.specs.declared.disk.Disk as Disk
use Rattle.tora_neighbour.specs.LaneHub.{IsSamePort}
use Rattle.tora_neighbour.specs.Puts.{put_in}
use Rattle.tora_neighbour.specs.Traffic.{AreDrawn, cargoes_taken, entries_put, numbers_opened}
use Rattle.tora_neighbour.specs.declared.lane_hub.LaneHub.{LaneHub}
use Rattle.tora_neighbour.specs.declared.wire.Wire as Wire
use Rattle.tora_neighbour.specs.declared.wire.WireError.{WireError}
use Rattle.tora_seat.specs.Offers.{AreOffered}
use Rattle.tora_seat.specs.Rows.{SeatView, state_of}
use Rattle.tora_seat.specs.declared.cargo.Cargo.{Cargo}
use Rattle.tora_seat.specs.declared.item.Item.{Item}
use Rattle.tora_node.specs.declared.core_task.CoreRest.{CoreRest}
use Rattle.tora_node.specs.declared.link_task.LinkRest.{LinkRest}
use Rattle.tora_node.specs.declared.link_task.Outcome.{Outcome}
use Rattle.tora_node.specs.declared.start.NewLink.{NewLink}
use Rattle.tora_node.specs.declared.start.Start.{Start}
use Rattle.tora_node.specs.declared.task.Does.{Does}
use Rattle.tora_node.specs.CoreRuns.{ServedItem, AreServed, items_served, offers_made, inputs_stepped, text_served}
use Rattle.tora_node.specs.CoreRuns.{EndsSo}
use Rattle.tora_node.specs.LinkRuns.{LinkName, IsLinkRun, link_made}
use Rattle.tora_node.specs.NodeRuns.{IsCoreFault}
use Rattle.tora_node.specs.WireCalls.{HasCalled}

-- the lists have the same length, and P holds for the two items at each index
abbrev pub Each : {A B : Type 0} → (A → B → Type 0) → List A → List B → Type 0
Each P [] [] = Unit {0}
Each P [] (y ∷ ys) = ⊥
Each P (x ∷ xs) [] = ⊥
Each P (x ∷ xs) (y ∷ ys) = P x y × Each P xs ys

-- the work of the thread with this handle
abbrev pub begun_by : {L T : Type 0} → PromisedHandle L (Does T) → T
begun_by handle = handle.promise.0.value

-- ---- the thread of a link

-- the link, the wire, and the last number of the life file
pub record LinkStart (W : Type 0) : Type 0 where
  pub link : LinkName
  pub wire : W
  pub drawn : ℕ

-- the port and the receiving end of a link's queues, as its hub
abbrev pub hub_of : InEnd × ReceiveEnd → LaneHub
hub_of ends = record { port = ends.0; outs = ends.1 }

module _ {D W : Type 0} {disk : Disk.Ghosts D} {wire : Wire.Ghosts W} where
  abbrev pub link_to_start : NewLink D W disk wire → LinkStart W
  link_to_start new = record { link = link_made new; wire = new.link.wire; drawn = new.link.file.numbers.drawn }

module _ {D W C : Type 0} {disk : Disk.Ghosts D} {wire : Wire.Ghosts W} where
  abbrev pub started : Start D W C disk wire → LinkStart W
  started start = link_to_start start.new

  abbrev pub hub_started : Start D W C disk wire → LaneHub
  hub_started start = start.hub

  abbrev pub clock_started : Start D W C disk wire → C
  clock_started start = start.clock

-- The thread ran this link over this wire. Each turn has a tick of this clock, and the session numbers follow `drawn`.
-- The port holds the items that its turns put, and the queue gave the messages that they took
pub record LinkLeaves {W C : Type 0} (send : W → List ℕ → Result (Unit {0}) WireError → W → Type 0) (receive : W
    → Result (Option ℕ) WireError → List ℕ → W → Type 0) (tell : C → ℕ → C
    → Type 0) (link : LinkName) (wire : W) (clock : C) (drawn : ℕ) (hub : LaneHub) (rest : LinkRest) : Type 0 where
  pub run : IsLinkRun link.me link.peer rest.outcome.fault rest.outcome.tally
  pub called : HasCalled send receive tell wire clock run.turns run.last run.ending
  pub last_drawn : ℕ
  pub numbers : AreDrawn drawn (numbers_opened (run.turns ++ run.last ∷ [])) last_drawn
  pub puts : map put_in rest.hub.port.put ≡ map put_in hub.port.put ++ entries_put (run.turns ++ run.last ∷ [])
  pub takes : rest.hub.outs.received ≡ hub.outs.received ++ cargoes_taken (run.turns ++ run.last ∷ [])
  pub port : IsSamePort hub.port rest.hub.port
  pub ring : rest.hub.outs.ring ≡ hub.outs.ring

-- ---- the core's thread

-- The thread served the items that it took, and offered its messages to these queues. Without a fault, it wrote the
-- text of these items
pub record CoreLeaves {Wr : Type 0} (contents : Wr → Option (List ℕ)) (first : SeatView) (port : CoreEnd)
    (outs : List SendEnd) (writer : Wr) (rest : CoreRest Wr) : Type 0 where
  pub xs : List ServedItem
  pub taken : rest.port.taken ≡ port.taken ++ items_served xs
  pub lane : rest.port.lane ≡ port.lane
  pub served : AreServed first.core.neighbours (state_of first) xs (state_of rest.seat)
  pub offered : AreOffered DidOffer first.core.neighbours outs (offers_made xs) rest.outs.ends.items
  pub core_is : rest.seat.core ≡ core_after_all first.core (inputs_stepped first.core.neighbours (state_of first) xs)
  pub ends : EndsSo rest.fault xs rest.port.gone
  pub neighbours : rest.seat.core.neighbours ≡ first.core.neighbours
  pub fault : IsCoreFault rest.fault
  pub written : rest.fault ≡ None → Appends (contents writer) (contents rest.writer)
      (text_served first.core.neighbours None (state_of first) xs)

-- ---- what is left in the queues

abbrev pub outcome_of : LinkRest → Outcome
outcome_of rest = rest.outcome

-- the ends of a link's thread belong to the queue into the core and to this queue
abbrev pub HasEnds : Lane → LinkRest → SendEnd → Type 0
HasEnds lane rest out = (rest.hub.port.lane ≡ lane) × (out.ring ≡ rest.hub.outs.ring)

-- the items that were put at the link's seat are those that were taken and some that are left, and the messages that
-- were sent to it are those that it received and some that wait
abbrev pub IsSettled : List Item → LinkRest → SendEnd → Type 0
IsSettled taken rest out =
    (left : List Item) × (items_of rest.hub.port.seat taken ++ left ≡ rest.hub.port.put)
    × (waiting : List Cargo) × (rest.hub.outs.received ++ waiting ≡ out.sent)

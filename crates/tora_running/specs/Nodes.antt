-- The histories of a node's threads, from the contract of `run_node`.
use Rattle.std.specs.Prelude.{◌≡◌, ℕ, List, [], ◌∷◌, ◌++◌, map}
use Rattle.std.specs.List.{flat_map}
use Rattle.tora_arq.specs.LinkEnd.{EndState, first_end}
use Rattle.tora_arq.specs.Settings.{settings_of}
use Rattle.tora_arq.specs.declared.times.TheConstants.Times.{STANDARD}
use Rattle.tora_frame.specs.declared.parts.Version.TheVariants.{Two}
use Rattle.tora_lane.specs.LaneRule.{items_of}
use Rattle.tora_neighbour.specs.Puts.{put_in as put_of_item}
use Rattle.tora_neighbour.specs.Tally.{first_tally}
use Rattle.tora_neighbour.specs.Traffic.{readings_come}
use Rattle.tora_neighbour.specs.Turns.{Turn, tally_after}
use Rattle.tora_neighbour.specs.declared.tally.Tally.{Tally}
use Rattle.tora_node.specs.CoreRuns.{ServedItem, items_served, offers_made}
use Rattle.tora_seat.specs.Serving.{put_to}
use Rattle.tora_seat.specs.declared.cargo.Cargo.{Cargo}
use Rattle.tora_seat.specs.declared.item.Item.{Item}
use Rattle.tora_running.specs.Parts.{LinkPart, AreLinkParts}
use Rattle.tora_running.specs.Exchanges.{ExchangeTheSame, cargo_in, heard_in, put_in}

-- The thread of the link from one node to another has made these parts of a new end, one after another. They exchange
-- what the turns with this tally exchange.
pub record HasHistory (me peer : ℕ) (tally : Tally) : Type 0 where
  pub parts : List LinkPart
  pub between : EndState
  pub made : AreLinkParts (settings_of Two me peer STANDARD) first_end parts between
  pub turns : List Turn
  pub exchange : ExchangeTheSame parts turns
  pub tally_is : tally ≡ tally_after first_tally turns

-- the link to each of these neighbours has such a history, in the same order
abbrev pub HaveHistories : ℕ → List ℕ → List Tally → Type 0
HaveHistories me [] [] = Unit {0}
HaveHistories me [] (tally ∷ tallies) = ⊥
HaveHistories me (k ∷ ks) [] = ⊥
HaveHistories me (k ∷ ks) (tally ∷ tallies) = HasHistory me k tally × HaveHistories me ks tallies

-- The parts receive exactly the datagrams that the receives of these turns returned in their buffers, in order.
pub record HearsItsWire (me peer : ℕ) (tally : Tally) (turns : List Turn) : Type 0 where
  pub history : HasHistory me peer tally
  pub turns_are : history.turns ≡ turns
  pub heard : flat_map heard_in history.parts ≡ readings_come turns

-- The items put by the parts of the link at a place are the items of its seat that the core served, followed by those
-- that were left. The outbound messages taken, followed by those left in the queue, are those put for the peer.
pub record HasExchanged (me : ℕ) (xs : List ServedItem) (place peer : ℕ) (tally : Tally) : Type 0 where
  pub history : HasHistory me peer tally
  pub left : List Item
  pub put : flat_map put_in history.parts ≡ map put_of_item (items_of place (items_served xs) ++ left)
  pub waiting : List Cargo
  pub taken : flat_map cargo_in history.parts ++ waiting ≡ put_to peer (offers_made xs)

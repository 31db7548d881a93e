-- What a node did from its start until all its threads had ended.
use Rattle.std.specs.Prelude.{◌≡◌, ◌⊎◌, ◌<◌, ◌≤◌, ℕ, Bool, List, [], ◌∷◌, ◌++◌, length, map, slice_get, Option, None}
use Rattle.std.specs.Prelude.{Some, Result, Ok, IfOk, IfErr}
use Rattle.std.specs.Io.KnownBytes.{Appends, Consumes}
use Rattle.tora_core.specs.CoreRun.{CoreView, core_after_all}
use Rattle.tora_lane.specs.LaneRule.{items_of}
use Rattle.tora_lane.specs.declared.limits.TheConstants.{MOST_LINKS}
use Rattle.tora_life.specs.declared.numbers.LifeError.{LifeError}
use Rattle.tora_neighbour.specs.Puts.{put_in}
use Rattle.tora_neighbour.specs.Traffic.{AreDrawn, cargoes_taken, entries_put, numbers_opened}
use Rattle.tora_neighbour.specs.Turns.{AreRead}
use Rattle.tora_node.specs.declared.fault.NodeError.{NodeError}
use Rattle.tora_node.specs.declared.fault.NodeError.TheVariants as Fault
use Rattle.tora_neighbour.specs.declared.tally.Tally.{Tally}
use Rattle.tora_neighbour.specs.declared.wire.WireError.{WireError}
use Rattle.tora_seat.specs.Rows.{state_of, first_seat}
use Rattle.tora_seat.specs.Serving.{SeatState, put_to}
use Rattle.tora_seat.specs.declared.cargo.Cargo.{Cargo}
use Rattle.tora_seat.specs.declared.item.Item.{Item}
use Rattle.tora_node.specs.declared.commands.CommandsEnd.{CommandsEnd}
use Rattle.tora_node.specs.declared.link_task.Outcome.{Outcome}
use Rattle.tora_node.specs.CommandRuns.{EndsAt, ticks_put}
use Rattle.tora_node.specs.CoreRuns.{ServedItem, AreServed, items_served, offers_made, inputs_stepped, text_served}
use Rattle.tora_node.specs.CoreRuns.{EndsSo}
use Rattle.tora_node.specs.LinkRuns.{IsLinkRun, FailsToStart, AreFaultless, IsCause, links_of}
use Rattle.tora_node.specs.NodeRuns.{EndedView, IsNodeFault, IsRunOf, first_fault}
use Rattle.tora_node.specs.WireCalls.{HasCalled}

-- The thread of the link at an index ran it. Its turns put the items that the core served, and then some that are left.
-- Serving put the messages that its turns took, and then some that wait
pub record LinkExchanged (me : ℕ) (xs : List ServedItem) (place peer : ℕ) (outcome : Outcome) : Type 0 where
  pub run : IsLinkRun me peer outcome.fault outcome.tally
  pub left : List Item
  pub items : map put_in (items_of place (items_served xs) ++ left) ≡ entries_put (run.turns ++ run.last ∷ [])
  pub waiting : List Cargo
  pub cargoes : cargoes_taken (run.turns ++ run.last ∷ []) ++ waiting ≡ put_to peer (offers_made xs)

-- `LinkExchanged`, and the thread used this wire, with each turn at a tick of this clock, and with session numbers that
-- follow the last one of its life file
pub record LinkRan {W C : Type 0} (send : W → List ℕ → Result (Unit {0}) WireError → W → Type 0) (receive : W
    → Result (Option ℕ) WireError → List ℕ → W → Type 0) (tell : C → ℕ → C → Type 0) (opened : Result ℕ LifeError
    → Type 0) (me : ℕ) (xs : List ServedItem) (place peer : ℕ) (wire : W) (clock : C) (outcome : Outcome) : Type 0 where
  pub exchanged : LinkExchanged me xs place peer outcome
  pub called : HasCalled send receive tell wire clock exchanged.run.turns exchanged.run.last exchanged.run.ending
  pub drawn : ℕ
  pub file : opened (Ok drawn)
  pub last_drawn : ℕ
  pub numbers : AreDrawn drawn (numbers_opened (exchanged.run.turns ++ exchanged.run.last ∷ [])) last_drawn

-- Some bytes were read, and their items, each with its tick of this clock, are those of the last seat that the core
-- served, and then some that are left
pub record CommandsRan {C : Type 0} (tell : C → ℕ → C → Type 0) (clock : C) (input : Option (List ℕ)) (seat : ℕ)
    (served : List Item) : Type 0 where
  pub given : List ℕ
  pub rest : Option (List ℕ)
  pub put : List Item
  pub left : List Item
  pub end : CommandsEnd
  pub gone : Bool
  pub read : Consumes input rest given
  pub clock_after : C
  pub ticks : AreRead tell clock (ticks_put put) clock_after
  pub ends : EndsAt end given put rest gone
  pub items : items_of seat served ++ left ≡ put

-- What the threads of a node did that began with this core, these wires, disks and clocks of the links, this clock of
-- the commands, this input, and a writer with the content `held`. Items were served one after another, and the core is
-- the run of the inputs that this made. The threads of the links and the commands put these items. Without a fault of
-- the core, the text of the items was written. The result is the first fault of the threads
pub record NodeRan {W D C : Type 0} (send : W → List ℕ → Result (Unit {0}) WireError → W → Type 0) (receive : W
    → Result (Option ℕ) WireError → List ℕ → W → Type 0) (tell : C → ℕ → C → Type 0) (opened : ℕ → ℕ → D
    → Result ℕ LifeError → Type 0) (first : CoreView) (wires : List W) (disks : List D) (clocks : List C) (clock : C)
    (input held holds : Option (List ℕ))
    (answer : Option NodeError) (core : CoreView) (tallies : List Tally) (taken : List Item) (gone : Bool) : Type 0
  where
    pub xs : List ServedItem
    pub after : SeatState
    pub fault : Option NodeError
    pub outcomes : List Outcome
    pub taken_is : taken ≡ items_served xs
    pub served : AreServed first.neighbours (state_of (first_seat first)) xs after
    pub core_is : core ≡ core_after_all first (inputs_stepped first.neighbours (state_of (first_seat first)) xs)
    pub ends : EndsSo fault xs gone
    pub written : fault ≡ None → Appends held holds (text_served first.neighbours None (state_of (first_seat first)) xs)
    pub count : length outcomes ≡ length first.neighbours
    pub links : (place peer : ℕ) (wire : W) (disk : D) (own : C) (outcome : Outcome)
        → slice_get first.neighbours place ≡ Some peer → slice_get wires place ≡ Some wire
        → slice_get disks place ≡ Some disk → slice_get clocks place ≡ Some own
        → slice_get outcomes place ≡ Some outcome
        → LinkRan send receive tell (opened first.me peer disk) first.me xs place peer wire own outcome
    pub commands : CommandsRan tell clock input (length first.neighbours) taken
    pub answer_is : first_fault fault first.neighbours outcomes ≡ answer
    pub tallies_are : tallies ≡ map (λ o. o.tally) outcomes

-- a node that ends with a fault: one of its start, with nothing written unless memory ran out, or the first one of its
-- threads
abbrev pub EndsWithFault : {W D C Wr : Type 0} → (W → List ℕ → Result (Unit {0}) WireError → W → Type 0)
    → (W → Result (Option ℕ) WireError → List ℕ → W → Type 0) → (C → ℕ → C → Type 0)
    → (ℕ → ℕ → D → Result ℕ LifeError → Type 0) → (Wr → Option (List ℕ)) → CoreView → List W → List D → List C → C
    → Option (List ℕ) → Wr → Option Wr → NodeError → Type 0
EndsWithFault {Wr = Wr} send receive tell opened contents first wires disks clocks clock input writer left e =
    (FailsToStart opened first disks e × ((left ≡ Some writer) ⊎ (e ≡ Fault.Memory)))
    ⊎ ((core : CoreView) × (tallies : List Tally) × (taken : List Item) × (gone : Bool) × (after : Wr)
    × (left ≡ Some after)
    × NodeRan send receive tell opened first wires disks clocks clock input (contents writer) (contents after) (Some e)
    core tallies taken gone)

-- The result of a node that began with this core, these wires, disks and clocks of the links, this clock of the
-- commands, this input and this writer, and the writer that is returned
pub record NodeAnswers {W D C Wr : Type 0} (send : W → List ℕ → Result (Unit {0}) WireError → W → Type 0) (receive : W
    → Result (Option ℕ) WireError → List ℕ → W → Type 0) (tell : C → ℕ → C → Type 0) (opened : ℕ → ℕ → D
    → Result ℕ LifeError → Type 0)
    (contents : Wr → Option (List ℕ)) (first : CoreView) (wires : List W) (disks : List D) (clocks : List C) (clock : C)
    (input : Option (List ℕ)) (writer : Wr) (left : Option Wr)
    (answer : Result EndedView NodeError) : Type 0 where
  -- without a fault, the core is the run of the inputs that serving some items made, from the first core on
  pub core : IfOk answer (λ ended. IsRunOf first ended.core)
  -- without a fault, each tally is that of a run of a new end of version 2 with the standard times
  pub links : IfOk answer (λ ended. AreFaultless (links_of first) ended.tallies)
  -- a fault of a link names one of the neighbours
  pub fault : IfErr answer (IsNodeFault first.neighbours)
  -- a fault is one of the start, or the first fault of the threads
  pub cause : IfErr answer (IsCause first)
  -- without a fault, the node has neighbours, and there are queues for all
  pub count : IfOk answer (λ ended. (0 < length first.neighbours) × (length first.neighbours ≤ MOST_LINKS))
  -- without a fault: the runs of the links with their wires and life files, the commands that were read, and the items
  -- that the core served, which these have put, and whose text was written
  pub ran : IfOk answer (λ ended. (after : Wr) × (left ≡ Some after)
      × NodeRan send receive tell opened first wires disks clocks clock input (contents writer) (contents after) None
      ended.core ended.tallies ended.taken ended.gone)
  pub failed : IfErr answer (EndsWithFault send receive tell opened contents first wires disks clocks clock input writer
      left)

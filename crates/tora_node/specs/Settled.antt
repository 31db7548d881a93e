-- The queues of a node after its threads have ended.
use Rattle.std.specs.Prelude.{◌≡◌, ◌⊎◌, List, ◌++◌, map, None, Some, Result, Ok, Err}
use Rattle.tora_lane.specs.LaneRule.{items_of}
use Rattle.tora_lane.specs.Ports.{InEnd}
use Rattle.tora_node.specs.declared.fault.NodeError.{NodeError}
use Rattle.tora_node.specs.declared.fault.NodeError.TheVariants as Fault
use Rattle.tora_seat.specs.declared.item.Item.{Item}
use Rattle.tora_node.specs.declared.core_task.CoreRest.{CoreRest}
use Rattle.tora_node.specs.declared.link_task.LinkRest.{LinkRest}
use Rattle.tora_node.specs.NodeRuns.{EndedView, first_fault}
use Rattle.tora_node.specs.Threads.{Each, IsSettled, outcome_of}

-- in the queues of each link, and in that of the commands, all that was put was taken or is left
abbrev pub AreSettled : {Wr : Type 0} → CoreRest Wr → List LinkRest → InEnd → Type 0
AreSettled core links command =
    Each (IsSettled core.port.taken) links core.outs.ends.items × (left : List Item)
    × (items_of command.seat core.port.taken ++ left ≡ command.put)

-- the queues are settled, and the result is the first fault or the ended node; or memory ran out
abbrev pub SettlesTo : {Wr : Type 0} → CoreRest Wr → List LinkRest → InEnd → Result EndedView NodeError → Type 0
SettlesTo core links command (Ok ended) =
    AreSettled core links command
    × (first_fault core.fault core.seat.core.neighbours (map outcome_of links) ≡ None)
    × (ended ≡ record {
      core = core.seat.core;
      tallies = map (λ o. o.tally) (map outcome_of links);
      taken = core.port.taken;
      gone = core.port.gone;
    })
SettlesTo core links command (Err e) =
    (e ≡ Fault.Memory) ⊎ (AreSettled core links command × (first_fault core.fault core.seat.core.neighbours
    (map outcome_of links) ≡ Some e))

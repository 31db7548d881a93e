-- An example run of two nodes whose link comes up, computed event by event, so that the laws are not vacuous.
use Rattle.std.specs.Prelude.{◌++◌, false, List, [], ◌∷◌, pos, None}
use Rattle.tora_packet.specs.declared.Packet.{Packet}
use Rattle.tora_packet.specs.declared.Packet.TheVariants.{Upd}
use Rattle.tora_arq.specs.declared.life.Life.{Life}
use Rattle.tora_arq.specs.declared.times.Times.{Times}
use Rattle.tora_core.specs.declared.erasure.Erasure.TheVariants.{Plain}
use Rattle.tora_world.specs.declared.event.Event.{Event}
use Rattle.tora_world.specs.declared.event.Event.TheVariants.{Need, Open, Pull, Transmit, Deliver, Pump, CoreTurn}
use Rattle.tora_world.specs.declared.event.Event.TheVariants.{Restart}
use Rattle.tora_world.specs.Topology.{Topology}
use Rattle.tora_world.specs.LinkMachine.{MachineStep}
use Rattle.tora_world.specs.LinkMachine.MachineStep.{Draw, Bind, Send, Take, Close}
use Rattle.tora_world.specs.World.{World, Choice, first_world}
use Rattle.tora_world.specs.FreeWorld.{Happens, Schedule, after_schedule, own_schedule}

-- nodes 1 and 2, their link, and the destination 2
abbrev pub pair : Topology
pair = record { links = record { a = 1; b = 2 } ∷ []; destinations = 2 ∷ []; olds = []; erasure = Plain; choices = [] }

abbrev pub times : Times
times = record { hello = 10; silent = 50; retry = 5; tries = 8 }

abbrev pub start : World
start = first_world pair times

-- both ends draw the number 1
abbrev pub life : Life
life = record { own = 1; peer = 1 }

-- the update of node 1 with the height (0,0,0,1,1)
abbrev pub update : Packet
update = Upd (record { destination = 2; height = record { tau = 0; oid = 0; r = 0; delta = pos 1; id = 1 } })

-- node 1 needs node 2; both ends are opened; three HELLOs bind them; the session that comes up waits in node 1's queue
abbrev pub binding : List Event
binding = Need 1 2 ∷ CoreTurn 1 ∷ Open 1 2 ∷ Open 2 1 ∷ Transmit 1 2 ∷ Deliver 1 ∷ Transmit 2 1 ∷ Deliver 2
    ∷ Transmit 1 2 ∷ Deliver 3 ∷ Pump 1 2 ∷ Pump 2 1 ∷ CoreTurn 2 ∷ []

-- the core of node 1 takes the session and sends its update, which is submitted, transmitted, delivered twice, and
-- taken by the core of node 2
abbrev pub meeting : List Event
meeting = binding ++ CoreTurn 1 ∷ Pull 1 2 ∷ Transmit 1 2 ∷ Deliver 4 ∷ Deliver 4 ∷ Pump 2 1 ∷ CoreTurn 2 ∷ []

abbrev pub met : World
met = after_schedule (own_schedule meeting start) start

-- the steps of the link machine until both ends are bound, last one first
abbrev pub bound_steps : List MachineStep
bound_steps = Bind 2 1 1 1 ∷ Bind 1 2 1 1 ∷ Draw 2 1 1 ∷ Draw 1 2 1 ∷ []

-- the run so far, and then a restart of node 1
abbrev pub restart : Schedule
restart = own_schedule (meeting ++ Restart 1 None ∷ []) start

-- node 1 needs node 2 again, opens its end, and its HELLO ends the session at node 2
abbrev pub ending : List Event
ending = meeting ++ Restart 1 None ∷ Need 1 2 ∷ CoreTurn 1 ∷ Open 1 2 ∷ Transmit 1 2 ∷ Deliver 5 ∷ Pump 2 1 ∷ CoreTurn 2
    ∷ []

-- the second session of the link, as node 1 writes it: node 1's file had reserved the numbers up to 16, and node 2
-- draws its next number
abbrev pub second_life : Life
second_life = record { own = 17; peer = 2 }

-- node 2 opens its end too, the second session is bound and comes up, and node 1 sends its update in it
abbrev pub meeting_again : List Event
meeting_again = ending ++ Open 2 1 ∷ Deliver 5 ∷ Transmit 2 1 ∷ Deliver 6 ∷ Transmit 1 2 ∷ Deliver 7 ∷ Pump 1 2
    ∷ Pump 2 1 ∷ CoreTurn 2 ∷ CoreTurn 1 ∷ Pull 1 2 ∷ Transmit 1 2 ∷ Deliver 8 ∷ Pump 2 1 ∷ CoreTurn 2 ∷ []

abbrev pub met_again : World
met_again = after_schedule (own_schedule meeting_again start) start

-- the steps of the link machine until the first session has ended at both ends
abbrev pub ended_steps : List MachineStep
ended_steps = Close 2 1 life ∷ Draw 1 2 17 ∷ Close 1 2 life ∷ Take 2 1 life update ∷ Send 1 2 life update ∷ bound_steps

-- a choice with which the queue to node 2 returns the update
abbrev pub refusing : Choice
refusing = record { clock = 0; now = λ n k. 0; stamp = 0; answers = λ offers k. false }

abbrev pub refusal : Schedule
refusal = own_schedule binding start ++ (Happens (CoreTurn 1), refusing) ∷ []

abbrev pub handed_back : World
handed_back = after_schedule refusal start

-- ---- a packet that is taken and answered in one turn

-- the same two nodes, with a destination that is neither of them
abbrev pub pair_elsewhere : Topology
pair_elsewhere = record {
  links = record { a = 1; b = 2 } ∷ [];
  destinations = 3 ∷ [];
  olds = [];
  erasure = Plain;
  choices = [];
}

abbrev pub start_elsewhere : World
start_elsewhere = first_world pair_elsewhere times

-- both ends are bound and up; node 1 needs node 3 and sends a query to node 2; the core of node 2 has no route and
-- sends a query itself
abbrev pub asking : List Event
asking = Open 1 2 ∷ Open 2 1 ∷ Transmit 1 2 ∷ Deliver 1 ∷ Transmit 2 1 ∷ Deliver 2 ∷ Transmit 1 2 ∷ Deliver 3 ∷ Pump 1 2
    ∷ Pump 2 1 ∷ CoreTurn 1 ∷ CoreTurn 2 ∷ Need 1 3 ∷ CoreTurn 1 ∷ Pull 1 2 ∷ Transmit 1 2 ∷ Deliver 4 ∷ Pump 2 1
    ∷ CoreTurn 2 ∷ []

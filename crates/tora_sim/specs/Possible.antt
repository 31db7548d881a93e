-- Which events may be possible, by what is stored at an index.
use Rattle.std.specs.Prelude.{ℕ, Bool, true, not, ◌||◌, nat_lt, is_some, List, length, slice_get, Option, Some, None}
use Rattle.tora_arq.specs.LinkEnd.{is_closed, first_event, frame_due}
use Rattle.tora_world.specs.declared.event.Event.{Event}
use Rattle.tora_world.specs.declared.event.Event.TheVariants.{Need, Tick, Open, Pull, Transmit, Deliver, Pump, CoreTurn}
use Rattle.tora_world.specs.declared.event.Event.TheVariants.{Arm, Restart}
use Rattle.tora_sim.specs.Links.{LinkView, is_at}
use Rattle.tora_sim.specs.Nodes.{NodeView, is_of}

-- a cargo waits in the lane
abbrev pub has_cargo : LinkView → Bool
has_cargo link = nat_lt link.pulled (length link.put)

-- the end at an index has something to do, or it is not the end of node n towards k
abbrev pub end_may : ℕ → ℕ → (LinkView → Bool) → Option LinkView → Bool
end_may n k has None = true
end_may n k has (Some link) = not (is_at n k link) || has link

-- the node at an index has an item in its queue, or it is not node n
abbrev pub node_may : ℕ → Option NodeView → Bool
node_may n None = true
node_may n (Some node) = not (is_of n node) || nat_lt 0 (length node.items)

-- the node or link end at the index has something to do for the event, or is not the one of the event
abbrev pub may_happen : List NodeView → List LinkView → ℕ → ℕ → Event → Bool
may_happen nodes links clock place (Need n d) = true
may_happen nodes links clock place Tick = true
may_happen nodes links clock place (Open n k) = end_may n k (λ link. is_closed link.state) (slice_get links place)
may_happen nodes links clock place (Pull n k) = end_may n k has_cargo (slice_get links place)
may_happen nodes links clock place (Transmit n k) = end_may n k (λ link.
    is_some (frame_due link.settings link.state clock)) (slice_get links place)
may_happen nodes links clock place (Deliver i) = true
may_happen nodes links clock place (Pump n k) = end_may n k (λ link. is_some (first_event link.state))
    (slice_get links place)
may_happen nodes links clock place (CoreTurn n) = node_may n (slice_get nodes place)
may_happen nodes links clock place (Arm n call) = true
may_happen nodes links clock place (Restart n torn) = true

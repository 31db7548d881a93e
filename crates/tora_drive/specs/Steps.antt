-- A step: a round in which nothing is delivered, and silent ends send nothing.
use Rattle.std.specs.Prelude.{ℕ, zero, suc, ◌==◌, ◌&&◌, Bool, false, if◌then◌else◌, List, []}
use Rattle.std.specs.List.{list_any}
use Rattle.tora_world.specs.declared.event.Event.TheVariants.{Tick, Transmit}
use Rattle.tora_world.specs.World.{is_empty}
use Rattle.tora_script.specs.declared.rounds.TheConstants.{MOST_PASSES}
use Rattle.tora_script.specs.declared.turns.TheConstants.{MOST_TIMES}
use Rattle.tora_script.specs.declared.turns.EndTurn.{EndTurn}
use Rattle.tora_script.specs.declared.turns.EndTurn.TheVariants as turn
use Rattle.tora_script.specs.Rounds.{Plan, end_event, repeats, once, while_possible, plan_then, each, each_core}
use Rattle.tora_script.specs.Rounds.{each_end_once, each_end}

-- ---- silent ends

abbrev pub is_end : ℕ × ℕ → ℕ × ℕ → Bool
is_end e f = (e.0 == f.0) && (e.1 == f.1)

abbrev pub is_silent : List (ℕ × ℕ) → ℕ × ℕ → Bool
is_silent silent e = list_any (is_end e) silent

-- ---- a step, over nodes in ascending order, and over link ends in ascending order of the node and then the neighbour

-- an end sends its frames, unless it is silent
abbrev pub sends_of : List (ℕ × ℕ) → ℕ × ℕ → Plan
sends_of silent e w = if is_silent silent e then [] else while_possible (Transmit e.0 e.1) w

-- how often the event of a turn of an end happens at most in a step
abbrev pub most_of : EndTurn → ℕ
most_of turn.Open = 1
most_of turn.Pull = MOST_TIMES
most_of turn.Transmit = MOST_TIMES
most_of turn.Pump = MOST_TIMES

-- a step leaves this turn of an end out: silent ends do not send
abbrev pub is_silenced : List (ℕ × ℕ) → EndTurn → ℕ × ℕ → Bool
is_silenced silent turn.Open e = false
is_silenced silent turn.Pull e = false
is_silenced silent turn.Transmit e = is_silent silent e
is_silenced silent turn.Pump e = false

-- the turn of an end in a step
abbrev pub turn_of : List (ℕ × ℕ) → EndTurn → ℕ × ℕ → Plan
turn_of silent kind e w = if is_silenced silent kind e then [] else repeats (most_of kind) (end_event kind e) w

unfoldable pub step_pass : List ℕ → List (ℕ × ℕ) → List (ℕ × ℕ) → Plan
step_pass nodes ends silent w =
    plan_then (each_core nodes)
    (plan_then (each_end turn.Pull ends)
    (plan_then (each (sends_of silent) ends)
    (each_end turn.Pump ends))) w

-- passes until one has no event, at most this many
unfoldable pub step_passes : ℕ → List ℕ → List (ℕ × ℕ) → List (ℕ × ℕ) → Plan
step_passes zero nodes ends silent w = []
step_passes (suc k) nodes ends silent w = if is_empty (step_pass nodes ends silent w) then []
    else plan_then (step_pass nodes ends silent) (step_passes k nodes ends silent) w

unfoldable pub step : List ℕ → List (ℕ × ℕ) → List (ℕ × ℕ) → Plan
step nodes ends silent =
    plan_then (once Tick) (plan_then (each_end_once turn.Open ends) (step_passes MOST_PASSES nodes ends silent))

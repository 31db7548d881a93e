-- The events of a step name only its nodes and link ends.
use Rattle.std.proofs.Common.{ℕ, zero, suc, Bool, true, false, List, [], ◌∷◌, ◌++◌, if◌then◌else◌, is_some}
use Rattle.std.specs.List.{AllByRecursion}
use Rattle.tora_packet.specs.PacketParts.{IsId}
use Rattle.tora_world.specs.declared.event.Event.{Event}
use Rattle.tora_world.specs.declared.event.Event.TheVariants.{Tick, Transmit, CoreTurn}
use Rattle.tora_world.specs.World.{World, is_empty, refusal_of, world_after, world_after_all}
use Rattle.tora_script.specs.declared.rounds.TheConstants.{MOST_PASSES}
use Rattle.tora_script.specs.declared.turns.EndTurn.{EndTurn}
use Rattle.tora_script.specs.declared.turns.EndTurn.TheVariants as turn
use Rattle.tora_script.specs.Rounds.{Plan, repeats, once, while_possible, plan_then, each, each_core, each_end, each_end_once, end_event}
use Rattle.tora_drive.specs.Scripts.{HasNumbers, IsEnd, StepsHaveNumbers}
use Rattle.tora_drive.specs.Steps.{is_silent, sends_of, step_pass, step_passes, step}

all_append : (xs ys : List Event) → AllByRecursion HasNumbers xs → AllByRecursion HasNumbers ys → AllByRecursion HasNumbers (xs ++ ys)
all_append [] ys p q = q
all_append (x ∷ xs) ys p q = (p.0, all_append xs ys p.1 q)

none_or : (b : Bool) (events : List Event) → AllByRecursion HasNumbers events → AllByRecursion HasNumbers (if b then [] else events)
none_or true events h = tt
none_or false events h = h

abbrev Numbered : Plan → Type 0
Numbered plan = (w : World) → AllByRecursion HasNumbers (plan w)

then_numbered : (plan rest : Plan) → Numbered plan → Numbered rest → Numbered (plan_then plan rest)
then_numbered plan rest p q w = all_append (plan w) (rest (world_after_all w (plan w))) (p w) (q (world_after_all w (plan w)))

repeats_numbered : (k : ℕ) (event : Event) → HasNumbers event → Numbered (repeats k event)
unfolding repeats
repeats_numbered zero event h w = tt
repeats_numbered (suc k) event h w = none_or (is_some (refusal_of w event)) (event ∷ repeats k event (world_after w event)) (h, repeats_numbered k event h (world_after w event))

each_numbered : {A : Type 0} (P : A → Type 0) (plan : A → Plan) → ((x : A) → P x → Numbered (plan x)) → (xs : List A) → AllByRecursion P xs → Numbered (each plan xs)
each_numbered P plan h [] all w = tt
each_numbered P plan h (x ∷ xs) all w = then_numbered (plan x) (each plan xs) (h x all.0) (each_numbered P plan h xs all.1) w

end_numbered : (kind : EndTurn) (e : ℕ × ℕ) → IsEnd e → HasNumbers (end_event kind e)
end_numbered turn.Open e h = h
end_numbered turn.Pull e h = h
end_numbered turn.Transmit e h = h
end_numbered turn.Pump e h = h

module _ (nodes : List ℕ) (ends silent : List (ℕ × ℕ)) (ids : AllByRecursion IsId nodes) (pairs : AllByRecursion IsEnd ends) where
  cores : Numbered (each_core nodes)
  cores = each_numbered IsId (λ n. while_possible (CoreTurn n)) (λ n h. repeats_numbered 1024 (CoreTurn n) h) nodes ids

  turns : (kind : EndTurn) → Numbered (each_end kind ends)
  turns kind = each_numbered IsEnd (λ e. while_possible (end_event kind e)) (λ e h. repeats_numbered 1024 (end_event kind e) (end_numbered kind e h)) ends pairs

  opens : Numbered (each_end_once turn.Open ends)
  opens = each_numbered IsEnd (λ e. once (end_event turn.Open e)) (λ e h. repeats_numbered 1 (end_event turn.Open e) (end_numbered turn.Open e h)) ends pairs

  sends : Numbered (each (sends_of silent) ends)
  sends = each_numbered IsEnd (sends_of silent) (λ e h w. none_or (is_silent silent e) (while_possible (Transmit e.0 e.1) w) (repeats_numbered 1024 (Transmit e.0 e.1) h w)) ends pairs

  one_pass : Numbered (step_pass nodes ends silent)
  unfolding step_pass
  one_pass w =
      then_numbered (each_core nodes) (plan_then (each_end turn.Pull ends) (plan_then (each (sends_of silent) ends) (each_end turn.Pump ends))) cores
      (then_numbered (each_end turn.Pull ends) (plan_then (each (sends_of silent) ends) (each_end turn.Pump ends)) (turns turn.Pull) (then_numbered (each (sends_of silent) ends) (each_end turn.Pump ends) sends (turns turn.Pump))) w

  all_passes : (k : ℕ) → Numbered (step_passes k nodes ends silent)
  unfolding step_passes
  all_passes zero w = tt
  all_passes (suc k) w =
      none_or (is_empty (step_pass nodes ends silent w)) (plan_then (step_pass nodes ends silent) (step_passes k nodes ends silent) w) (then_numbered (step_pass nodes ends silent) (step_passes k nodes ends silent) one_pass (all_passes k) w)

  all_step : Numbered (step nodes ends silent)
  unfolding step
  all_step w =
      then_numbered (once Tick) (plan_then (each_end_once turn.Open ends) (step_passes MOST_PASSES nodes ends silent)) (repeats_numbered 1 Tick tt)
      (then_numbered (each_end_once turn.Open ends) (step_passes MOST_PASSES nodes ends silent) opens (all_passes MOST_PASSES)) w

pub steps_have_numbers : StepsHaveNumbers
steps_have_numbers nodes ends silent ids pairs w = all_step nodes ends silent ids pairs w

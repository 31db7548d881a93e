-- Ends with nothing to do are skipped, silent or not.
use Rattle.std.proofs.Common.{◌≡◌, ℕ, ◌<◌, ◌≤◌, true, List, [], drop, slice_get, is_some, Some, refl}
use Rattle.std.proofs.lemmas.Bool.{cond_both}
use Rattle.tora_world.specs.declared.event.Event.{Event}
use Rattle.tora_world.specs.World.{World, refusal_of}
use Rattle.tora_sim.specs.Quiet.{IsQuiet}
use Rattle.tora_script.specs.declared.turns.EndTurn.{EndTurn}
use Rattle.tora_script.specs.Rounds.{end_event, repeats, each}
use Rattle.tora_script.proofs.KnownEnds.{each_over}
use Rattle.tora_script.proofs.RoundLaws.{each_none, no_event, quiet_ends}
use Rattle.tora_drive.specs.Steps.{most_of, is_silenced, turn_of}

-- an end whose turn is refused does nothing
pub no_turn : (silent : List (ℕ × ℕ)) (kind : EndTurn) (e : ℕ × ℕ) (w : World) → is_some (refusal_of w (end_event kind e)) ≡ true → turn_of silent kind e w ≡ []
no_turn silent kind e w stop = cond_both (is_silenced silent kind e) [] (repeats (most_of kind) (end_event kind e) w) (λ (events : List Event). events ≡ []) (λ _. refl) (λ _. no_event w (most_of kind) (end_event kind e) stop)

pub turns_over : (silent : List (ℕ × ℕ)) (kind : EndTurn) (ends : List (ℕ × ℕ)) (i j : ℕ) (w : World) → i ≤ j → ((at : ℕ) (end : ℕ × ℕ) → i ≤ at → at < j → slice_get ends at ≡ Some end → is_some (refusal_of w (end_event kind end)) ≡ true)
    → each (turn_of silent kind) (drop i ends) w ≡ each (turn_of silent kind) (drop j ends) w
turns_over silent kind ends i j w le none = each_over (turn_of silent kind) ends i j w le (λ at end from before there. no_turn silent kind end w (none at end from before there))

pub no_turns : (silent : List (ℕ × ℕ)) (kind : EndTurn) (ends : List (ℕ × ℕ)) (w : World) → IsQuiet w → each (turn_of silent kind) ends w ≡ []
no_turns silent kind ends w q = each_none (turn_of silent kind) ends w (λ e. no_turn silent kind e w (quiet_ends kind w q e))

-- The recorded lines for a line of a drive have the effect of that line.
use Rattle.std.proofs.Common.{◌≡◌, ℕ, Bool, true, false, List, [], ◌∷◌, if◌then◌else◌, is_some, map, Option, Some, None, refl, sym, ap, ◌∙◌, ◌++◌, ◌*◌, codes, arith, append_assoc}
use Rattle.std.specs.Prelude.{option_map, nat_le, length, max}
use Rattle.std.specs.Option.{option_map_or, option_and_then}
use Rattle.std.specs.Fmt.{decimal}
use Rattle.hex.specs.Hex.{encode_lower, lower_digits}
use Rattle.hex.proofs.HexLemmas.{length-encode_with, decode_of-encode_lower}
use Rattle.tora_frame.specs.FrameParts.{FrameParts}
use Rattle.tora_world.specs.declared.event.Event.{Event}
use Rattle.tora_world.specs.declared.event.Event.TheVariants as Happen
use Rattle.tora_world.specs.World.{World, refusal_of, world_by, world_after, world_after_all}
use Rattle.tora_script.specs.declared.script_line.SimulationLine.TheVariants.{Happens, Rounds, Part, Mend, Heights, Sent, Taken, Exact, Walk, Rest}
use Rattle.tora_script.specs.SimulationGrammar.{call_text, SpellsTorn, SpellsEvent}
use Rattle.tora_script.proofs.SimulationHere.{simulation_line_here}
use Rattle.tora_script.specs.SimulationText.{RunningView, Reply, event_reply, has_end, running_reply}
use Rattle.tora_drive.specs.declared.line.DriveLine.TheVariants.{Script, Step, Needs, Near, Far, Notice, Bytes, Forget}
use Rattle.tora_drive.specs.DriveText.{StateView, Outcome, outcome, quiet, shown, unnamed, named, with_silent, without_silent, is_forgotten, needs_text, bytes_line, outcome_of}
use Rattle.tora_drive.specs.Recording.{torn_text, event_text}
use Rattle.tora_drive.specs.Scripts.{simulated, ScriptsStandForLines, IsTorn, HasNumbers, EventsAreRead}
use Rattle.tora_drive.specs.Steps.{step}

-- events, carried out as lines, lead to the world after them
all_happen : (s : RunningView) (events : List Event) → simulated s (map (λ event. Happens event) events) ≡ Some (record s { world = world_after_all s.world events })
unfolding running_reply
all_happen s [] = refl
all_happen s (event ∷ events) = all_happen (record s { world = world_after s.world event }) events

-- a refused event does not change the world
same_world : (w : World) (event : Event) → is_some (refusal_of w event) ≡ true → world_after w event ≡ w
unfolding world_by
same_world w event stop = rw stop refl

this : (q r : Outcome) → Some q ≡ Some r → q ≡ r
this q r e = cc

where_some : (b : Bool) (q r : Outcome) → (if b then Some q else None) ≡ Some r → q ≡ r
where_some true q r e = cc
where_some false q r e = absurd cc

-- a line that does not change the simulation
stays : (s : RunningView) (q r : Outcome) → q.run ≡ s → q ≡ r → simulated s [] ≡ Some r.run
stays s q r same e = ap (λ (x : RunningView). Some x) (sym same ∙ ap (λ (x : Outcome). x.run) e)

module _ (s : RunningView) (o : StateView) where
  one_event : (event : Event) (b : Bool) → is_some (refusal_of s.world event) ≡ b → simulated s (if b then [] else Happens event ∷ []) ≡ Some (event_reply s event).0
  unfolding running_reply
  one_event event true stop = rw (same_world s.world event stop) refl
  one_event event false free = refl

  event_stands : (event : Event) (forgotten : Bool) (r : Outcome)
      → (if forgotten then unnamed s o else outcome (event_reply s event).0 o (event_reply s event).1 (is_some (refusal_of s.world event))) ≡ r → simulated s (if r.refused then [] else Happens event ∷ []) ≡ Some r.run
  event_stands event true r e = rw (← e) refl
  event_stands event false r e = rw (← e) (one_event event (is_some (refusal_of s.world event)) refl)

  order : (found : Option Reply) (r : Outcome) → option_map (quiet o) found ≡ Some r → option_and_then (λ (x : Reply). simulated x.0 []) found ≡ Some r.run
  order None r e = absurd cc
  order (Some x) r e = ap (λ (y : Outcome). Some y.run) (this (quiet o x) r e)

  bytes_stand : (i : ℕ) (f : Option FrameParts) (r : Outcome) → option_map_or (λ f. shown s o (bytes_line i f)) f (unnamed s o) ≡ r → simulated s [] ≡ Some r.run
  bytes_stand i None r e = stays s (unnamed s o) r refl e
  bytes_stand i (Some f) r e = stays s (shown s o (bytes_line i f)) r refl e

  forgot : (p : StateView) (b : Bool) (r : Outcome) → (if b then shown s p [] else unnamed s o) ≡ r → simulated s [] ≡ Some r.run
  forgot p true r e = stays s (shown s p []) r refl e
  forgot p false r e = stays s (unnamed s o) r refl e

pub scripts_stand : ScriptsStandForLines
unfolding outcome_of
scripts_stand s o (Script (Happens event)) r cut e = event_stands s o event (is_forgotten o event) r (this _ r e)
scripts_stand s o (Script (Rounds n)) r cut e = order s o (running_reply s (Rounds n)) r e
scripts_stand s o (Script (Part a b)) r cut e = order s o (running_reply s (Part a b)) r e
scripts_stand s o (Script (Mend a b)) r cut e = order s o (running_reply s (Mend a b)) r e
scripts_stand s o (Script (Heights d)) r cut e = order s o (running_reply s (Heights d)) r e
scripts_stand s o (Script (Sent a b life)) r cut e = order s o (running_reply s (Sent a b life)) r e
scripts_stand s o (Script (Taken b a life)) r cut e = order s o (running_reply s (Taken b a life)) r e
scripts_stand s o (Script (Exact d)) r cut e = order s o (running_reply s (Exact d)) r e
scripts_stand s o (Script (Walk n d)) r cut e = order s o (running_reply s (Walk n d)) r e
scripts_stand s o (Script Rest) r cut e = order s o (running_reply s Rest) r e
scripts_stand s o Step r cut e = all_happen s (step s.nodes s.ends o.silent s.world) ∙ ap (λ (x : Outcome). Some x.run) (this _ r e)
scripts_stand s o Needs r cut e = stays s (shown s o (needs_text s.world s.nodes s.dests)) r refl (this _ r e)
scripts_stand s o (Near n k) r cut e = stays s (shown s (record o { silent = without_silent (n, k) o.silent }) []) r refl (where_some (has_end n k s.ends) _ r e)
scripts_stand s o (Far n k) r cut e = stays s (shown s (record o { silent = with_silent (n, k) o.silent }) []) r refl (where_some (has_end n k s.ends) _ r e)
scripts_stand s o (Notice n k) r cut e = absurd (cut n k refl)
scripts_stand s o (Bytes i) r cut e = bytes_stand s o i (named o s.world i) r (this _ r e)
scripts_stand s o (Forget i) r cut e = forgot s o (record o { forgotten = max o.forgotten i }) (nat_le i (length s.world.datagrams)) r (this _ r e)

-- ---- the lines of events

torn_spelled : (torn : Option (List ℕ)) → IsTorn torn → SpellsTorn (torn_text torn) torn
torn_spelled None h = refl
torn_spelled (Some bytes) h =
    let two : length (encode_lower bytes) ≡ 2 * length bytes = length-encode_with lower_digits bytes in
    (omega (arith, two, h.0), decode_of-encode_lower bytes h.1)

-- a word followed by two words with a blank between them
paired : (word a b : List ℕ) → word ++ a ++ codes " " ++ b ≡ word ++ (a ++ 32 ∷ b)
paired word a b = append_assoc (word ++ a) (32 ∷ []) b ∙ append_assoc word a (32 ∷ b)

spelled : (event : Event) → HasNumbers event → SpellsEvent (event_text event) event
unfolding event_text
spelled (Happen.Need n d) h = record { first = h.0; second = h.1; text_is = paired (codes "need ") (decimal n) (decimal d) }
spelled Happen.Tick h = refl
spelled (Happen.Open n k) h = record { first = h.0; second = h.1; text_is = paired (codes "open ") (decimal n) (decimal k) }
spelled (Happen.Pull n k) h = record { first = h.0; second = h.1; text_is = paired (codes "pull ") (decimal n) (decimal k) }
spelled (Happen.Transmit n k) h = record { first = h.0; second = h.1; text_is = paired (codes "transmit ") (decimal n) (decimal k) }
spelled (Happen.Deliver i) h = record { below = h; text_is = refl }
spelled (Happen.Pump n k) h = record { first = h.0; second = h.1; text_is = paired (codes "pump ") (decimal n) (decimal k) }
spelled (Happen.CoreTurn n) h = record { id = h; text_is = refl }
spelled (Happen.Arm n call) h = record { id = h; text_is = paired (codes "arm ") (decimal n) (call_text call) }
spelled (Happen.Restart n torn) h = record { id = h.0; word = torn_text torn; spelled = torn_spelled torn h.1; text_is = paired (codes "restart ") (decimal n) (torn_text torn) }

pub events_are_read : EventsAreRead
events_are_read event h = simulation_line_here (event_text event) (Happens event) (spelled event h)

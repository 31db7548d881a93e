-- The parts of an answer, one after another.
use Rattle.std.proofs.Common.{◌≡◌, ℕ, Bool, true, false, List, [], ◌++◌, if◌then◌else◌, Some, None, refl, sym, ap, ◌∙◌}
use Rattle.std.specs.Prelude.{option_map}
use Rattle.std.specs.List.{flat_map}
use Rattle.tora_script.specs.SimulationText.{RunningView}
use Rattle.tora_drive.specs.declared.line.DriveLine.{DriveLine}
use Rattle.tora_drive.specs.declared.records.Route.{Route}
use Rattle.tora_drive.specs.declared.line.DriveLine.TheVariants.{Step}
use Rattle.tora_drive.specs.Records.{sent_text, routes_of, hop_line, hops_text}
use Rattle.tora_drive.specs.Recording.{Record, step_recorded, answer_recorded}
use Rattle.tora_drive.specs.Taking.{line_in}
use Rattle.tora_drive.specs.DriveText.{StateView, Outcome, outcome, outcome_of, may_change_hops, closing, told}
use Rattle.tora_drive.proofs.HopLaws.{line_stays, no_hops}

-- the next hops that were read before the line show all changes
hops_told : (s : RunningView) (o : StateView) (line : DriveLine) (r : Outcome) (may : Bool) → may_change_hops line ≡ may → outcome_of s o line ≡ Some r
    → flat_map (hop_line r.run.world) (if may then routes_of s.world s.nodes s.dests else []) ≡ hops_text s.nodes s.dests s.world r.run.world
hops_told s o line r true h e = refl
hops_told s o line r false h e = sym (no_hops s.world r.run.world (line_stays s o line r h e) s.nodes s.dests)

-- the parts of an answer, in their order, are the answer
pub answered : (s : RunningView) (o : StateView) (line : DriveLine) (next : RunningView) (state : StateView) (first with_sent with_hops last : List ℕ) (routes : List Route) (refused : Bool)
    → outcome_of s o line ≡ Some (outcome next state first refused) → with_sent ≡ first ++ sent_text s.world next.world
    → routes ≡ (if may_change_hops line then routes_of s.world s.nodes s.dests else []) → with_hops ≡ with_sent ++ flat_map (hop_line next.world) routes → last ≡ with_hops ++ closing refused
    → option_map (told s) (outcome_of s o line) ≡ Some (next, state, last)
answered s o line next state first with_sent with_hops last routes refused reply sent looked hops closed =
    let tells : flat_map (hop_line next.world) routes ≡ hops_text s.nodes s.dests s.world next.world =
    ap (λ (x : List Route). flat_map (hop_line next.world) x) looked ∙ hops_told s o line (outcome next state first refused) (may_change_hops line) refl reply in
    let whole : last ≡ first ++ sent_text s.world next.world ++ hops_text s.nodes s.dests s.world next.world ++ closing refused = rw (closed, hops, sent, tells) refl in
    rw (reply, whole) refl

-- the record of a line that is `step` has the lines of the events of the step
pub as_step : (r : Record) (s : RunningView) (o : StateView) (text : List ℕ) → line_in s.world o.forgotten text ≡ Some Step → answer_recorded r s o text ≡ step_recorded r s o Step
unfolding answer_recorded outcome_of
as_step r s o text is = rw is refl

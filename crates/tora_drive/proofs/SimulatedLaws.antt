-- The simulation after the lines of a recorded drive is the result of the lines of its record.
use Rattle.std.proofs.Common.{◌≡◌, ℕ, Bool, true, false, List, [], ◌∷◌, ◌++◌, length, if◌then◌else◌, Option, Some, None, refl, sym, ap, subst, ◌∙◌, append_assoc}
use Rattle.std.specs.Prelude.{nat_lt, option_map}
use Rattle.std.specs.Option.{option_map_or, option_and_then}
use Rattle.std.proofs.lemmas.List.{append-nil}
use Rattle.tora_lines.specs.declared.session.TheConstants.{LONGEST_LINE}
use Rattle.tora_lines.specs.LineText.{reply, state_behind}
use Rattle.tora_script.specs.declared.node_marks.Mark.{Mark}
use Rattle.tora_world.specs.World.{World}
use Rattle.tora_script.specs.declared.script_line.SimulationLine.{SimulationLine}
use Rattle.tora_script.specs.Setup.{plain}
use Rattle.tora_script.specs.Simulator.{started}
use Rattle.tora_script.specs.SimulationLines.{dests_of, link_of, mark_of}
use Rattle.tora_script.specs.SimulationText.{RunningView, Progress, Reply, begun_in, running_reply, with_link}
use Rattle.tora_drive.specs.declared.setup.DriveSetup.{DriveSetup}
use Rattle.tora_drive.specs.declared.line.DriveLine.{DriveLine}
use Rattle.tora_drive.specs.declared.line.DriveLine.TheVariants.{Notice}
use Rattle.tora_drive.specs.DriveText.{StateView, Outcome, outcome_of, DriveReply, told, answer_to, Placed, DriveView, acknowledged, running_at, first_answer, link_answer, place_reply, drive_reply}
use Rattle.tora_drive.specs.Recording.{says_notice, unrecorded, recorded_reply, recorded_rules}
use Rattle.tora_drive.specs.Scripts.{script_of, simulated, script_in, link_script, place_script, scripts, IsSimulated, RecordsAreSimulated}
use Rattle.tora_drive.specs.Taking.{line_in}
use Rattle.tora_drive.proofs.RunLaws.{is_notice}
use Rattle.tora_drive.proofs.RecordedLaws.{not_notice}
use Rattle.tora_drive.proofs.ScriptLaws.{scripts_stand}

-- ---- lines one after another

then_found : (xs ys : List SimulationLine) (found : Option Reply) → ((r : Reply) → simulated r.0 (xs ++ ys) ≡ option_and_then (λ (x : RunningView). simulated x ys) (simulated r.0 xs))
    → option_and_then (λ (r : Reply). simulated r.0 (xs ++ ys)) found ≡ option_and_then (λ (x : RunningView). simulated x ys) (option_and_then (λ (r : Reply). simulated r.0 xs) found)
then_found xs ys None others = refl
then_found xs ys (Some r) others = others r

simulated_append : (s : RunningView) (xs ys : List SimulationLine) → simulated s (xs ++ ys) ≡ option_and_then (λ (x : RunningView). simulated x ys) (simulated s xs)
simulated_append s [] ys = refl
simulated_append s (x ∷ xs) ys = then_found xs ys (running_reply s x) (λ r. simulated_append r.0 xs ys)

simulated_then : (s mid last : RunningView) (xs ys : List SimulationLine) → simulated s xs ≡ Some mid → simulated mid ys ≡ Some last → simulated s (xs ++ ys) ≡ Some last
simulated_then s mid last xs ys p q = simulated_append s xs ys ∙ ap (λ (o : Option RunningView). option_and_then (λ (x : RunningView). simulated x ys) o) p ∙ q

-- ---- the text of a line

module _ (s : RunningView) (o : StateView) where
  told_stands : (line : DriveLine) (found : Option Outcome) (r : DriveReply) → ((n k : ℕ) → line ≡ Notice n k → ⊥) → outcome_of s o line ≡ found → option_map (told s) found ≡ Some r
      → simulated s (option_map_or (λ (q : Outcome). script_of s o line q.refused) found []) ≡ Some r.0
  told_stands line None r cut is e = absurd cc
  told_stands line (Some q) r cut is e =
      let same : told s q ≡ r = cc in
      scripts_stand s o line q cut is ∙ ap (λ (x : DriveReply). Some x.0) same

  said_stands : (said : Option DriveLine) (r : DriveReply) → ((n k : ℕ) → said ≡ Some (Notice n k) → ⊥) → option_and_then (λ (line : DriveLine). option_map (told s) (outcome_of s o line)) said ≡ Some r
      → simulated s (option_map_or (λ (line : DriveLine). option_map_or (λ (q : Outcome). script_of s o line q.refused) (outcome_of s o line) []) said []) ≡ Some r.0
  said_stands None r cut e = absurd cc
  said_stands (Some line) r cut e = told_stands line (outcome_of s o line) r (λ n k is. cut n k (rw is refl)) refl e

  text_stands : (text : List ℕ) (r : DriveReply) → says_notice text ≡ false → answer_to s o text ≡ Some r → simulated s (script_in s o text) ≡ Some r.0
  unfolding answer_to
  text_stands text r none e = said_stands (line_in s.world o.forgotten text) r (λ n k is. not_notice text false none (is_notice s.world o.forgotten n k text is)) e

-- ---- the stage of a drive

module _ (setup : DriveSetup) where
  -- the simulation at this stage, if there is one, is the result of these lines
  abbrev Holds : List SimulationLine → Progress → Type 0
  Holds done Progress.First = done ≡ []
  Holds done (Progress.Links dests links marks) = done ≡ []
  Holds done (Progress.Runs s) = IsSimulated setup done s

  no_more : (done : List SimulationLine) (progress : Progress) → Holds done progress → Holds (done ++ []) progress
  no_more done progress h = subst (λ (x : List SimulationLine). Holds x progress) (sym (append-nil done)) h

  none_yet : (done : List SimulationLine) (r q : Placed) → r ≡ q → Holds (done ++ []) r.0.progress → Holds (done ++ []) q.0.progress
  none_yet done r q e h = subst (λ (x : Placed). Holds (done ++ []) x.0.progress) e h

  some_placed : (r q : Placed) → Some r ≡ Some q → r ≡ q
  some_placed r q e = cc

  onward : (done more : List SimulationLine) (before after : RunningView) → IsSimulated setup done before → simulated before more ≡ Some after → IsSimulated setup (done ++ more) after
  onward done more before after h led = record {
    links = h.links;
    dests = h.dests;
    marks = h.marks;
    first = h.first;
    begins = h.begins;
    leads = simulated_then (begun_in h.dests (plain setup.times) h.first) before after done more h.leads led;
  }

  -- the stage after a line of a running simulation
  runs : (done more : List SimulationLine) (before : RunningView) (found : Option DriveReply) (q : Placed) → IsSimulated setup done before → ((r : DriveReply) → found ≡ Some r → simulated before more ≡ Some r.0) → option_map running_at found ≡ Some q → Holds (done ++ more) q.0.progress
  runs done more before None q h led e = absurd cc
  runs done more before (Some r) q h led e = subst (λ (x : Placed). Holds (done ++ more) x.0.progress) (some_placed (running_at r) q e) (onward done more before r.0 h (led r refl))

  begins : (done : List SimulationLine) (o : StateView) (dests : List ℕ) (links : List (ℕ × ℕ)) (marks : List Mark) (line : List ℕ) (first : Option World) (q : Placed) → says_notice line ≡ false → done ≡ [] → started setup.options links dests marks setup.times ≡ first
      → option_map running_at (option_and_then (λ w. answer_to (begun_in dests (plain setup.times) w) o line) first) ≡ Some q → Holds (done ++ option_map_or (λ w. script_in (begun_in dests (plain setup.times) w) o line) first []) q.0.progress
  begins done o dests links marks line None q none nothing is e = absurd cc
  begins done o dests links marks line (Some w) q none nothing is e =
      let new : IsSimulated setup done (begun_in dests (plain setup.times) w) = record { links = links; dests = dests; marks = marks; first = w; begins = is; leads = rw nothing refl } in
      runs done (script_in (begun_in dests (plain setup.times) w) o line) (begun_in dests (plain setup.times) w) (answer_to (begun_in dests (plain setup.times) w) o line) q new (λ r h. text_stands (begun_in dests (plain setup.times) w) o line r none h) e

  first_line : (done : List SimulationLine) (o : StateView) (dests : Option (List ℕ)) (q : Placed) → done ≡ [] → option_map (acknowledged o) (option_map (λ dests. Progress.Links dests [] []) dests) ≡ Some q → Holds (done ++ []) q.0.progress
  first_line done o None q nothing e = absurd cc
  first_line done o (Some dests) q nothing e = none_yet done (acknowledged o (Progress.Links dests [] [])) q (some_placed _ q e) (append-nil done ∙ nothing)

  one_link : (done : List SimulationLine) (o : StateView) (dests : List ℕ) (links : List (ℕ × ℕ)) (marks : List Mark) (link : ℕ × ℕ) (q : Placed) → done ≡ [] → option_map (acknowledged o) (with_link dests links marks link) ≡ Some q → Holds (done ++ []) q.0.progress
  one_link done o dests links [] link q nothing e = none_yet done (acknowledged o (Progress.Links dests (links ++ link ∷ []) [])) q (some_placed _ q e) (append-nil done ∙ nothing)
  one_link done o dests links (mark ∷ marks) link q nothing e = absurd cc

  one_mark : (done : List SimulationLine) (o : StateView) (dests : List ℕ) (links : List (ℕ × ℕ)) (marks : List Mark) (b : Bool) (q : Placed) → done ≡ [] → option_map (acknowledged o) (if b then Some (Progress.Links dests links marks) else None) ≡ Some q → Holds (done ++ []) q.0.progress
  one_mark done o dests links marks true q nothing e = none_yet done (acknowledged o (Progress.Links dests links marks)) q (some_placed _ q e) (append-nil done ∙ nothing)
  one_mark done o dests links marks false q nothing e = absurd cc

  behind_links : (done : List SimulationLine) (o : StateView) (dests : List ℕ) (links : List (ℕ × ℕ)) (marks : List Mark) (line : List ℕ) (q : Placed) → says_notice line ≡ false → done ≡ [] → option_map running_at (first_answer setup o dests links marks line) ≡ Some q
      → Holds (done ++ link_script setup o dests links marks line None None) q.0.progress
  behind_links done o dests [] marks line q none nothing e = absurd cc
  behind_links done o dests (link ∷ links) marks line q none nothing e = begins done o dests (link ∷ links) marks line (started setup.options (link ∷ links) dests marks setup.times) q none nothing refl e

  linked : (done : List SimulationLine) (o : StateView) (dests : List ℕ) (links : List (ℕ × ℕ)) (marks : List Mark) (line : List ℕ) (link : Option (ℕ × ℕ)) (mark : Option Mark) (q : Placed) → says_notice line ≡ false → done ≡ [] → link_answer setup o dests links marks line link mark ≡ Some q
      → Holds (done ++ link_script setup o dests links marks line link mark) q.0.progress
  linked done o dests links marks line (Some link) mark q none nothing e = one_link done o dests links marks link q nothing e
  linked done o dests links marks line None (Some mark) q none nothing e = one_mark done o dests links _ _ q nothing e
  linked done o dests links marks line None None q none nothing e = behind_links done o dests links marks line q none nothing e

  placed_on : (done : List SimulationLine) (o : StateView) (progress : Progress) (line : List ℕ) (q : Placed) → says_notice line ≡ false → Holds done progress → place_reply setup o progress line ≡ Some q → Holds (done ++ place_script setup o progress line) q.0.progress
  unfolding place_reply place_script
  placed_on done o Progress.First line q none h e = first_line done o (dests_of line) q h e
  placed_on done o (Progress.Links dests links marks) line q none h e = linked done o dests links marks line (link_of line) (mark_of line) q none h e
  placed_on done o (Progress.Runs s) line q none h e = runs done (script_in s o line) s (answer_to s o line) q h (λ r is. text_stands s o line r none is) e

  -- ---- all lines

  answered : (done : List SimulationLine) (v : DriveView) (line : List ℕ) (found : Option Placed) → says_notice line ≡ false → place_reply setup v.place.state v.place.progress line ≡ found → Holds done v.place.progress
      → Holds (done ++ option_map_or (λ (q : Placed). place_script setup v.place.state v.place.progress line) found []) (drive_reply setup v line).0.place.progress
  answered done v line None none is h = rw is (no_more done v.place.progress h)
  answered done v line (Some q) none is h = rw is (placed_on done v.place.state v.place.progress line q none h is)

  noted : (done : List SimulationLine) (v : DriveView) (line : List ℕ) (b : Bool) → says_notice line ≡ b → Holds done v.place.progress
      → Holds (done ++ (if b then [] else option_map_or (λ (q : Placed). place_script setup v.place.state v.place.progress line) (place_reply setup v.place.state v.place.progress line) [])) (if b then unrecorded v else drive_reply setup v line).0.place.progress
  noted done v line true says h = no_more done v.place.progress h
  noted done v line false says h = answered done v line (place_reply setup v.place.state v.place.progress line) says refl h

  one_line : (v last : DriveView) (line : List ℕ) (lines : List (List ℕ)) (too_long : Bool)
      → option_and_then (λ r. state_behind (recorded_rules setup) r.0 lines) (if too_long then None else Some (recorded_reply setup v line)) ≡ Some last → state_behind (recorded_rules setup) (recorded_reply setup v line).0 lines ≡ Some last
  one_line v last line lines true e = absurd cc
  one_line v last line lines false e = e

  behind_lines : (lines : List (List ℕ)) (done : List SimulationLine) (v last : DriveView) → state_behind (recorded_rules setup) v lines ≡ Some last → Holds done v.place.progress → Holds (done ++ scripts setup v lines) last.place.progress
  unfolding state_behind reply scripts
  behind_lines [] done v last e h = let same : v ≡ last = cc in subst (λ (x : DriveView). Holds (done ++ []) x.place.progress) same (no_more done v.place.progress h)
  behind_lines (line ∷ lines) done v last e h =
      let next : DriveView = (recorded_reply setup v line).0 in
      let here = if says_notice line then [] else option_map_or (λ (q : Placed). place_script setup v.place.state v.place.progress line) (place_reply setup v.place.state v.place.progress line) [] in
      let rest = behind_lines lines (done ++ here) next last (one_line v last line lines (nat_lt LONGEST_LINE (length line)) e) (noted done v line (says_notice line) refl h) in
      rw append_assoc at rest

pub records_are_simulated : RecordsAreSimulated
records_are_simulated setup lines v s e is =
    let h : Holds setup (scripts setup (recorded_rules setup).start lines) v.place.progress = behind_lines setup lines [] (recorded_rules setup).start v e refl in
    rw is at h

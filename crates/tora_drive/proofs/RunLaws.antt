-- The world after the lines of a drive is the result of events.
use Rattle.std.proofs.Common.{◌≡◌, ℕ, Bool, true, false, List, [], ◌∷◌, ◌++◌, length, if◌then◌else◌, Option, Some, None, refl, sym, ap, subst, ◌∙◌, ◌&&◌, zero, suc, map, codes}
use Rattle.std.specs.Prelude.{nat_lt, nat_le, max, is_some, option_map}
use Rattle.std.specs.List.{AllByRecursion}
use Rattle.std.specs.Option.{option_map_or, option_and_then}
use Rattle.std.proofs.lemmas.List.Elements.{recursion_from_All}
use Rattle.std.specs.Result.{result_ok}
use Rattle.hex.specs.Hex.{decode_of}
use Rattle.tora_frame.specs.FrameParts.{FrameParts}
use Rattle.tora_arq.specs.LinkEnd.{bound_life}
use Rattle.tora_core.specs.Numbers.{has_number}
use Rattle.tora_lines.specs.declared.session.TheConstants.{LONGEST_LINE}
use Rattle.tora_lines.specs.Fronts.{after, or_else, ◌>>=◌}
use Rattle.tora_lines.specs.LineText.{reply, state_behind}
use Rattle.tora_lines.specs.Words.{cut, id_of}
use Rattle.tora_world.specs.declared.event.Event.{Event}
use Rattle.tora_world.specs.World.{World, refusal_of, world_after, world_after_all, sent_packets, taken_packets}
use Rattle.tora_world.specs.Topology.{Link}
use Rattle.tora_world.specs.Walks.{exact_in, walk_of, AreIds}
use Rattle.tora_packet.specs.PacketParts.{IsId}
use Rattle.tora_sim.specs.Topologies.{link_in, topology_of}
use Rattle.tora_script.specs.declared.script_line.SimulationLine.TheVariants.{Happens, Rounds, Part, Mend, Heights, Sent, Taken, Exact, Walk, Rest}
use Rattle.tora_script.specs.Table.{Channels, alone}
use Rattle.tora_script.specs.Rounds.{Sky, moment_of, round, after_round, rounds}
use Rattle.tora_script.specs.Setup.{plain}
use Rattle.tora_script.specs.declared.node_marks.Mark.{Mark}
use Rattle.tora_script.specs.Simulator.{started}
use Rattle.tora_script.specs.SimulationLines.{dests_of, link_of, mark_of}
use Rattle.tora_script.specs.SimulationText.{RunningView, Progress, Reply, begun_in, event_reply, after_rounds, has_end, part_of, without_parted, heights_text, count_text, exact_text, walk_text, at_rest_reply, running_reply, with_link}
use Rattle.tora_script.proofs.RoundLaws.{after_append}
use Rattle.tora_script.proofs.SimulationFound.{dests_found, link_found}
use Rattle.tora_drive.specs.declared.setup.DriveSetup.{DriveSetup}
use Rattle.tora_drive.specs.declared.line.DriveLine.{DriveLine}
use Rattle.tora_drive.specs.declared.line.DriveLine.TheVariants.{Script, Step, Needs, Near, Far, Notice, Bytes, Forget}
use Rattle.tora_drive.specs.DriveText.{StateView, Outcome, outcome, quiet, shown, unnamed, impossible, named, with_silent, without_silent, is_forgotten, needs_text, bytes_line, outcome_of, DriveReply, told, answer_to, Placed, DriveView, acknowledged, running_at, first_answer, link_answer, place_reply, drive_reply, drive_rules}
use Rattle.tora_sim.specs.Cuts.{after_cut_at}
use Rattle.tora_drive.specs.DriveLines.{drive_line_of}
use Rattle.tora_drive.specs.Runs.{DriveEvent, after_driven, after_all_driven, happening, IsNotice, SaysNoNotice, IsOfEvents, DrivesAreRuns}
use Rattle.tora_drive.specs.Steps.{step}
use Rattle.tora_drive.specs.Taking.{taking, line_in}

-- ---- a line

-- events of the simulator lead to the same world, taken as events of a drive
pub happened_all : (w : World) (events : List Event) → after_all_driven w (happening events) ≡ world_after_all w events
happened_all w [] = refl
happened_all w (event ∷ events) = happened_all (world_after w event) events

-- events lead from one simulation to another with the same notice; unless the line may cut a session, they are events
-- of the simulator alone
pub record Leads (MayCut : Type 0) (before after : RunningView) : Type 0 where
  pub events : List DriveEvent
  pub after_is : after.world ≡ after_all_driven before.world events
  pub notice : after.has_notice ≡ before.has_notice
  pub plain : (MayCut → ⊥) → (happened : List Event) × (events ≡ happening happened)

where_some : (b : Bool) (q r : Outcome) → (if b then Some q else None) ≡ Some r → q ≡ r
where_some true q r e = cc
where_some false q r e = absurd cc

this : (q r : Outcome) → Some q ≡ Some r → q ≡ r
this q r e = cc

-- rounds are a list of events
sky_leads : (r : ℕ) (nodes : List ℕ) (ends parted : List (ℕ × ℕ)) (channel : Channels) (s : Sky) → (events : List Event) × ((rounds r nodes ends parted channel s).world ≡ world_after_all s.world events)
unfolding rounds after_round
sky_leads zero nodes ends parted channel s = ([], refl)
sky_leads (suc r) nodes ends parted channel s =
    let here = round nodes ends parted (moment_of channel s) s.in_flight.later s.world in
    let rest = sky_leads r nodes ends parted channel (after_round nodes ends parted channel s) in
    (here ++ rest.0, rest.1 ∙ sym (after_append s.world here rest.0))

module _ (MayCut : Type 0) where
  -- an outcome whose world is the result of these events
  leads_by : (s : RunningView) (q r : Outcome) (events : List Event) → q.run.world ≡ world_after_all s.world events → q.run.has_notice ≡ s.has_notice → q ≡ r → Leads MayCut s r.run
  leads_by s q r events is notice e = record {
    events = happening events;
    after_is = sym (ap (λ (x : Outcome). x.run.world) e) ∙ is ∙ sym (happened_all s.world events);
    notice = sym (ap (λ (x : Outcome). x.run.has_notice) e) ∙ notice;
    plain = λ none. (events, refl);
  }

  rounds_lead : (s : RunningView) (o : StateView) (n : ℕ) (r : Outcome) → quiet o (after_rounds n s, []) ≡ r → Leads MayCut s r.run
  rounds_lead s o n r e =
      let led = sky_leads n s.nodes s.ends s.parted (alone s.channel) (record { world = s.world; in_flight = s.in_flight }) in
      leads_by s (quiet o (after_rounds n s, [])) r led.0 led.1 refl e

  happened : (s : RunningView) (o : StateView) (event : Event) (forgotten : Bool) (r : Outcome)
      → (if forgotten then unnamed s o else outcome (event_reply s event).0 o (event_reply s event).1 (is_some (refusal_of s.world event))) ≡ r → Leads MayCut s r.run
  happened s o event true r e = leads_by s (unnamed s o) r [] refl refl e
  happened s o event false r e = leads_by s (outcome (event_reply s event).0 o (event_reply s event).1 (is_some (refusal_of s.world event))) r (event ∷ []) refl refl e

  replied : (s : RunningView) (o : StateView) (b : Bool) (q : Reply) (r : Outcome) → q.0.world ≡ s.world → q.0.has_notice ≡ s.has_notice → option_map (quiet o) (if b then Some q else None) ≡ Some r → Leads MayCut s r.run
  replied s o true q r stays notice e = leads_by s (quiet o q) r [] stays notice (this _ r e)
  replied s o false q r stays notice e = absurd cc

  bytes_shown : (s : RunningView) (o : StateView) (i : ℕ) (f : Option FrameParts) (r : Outcome) → option_map_or (λ f. shown s o (bytes_line i f)) f (unnamed s o) ≡ r → Leads MayCut s r.run
  bytes_shown s o i None r e = leads_by s (unnamed s o) r [] refl refl e
  bytes_shown s o i (Some f) r e = leads_by s (shown s o (bytes_line i f)) r [] refl refl e

  forgot : (s : RunningView) (o p : StateView) (b : Bool) (r : Outcome) → (if b then shown s p [] else unnamed s o) ≡ r → Leads MayCut s r.run
  forgot s o p true r e = leads_by s (shown s p []) r [] refl refl e
  forgot s o p false r e = leads_by s (unnamed s o) r [] refl refl e

  cuts : (s : RunningView) (o : StateView) (n k : ℕ) (b : Bool) (r : Outcome) → MayCut → (if b then shown (record s { world = after_cut_at s.world n k }) o [] else impossible s o) ≡ r → Leads MayCut s r.run
  cuts s o n k true r may e = record {
    events = DriveEvent.Cuts n k ∷ [];
    after_is = sym (ap (λ (x : Outcome). x.run.world) e);
    notice = sym (ap (λ (x : Outcome). x.run.has_notice) e);
    plain = λ none. absurd (none may);
  }
  cuts s o n k false r may e = leads_by s (impossible s o) r [] refl refl e

  line_leads : (s : RunningView) (o : StateView) (line : DriveLine) (r : Outcome) → ((n k : ℕ) → line ≡ Notice n k → MayCut) → s.has_notice ≡ false → outcome_of s o line ≡ Some r → Leads MayCut s r.run
  unfolding outcome_of running_reply
  line_leads s o (Script (Happens event)) r cut h e = happened s o event (is_forgotten o event) r (this _ r e)
  line_leads s o (Script (Rounds n)) r cut h e = rounds_lead s o n r (this _ r e)
  line_leads s o (Script (Part a b)) r cut h e = replied s o (has_end a b s.ends) (part_of s a b, []) r (rw h refl) refl e
  line_leads s o (Script (Mend a b)) r cut h e = replied s o (has_end a b s.ends) (record s { parted = without_parted a b s.parted }, []) r refl refl e
  line_leads s o (Script (Heights d)) r cut h e = replied s o (has_number d s.dests) (s, heights_text s.world d s.nodes) r refl refl e
  line_leads s o (Script (Sent a b life)) r cut h e = replied s o (has_end a b s.ends) (s, count_text (length (sent_packets s.world a b life))) r refl refl e
  line_leads s o (Script (Taken b a life)) r cut h e = replied s o (has_end b a s.ends) (s, count_text (length (taken_packets s.world b a life))) r refl refl e
  line_leads s o (Script (Exact d)) r cut h e = replied s o (has_number d s.dests) (s, exact_text (exact_in s.world d)) r refl refl e
  line_leads s o (Script (Walk n d)) r cut h e = replied s o (has_number n s.nodes && has_number d s.dests) (s, walk_text (walk_of s.world n d)) r refl refl e
  line_leads s o (Script Rest) r cut h e = leads_by s (quiet o (at_rest_reply s)) r [] refl refl (this _ r e)
  line_leads s o Step r cut h e = leads_by s _ r (step s.nodes s.ends o.silent s.world) refl refl (this _ r e)
  line_leads s o Needs r cut h e = leads_by s (shown s o (needs_text s.world s.nodes s.dests)) r [] refl refl (this _ r e)
  line_leads s o (Near n k) r cut h e = leads_by s (shown s (record o { silent = without_silent (n, k) o.silent }) []) r [] refl refl (where_some (has_end n k s.ends) _ r e)
  line_leads s o (Far n k) r cut h e = leads_by s (shown s (record o { silent = with_silent (n, k) o.silent }) []) r [] refl refl (where_some (has_end n k s.ends) _ r e)
  line_leads s o (Notice n k) r cut h e = cuts s o n k (is_some (bound_life (s.world.ends n k))) r (cut n k refl) (where_some (has_end n k s.ends) _ r e)
  line_leads s o (Bytes i) r cut h e = bytes_shown s o i (named o s.world i) r (this _ r e)
  line_leads s o (Forget i) r cut h e = forgot s o (record o { forgotten = max o.forgotten i }) (nat_le i (length s.world.datagrams)) r (this _ r e)

  -- the world after a line, from its answer
  told_leads : (s : RunningView) (o : StateView) (line : DriveLine) (found : Option Outcome) (r : DriveReply) → ((n k : ℕ) → line ≡ Notice n k → MayCut) → s.has_notice ≡ false → outcome_of s o line ≡ found → option_map (told s) found ≡ Some r → Leads MayCut s r.0
  told_leads s o line None r cut h is e = absurd cc
  told_leads s o line (Some q) r cut h is e =
      let same : told s q ≡ r = cc in
      let led : Leads MayCut s q.run = line_leads s o line q cut h is in
      record {
        events = led.events;
        after_is = sym (ap (λ (x : DriveReply). x.0.world) same) ∙ led.after_is;
        notice = sym (ap (λ (x : DriveReply). x.0.has_notice) same) ∙ led.notice;
        plain = led.plain;
      }

  said_leads : (s : RunningView) (o : StateView) (said : Option DriveLine) (r : DriveReply) → ((n k : ℕ) → said ≡ Some (Notice n k) → MayCut) → s.has_notice ≡ false → option_and_then (λ line. option_map (told s) (outcome_of s o line)) said ≡ Some r → Leads MayCut s r.0
  said_leads s o None r cut h e = absurd cc
  said_leads s o (Some line) r cut h e = told_leads s o line (outcome_of s o line) r (λ n k is. cut n k (rw is refl)) h refl e

-- a line `take A B HEX` is not a notice
no_option : {A : Type 0} (n k : ℕ) (f : A → Option DriveLine) (found : Option A) → ((x : A) → f x ≡ Some (Notice n k) → ⊥) → (found >>= f) ≡ Some (Notice n k) → ⊥
no_option n k f None never e = absurd cc
no_option n k f (Some x) never e = never x e

taken_in : (w : World) (forgotten n k : ℕ) (text : List ℕ) → taking w forgotten text ≡ Some (Notice n k) → ⊥
unfolding taking
taken_in w forgotten n k text e =
    no_option n k _ (cut 32 text) (λ a. no_option n k _ (id_of a.0) (λ receiver. no_option n k _ (cut 32 a.1) (λ b. no_option n k _ (id_of b.0) (λ sender. no_option n k _ (result_ok (decode_of b.1)) (λ bytes is. absurd cc))))) e

not_taken : (w : World) (forgotten n k : ℕ) (text : List ℕ) (rest : Option (List ℕ)) (other : Option DriveLine) → or_else rest (taking w forgotten) other ≡ Some (Notice n k) → other ≡ Some (Notice n k)
not_taken w forgotten n k text None other e = e
not_taken w forgotten n k text (Some rest) other e = absurd (taken_in w forgotten n k rest e)

pub is_notice : (w : World) (forgotten n k : ℕ) (text : List ℕ) → line_in w forgotten text ≡ Some (Notice n k) → IsNotice text
unfolding line_in
is_notice w forgotten n k text e = (n, k, not_taken w forgotten n k text (after (codes "take ") text) (drive_line_of text) e)

answer_leads : (s : RunningView) (o : StateView) (text : List ℕ) (r : DriveReply) → s.has_notice ≡ false → answer_to s o text ≡ Some r → Leads (IsNotice text) s r.0
unfolding answer_to
answer_leads s o text r h e = said_leads (IsNotice text) s o (line_in s.world o.forgotten text) r (λ n k is. is_notice s.world o.forgotten n k text is) h e

-- ---- the stage of a drive

-- the world at this stage, if there is one, is the result of events
abbrev Holds : DriveSetup → Type 0 → Progress → Type 0
Holds setup CutsNothing Progress.First = Unit {0}
Holds setup CutsNothing (Progress.Links dests links marks) = AreIds (topology_of links dests)
Holds setup CutsNothing (Progress.Runs s) = (s.has_notice ≡ false) × IsOfEvents setup CutsNothing s.world

driven_append : (w : World) (xs ys : List DriveEvent) → after_all_driven w (xs ++ ys) ≡ after_all_driven (after_all_driven w xs) ys
driven_append w [] ys = refl
driven_append w (x ∷ xs) ys = driven_append (after_driven w x) xs ys

happening_append : (xs ys : List Event) → happening (xs ++ ys) ≡ happening xs ++ happening ys
happening_append [] ys = refl
happening_append (x ∷ xs) ys = rw (happening_append xs ys) refl

both_plain : (xs ys : List DriveEvent) → ((happened : List Event) × (xs ≡ happening happened)) → ((happened : List Event) × (ys ≡ happening happened)) → (happened : List Event) × (xs ++ ys ≡ happening happened)
both_plain xs ys p q = (p.0 ++ q.0, rw (p.1, q.1) (sym (happening_append p.0 q.0)))

-- the numbers that lines name are ids
one_more : (links : List (ℕ × ℕ)) (link : ℕ × ℕ) → AllByRecursion (λ (l : Link). IsId l.a × IsId l.b) (map link_in links) → IsId link.0 × IsId link.1 → AllByRecursion (λ (l : Link). IsId l.a × IsId l.b) (map link_in (links ++ link ∷ []))
one_more [] link h p = (p, tt)
one_more (l ∷ links) link h p = (h.0, one_more links link h.1 p)

module _ (setup : DriveSetup) (CutsNothing : Type 0) where
  -- the world is still the result of events, after more of them
  onward : (MayCut : Type 0) → (CutsNothing → MayCut → ⊥) → (before after : RunningView) → IsOfEvents setup CutsNothing before.world → Leads MayCut before after → IsOfEvents setup CutsNothing after.world
  onward MayCut none before after h led = record {
    links = h.links;
    dests = h.dests;
    marks = h.marks;
    ids = h.ids;
    first = h.first;
    begins = h.begins;
    events = h.events ++ led.events;
    world_is = led.after_is ∙ ap (λ (w : World). after_all_driven w led.events) h.world_is ∙ sym (driven_append h.first h.events led.events);
    plain = λ nothing. both_plain h.events led.events (h.plain nothing) (led.plain (none nothing));
  }

  at_place : (r q : Placed) → r ≡ q → Holds setup CutsNothing r.0.progress → Holds setup CutsNothing q.0.progress
  at_place r q e h = subst (λ (x : Placed). Holds setup CutsNothing x.0.progress) e h

  some_placed : (r q : Placed) → Some r ≡ Some q → r ≡ q
  some_placed r q e = cc

  -- the stage after a line of a running simulation
  runs : (MayCut : Type 0) → (CutsNothing → MayCut → ⊥) → (before : RunningView) (found : Option DriveReply) (q : Placed) → (before.has_notice ≡ false) × IsOfEvents setup CutsNothing before.world → ((r : DriveReply) → found ≡ Some r → Leads MayCut before r.0) → option_map running_at found ≡ Some q → Holds setup CutsNothing q.0.progress
  runs MayCut none before None q h led e = absurd cc
  runs MayCut none before (Some r) q h led e = at_place (running_at r) q (some_placed _ q e) ((led r refl).notice ∙ h.0, onward MayCut none before r.0 h.1 (led r refl))

  begins : (o : StateView) (dests : List ℕ) (links : List (ℕ × ℕ)) (marks : List Mark) (line : List ℕ) (first : Option World) (q : Placed) → (CutsNothing → IsNotice line → ⊥) → AreIds (topology_of links dests) → started setup.options links dests marks setup.times ≡ first
      → option_map running_at (option_and_then (λ w. answer_to (begun_in dests (plain setup.times) w) o line) first) ≡ Some q → Holds setup CutsNothing q.0.progress
  begins o dests links marks line None q none ids is e = absurd cc
  begins o dests links marks line (Some w) q none ids is e =
      let new : IsOfEvents setup CutsNothing w = record { links = links; dests = dests; marks = marks; ids = ids; first = w; begins = is; events = []; world_is = refl; plain = λ nothing. ([], refl) } in
      runs (IsNotice line) none (begun_in dests (plain setup.times) w) (answer_to (begun_in dests (plain setup.times) w) o line) q (refl, new) (λ r h. answer_leads (begun_in dests (plain setup.times) w) o line r refl h) e

  first_line : (o : StateView) (line : List ℕ) (dests : Option (List ℕ)) (q : Placed) → dests_of line ≡ dests → option_map (acknowledged o) (option_map (λ dests. Progress.Links dests [] []) dests) ≡ Some q → Holds setup CutsNothing q.0.progress
  first_line o line None q is e = absurd cc
  first_line o line (Some dests) q is e =
      at_place (acknowledged o (Progress.Links dests [] [])) q (some_placed _ q e) (record { links = tt; destinations = recursion_from_All IsId dests (dests_found line dests is).ids })

  one_link : (o : StateView) (dests : List ℕ) (links : List (ℕ × ℕ)) (marks : List Mark) (line : List ℕ) (link : ℕ × ℕ) (q : Placed) → AreIds (topology_of links dests) → link_of line ≡ Some link → option_map (acknowledged o) (with_link dests links marks link) ≡ Some q → Holds setup CutsNothing q.0.progress
  one_link o dests links [] line link q ids is e =
      let named = link_found line link is in
      at_place (acknowledged o (Progress.Links dests (links ++ link ∷ []) [])) q (some_placed _ q e) (record { links = one_more links link ids.links (named.first, named.second); destinations = ids.destinations })
  one_link o dests links (mark ∷ marks) line link q ids is e = absurd cc

  one_mark : (o : StateView) (dests : List ℕ) (links : List (ℕ × ℕ)) (marks : List Mark) (b : Bool) (q : Placed) → AreIds (topology_of links dests) → option_map (acknowledged o) (if b then Some (Progress.Links dests links marks) else None) ≡ Some q → Holds setup CutsNothing q.0.progress
  one_mark o dests links marks true q ids e = at_place (acknowledged o (Progress.Links dests links marks)) q (some_placed _ q e) ids
  one_mark o dests links marks false q ids e = absurd cc

  behind : (o : StateView) (dests : List ℕ) (links : List (ℕ × ℕ)) (marks : List Mark) (line : List ℕ) (q : Placed) → (CutsNothing → IsNotice line → ⊥) → AreIds (topology_of links dests) → option_map running_at (first_answer setup o dests links marks line) ≡ Some q → Holds setup CutsNothing q.0.progress
  behind o dests [] marks line q none ids e = absurd cc
  behind o dests (link ∷ links) marks line q none ids e = begins o dests (link ∷ links) marks line (started setup.options (link ∷ links) dests marks setup.times) q none ids refl e

  linked : (o : StateView) (dests : List ℕ) (links : List (ℕ × ℕ)) (marks : List Mark) (line : List ℕ) (link : Option (ℕ × ℕ)) (mark : Option Mark) (q : Placed) → (CutsNothing → IsNotice line → ⊥) → AreIds (topology_of links dests) → link_of line ≡ link → link_answer setup o dests links marks line link mark ≡ Some q → Holds setup CutsNothing q.0.progress
  linked o dests links marks line (Some link) mark q none ids is e = one_link o dests links marks line link q ids is e
  linked o dests links marks line None (Some mark) q none ids is e = one_mark o dests links _ _ q ids e
  linked o dests links marks line None None q none ids is e = behind o dests links marks line q none ids e

  placed_on : (o : StateView) (progress : Progress) (line : List ℕ) (q : Placed) → (CutsNothing → IsNotice line → ⊥) → Holds setup CutsNothing progress → place_reply setup o progress line ≡ Some q → Holds setup CutsNothing q.0.progress
  unfolding place_reply
  placed_on o Progress.First line q none h e = first_line o line (dests_of line) q refl e
  placed_on o (Progress.Links dests links marks) line q none h e = linked o dests links marks line (link_of line) (mark_of line) q none h refl e
  placed_on o (Progress.Runs s) line q none h e = runs (IsNotice line) none s (answer_to s o line) q h (λ r is. answer_leads s o line r h.0 is) e

  -- ---- all lines

  answered : (v : DriveView) (line : List ℕ) (found : Option Placed) → (CutsNothing → IsNotice line → ⊥) → place_reply setup v.place.state v.place.progress line ≡ found → Holds setup CutsNothing v.place.progress → Holds setup CutsNothing (drive_reply setup v line).0.place.progress
  answered v line None none is h = rw is h
  answered v line (Some q) none is h = rw is (placed_on v.place.state v.place.progress line q none h is)

  longer : (v next : DriveView) (out line : List ℕ) (too_long : Bool) → (CutsNothing → IsNotice line → ⊥) → (if too_long then None else Some (drive_reply setup v line)) ≡ Some (next, out) → Holds setup CutsNothing v.place.progress → Holds setup CutsNothing next.place.progress
  longer v next out line true none e h = absurd cc
  longer v next out line false none e h =
      let is : drive_reply setup v line ≡ (next, out) = cc in
      subst (λ (x : DriveView × List ℕ). Holds setup CutsNothing x.0.place.progress) is (answered v line (place_reply setup v.place.state v.place.progress line) none refl h)

  one_line : (v last : DriveView) (line : List ℕ) (lines : List (List ℕ)) (found : Option (DriveView × List ℕ)) → (CutsNothing → IsNotice line → ⊥)
      → ((next : DriveView) → state_behind (drive_rules setup) next lines ≡ Some last → Holds setup CutsNothing next.place.progress → Holds setup CutsNothing last.place.progress) → reply (drive_rules setup) v line ≡ found → Holds setup CutsNothing v.place.progress
      → option_and_then (λ r. state_behind (drive_rules setup) r.0 lines) found ≡ Some last → Holds setup CutsNothing last.place.progress
  unfolding reply
  one_line v last line lines None none others is h e = absurd cc
  one_line v last line lines (Some r) none others is h e = others r.0 e (longer v r.0 r.1 line (nat_lt LONGEST_LINE (length line)) none is h)

  behind_lines : (lines : List (List ℕ)) (v last : DriveView) → (CutsNothing → SaysNoNotice lines) → state_behind (drive_rules setup) v lines ≡ Some last → Holds setup CutsNothing v.place.progress → Holds setup CutsNothing last.place.progress
  unfolding state_behind
  behind_lines [] v last none e h = let same : v ≡ last = cc in subst (λ (x : DriveView). Holds setup CutsNothing x.place.progress) same h
  behind_lines (line ∷ lines) v last none e h = one_line v last line lines (reply (drive_rules setup) v line) (λ nothing. (none nothing).0) (λ next is holds. behind_lines lines next last (λ nothing. (none nothing).1) is holds) refl h e

pub drives_are_runs : DrivesAreRuns
drives_are_runs setup lines v s e is =
    let h : Holds setup (SaysNoNotice lines) v.place.progress = behind_lines setup (SaysNoNotice lines) lines (drive_rules setup).start v (λ nothing. nothing) e tt in
    (rw is at h).1

-- A line that gives no core a turn changes no next hop.
use Rattle.std.proofs.Common.{◌≡◌, ℕ, Bool, true, false, List, [], ◌∷◌, if◌then◌else◌, is_some, Option, Some, None, refl, sym, ap, subst, ◌∙◌, ◌&&◌, length, arith}
use Rattle.std.specs.Prelude.{nat_le, max, option_map}
use Rattle.std.specs.List.{flat_map}
use Rattle.std.specs.Option.{option_map_or}
use Rattle.std.proofs.lemmas.Bool.Decides.{nat_tests}
use Rattle.std.proofs.lemmas.Grind.{flat_map-append}
use Rattle.tora_frame.specs.FrameParts.{FrameParts}
use Rattle.tora_arq.specs.declared.link_event.LinkEvent.{LinkEvent}
use Rattle.tora_arq.specs.LinkEnd.{EndState, after_transmit, bound_life, frame_due, first_event}
use Rattle.tora_sim.specs.Cuts.{after_cut_at}
use Rattle.tora_seat.specs.declared.cargo.Cargo.{Cargo}
use Rattle.tora_world.specs.declared.call.Call.{Call}
use Rattle.tora_world.specs.declared.call.Call.TheVariants as Fails
use Rattle.tora_world.specs.declared.event.Event.{Event}
use Rattle.tora_world.specs.declared.event.Event.TheVariants.{Need, Tick, Open, Pull, Transmit, Deliver, Pump, CoreTurn, Arm, Restart}
use Rattle.tora_world.specs.Topology.{is_link}
use Rattle.tora_world.specs.World.{World, Choice, settings, datagram, refusal_by, effect_by, world_by, own_choice, refusal_of, world_after, sent_packets, taken_packets, after_pull, after_sending, after_receiving, after_pump, after_arming}
use Rattle.tora_world.specs.Walks.{hop_at}
use Rattle.tora_script.specs.declared.script_line.SimulationLine.TheVariants.{Happens, Rounds, Part, Mend, Heights, Sent, Taken, Exact, Walk, Rest}
use Rattle.tora_core.specs.Numbers.{has_number}
use Rattle.tora_world.specs.Walks.{exact_in, walk_of}
use Rattle.tora_script.specs.SimulationText.{RunningView, Reply, event_reply, has_end, cut_both, part_of, without_parted, heights_text, count_text, exact_text, walk_text, at_rest_reply, running_reply}
use Rattle.tora_drive.specs.declared.line.DriveLine.{DriveLine}
use Rattle.tora_drive.specs.declared.line.DriveLine.TheVariants.{Script, Step, Needs, Near, Far, Notice, Bytes, Forget}
use Rattle.tora_drive.specs.Records.{routes_at, routes_of, is_same_hop, hop_line, hops_text}
use Rattle.tora_drive.specs.DriveText.{StateView, Outcome, outcome, quiet, shown, unnamed, impossible, named, with_silent, without_silent, is_forgotten, needs_text, bytes_line, outcome_of, may_turn, may_change_hops}

-- ---- events

-- two worlds have the same links and the same cores
pub record SameCores (before after : World) : Type 0 where
  pub seats : after.seats ≡ before.seats
  pub topology : after.topology ≡ before.topology

same : (w : World) → SameCores w w
same w = record { seats = refl; topology = refl }

unless : (b : Bool) (w v : World) → SameCores w v → SameCores w (if b then w else v)
unless true w v h = same w
unless false w v h = h

pulled : (w : World) (n k : ℕ) (cargoes : List Cargo) → SameCores w (after_pull w n k cargoes)
pulled w n k [] = same w
pulled w n k (cargo ∷ cargoes) = record { seats = refl; topology = refl }

sent : (w : World) (n k : ℕ) (e : EndState) (f : Option FrameParts) → SameCores w (after_sending w n k e f)
sent w n k e None = same w
sent w n k e (Some f) = record { seats = refl; topology = refl }

either : (b : Bool) (w u v : World) → SameCores w u → SameCores w v → SameCores w (if b then u else v)
either true w u v p q = p
either false w u v p q = q

received : (w : World) (c : Choice) (f : Option FrameParts) → SameCores w (after_receiving w c f)
received w c None = same w
received w c (Some f) = either (w.arms f.header.receiver).receive w _ _ (record { seats = refl; topology = refl }) (record { seats = refl; topology = refl })

pumped : (w : World) (c : Choice) (n k : ℕ) (event : Option LinkEvent) → SameCores w (after_pump w c n k event)
pumped w c n k None = same w
pumped w c n k (Some event) = record { seats = refl; topology = refl }

armed : (w : World) (n : ℕ) (call : Call) → SameCores w (after_arming w n call)
armed w n Fails.SendLost = record { seats = refl; topology = refl }
armed w n Fails.SendGone = record { seats = refl; topology = refl }
armed w n Fails.Receive = record { seats = refl; topology = refl }
armed w n Fails.Read = record { seats = refl; topology = refl }
armed w n Fails.Write = record { seats = refl; topology = refl }
armed w n Fails.Sync = record { seats = refl; topology = refl }

effect : (c : Choice) (w : World) (event : Event) → may_turn event ≡ false → SameCores w (effect_by c w event)
unfolding effect_by
effect c w (Need n d) h = record { seats = refl; topology = refl }
effect c w Tick h = record { seats = refl; topology = refl }
effect c w (Open n k) h = record { seats = refl; topology = refl }
effect c w (Pull n k) h = pulled w n k (w.cargoes n k)
effect c w (Transmit n k) h = sent w n k (after_transmit (settings w n k) (w.ends n k) (c.now n k)) (frame_due (settings w n k) (w.ends n k) (c.now n k))
effect c w (Deliver i) h = received w c (datagram w i)
effect c w (Pump n k) h = pumped w c n k (first_event (w.ends n k))
effect c w (Arm n call) h = armed w n call
effect c w (CoreTurn n) h = absurd cc
effect c w (Restart n torn) h = absurd cc

pub event_stays : (w : World) (event : Event) → may_turn event ≡ false → SameCores w (world_after w event)
unfolding world_by
event_stays w event h = unless (is_some (refusal_by (own_choice w event) w event)) w (effect_by (own_choice w event) w event) (effect (own_choice w event) w event h)

-- ---- lines

where_some : (b : Bool) (q r : Outcome) → (if b then Some q else None) ≡ Some r → q ≡ r
where_some true q r e = cc
where_some false q r e = absurd cc

this : (q r : Outcome) → Some q ≡ Some r → q ≡ r
this q r e = cc

-- an outcome with an unchanged world
unchanged : (s : RunningView) (q r : Outcome) → q.run.world ≡ s.world → q ≡ r → SameCores s.world r.run.world
unchanged s q r stays e =
    let w : s.world ≡ r.run.world = sym stays ∙ ap (λ (x : Outcome). x.run.world) e in
    subst (λ (x : World). SameCores s.world x) w (same s.world)

happened : (s : RunningView) (o : StateView) (event : Event) (forgotten : Bool) (r : Outcome) → may_turn event ≡ false
    → (if forgotten then unnamed s o else outcome (event_reply s event).0 o (event_reply s event).1 (is_some (refusal_of s.world event))) ≡ r → SameCores s.world r.run.world
happened s o event true r h e = unchanged s (unnamed s o) r refl e
happened s o event false r h e = let w : world_after s.world event ≡ r.run.world = ap (λ (x : Outcome). x.run.world) e in subst (λ (x : World). SameCores s.world x) w (event_stays s.world event h)

-- a reply of a simulation with unchanged cores
replied : (s : RunningView) (o : StateView) (b : Bool) (q : Reply) (r : Outcome) → SameCores s.world q.0.world → option_map (quiet o) (if b then Some q else None) ≡ Some r → SameCores s.world r.run.world
replied s o true q r stays e = subst (λ (x : World). SameCores s.world x) (ap (λ (x : Outcome). x.run.world) (this (quiet o q) r e)) stays
replied s o false q r stays e = absurd cc

cut : (w : World) (n k : ℕ) → SameCores w (after_cut_at w n k)
cut w n k = either (is_link w.topology n k) w _ w (record { seats = refl; topology = refl }) (same w)

both_cut : (w : World) (a b : ℕ) → SameCores w (cut_both a b w)
both_cut w a b =
    let first = cut w a b in
    let second = cut (after_cut_at w a b) b a in
    record { seats = second.seats ∙ first.seats; topology = second.topology ∙ first.topology }

parts : (s : RunningView) (a b : ℕ) → SameCores s.world (part_of s a b).world
parts s a b = either s.has_notice s.world (cut_both a b s.world) s.world (both_cut s.world a b) (same s.world)

bytes_shown : (s : RunningView) (o : StateView) (i : ℕ) (f : Option FrameParts) (r : Outcome) → option_map_or (λ f. shown s o (bytes_line i f)) f (unnamed s o) ≡ r → SameCores s.world r.run.world
bytes_shown s o i None r e = unchanged s (unnamed s o) r refl e
bytes_shown s o i (Some f) r e = unchanged s (shown s o (bytes_line i f)) r refl e

forgot : (s : RunningView) (o p : StateView) (b : Bool) (r : Outcome) → (if b then shown s p [] else unnamed s o) ≡ r → SameCores s.world r.run.world
forgot s o p true r e = unchanged s (shown s p []) r refl e
forgot s o p false r e = unchanged s (unnamed s o) r refl e

noticed : (s : RunningView) (o : StateView) (n k : ℕ) (b : Bool) (r : Outcome) → (if b then shown (record s { world = after_cut_at s.world n k }) o [] else impossible s o) ≡ r → SameCores s.world r.run.world
noticed s o n k true r e = subst (λ (x : World). SameCores s.world x) (ap (λ (x : Outcome). x.run.world) e) (cut s.world n k)
noticed s o n k false r e = unchanged s (impossible s o) r refl e

pub line_stays : (s : RunningView) (o : StateView) (line : DriveLine) (r : Outcome) → may_change_hops line ≡ false → outcome_of s o line ≡ Some r → SameCores s.world r.run.world
unfolding outcome_of running_reply
line_stays s o (Script (Happens event)) r h e = happened s o event (is_forgotten o event) r h (this _ r e)
line_stays s o (Script (Rounds n)) r h e = absurd cc
line_stays s o (Script (Part a b)) r h e = replied s o (has_end a b s.ends) (part_of s a b, []) r (parts s a b) e
line_stays s o (Script (Mend a b)) r h e = replied s o (has_end a b s.ends) (record s { parted = without_parted a b s.parted }, []) r (same s.world) e
line_stays s o (Script (Heights d)) r h e = replied s o (has_number d s.dests) (s, heights_text s.world d s.nodes) r (same s.world) e
line_stays s o (Script (Sent a b life)) r h e = replied s o (has_end a b s.ends) (s, count_text (length (sent_packets s.world a b life))) r (same s.world) e
line_stays s o (Script (Taken b a life)) r h e = replied s o (has_end b a s.ends) (s, count_text (length (taken_packets s.world b a life))) r (same s.world) e
line_stays s o (Script (Exact d)) r h e = replied s o (has_number d s.dests) (s, exact_text (exact_in s.world d)) r (same s.world) e
line_stays s o (Script (Walk n d)) r h e = replied s o (has_number n s.nodes && has_number d s.dests) (s, walk_text (walk_of s.world n d)) r (same s.world) e
line_stays s o (Script Rest) r h e = unchanged s (quiet o (at_rest_reply s)) r refl (this _ r e)
line_stays s o Step r h e = absurd cc
line_stays s o Needs r h e = unchanged s (shown s o (needs_text s.world s.nodes s.dests)) r refl (this _ r e)
line_stays s o (Near n k) r h e = unchanged s (shown s (record o { silent = without_silent (n, k) o.silent }) []) r refl (where_some (has_end n k s.ends) _ r e)
line_stays s o (Far n k) r h e = unchanged s (shown s (record o { silent = with_silent (n, k) o.silent }) []) r refl (where_some (has_end n k s.ends) _ r e)
line_stays s o (Notice n k) r h e = noticed s o n k (is_some (bound_life (s.world.ends n k))) r (where_some (has_end n k s.ends) _ r e)
line_stays s o (Bytes i) r h e = bytes_shown s o i (named o s.world i) r (this _ r e)
line_stays s o (Forget i) r h e = forgot s o (record o { forgotten = max o.forgotten i }) (nat_le i (length s.world.datagrams)) r (this _ r e)

-- ---- next hops

same_hop : (a : Option ℕ) → is_same_hop a a ≡ true
same_hop None = refl
same_hop (Some n) = grind (arith, nat_tests)

no_hop : (w v : World) → SameCores w v → (n d : ℕ) → hop_line v (record { node = n; destination = d; hop = hop_at w n d }) ≡ []
unfolding hop_line
no_hop w v h n d =
    let e : hop_at v n d ≡ hop_at w n d = rw (h.topology, h.seats) refl in
    rw (e, same_hop (hop_at w n d)) refl

no_hops_of : (w v : World) → SameCores w v → (dests : List ℕ) (n : ℕ) → flat_map (hop_line v) (routes_at w dests n) ≡ []
no_hops_of w v h [] n = refl
no_hops_of w v h (d ∷ dests) n = rw (no_hop w v h n d) (no_hops_of w v h dests n)

pub no_hops : (w v : World) → SameCores w v → (nodes dests : List ℕ) → hops_text nodes dests w v ≡ []
no_hops w v h [] dests = refl
no_hops w v h (n ∷ nodes) dests =
    flat_map-append (hop_line v) (routes_at w dests n) (routes_of w nodes dests) ∙ rw (no_hops_of w v h dests n) (no_hops w v h nodes dests)

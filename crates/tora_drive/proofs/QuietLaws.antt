-- A step after whose tick nothing is to be done.
use Rattle.std.proofs.Common.{◌≡◌, ℕ, zero, suc, ◌-◌, List, [], ◌∷◌, ◌++◌, length, None, Some, refl, sym, ap, ap₂, ◌∙◌, ◌+◌, arith, append-nil}
use Rattle.std.specs.Prelude.{false, option_map}
use Rattle.std.specs.List.{flat_map}
use Rattle.tora_frame.specs.FrameParts.{FrameParts}
use Rattle.tora_world.specs.declared.event.Event.{Event}
use Rattle.tora_world.specs.declared.event.Event.TheVariants.{Tick, CoreTurn}
use Rattle.tora_world.specs.Walks.{hop_at}
use Rattle.tora_world.specs.World.{World, world_by, effect_by, world_after, world_after_all}
use Rattle.tora_sim.specs.Quiet.{IsQuiet}
use Rattle.tora_script.specs.declared.rounds.TheConstants.{MOST_PASSES}
use Rattle.tora_script.specs.declared.turns.EndTurn.{EndTurn}
use Rattle.tora_script.specs.declared.turns.EndTurn.TheVariants as turn
use Rattle.tora_script.specs.Rounds.{Plan, end_event, repeats, while_possible, plan_then, each, each_core, each_end, each_end_once}
use Rattle.tora_script.specs.SimulationText.{RunningView}
use Rattle.tora_script.proofs.RoundLaws.{each_none, no_event, quiet_ends}
use Rattle.tora_drive.specs.declared.line.DriveLine.TheVariants.{Step}
use Rattle.tora_drive.specs.declared.records.Route.{Route}
use Rattle.tora_drive.specs.Steps.{sends_of, step_pass, step_passes, step}
use Rattle.tora_drive.specs.Records.{sent_from, sent_text, routes_at, routes_of, hop_line, hops_text}
use Rattle.tora_drive.specs.Recording.{Record, with_record, with_text, cleared, event_line, events_text, step_recorded}
use Rattle.tora_drive.specs.DriveText.{StateView, shown, after_step, outcome_of, closing, told}
use Rattle.tora_drive.proofs.HopLaws.{SameCores, event_stays, no_hops}
use Rattle.tora_drive.proofs.TellLaws.{same_record}
use Rattle.tora_drive.proofs.TurnLaws.{no_turn}

-- ---- nothing is to be done

then_none : (plan rest : Plan) (w : World) → plan w ≡ [] → rest w ≡ [] → plan_then plan rest w ≡ []
then_none plan rest w first next = ap (λ (events : List Event). events ++ rest (world_after_all w events)) first ∙ next

module _ (nodes : List ℕ) (ends silent : List (ℕ × ℕ)) (w : World) (q : IsQuiet w) where
  no_turns : (kind : EndTurn) (most : ℕ) → each (λ e. repeats most (end_event kind e)) ends w ≡ []
  no_turns kind most = each_none (λ e. repeats most (end_event kind e)) ends w (λ e. no_event w most (end_event kind e) (quiet_ends kind w q e))

  no_pass : step_pass nodes ends silent w ≡ []
  unfolding step_pass
  no_pass =
      let cores : each_core nodes w ≡ [] = each_none (λ n. while_possible (CoreTurn n)) nodes w (λ n. no_event w 1024 (CoreTurn n) (q.cores n)) in
      let sends : each (sends_of silent) ends w ≡ [] = each_none (sends_of silent) ends w (λ e. no_turn silent turn.Transmit e w (q.sends e.0 e.1)) in
      then_none (each_core nodes) (plan_then (each_end turn.Pull ends) (plan_then (each (sends_of silent) ends) (each_end turn.Pump ends))) w cores
      (then_none (each_end turn.Pull ends) (plan_then (each (sends_of silent) ends) (each_end turn.Pump ends)) w (no_turns turn.Pull 1024)
      (then_none (each (sends_of silent) ends) (each_end turn.Pump ends) w sends (no_turns turn.Pump 1024)))

  no_passes : (k : ℕ) → step_passes k nodes ends silent w ≡ []
  unfolding step_passes
  no_passes zero = refl
  no_passes (suc k) = rw no_pass refl

  none_behind : plan_then (each_end_once turn.Open ends) (step_passes MOST_PASSES nodes ends silent) w ≡ []
  none_behind = then_none (each_end_once turn.Open ends) (step_passes MOST_PASSES nodes ends silent) w (no_turns turn.Open 1) (no_passes MOST_PASSES)

  -- nothing is recorded
  pub quiet_record : (r : Record) → r ≡ with_record r (events_text (plan_then (each_end_once turn.Open ends) (step_passes MOST_PASSES nodes ends silent) w))
  quiet_record r = sym (same_record r) ∙ ap (λ (events : List Event). with_record r (events_text events)) (sym none_behind)

  pub quiet_world : world_after_all w (plan_then (each_end_once turn.Open ends) (step_passes MOST_PASSES nodes ends silent) w) ≡ w
  quiet_world = ap (world_after_all w) none_behind

none_sent : (w : World) → sent_text w w ≡ []
unfolding sent_from
none_sent w =
    let none : length w.datagrams - length w.datagrams ≡ zero = omega arith in
    ap (sent_from w (length w.datagrams)) none

-- the answer has no line for a world that does not change
pub nothing_told : (w : World) (nodes dests text : List ℕ) → text ≡ text ++ sent_text w w ++ hops_text nodes dests w w
nothing_told w nodes dests text =
    sym (append-nil text) ∙ ap (λ (xs : List ℕ). text ++ xs) (sym (none_sent w)) ∙ sym (append-nil (text ++ sent_text w w))
    ∙ ap (λ (xs : List ℕ). text ++ sent_text w w ++ xs) (sym (no_hops w w (record { seats = refl; topology = refl }) nodes dests))

-- the lines of the datagrams and then those of the next hops, appended to a text
pub told_in_order : (w v : World) (nodes dests old with_sent last : List ℕ) (routes : List Route)
    → with_sent ≡ old ++ sent_text w v → routes ≡ routes_of w nodes dests → last ≡ with_sent ++ flat_map (hop_line v) routes → last ≡ old ++ sent_text w v ++ hops_text nodes dests w v
told_in_order w v nodes dests old with_sent last routes sent looked hops =
    let told_hops : flat_map (hop_line v) routes ≡ hops_text nodes dests w v = ap (λ (rs : List Route). flat_map (hop_line v) rs) looked in
    hops ∙ ap₂ (λ (xs ys : List ℕ). xs ++ ys) sent told_hops

-- ---- a tick

tick_sends : (w : World) → (world_after w Tick).datagrams ≡ w.datagrams
unfolding world_by effect_by
tick_sends w = refl

routes_stay_at : (w v : World) → SameCores w v → (dests : List ℕ) (n : ℕ) → routes_at v dests n ≡ routes_at w dests n
routes_stay_at w v h [] n = refl
routes_stay_at w v h (d ∷ dests) n =
    let hop : hop_at v n d ≡ hop_at w n d = rw (h.topology, h.seats) refl in
    let route : Route = record { node = n; destination = d; hop = hop_at w n d } in
    ap₂ (λ (r : Route) (routes : List Route). r ∷ routes) (rw hop refl) (routes_stay_at w v h dests n)

routes_stay : (w v : World) → SameCores w v → (nodes dests : List ℕ) → routes_of v nodes dests ≡ routes_of w nodes dests
routes_stay w v h [] dests = refl
routes_stay w v h (n ∷ nodes) dests = ap₂ (λ (xs ys : List Route). xs ++ ys) (routes_stay_at w v h dests n) (routes_stay w v h nodes dests)

-- ---- a step

-- a step is its tick, followed by the rest of its events
step_is : (nodes : List ℕ) (ends silent : List (ℕ × ℕ)) (w : World)
    → world_after_all w (step nodes ends silent w) ≡ world_after_all (world_after w Tick) (plan_then (each_end_once turn.Open ends) (step_passes MOST_PASSES nodes ends silent) (world_after w Tick))
unfolding step repeats
step_is nodes ends silent w = refl

-- the events of a step are its tick and the rest
step_has : (nodes : List ℕ) (ends silent : List (ℕ × ℕ)) (w : World) → step nodes ends silent w ≡ Tick ∷ plan_then (each_end_once turn.Open ends) (step_passes MOST_PASSES nodes ends silent) (world_after w Tick)
unfolding step repeats
step_has nodes ends silent w = refl

-- the record of a step, put together from a text of its own
put_together : (r : Record) (tick rest : List ℕ) → with_text r (with_record (with_record (cleared r) tick) rest) ≡ with_record r (tick ++ rest)
put_together None tick rest = refl
put_together (Some text) tick rest = refl

module _ (s : RunningView) (o : StateView) where
  abbrev ticked : World
  ticked = world_after s.world Tick

  -- the world after the events that follow the tick
  abbrev after : World → World
  after w = world_after_all w (plan_then (each_end_once turn.Open s.ends) (step_passes MOST_PASSES s.nodes s.ends o.silent) w)

  -- the lines for what changed between two worlds
  abbrev told_of : World → World → List ℕ
  told_of w v = sent_text w v ++ hops_text s.nodes s.dests w v

  -- the lines for what changed after the tick are those for the whole step
  told_behind : (v : World) → told_of ticked v ≡ told_of s.world v
  told_behind v =
      let same = event_stays s.world Tick refl in
      let sent : sent_text ticked v ≡ sent_text s.world v =
      ap (λ (datagrams : List FrameParts). sent_from v (length datagrams) (length v.datagrams - length datagrams)) (tick_sends s.world) in
      let hops : hops_text s.nodes s.dests ticked v ≡ hops_text s.nodes s.dests s.world v =
      ap (λ (routes : List Route). flat_map (hop_line v) routes) (routes_stay s.world ticked (record { seats = same.seats; topology = same.topology }) s.nodes s.dests) in
      ap₂ (λ (xs ys : List ℕ). xs ++ ys) sent hops

  answered : (v : World) (text last : List ℕ) → v ≡ after ticked → text ≡ told_of ticked v → last ≡ text ++ closing false
      → option_map (told s) (outcome_of s o Step) ≡ Some (record s { world = v }, o, last)
  unfolding outcome_of
  answered v text last is tells closed =
      let stepped : after_step s o ≡ v = step_is s.nodes s.ends o.silent s.world ∙ sym is in
      let all_told : told_of s.world v ++ closing false ≡ last = ap (λ (x : List ℕ). x ++ closing false) (sym (tells ∙ told_behind v)) ∙ sym closed in
      ap (λ (x : World). Some (told s (shown (record s { world = x }) o []))) stepped
      ∙ ap (λ (x : List ℕ). Some (record s { world = v }, o, x)) all_told

  -- the parts of the answer to a step, in their order, are the answer
  pub step_answered : (u : World) (r : RunningView) (text last : List ℕ) → u ≡ ticked → r ≡ record s { world = after u } → text ≡ told_of u r.world → last ≡ text ++ closing false
      → option_map (told s) (outcome_of s o Step) ≡ Some (r, o, last)
  step_answered u r text last tick is tells closed =
      let world : r.world ≡ after u = ap (λ (q : RunningView). q.world) is in
      let run : record s { world = r.world } ≡ r = ap (λ (w : World). record s { world = w }) world ∙ sym is in
      answered r.world text last (world ∙ ap after tick) (tells ∙ ap (λ (w : World). told_of w r.world) tick) closed
      ∙ ap (λ (q : RunningView). Some (q, o, last)) run

  -- the lines of the tick and of the events after it are the record
  pub step_told : (u : World) (r kept began ticks all : Record) → u ≡ ticked → began ≡ cleared r → ticks ≡ with_record began (event_line Tick)
      → all ≡ with_record ticks (events_text (plan_then (each_end_once turn.Open s.ends) (step_passes MOST_PASSES s.nodes s.ends o.silent) u)) → kept ≡ with_text r all → kept ≡ step_recorded r s o Step
  step_told u r kept began ticks all tick begins first rest puts =
      let behind : World → List ℕ = λ (w : World). events_text (plan_then (each_end_once turn.Open s.ends) (step_passes MOST_PASSES s.nodes s.ends o.silent) w) in
      let whole : all ≡ with_record (with_record (cleared r) (event_line Tick)) (behind ticked) =
      rest ∙ ap₂ (λ (x : Record) (w : World). with_record x (behind w)) (first ∙ ap (λ (x : Record). with_record x (event_line Tick)) begins) tick in
      puts ∙ ap (with_text r) whole ∙ put_together r (event_line Tick) (behind ticked)
      ∙ ap (λ (events : List Event). with_record r (events_text events)) (sym (step_has s.nodes s.ends o.silent s.world))

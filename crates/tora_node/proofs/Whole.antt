-- What all threads of a node did, from the result of each.
use Rattle.std.proofs.Common.{◌≡◌, ◌∙◌, sym, ap, subst, refl, ℕ, IfOk, IfErr, List, [], ◌∷◌, ◌++◌, length, map, arith, Option, None, Some, Result, Ok, Err, inl, inr, ⊎_elim}
use Rattle.std.specs.Prelude.{slice_get}
use Rattle.tora_core.specs.CoreRun.{CoreView}
use Rattle.tora_core.specs.Numbers.{IsAscending}
use Rattle.tora_lane.specs.LaneRule.{items_of}
use Rattle.tora_lane.specs.NodeLanes.{AreLanes}
use Rattle.tora_lane.specs.Offering.{OffersAreSent, sent_at, sent_by}
use Rattle.tora_lane.specs.Out.{SendEnd, ReceiveEnd, Ring}
use Rattle.tora_lane.specs.Ports.{InEnd, CoreEnd, new_port}
use Rattle.tora_life.specs.declared.disk.Disk as Disk
use Rattle.tora_life.specs.declared.numbers.LifeError.{LifeError}
use Rattle.tora_neighbour.specs.Puts.{put_in}
use Rattle.tora_neighbour.specs.Traffic.{cargoes_taken, entries_put}
use Rattle.tora_node.specs.declared.fault.NodeError.{NodeError}
use Rattle.tora_node.specs.declared.fault.NodeError.TheVariants as Fault
use Rattle.tora_neighbour.specs.declared.lane_hub.LaneHub.{LaneHub}
use Rattle.tora_neighbour.specs.declared.wire.Wire as Wire
use Rattle.tora_neighbour.specs.declared.wire.WireError.{WireError}
use Rattle.tora_seat.specs.Rows.{first_seat}
use Rattle.tora_seat.specs.Serving.{put_to}
use Rattle.tora_seat.specs.declared.cargo.Cargo.{Cargo}
use Rattle.tora_seat.specs.declared.item.Item.{Item}
use Rattle.tora_node.specs.declared.commands.CommandsEnd.{CommandsEnd}
use Rattle.tora_node.specs.declared.core_task.CoreRest.{CoreRest}
use Rattle.tora_node.specs.declared.link_task.LinkRest.{LinkRest}
use Rattle.tora_node.specs.declared.link_task.Outcome.{Outcome}
use Rattle.tora_node.specs.declared.start.NewLink.{NewLink}
use Rattle.tora_node.specs.declared.start.Start.{Start}
use Rattle.tora_node.specs.CommandRuns.{Commands, CommandsFrom}
use Rattle.tora_node.specs.CoreRuns.{items_served, offers_made}
use Rattle.tora_node.specs.LinkRuns.{LinkName, AreFaultless, AreLinkRuns, IsCause, IsLinkRun, OpenedOn, link_made, wire_made, links_of, name_of}
use Rattle.tora_node.specs.NodeRuns.{EndedView, IsCoreRun, IsNodeFault, IsRunOf, IsServedCore, first_fault}
use Rattle.tora_node.specs.Settled.{AreSettled, SettlesTo}
use Rattle.tora_node.specs.Threads.{Each, LinkStart, LinkLeaves, CoreLeaves, HasEnds, IsSettled, hub_of, hub_started, link_to_start, outcome_of, started, clock_started}
use Rattle.tora_node.specs.WholeRuns.{CommandsRan, EndsWithFault, LinkRan, NodeRan}
use Rattle.tora_node.proofs.Faults.{ended_fault}
use Rattle.tora_node.proofs.Kept.{ring_of, rings_stay}
use Rattle.tora_node.proofs.Lists.{as_long, each_at, each_long, each_of, get_map, get_within, got_within, length_map, map_get, one_place, same_got}
use Rattle.tora_node.proofs.Runs.{faultless, no_fault}

-- a fact that holds for every result
pub always : (P : Type 0) → P → (result : Result EndedView NodeError) → IfOk result (λ _. P)
always P p (Ok ended) = p
always P p (Err e) = tt

runs_of : (links : List LinkName) (outcomes : List Outcome) → Each (λ link o. IsLinkRun link.me link.peer o.fault o.tally) links outcomes → AreLinkRuns links outcomes
runs_of [] [] h = tt
runs_of [] (o ∷ outcomes) h = absurd h
runs_of (link ∷ links) [] h = absurd h
runs_of (link ∷ links) (o ∷ outcomes) h = (h.0, runs_of links outcomes h.1)

module _ {D W C Wr : Type 0} {disk : Disk.Ghosts D} {wire : Wire.Ghosts W} (send : W → List ℕ → Result (Unit {0}) WireError → W → Type 0) (receive : W → Result (Option ℕ) WireError → List ℕ → W → Type 0) (tell : C → ℕ → C → Type 0)
    (opened : ℕ → ℕ → D → Result ℕ LifeError → Type 0) (first : CoreView) (wires : List W) (disks : List D) (clocks : List C) (clock : C) (port : CoreEnd) (command : InEnd) (hubs : List (InEnd × ReceiveEnd)) (outs : List SendEnd)
    (contents : Wr → Option (List ℕ)) (writer : Wr) (new : List (NewLink D W disk wire)) (starts : List (Start D W C disk wire)) (core : CoreRest Wr) (rests : List LinkRest) where
  -- the inputs and the results of the threads of a node
  pub record Left : Type 0 where
    pub lanes : AreLanes (length first.neighbours) port command hubs outs
    pub links_are : map link_made new ≡ links_of first
    pub wires_are : map wire_made new ≡ wires
    pub files_are : Each (OpenedOn opened) disks new
    pub starts_are : map started starts ≡ map link_to_start new
    pub hubs_are : map hub_started starts ≡ map hub_of hubs
    pub clocks_are : map clock_started starts ≡ clocks
    pub ran : Each (λ t rest. LinkLeaves send receive tell (link_made t.new) t.new.link.wire t.clock t.new.link.file.numbers.drawn t.hub rest) starts rests
    pub served : CoreLeaves contents (first_seat first) port outs writer core
    pub ascending : IsAscending first.neighbours

  module _ (h : Left) where
    made_long : length new ≡ length first.neighbours
    made_long = as_long link_made (name_of first.me) new first.neighbours h.links_are

    pub rests_long : length rests ≡ length first.neighbours
    rests_long = sym (each_long _ starts rests h.ran) ∙ as_long started link_to_start starts new h.starts_are ∙ made_long

    wires_long : length wires ≡ length first.neighbours
    wires_long = sym (ap length h.wires_are) ∙ length_map wire_made new ∙ made_long

    disks_long : length disks ≡ length first.neighbours
    disks_long = each_long _ disks new h.files_are ∙ made_long

    clocks_long : length clocks ≡ length first.neighbours
    clocks_long = sym (ap length h.clocks_are) ∙ length_map clock_started starts ∙ as_long started link_to_start starts new h.starts_are ∙ made_long

    outs_long : length core.outs.ends.items ≡ length first.neighbours
    outs_long =
        as_long ring_of ring_of core.outs.ends.items outs (rings_stay first.neighbours outs core.outs.ends.items (offers_made h.served.xs) h.served.offered) ∙ h.lanes.links_are.out_count

    -- the link at an index
    record AtPlace (k peer : ℕ) (w : W) (d : D) (s : C) (r : LinkRest) (out : SendEnd) : Type 0 where
      drawn : ℕ
      file : opened first.me peer d (Ok drawn)
      hub : LaneHub
      port_is : hub.port ≡ new_port port.lane k
      received : hub.outs.received ≡ []
      old : SendEnd
      old_at : slice_get outs k ≡ Some old
      sent : old.sent ≡ []
      ring : out.ring ≡ hub.outs.ring
      leaves : LinkLeaves send receive tell (name_of first.me peer) w s drawn hub r

    at_place : (k peer : ℕ) (w : W) (d : D) (s : C) (r : LinkRest) (out : SendEnd)
        → slice_get first.neighbours k ≡ Some peer → slice_get wires k ≡ Some w → slice_get disks k ≡ Some d → slice_get clocks k ≡ Some s → slice_get rests k ≡ Some r → slice_get core.outs.ends.items k ≡ Some out → AtPlace k peer w d s r out
    at_place k peer w d s r out at_peer at_wire at_disk at_clock at_rest at_out =
        let name : LinkName = name_of first.me peer in
        let l = map_get link_made new k name (ap (λ (xs : List LinkName). slice_get xs k) h.links_are ∙ get_map (name_of first.me) first.neighbours k peer at_peer) in
        let v = map_get wire_made new k w (ap (λ (xs : List W). slice_get xs k) h.wires_are ∙ at_wire) in
        let same : v.0 ≡ l.0 = same_got new k v.0 l.0 v.1 l.1 in
        let b = map_get started starts k (link_to_start l.0) (ap (λ (xs : List (LinkStart W)). slice_get xs k) h.starts_are ∙ get_map link_to_start new k l.0 l.1) in
        let t : Start D W C disk wire = b.0 in
        let begins : started t ≡ record { link = name; wire = w; drawn = l.0.link.file.numbers.drawn } =
        b.2 ∙ (λ i. record { link = l.2 i; wire = (ap wire_made (sym same) ∙ v.2) i; drawn = l.0.link.file.numbers.drawn }) in
        let q = map_get clock_started starts k s (ap (λ (xs : List C). slice_get xs k) h.clocks_are ∙ at_clock) in
        let reads : t.clock ≡ s = ap clock_started (same_got starts k t q.0 b.1 q.1) ∙ q.2 in
        let e = map_get hub_of hubs k t.hub (ap (λ (xs : List LaneHub). slice_get xs k) (sym h.hubs_are) ∙ get_map hub_started starts k t b.1) in
        let p = h.lanes.links_are.ports k e.0 e.1 in
        let o = get_within outs k (omega (arith, got_within first.neighbours k peer at_peer, h.lanes.links_are.out_count)) in
        let ends = h.lanes.links_are.ends k o.0 e.0 o.1 e.1 in
        let stay = rings_stay first.neighbours outs core.outs.ends.items (offers_made h.served.xs) h.served.offered in
        let rings : Some out.ring ≡ Some o.0.ring = sym (get_map ring_of core.outs.ends.items k out at_out) ∙ ap (λ (xs : List Ring). slice_get xs k) stay ∙ get_map ring_of outs k o.0 o.1 in
        let same_ring : out.ring ≡ o.0.ring = cc in
        record {
          drawn = l.0.link.file.numbers.drawn;
          file = subst (λ (x : LinkName). opened x.me x.peer d (Ok l.0.link.file.numbers.drawn)) l.2 (each_at _ disks new k d l.0 h.files_are at_disk l.1);
          hub = t.hub;
          port_is = ap (λ (x : LaneHub). x.port) (sym e.2) ∙ p.0;
          received = ap (λ (x : LaneHub). x.outs.received) (sym e.2) ∙ p.1;
          old = o.0;
          old_at = o.1;
          sent = ends.0;
          ring = same_ring ∙ ends.1 ∙ ap (λ (x : LaneHub). x.outs.ring) e.2;
          leaves = subst (λ (y : C). LinkLeaves send receive tell name w y l.0.link.file.numbers.drawn t.hub r) reads
              (subst (λ (x : LinkStart W). LinkLeaves send receive tell x.link x.wire t.clock x.drawn t.hub r) begins (each_at _ starts rests k t r h.ran b.1 at_rest));
        }

    -- ---- the conditions for settling the queues

    pub have_ends : Each (HasEnds core.port.lane) rests core.outs.ends.items
    have_ends = each_of _ rests core.outs.ends.items (rests_long ∙ sym outs_long) (λ k r out at_rest at_out.
        let less = got_within rests k r at_rest in
        let peer = get_within first.neighbours k (omega (arith, less, rests_long)) in
        let w = get_within wires k (omega (arith, less, rests_long, wires_long)) in
        let d = get_within disks k (omega (arith, less, rests_long, disks_long)) in
        let s = get_within clocks k (omega (arith, less, rests_long, clocks_long)) in
        let a = at_place k peer.0 w.0 d.0 s.0 r out peer.1 w.1 d.1 s.1 at_rest at_out in (
          a.leaves.port.0 ∙ ap (λ (p : InEnd). p.lane) a.port_is ∙ sym h.served.lane,
          a.ring ∙ sym a.leaves.ring,
        ))

    pub has_port : (after : InEnd) → after.lane ≡ command.lane → after.lane ≡ core.port.lane
    has_port after same = same ∙ ap (λ (p : InEnd). p.lane) h.lanes.command_is ∙ sym h.served.lane

    taken_is : core.port.taken ≡ items_served h.served.xs
    taken_is = h.served.taken ∙ ap (λ (p : CoreEnd). p.taken ++ items_served h.served.xs) h.lanes.core_is

    -- each link ran
    run_at : (k : ℕ) (link : LinkName) (o : Outcome) → slice_get (links_of first) k ≡ Some link → slice_get (map outcome_of rests) k ≡ Some o → IsLinkRun link.me link.peer o.fault o.tally
    run_at k link o at_link at_outcome =
        let peer = map_get (name_of first.me) first.neighbours k link at_link in
        let r = map_get outcome_of rests k o at_outcome in
        let less = got_within first.neighbours k peer.0 peer.1 in
        let w = get_within wires k (omega (arith, less, wires_long)) in
        let out = get_within core.outs.ends.items k (omega (arith, less, outs_long)) in
        let d = get_within disks k (omega (arith, less, disks_long)) in
        let s = get_within clocks k (omega (arith, less, clocks_long)) in
        let a = at_place k peer.0 w.0 d.0 s.0 r.0 out.0 peer.1 w.1 d.1 s.1 r.1 out.1 in
        subst (λ (x : LinkName × Outcome). IsLinkRun x.0.me x.0.peer x.1.fault x.1.tally) (λ i. (peer.2 i, r.2 i)) a.leaves.run

    pub link_runs : AreLinkRuns (links_of first) (map outcome_of rests)
    link_runs =
        runs_of (links_of first) (map outcome_of rests) (each_of _ (links_of first) (map outcome_of rests) (length_map (name_of first.me) first.neighbours ∙ sym rests_long ∙ sym (length_map outcome_of rests)) run_at)

    pub core_ran : IsCoreRun (first_seat first) core.seat core.fault
    core_ran = ((h.served.xs, _, core.port.gone, h.served.served, h.served.core_is, h.served.ends), h.served.neighbours, h.served.fault)

    -- ---- what each link did

    module _ (sents : OffersAreSent) (settled : Each (IsSettled core.port.taken) rests core.outs.ends.items) where
      of_rest : (k peer : ℕ) (w : W) (d : D) (q : C) (r : LinkRest)
          → slice_get first.neighbours k ≡ Some peer → slice_get wires k ≡ Some w → slice_get disks k ≡ Some d → slice_get clocks k ≡ Some q → slice_get rests k ≡ Some r
          → LinkRan send receive tell (opened first.me peer d) first.me h.served.xs k peer w q r.outcome
      of_rest k peer w d q r at_peer at_wire at_disk at_clock at_rest =
          let xs = h.served.xs in
          let ks = first.neighbours in
          let less = got_within ks k peer at_peer in
          let out = get_within core.outs.ends.items k (omega (arith, less, outs_long)) in
          let a = at_place k peer w d q r out.0 at_peer at_wire at_disk at_clock at_rest out.1 in
          let s = each_at _ rests core.outs.ends.items k r out.0 settled at_rest out.1 in
          let turns = a.leaves.run.turns ++ a.leaves.run.last ∷ [] in
          let seat : r.hub.port.seat ≡ k = a.leaves.port.1 ∙ ap (λ (p : InEnd). p.seat) a.port_is in
          let took : r.hub.outs.received ≡ cargoes_taken turns = a.leaves.takes ∙ ap (λ (l : List Cargo). l ++ cargoes_taken turns) a.received in
          record {
            exchanged = record {
              run = a.leaves.run;
              left = s.0;
              items =
                  ap (λ (l : List Item). map put_in (l ++ s.0)) (λ i. items_of (sym seat i) (sym taken_is i))
                  ∙ ap (map put_in) s.1
                  ∙ a.leaves.puts
                  ∙ ap (λ (p : InEnd). map put_in p.put ++ entries_put turns) a.port_is;
              waiting = s.2;
              cargoes =
                  let there = one_place ks k peer h.ascending at_peer in
                  let law = sents ks outs core.outs.ends.items (offers_made xs) h.served.offered (omega (arith, h.lanes.links_are.out_count)) in
                  let all : sent_at core.outs.ends.items k ≡ sent_at outs k ++ put_to peer (offers_made xs) =
                  subst (λ (n : ℕ). sent_at core.outs.ends.items n ≡ sent_at outs n ++ put_to peer (offers_made xs)) there (law.1 peer (omega (arith, less, there))) in
                  ap (λ (l : List Cargo). l ++ s.2) (sym took)
                  ∙ s.3
                  ∙ sym (ap sent_by out.1)
                  ∙ all
                  ∙ ap (λ (l : List Cargo). l ++ put_to peer (offers_made xs)) (ap sent_by a.old_at ∙ a.sent);
            };
            called = a.leaves.called;
            drawn = a.drawn;
            file = a.file;
            last_drawn = a.leaves.last_drawn;
            numbers = a.leaves.numbers;
          }

      pub link_ran : (k peer : ℕ) (w : W) (d : D) (q : C) (outcome : Outcome)
          → slice_get first.neighbours k ≡ Some peer → slice_get wires k ≡ Some w → slice_get disks k ≡ Some d → slice_get clocks k ≡ Some q → slice_get (map outcome_of rests) k ≡ Some outcome
          → LinkRan send receive tell (opened first.me peer d) first.me h.served.xs k peer w q outcome
      link_ran k peer w d q outcome at_peer at_wire at_disk at_clock at_outcome =
          let r = map_get outcome_of rests k outcome at_outcome in
          subst (λ (o : Outcome). LinkRan send receive tell (opened first.me peer d) first.me h.served.xs k peer w q o) r.2 (of_rest k peer w d q r.0 at_peer at_wire at_disk at_clock r.1)

    -- ---- the commands, and all threads together

    module _ (input : Option (List ℕ)) (after : InEnd) (end : CommandsEnd) (reads : CommandsFrom tell clock input command after end) where
      commands_ran : (left : List Item) → items_of after.seat core.port.taken ++ left ≡ after.put → CommandsRan tell clock input (length first.neighbours) core.port.taken
      commands_ran left settled =
          let commands : Commands tell input reads.0 (command, clock) (after, reads.1) end = reads.2 in
          let seat : after.seat ≡ length first.neighbours = commands.put.2.1 ∙ ap (λ (p : InEnd). p.seat) h.lanes.command_is in
          record {
            given = commands.given;
            rest = reads.0;
            put = commands.items;
            left = left;
            end = end;
            gone = after.gone;
            read = commands.read;
            clock_after = commands.last;
            ticks = commands.put.1;
            ends = commands.ends;
            items =
                ap (λ (n : ℕ). items_of n core.port.taken ++ left) (sym seat) ∙ settled ∙ commands.put.0
                ∙ ap (λ (p : InEnd). p.put ++ commands.items) h.lanes.command_is;
          }

      pub node_ran : (answer : Option NodeError) → OffersAreSent → AreSettled core rests after → first_fault core.fault core.seat.core.neighbours (map outcome_of rests) ≡ answer
          → NodeRan send receive tell opened first wires disks clocks clock input (contents writer) (contents core.writer) answer core.seat.core (map (λ o. o.tally) (map outcome_of rests)) core.port.taken core.port.gone
      node_ran answer sents settled first_is = record {
        xs = h.served.xs;
        after = _;
        fault = core.fault;
        outcomes = map outcome_of rests;
        taken_is = taken_is;
        served = h.served.served;
        core_is = h.served.core_is;
        ends = h.served.ends;
        written = h.served.written;
        count = length_map outcome_of rests ∙ rests_long;
        links = link_ran sents settled.0;
        commands = commands_ran settled.1 settled.2;
        answer_is = ap (λ (ks : List ℕ). first_fault core.fault ks (map outcome_of rests)) (sym h.served.neighbours) ∙ first_is;
        tallies_are = refl;
      }

      -- ---- the result of the node

      pub record Answers (sents : OffersAreSent) (result : Result EndedView NodeError) : Type 0 where
        pub core_is_run : IfOk result (λ ended. IsRunOf first ended.core)
        pub links_ran : IfOk result (λ ended. AreFaultless (links_of first) ended.tallies)
        pub fault_is_one : IfErr result (IsNodeFault first.neighbours)
        pub cause_is : IfErr result (IsCause first)
        pub ran_is : IfOk result (λ ended. (after : Wr) × (Some core.writer ≡ Some after)
            × NodeRan send receive tell opened first wires disks clocks clock input (contents writer) (contents after) None ended.core ended.tallies ended.taken ended.gone)
        pub failed_is : IfErr result (EndsWithFault send receive tell opened contents first wires disks clocks clock input writer (Some core.writer))

      first_is : (answer : Option NodeError) → first_fault core.fault core.seat.core.neighbours (map outcome_of rests) ≡ answer → first_fault core.fault first.neighbours (map outcome_of rests) ≡ answer
      first_is answer e = ap (λ (ks : List ℕ). first_fault core.fault ks (map outcome_of rests)) (sym h.served.neighbours) ∙ e

      abbrev Failed : NodeError → Type 0
      Failed e = AreSettled core rests after × (first_fault core.fault core.seat.core.neighbours (map outcome_of rests) ≡ Some e)

      of_memory : (sents : OffersAreSent) (e : NodeError) → e ≡ Fault.Memory → Answers sents (Err e)
      of_memory sents e is = subst (λ (x : NodeError). Answers sents (Err x)) (sym is) (record { core_is_run = tt; links_ran = tt; fault_is_one = tt; cause_is = inl tt; ran_is = tt; failed_is = inl (tt, inr refl) })

      of_fault : (sents : OffersAreSent) (e : NodeError) → Failed e → Answers sents (Err e)
      of_fault sents e f = record {
        core_is_run = tt;
        links_ran = tt;
        fault_is_one = ended_fault first.neighbours core.seat.core.neighbours (map outcome_of rests) core.fault e h.served.neighbours h.served.fault f.1;
        cause_is = inr (record { last = core.seat; fault = core.fault; outcomes = map outcome_of rests; core = core_ran; links = link_runs; first_is = first_is (Some e) f.1 });
        ran_is = tt;
        failed_is = inr (core.seat.core, map (λ o. o.tally) (map outcome_of rests), core.port.taken, core.port.gone, core.writer, refl, node_ran (Some e) sents f.0 f.1);
      }

      pub answers : (sents : OffersAreSent) (result : Result EndedView NodeError) → SettlesTo core rests after result → Answers sents result
      answers sents (Ok ended) s =
          let none = no_fault core.fault first.neighbours (map outcome_of rests) (first_is None s.1) in
          subst (λ (e : EndedView). Answers sents (Ok e)) (sym s.2) (record {
            core_is_run = subst (λ (f : Option NodeError). IsServedCore (first_seat first) f core.seat.core) none.0 core_ran.0;
            links_ran = faultless first.me first.neighbours (map outcome_of rests) link_runs none.1;
            fault_is_one = tt;
            cause_is = tt;
            ran_is = (core.writer, refl, node_ran None sents s.0 s.1);
            failed_is = tt;
          })
      answers sents (Err e) s = ⊎_elim (λ is. of_memory sents e is) (λ f. of_fault sents e f) s

-- Every run of parts is a schedule of the free world, which binds each end at least as often as the run.
use Rattle.std.proofs.Common.{◌≡◌, ℕ, ◌+◌, ◌≤◌, ◌&&◌, Bool, true, false, if◌then◌else◌, List, [], ◌∷◌, ◌++◌, refl, sym, ap, ◌∙◌, subst, arith}
use Rattle.std.specs.Prelude.{not}
use Rattle.tora_frame.specs.FrameParts.{FrameParts}
use Rattle.tora_arq.specs.declared.life.Life.{Life}
use Rattle.tora_arq.specs.declared.times.Times.{Times}
use Rattle.tora_world.specs.Topology.{Topology}
use Rattle.tora_world.specs.World.{World, first_world, owner_of}
use Rattle.tora_world.specs.FreeWorld.{Schedule, free_by, after_schedule}
use Rattle.tora_world.specs.Law as world
use Rattle.tora_world.specs.Law.{is_bound_to}
use Rattle.tora_running.specs.Network.{Network, Part, first_network, after_part, after_parts, MayBe, IsRun}
use Rattle.tora_running.specs.Network.Part.{Starts, OfLink, Serves, Asks}
use Rattle.tora_running.specs.Laws.{IsWorldOf, IsOfWorld, times_bound, BindsOnce}
use Rattle.tora_running.proofs.LifeFiles.{FileLaws, new_opens}
use Rattle.tora_running.proofs.PartEvents.{network_of, IsBeside, Reaches, schedule-append, start_leads, serve_leads, ask_leads}
use Rattle.tora_running.proofs.LinkPartEvents.{FrameLaws, link_leads}

-- ---- how often a schedule binds an end

-- 1 if the end is bound now and was not before, and otherwise 0
abbrev turned : Bool → Bool → ℕ
turned now before = if now && not before then 1 else 0

turned_between : (a b c : Bool) → turned c a ≤ turned b a + turned c b
turned_between true true true = omega arith
turned_between true true false = omega arith
turned_between true false true = omega arith
turned_between true false false = omega arith
turned_between false true true = omega arith
turned_between false true false = omega arith
turned_between false false true = omega arith
turned_between false false false = omega arith

turned_same : (a : Bool) → turned a a ≤ 0
turned_same true = omega arith
turned_same false = omega arith

module _ (n k : ℕ) (life : Life) where
  abbrev is_bound : World → Bool
  is_bound w = is_bound_to life (w.ends n k).phase

  schedule_binds : (es : Schedule) (w : World) → turned (is_bound (after_schedule es w)) (is_bound w) ≤ world.times_bound n k life es w
  unfolding after_schedule
  schedule_binds [] w = turned_same (is_bound w)
  schedule_binds (e ∷ es) w =
      let w' : World = free_by e.1 w e.0 in
      let later : turned (is_bound (after_schedule es w')) (is_bound w') ≤ world.times_bound n k life es w' = schedule_binds es w' in
      let between : turned (is_bound (after_schedule es w')) (is_bound w) ≤ turned (is_bound w') (is_bound w) + turned (is_bound (after_schedule es w')) (is_bound w') = turned_between (is_bound w) (is_bound w') (is_bound (after_schedule es w')) in
      omega (arith, later, between)

  times-append : (es fs : Schedule) (w : World) → world.times_bound n k life (es ++ fs) w ≡ world.times_bound n k life es w + world.times_bound n k life fs (after_schedule es w)
  unfolding after_schedule
  times-append [] fs w = omega arith
  times-append (e ∷ es) fs w = let later = times-append es fs (free_by e.1 w e.0) in omega (arith, later)

-- ---- runs

module _ (files : FileLaws) (law : FrameLaws) where
  part_leads : (w : World) (numbers : ℕ → ℕ → ℕ) (frames : ℕ → ℕ → List FrameParts) → IsBeside w numbers frames → (part : Part) → MayBe (network_of w numbers frames) part → Reaches w (after_part (network_of w numbers frames) part)
  part_leads w numbers frames b (Starts n) may = start_leads w numbers frames b n may
  part_leads w numbers frames b (OfLink n k part) may = link_leads w numbers frames b n k may.0 files law part may.1 may.2
  part_leads w numbers frames b (Serves n item offers) may = serve_leads w numbers frames b n item offers may.0 may.1
  part_leads w numbers frames b (Asks n now what) may = ask_leads w numbers frames b n now what may.1

  -- a schedule for the whole run, which binds no end less often
  record RunLeads (parts : List Part) (w : World) (network : Network) : Type 0 where
    reaches : Reaches w (after_parts parts network)
    binds : (n k : ℕ) (life : Life) → times_bound n k life parts network ≤ world.times_bound n k life reaches.es w

  run_leads : (parts : List Part) (w : World) (numbers : ℕ → ℕ → ℕ) (frames : ℕ → ℕ → List FrameParts) → IsBeside w numbers frames → IsRun (network_of w numbers frames) parts → RunLeads parts w (network_of w numbers frames)
  unfolding after_schedule
  run_leads [] w numbers frames b run = record { reaches = record { es = []; numbers = numbers; frames = frames; shows = refl; other = b }; binds = λ n k life. omega arith }
  run_leads (part ∷ parts) w numbers frames b run =
      let x = part_leads w numbers frames b part run.0 in
      let w' : World = after_schedule x.es w in
      let rest : IsRun (network_of w' x.numbers x.frames) parts = subst (λ network. IsRun network parts) x.shows run.1 in
      let y = run_leads parts w' x.numbers x.frames x.other rest in
      let z = y.reaches in
      record {
        reaches = record {
          es = x.es ++ z.es;
          numbers = z.numbers;
          frames = z.frames;
          shows = ap (λ network. after_parts parts network) x.shows ∙ z.shows ∙ ap (λ v. network_of v z.numbers z.frames) (sym (schedule-append x.es z.es w));
          other = subst (λ v. IsBeside v z.numbers z.frames) (sym (schedule-append x.es z.es w)) z.other;
        };
        binds = λ n k life.
            let one : turned (is_bound_to life ((after_part (network_of w numbers frames) part).ends n k).phase) (is_bound_to life (w.ends n k).phase) ≤ world.times_bound n k life x.es w =
            subst (λ (network : Network). turned (is_bound_to life (network.ends n k).phase) (is_bound_to life (w.ends n k).phase) ≤ world.times_bound n k life x.es w) (sym x.shows) (schedule_binds n k life x.es w) in
            let others : times_bound n k life parts (after_part (network_of w numbers frames) part) ≤ world.times_bound n k life z.es w' =
            subst (λ network. times_bound n k life parts network ≤ world.times_bound n k life z.es w') (sym x.shows) (y.binds n k life) in
            let sum : world.times_bound n k life (x.es ++ z.es) w ≡ world.times_bound n k life x.es w + world.times_bound n k life z.es w' = times-append n k life x.es z.es w in
            omega (arith, one, others, sum);
      }

  world_of : (w : World) (network : Network) (numbers : ℕ → ℕ → ℕ) (frames : ℕ → ℕ → List FrameParts) → network ≡ network_of w numbers frames → IsBeside w numbers frames → IsWorldOf network w
  world_of w network numbers frames e b =
      subst (λ x. IsWorldOf x w) (sym e)
      (record { topology = refl; times = refl; seats = refl; ends = refl; items = refl; counts = refl; cargoes = refl; put = refl; inputs = refl; steps = refl; datagrams = λ n k f i. (b.went_out n k f i).among })

  first_leads : (t : Topology) (times : Times) (parts : List Part) → IsRun (first_network t times) parts → RunLeads parts (first_world t times) (first_network t times)
  first_leads t times parts run =
      run_leads parts (first_world t times) (λ n k. 0) (λ n k. []) (record { unarmed = λ n. record { sending = refl; receive = refl }; under = λ n k. new_opens (owner_of n k); went_out = λ n k f i. absurd i }) run

  pub is_of_world : (t : Topology) (times : Times) (parts : List Part) → IsRun (first_network t times) parts → IsOfWorld t times (after_parts parts (first_network t times))
  is_of_world t times parts run =
      let x = (first_leads t times parts run).reaches in
      (x.es, world_of (after_schedule x.es (first_world t times)) (after_parts parts (first_network t times)) x.numbers x.frames x.shows x.other)

  pub binds_once : world.EveryRun (λ first es w. world.BindsOnce first es) → BindsOnce
  binds_once law t times parts run n k life =
      let x = first_leads t times parts run in
      let once : world.times_bound n k life x.reaches.es (first_world t times) ≤ 1 = law t times x.reaches.es n k life in
      let less : times_bound n k life parts (first_network t times) ≤ world.times_bound n k life x.reaches.es (first_world t times) = x.binds n k life in omega (arith, once, less)

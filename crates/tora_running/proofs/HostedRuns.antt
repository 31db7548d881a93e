-- The calls of all routers are a run of parts, which leads to a network that agrees with the routers.
use Rattle.std.proofs.Common.{◌≡◌, ℕ, Bool, true, false, List, [], ◌∷◌, ◌++◌, nat_eq, if◌then◌else◌, refl, sym, ap, ◌∙◌, subst, eqb-true, arith}
use Rattle.tora_arq.specs.declared.times.Times.{Times}
use Rattle.tora_world.specs.Topology.{Topology, other_ends, is_node}
use Rattle.tora_running.specs.Network.{Network, Part, first_network, after_parts, IsRun}
use Rattle.tora_running.specs.Hosts.{RouterCall, Host, Hosts, HostedCall, first_hosts, host_after, after_call, after_calls, MayCall, IsHosted}
use Rattle.tora_running.specs.Hosts.RouterCall.{New, OnTick, OnDatagram, Need, Cut, PollDatagram, PollChange}
use Rattle.tora_running.specs.RouterLaws.{IsOfRouters, IsNetworkOf}
use Rattle.tora_running.proofs.Neighbours.{ascending_again}
use Rattle.tora_running.proofs.Nodes.{Node, node_of, IsNode, Reached, net, parts-append, run-append}
use Rattle.tora_running.proofs.Calls.{tick_comes, datagram_comes, cut_comes, need_comes, poll_comes, change_comes, new_ends, new_comes}

module _ (t : Topology) (times : Times) (routers : IsOfRouters t) where
  -- the network agrees with the hosts
  abbrev Shows : Hosts → Network → Type 0
  Shows hosts w = (n : ℕ) → IsNode t times n (hosts n).router (hosts n).history [] [] (node_of w n)

  abbrev Comes : ℕ → Host → Network → Type 0
  Comes n host w = Reached t times n host.router host.history [] [] w

  call_comes : (hosts : Hosts) (w : Network) (n : ℕ) (call : RouterCall) → is_node t n ≡ true → MayCall t times hosts n call → Shows hosts w → Comes n (host_after call (hosts n)) w
  call_comes hosts w n (New config neighbours destinations first_life) here may i =
      new_comes t times n (routers.apart n) here (routers.two n) _ config.times first_life (hosts n).router (hosts n).history w may.0 may.1 may.2 (i n)
  call_comes hosts w n (OnTick now) here may i = tick_comes t times n (routers.apart n) here now (hosts n).router (hosts n).history w (i n)
  call_comes hosts w n (OnDatagram k reading now) here may i =
      datagram_comes t times n (routers.apart n) here k now reading (hosts n).router (hosts n).history w ((hosts k).history.frames n) ((i k).frames n) may (i n)
  call_comes hosts w n (Need d now) here may i = need_comes t times n (routers.apart n) here d now (hosts n).router (hosts n).history w (i n)
  call_comes hosts w n (Cut k now) here may i = cut_comes t times n (routers.apart n) here k now (hosts n).router (hosts n).history w (i n)
  call_comes hosts w n (PollDatagram now) here may i = poll_comes t times n (routers.apart n) here now (hosts n).router (hosts n).history w (i n)
  call_comes hosts w n PollChange here may i = change_comes t times n (routers.apart n) here (hosts n).router (hosts n).history w (i n)

  shows_after : (hosts : Hosts) (w : Network) (c : HostedCall) → (a : Comes c.node (host_after c.call (hosts c.node)) w) → Shows hosts w → Shows (after_call hosts c) a.after
  shows_after hosts w c a i n = go (nat_eq n c.node) refl
    where
      host : Host
      host = host_after c.call (hosts c.node)

      goal : Host → Type 0
      goal x = IsNode t times n x.router x.history [] [] (node_of a.after n)

      go : (b : Bool) → nat_eq n c.node ≡ b → goal (if b then host else hosts n)
      go true q = subst (λ (m : ℕ). IsNode t times m host.router host.history [] [] (node_of a.after m)) (sym (eqb-true n c.node q)) a.node
      go false q = subst (λ (v : Node). IsNode t times n (hosts n).router (hosts n).history [] [] v) (sym (a.others n q)) (i n)

  -- a run of parts leads to this network
  pub record RunOf (hosts : Hosts) (w : Network) : Type 0 where
    pub after : Network
    pub parts : List Part
    pub run : IsRun (net t times w) parts
    pub left : after_parts parts (net t times w) ≡ net t times after
    pub shown : Shows hosts after

  pub calls_run : (calls : List HostedCall) (hosts : Hosts) (w : Network) → IsHosted t times hosts calls → Shows hosts w → RunOf (after_calls calls hosts) w
  calls_run [] hosts w h i = record { after = w; parts = []; run = tt; left = refl; shown = i }
  calls_run (c ∷ calls) hosts w h i =
      let a = call_comes hosts w c.node c.call h.0 h.1 i in
      let b = calls_run calls (after_call hosts c) a.after h.2 (shows_after hosts w c a i) in
      record {
        after = b.after;
        parts = a.parts ++ b.parts;
        run = run-append a.parts b.parts (net t times w) a.run (subst (λ x. IsRun x b.parts) (sym a.shows) b.run);
        left = parts-append a.parts b.parts (net t times w) ∙ ap (after_parts b.parts) a.shows ∙ b.left;
        shown = b.shown;
      }

  first_shows : Shows (first_hosts t times) (first_network t times)
  first_shows n = record {
    core = record { seat_is = refl; neighbours = ascending_again (other_ends n t.links); put_is = λ k. refl; inputs_is = refl; steps_is = λ k. refl };
    ends = new_ends t times n (routers.two n);
    items_are = refl;
    cargoes = λ k. refl;
    numbers = λ k. omega arith;
    frames = λ k. refl;
  }

  network_is : (hosts : Hosts) (w : Network) → Shows hosts w → IsNetworkOf t times hosts (net t times w)
  network_is hosts w i = record {
    topology = refl;
    times_are = refl;
    seats = λ n. (i n).core.seat_is;
    ends = λ n. (i n).ends;
    items = λ n. (i n).items_are;
    cargoes = λ n k. (i n).cargoes k;
    frames = λ n k. (i n).frames k;
    put = λ n k. (i n).core.put_is k;
    inputs = λ n. (i n).core.inputs_is;
    steps = λ n k. (i n).core.steps_is k;
  }

  pub hosted_run : (calls : List HostedCall) → IsHosted t times (first_hosts t times) calls
      → (parts : List Part) × IsRun (first_network t times) parts × IsNetworkOf t times (after_calls calls (first_hosts t times)) (after_parts parts (first_network t times))
  hosted_run calls h =
      let a = calls_run calls (first_hosts t times) (first_network t times) h first_shows in
      (a.parts, a.run, subst (IsNetworkOf t times (after_calls calls (first_hosts t times))) (sym a.left) (network_is (after_calls calls (first_hosts t times)) a.after a.shown))

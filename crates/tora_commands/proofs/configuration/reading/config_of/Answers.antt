use Rattle.std.proofs.Common.{◌≡◌, ◌∙◌, sym, refl, arith, None}
use Rattle.std.proofs.lemmas.List.Sorted.{All-permutation, length_permutation}
use Rattle.tora_core.specs.CoreRun.{core_refusal}
use Rattle.tora_commands.specs.NodeConfig.{IsLinkConfig, peers_of}
use Rattle.tora_commands.specs.ConfigReading.{configuration_in}
use Rattle.tora_commands.proofs.ConfigOrder.{refused_alike, ascending}
use Rattle.tora_commands.proofs.configuration.reading.config_of.Goals as goal

pub returns-clause-range : goal.returns-clause-range
returns-clause-range c =
    let accepted : core_refusal c.in_ok-node.node (peers_of c.in_ok-links.links.items) c.in_ok-dests.dests.items ≡ None = rw (← c.as_slice.ensures.value, ← c.as_slice-2.ensures.value) c.in_ok-check_core.ensures.accepted in
    let same = c.in_order.ensures.same in
    record {
      node = c.in_ok-node.ensures.above;
      dests = c.in_ok-dests.ensures.above;
      links = All-permutation IsLinkConfig c.in_ok-links.links.items c.in_order.result.items same c.in_ok-links.ensures.links;
      some_link = omega (arith, c.in_ok-links.ensures.some_link, length_permutation c.in_ok-links.links.items c.in_order.result.items same);
      ascending = ascending c.in_ok-node.node c.in_ok-links.links.items c.in_order.result.items c.in_ok-dests.dests.items accepted same c.in_order.ensures.rising;
      accepted = sym (refused_alike c.in_ok-node.node c.in_ok-links.links.items c.in_order.result.items c.in_ok-dests.dests.items same) ∙ accepted;
    }

pub returns-clause-exact : goal.returns-clause-exact
unfolding configuration_in
returns-clause-exact c =
    let accepted : core_refusal c.in_ok-node.node (peers_of c.in_ok-links.links.items) c.in_ok-dests.dests.items ≡ None = rw (← c.as_slice.ensures.value, ← c.as_slice-2.ensures.value) c.in_ok-check_core.ensures.accepted in (
      record { node = c.in_ok-node.node; dests = c.in_ok-dests.dests.items; life_dir = _; erasure = c.in_ok-erasure.erasure; links = c.in_ok-links.links.items },
      rw (c.in_ok-check_keys.ensures, c.in_ok-node.ensures.gives, c.in_ok-dests.ensures.gives, c.in_ok-life_dir.ensures.gives, c.in_ok-erasure.ensures, c.in_ok-links.ensures.gives, accepted),
      record { node = refl; dests = refl; life_dir = refl; erasure = refl; links = c.in_order.ensures.same },
    )

use Rattle.std.proofs.Common.{◌≡◌, ℕ, ◌∙◌, rules, tests}
use Rattle.std.specs.List.{list_any}
use Rattle.std.proofs.lemmas.Iterator.{YieldsList-from_slice}
use Rattle.std.proofs.lemmas.Iterator.Search.{any_from_yields_List}
use Rattle.tora_world.specs.Topology.{is_same_link}
use Rattle.tora_sim.specs.Topologies.{link_in}
use Rattle.tora_sim.proofs.Repeats.{link-any}
use Rattle.tora_sim.proofs.duplicates.has_link.Goals as goal

pub returns : goal.returns
returns c =
    let found : c.any.result ≡ list_any (λ (y : ℕ × ℕ). is_same_link (link_in c.args.x) (link_in y)) c.args.links.now =
    any_from_yields_List (λ (y : ℕ × ℕ). is_same_link (link_in c.args.x) (link_in y)) _ _ c.any.result c.any.ensures.ran (YieldsList-from_slice c.args.links.now cc) (λ x b q k. search (rules, tests)) in
    found ∙ link-any c.args.x c.args.links.now

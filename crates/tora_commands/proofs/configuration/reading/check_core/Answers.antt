use Rattle.std.proofs.Common.{◌<◌, ℕ, List, sym, ◌∙◌, subst}
use Rattle.std.specs.Prelude.{All}
use Rattle.std.proofs.lemmas.List.Elements.{All-map}
use Rattle.tora_commands.specs.declared.configuration.LinkConfig.{LinkConfig}
use Rattle.tora_commands.specs.NodeConfig.{IsLinkConfig}
use Rattle.tora_commands.proofs.configuration.reading.check_core.Goals as goal

-- no peer is 0
above : (links : List LinkConfig) → All IsLinkConfig links → All (λ (link : LinkConfig). 0 < link.peer) links
above links are k d below = (are k d below).peer

pub new-requires-clause-neighbours : goal.new-requires-clause-neighbours
new-requires-clause-neighbours c =
    subst (λ (ns : List ℕ). All (λ n. 0 < n) ns) (sym (c.as_slice.ensures.value ∙ c.in_ok-peers.ensures))
    (All-map (λ n. 0 < n) (λ (link : LinkConfig). link.peer) c.args.links.now (above c.args.links.now c.requires.links))

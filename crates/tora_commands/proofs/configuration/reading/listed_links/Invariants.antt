use Rattle.std.proofs.Common.{◌≡◌, map, take, [], All}
use Rattle.toml.specs.View.{view}
use Rattle.tora_commands.specs.NodeConfig.{IsLinkConfig, says_of_link, said_link}
use Rattle.tora_commands.specs.ConfigReading.{link_beside}
use Rattle.tora_commands.proofs.ConfigLoops.{rest_of}
use Rattle.tora_commands.proofs.configuration.reading.listed_links.Given as goal

abbrev pub invariant-loop-value : goal.invariant-loop-value
invariant-loop-value l = record {
  range : All IsLinkConfig l.links.items;
  exact : map (λ v. says_of_link (view v)) (take l.value-index l.values) ≡ map said_link l.links.items;
  gives : rest_of (link_beside l.node) l.links.items l.value-index l.values ≡ rest_of (link_beside l.node) [] 0 l.values;
}

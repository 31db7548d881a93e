use Rattle.std.proofs.Common.{ap, length, rules}
use Rattle.std.specs.Prelude.{string_bytes}
use Rattle.tora_commands.specs.Statuses.{IsUneven, status_of_fault}
use Rattle.tora_commands.proofs.NodeEnds.{by_config, by_count, by_endpoints, refused}
use Rattle.tora_commands.proofs.node_configuration.read.Goals as goal

pub returns-in-Err-config_of-clause-refused : goal.returns-in-Err-config_of-clause-refused
returns-in-Err-config_of-clause-refused g c =
    refused _ _ _ c.args.path.now (string_bytes c.in-Ok.text) c.as_str-said.result.now _ c.as_str-said.ensures.value c.in-Ok.ensures.read (by_config _ _ _ c.in-Err-config_of.ensures.refused)

pub returns-in-Err-endpoints_in-clause-refused : goal.returns-in-Err-endpoints_in-clause-refused
returns-in-Err-endpoints_in-clause-refused g c =
    refused _ _ _ c.args.path.now (string_bytes c.in-Ok.text) c.as_str-said.result.now _ c.as_str-said.ensures.value c.in-Ok.ensures.read (by_endpoints _ _ _ c.in-Err-endpoints_in.ensures.fault)

pub returns-then-len-clause-refused : goal.returns-then-len-clause-refused
returns-then-len-clause-refused g c =
    let uneven : IsUneven c.as_str-said.result.now c.in-Ok-config_of.config (status_of_fault c.say.result) = record {
      count = length c.in-Ok-endpoints_in.endpoints.items;
      endpoints = c.in-Ok-endpoints_in.ensures.endpoints;
      uneven = search rules;
      status_is = ap status_of_fault c.say.ensures;
    } in
    refused _ _ _ c.args.path.now (string_bytes c.in-Ok.text) c.as_str-said.result.now _ c.as_str-said.ensures.value c.in-Ok.ensures.read (by_count _ _ c.in-Ok-config_of.config _ c.in-Ok-config_of.ensures.says uneven)

use Rattle.std.proofs.Common.{◌∙◌}
use Rattle.tora_commands.proofs.ConfigTexts.{parsed}
use Rattle.tora_commands.proofs.configuration.addresses.address_of.Goals as goal

pub returns : goal.returns
returns c = c.ok.ensures.value ∙ parsed c.args.text.now c.parse.result c.parse.ensures.value

use Rattle.std.proofs.Common.{◌∙◌}
use Rattle.tora_core.proofs.Fitted.{fitted_height-in_range, reflected-in_range}
use Rattle.tora_core.proofs.levels.reflected.Goals as goal

pub returns : goal.returns
returns c = c.fitted.ensures ∙ fitted_height-in_range _ (reflected-in_range c.args.level c.args.me c.requires.level (c.requires.me, c.ranges.me.fits))

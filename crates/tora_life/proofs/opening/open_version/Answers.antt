use Rattle.std.proofs.Common.{sym, ◌∙◌, ap, Ok}
use Rattle.tora_life.proofs.Migrations.{tag_is, tagged_stays}
use Rattle.tora_life.proofs.opening.open_version.Goals as goal

pub returns-in-Tagged-clause-seen : goal.returns-in-Tagged-clause-seen
returns-in-Tagged-clause-seen g c = λ told. sym (c.requires.file told) ∙ sym (tagged_stays c.args.owner c.args.file.now (tag_is c.args.owner c.args.file.now (c.requires.version ∙ ap Ok c.in-Tagged.is)))

use Rattle.std.proofs.Common.{◌==◌, ◌∙◌, sym, ap}
use Rattle.std.specs.List.{position}
use Rattle.tora_script.proofs.CopyOwners.{owner_place}
use Rattle.tora_script.proofs.trace.trace.place.Goals as goal

pub returns : goal.returns
returns c = c.place.ensures ∙ ap (position (λ m. m == c.args.n)) (sym c.requires) ∙ owner_place c.args.n c.args.copies.now
